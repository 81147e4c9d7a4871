-- A list whose cells were given other data where it stands.
use Rattle.std.proofs.Common.{◌≡◌, Bool, get_or, Option, Some, refl, subst}
use Rattle.std.specs.Prelude.{slice_get}
use Rattle.std.specs.Vec.{with_item}
use Rattle.tb_geom.specs.declared.rect.Rect.{Rect}
use Rattle.tb_geom.specs.Pixels.{Pixels}
use Rattle.def_iface.specs.Slots.{TakenBox}
use Rattle.def_iface.specs.ListMeaning.{ListLoan}
use Rattle.def_iface.specs.WindowMeaning.{WindowLoan}
use Rattle.list_cells.specs.Grids.{Grid, IsGrid}
use Rattle.window_items.specs.declared.item.Item.{Item}
use Rattle.list_mgr.specs.declared.list_record.ListRecord.{ListRecord}
use Rattle.window_items.specs.Items.{edit_at}
use Rattle.list_mgr.specs.Seen.{seen}
use Rattle.desk_call.specs.declared.list.ListOf.{ListOf}
use Rattle.window_mgr.specs.declared.manager.WindowManager.{WindowManager}
use Rattle.list_mgr.specs.declared.lists.Lists.{Lists}
use Rattle.list_mgr.specs.declared.spots.ListAt.{ListAt}
use Rattle.list_mgr.specs.Changing.{IsMark, IsSameOrNot, IsShownOrMarked}
use Rattle.list_mgr.specs.ListDesks.{KeptList}
use Rattle.list_mgr.specs.ListSteps.{IsListChanged, with_grid}
use Rattle.list_mgr.specs.Spots.{IsSpot, IsSpotOf}
use Rattle.list_mgr.specs.WholeLists.{AreBeside, IsChangedOver, IsSettledList, records_of}
use Rattle.list_mgr.specs.Within.{IsSameOutside, IsWhereRight}
use Rattle.list_mgr.proofs.Becoming.{MayBecome, MayBecomeWider, IsSettledBut, grid_settles, grid_stays}
use Rattle.list_mgr.proofs.Changed.{beside_after, cells_kept, cells_written, changed_over, grid_keeps, grid_or_not, mark_after, same_item, spot_after}
use Rattle.list_mgr.proofs.Drawn.{settled_there}
use Rattle.list_mgr.proofs.Steps.{list_read}
use Rattle.list_mgr.specs.Fields.{with_cells}

module _ {V : Type 0} {H : V → Type 0} (loan : TakenBox V H → WindowLoan) {X : Type 0} {L : X → Type 0} (list_loan : TakenBox X L → ListLoan)
    (l : ListOf) (t : WindowManager V H) (m : Lists (TakenBox X L)) (s : ListAt) (is : IsSpotOf loan list_loan l t m s)
    (x : Item (ListRecord (TakenBox X L))) (read : x ≡ get_or m.list.items.items s.list x) where
  -- the lists, with these cells in the one that stands here
  abbrev pub with_cells_there : Grid → Lists (TakenBox X L)
  with_cells_there cells = record m { list = record m.list { items = with_item m.list.items s.list (with_cells cells x) } }

  x_there : slice_get (records_of list_loan m) s.list ≡ Some (seen list_loan x)
  x_there = list_read loan list_loan l t m s is x read

  -- what holds of the list that was read holds of the one that stands here
  pub of_read : (P : KeptList → Type 0) → P (seen list_loan x) → (y : KeptList) → slice_get (records_of list_loan m) s.list ≡ Some y → P y
  of_read P h y e = subst P (same_item (records_of list_loan m) s.list (seen list_loan x) y x_there e) h

  pub read_grid : AreBeside list_loan loan t m → IsGrid x.kept.cells
  read_grid beside = (settled_there list_loan m.list.items.items s.list x is.low read beside.whole.settled).grid

  -- cells that are as they were leave all lists as they were
  pub kept_there : (cells : Grid) → cells ≡ x.kept.cells → records_of list_loan (with_cells_there cells) ≡ records_of list_loan m
  kept_there cells same = cells_kept list_loan m.list.items.items s.list x cells read same

  module _ (g : Grid → Grid) (cells : Grid) (now : cells ≡ g x.kept.cells) where
    pub edited : records_of list_loan (with_cells_there cells) ≡ edit_at (with_grid g) s.list (records_of list_loan m)
    edited = cells_written list_loan g m.list.items.items s.list x cells read is.low x_there now

  -- fewer lines as well, until it is scrolled back
  pub stays_but : (g : Grid → Grid) → (IsGrid x.kept.cells → MayBecome x.kept.flags x.kept.cells (g x.kept.cells)) → (y : KeptList) → slice_get (records_of list_loan m) s.list ≡ Some y → IsSettledList y → IsSettledBut (with_grid g y)
  stays_but g good = of_read (λ y. IsSettledList y → IsSettledBut (with_grid g y)) (λ settled. grid_settles g (seen list_loan x) settled (good settled.grid))

  module _ (g : Grid → Grid) (cells : Grid) (now : cells ≡ g x.kept.cells) (good : IsGrid x.kept.cells → MayBecomeWider x.kept.flags x.kept.cells (g x.kept.cells)) where
    abbrev pub n : Lists (TakenBox X L)
    n = with_cells_there cells

    pub stays : (y : KeptList) → slice_get (records_of list_loan m) s.list ≡ Some y → IsSettledList y → IsSettledList (with_grid g y)
    stays = of_read (λ y. IsSettledList y → IsSettledList (with_grid g y)) (λ settled. grid_stays g (seen list_loan x) settled (good settled.grid))

    pub beside_so : AreBeside list_loan loan t m → AreBeside list_loan loan t n
    beside_so beside = beside_after loan list_loan l t m n s is (with_grid g) (grid_keeps g) (edited g cells now) refl stays beside

    pub spot_so : IsSpot loan list_loan t n s
    spot_so = spot_after loan list_loan l t m n s is (with_grid g) (grid_keeps g) (edited g cells now) refl stays

    pub mark_so : (mark : Option Pixels) → IsMark list_loan loan t m s mark → IsMark list_loan loan t n s mark
    mark_so mark marked = mark_after loan list_loan l t m n s is (with_grid g) (grid_keeps g) (edited g cells now) refl stays (λ y. refl) mark marked

    pub changed_so : (within : Rect) → (IsSettledList (seen list_loan x) → IsSameOutside within (seen list_loan x) (with_grid g (seen list_loan x))) → (mark : Option Pixels) (changes : Bool) → IsMark list_loan loan t m s mark → IsSameOrNot changes (g x.kept.cells) x.kept.cells
        → (u : WindowManager V H) → IsShownOrMarked list_loan loan within mark changes s n t u → IsChangedOver list_loan loan (IsWhereRight (IsListChanged l (with_grid g))) t m u n
    changed_so within outside mark changes marked agree u shown =
        changed_over loan list_loan l t m n s is (with_grid g) (grid_keeps g) (edited g cells now) refl stays within (of_read (λ y. IsSettledList y → IsSameOutside within y (with_grid g y)) outside) mark changes marked
        (of_read (λ y. IsSameOrNot changes (with_grid g y) y) (grid_or_not changes g (seen list_loan x) agree)) u shown
