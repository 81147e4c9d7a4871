-- A list that was given more or fewer rows and columns where it stands, or scrolled.
use Rattle.std.proofs.Common.{◌≡◌, ℕ, zero, suc, ℤ, pos, Bool, true, false, List, [], ◌∷◌, get_or, Option, None, Some, refl, sym, ap, ◌∙◌, subst}
use Rattle.std.specs.Prelude.{IfSome, slice_get}
use Rattle.tb_geom.specs.Refusals.{first_refusal}
use Rattle.def_iface.specs.Slots.{TakenBox}
use Rattle.def_iface.specs.ListMeaning.{ListLoan}
use Rattle.def_iface.specs.WindowMeaning.{WindowLoan}
use Rattle.list_cells.specs.Grids.{Grid}
use Rattle.window_items.specs.declared.item.Item.{Item}
use Rattle.list_mgr.specs.declared.list_record.ListRecord.{ListRecord}
use Rattle.window_items.specs.Items.{edit_at}
use Rattle.desk_call.specs.declared.list.ListLines.{ListLines}
use Rattle.desk_call.specs.declared.list.ListOf.{ListOf}
use Rattle.window_mgr.specs.declared.manager.WindowManager.{WindowManager}
use Rattle.list_mgr.specs.declared.line_edit.LineAxis.{LineAxis}
use Rattle.list_mgr.specs.declared.line_edit.LineChange.{LineChange}
use Rattle.list_mgr.specs.declared.line_edit.LineChange.TheVariants.{Add, Delete}
use Rattle.list_mgr.specs.declared.line_edit.LineEdit.{LineEdit}
use Rattle.list_mgr.specs.declared.lists.Lists.{Lists}
use Rattle.list_mgr.specs.declared.spots.ListAt.{ListAt}
use Rattle.list_mgr.specs.Changing.{IsSameOrNot}
use Rattle.list_mgr.specs.LineEdits.{changed_by, edit_refusals, edited, refusals_of, scrolled_after, with_edit}
use Rattle.list_mgr.specs.ListDesks.{KeptList}
use Rattle.list_mgr.specs.ListSteps.{with_grid, with_scroll}
use Rattle.list_mgr.specs.Seen.{seen}
use Rattle.list_mgr.specs.Spots.{IsSpotOf}
use Rattle.list_mgr.specs.WholeLists.{records_of, IsSettledList}
use Rattle.list_mgr.proofs.Becoming.{IsSettledBut, settled_but}
use Rattle.list_mgr.proofs.Changed.{grid_keeps}
use Rattle.list_mgr.proofs.Edited.{Keeps}
use Rattle.list_mgr.proofs.Given as given
use Rattle.list_mgr.proofs.LinesChanged.{edit_fewer, edit_other, edit_wider, scroll_settles}
use Rattle.list_mgr.proofs.Relined.{IsChange}
use Rattle.window_items.proofs.EditLemmas.{edit_nothing}

-- two changes of the list at a place, one after the other
edit_twice : (f g : KeptList → KeptList) (i : ℕ) (xs : List KeptList) → edit_at f i (edit_at g i xs) ≡ edit_at (λ x. f (g x)) i xs
edit_twice f g i [] = refl
edit_twice f g zero (x ∷ xs) = refl
edit_twice f g (suc i) (x ∷ xs) = ap (λ ys. x ∷ ys) (edit_twice f g i xs)

-- a list that is scrolled back has the cells that it had
back_cells : (change : LineChange) (x : KeptList) → (scrolled_after change x).kept.cells ≡ x.kept.cells
back_cells Add x = refl
back_cells Delete x = refl

-- a list that is not scrolled stays as it is
pub stays_same : (o : Option KeptList) → IfSome o (λ x. IsSameOrNot false (scrolled_after Add x) x)
stays_same None = tt
stays_same (Some x) = refl

-- whether a list that was scrolled is scrolled otherwise
pub scroll_agrees : {X : Type 0} {L : X → Type 0} (list_loan : TakenBox X L → ListLoan) (m : Lists (TakenBox X L)) (s : ListAt) (columns rows : ℤ) (changes : Bool)
    → IfSome (slice_get (records_of list_loan m) s.list) (λ x. IsSameOrNot changes (with_scroll columns rows x) x)
    → (x : KeptList) → slice_get (records_of list_loan m) s.list ≡ Some x → IsSameOrNot changes (with_scroll columns rows x) x
scroll_agrees list_loan m s columns rows changes agree x there = subst (λ o. IfSome o (λ y. IsSameOrNot changes (with_scroll columns rows y) y)) there agree

module _ {V : Type 0} {H : V → Type 0} (loan : TakenBox V H → WindowLoan) {X : Type 0} {L : X → Type 0} (list_loan : TakenBox X L → ListLoan) where
  -- ---- scrolled

  -- the list that stands here was changed so, which keeps its place and its drawing, and leaves it settled once it is scrolled back
  record IsChangeBut (l : ListOf) (t : WindowManager V H) (m n : Lists (TakenBox X L)) (s : ListAt) (f : KeptList → KeptList) : Type 0 where
    pub is : IsSpotOf loan list_loan l t m s
    pub keeps : Keeps f
    pub draws : (x : KeptList) → (f x).kept.drawing ≡ x.kept.drawing
    pub edited : records_of list_loan n ≡ edit_at f s.list (records_of list_loan m)
    pub next : n.list.next ≡ m.list.next
    pub stays : (x : KeptList) → slice_get (records_of list_loan m) s.list ≡ Some x → IsSettledList x → IsSettledBut (f x)

  -- a changed list that was scrolled as well
  then_scrolled : (l : ListOf) (t : WindowManager V H) (m n k : Lists (TakenBox X L)) (s : ListAt) (f : KeptList → KeptList) (columns rows : ℤ) → IsChangeBut l t m n s f
      → records_of list_loan k ≡ edit_at (with_scroll columns rows) s.list (records_of list_loan n) → k.list.next ≡ n.list.next
      → IsChange loan list_loan l t m k s (λ x. with_scroll columns rows (f x))
  then_scrolled l t m n k s f columns rows change scrolled next = record {
    is = change.is;
    keeps = record {
      serial = change.keeps.serial;
      window = change.keeps.window;
      definition = change.keeps.definition;
      layer = λ x layer is. let its = change.keeps.layer x layer is in record { part = its.part; shown = its.shown; region = its.region; bounds = its.bounds };
    };
    draws = change.draws;
    edited = scrolled ∙ ap (edit_at (with_scroll columns rows) s.list) change.edited ∙ edit_twice (with_scroll columns rows) f s.list (records_of list_loan m);
    next = next ∙ change.next;
    stays = λ x there its. scroll_settles columns rows (f x) (change.stays x there its);
  }

  -- a list that was scrolled
  pub scroll_change : (l : ListOf) (t : WindowManager V H) (m n : Lists (TakenBox X L)) (s : ListAt) (columns rows : ℤ) → IsSpotOf loan list_loan l t m s
      → records_of list_loan n ≡ edit_at (with_scroll columns rows) s.list (records_of list_loan m) → n.list.next ≡ m.list.next → IsChange loan list_loan l t m n s (with_scroll columns rows)
  scroll_change l t m n s columns rows is =
      then_scrolled l t m m n s (λ x. x) columns rows (record {
        is = is;
        keeps = record { serial = λ x. refl; window = λ x. refl; definition = λ x. refl; layer = λ x layer its. its };
        draws = λ x. refl;
        edited = sym (edit_nothing (λ x. x) s.list (records_of list_loan m) (λ x there. refl));
        next = refl;
        stays = λ x there its. settled_but x its;
      })

  -- ---- given other cells

  module _ (l : ListOf) (t : WindowManager V H) (m : Lists (TakenBox X L)) (s : ListAt) (is : IsSpotOf loan list_loan l t m s)
      (x : Item (ListRecord (TakenBox X L))) (read : x ≡ get_or m.list.items.items s.list x) (cells : Grid) where
    abbrev n : Lists (TakenBox X L)
    n = given.with_cells_there loan list_loan l t m s is x read cells

    -- given other lines, and scrolled back where some were deleted
    by_change : (change : LineChange) (axis : LineAxis) (lines : ListLines) → first_refusal (refusals_of change axis lines x.kept.cells) ≡ None → cells ≡ changed_by change axis lines x.kept.cells
        → (k : Lists (TakenBox X L)) → records_of list_loan k ≡ edit_at (scrolled_after change) s.list (records_of list_loan n) → k.list.next ≡ n.list.next
        → IsChange loan list_loan l t m k s (λ y. scrolled_after change (with_grid (changed_by change axis lines) y))
    by_change Add axis lines none now k scrolled next =
        let g = changed_by Add axis lines in
        record {
          is = is;
          keeps = grid_keeps g;
          draws = λ y. refl;
          edited = scrolled ∙ edit_nothing (scrolled_after Add) s.list (records_of list_loan n) (λ y there. refl) ∙ given.edited loan list_loan l t m s is x read g cells now;
          next = next;
          stays = given.stays loan list_loan l t m s is x read g cells now (λ good. edit_wider axis lines x.kept.cells good none);
        }
    by_change Delete axis lines none now k scrolled next =
        let g = changed_by Delete axis lines in
        then_scrolled l t m n k s (with_grid g) (pos 0) (pos 0)
        (record {
          is = is;
          keeps = grid_keeps g;
          draws = λ y. refl;
          edited = given.edited loan list_loan l t m s is x read g cells now;
          next = refl;
          stays = given.stays_but loan list_loan l t m s is x read g (λ good. edit_fewer axis lines x.kept.cells good none);
        })
        scrolled next

    module _ (e : LineEdit) (none : first_refusal (edit_refusals e x.kept.cells) ≡ None) where
      pub edit_change : cells ≡ edited e x.kept.cells → (k : Lists (TakenBox X L)) → records_of list_loan k ≡ edit_at (scrolled_after e.change) s.list (records_of list_loan n) → k.list.next ≡ n.list.next
          → IsChange loan list_loan l t m k s (with_edit e)
      edit_change = by_change e.change e.axis e.lines none

      -- that is another list
      pub edit_differs : (y : KeptList) → slice_get (records_of list_loan m) s.list ≡ Some y → IsSameOrNot true (with_edit e y) y
      edit_differs =
          given.of_read loan list_loan l t m s is x read (λ y. with_edit e y ≡ y → ⊥)
          (λ same. edit_other e.change e.axis e.lines x.kept.cells none
          (sym (back_cells e.change (with_grid (edited e) (seen list_loan x))) ∙ ap (λ (y : KeptList). y.kept.cells) same))
