-- A list of which a call changed the selection, as it had said, which was toggled or marked before.
use Rattle.std.proofs.Common.{◌≡◌, ℕ, ◌<◌, ◌≤◌, Bool, true, false, List, [], length, get_or, Option, Some, None, refl, sym, ap, ◌∙◌, subst, arith}
use Rattle.std.specs.Prelude.{slice_get}
use Rattle.std.proofs.lemmas.Bool.{true≢false}
use Rattle.std.proofs.lemmas.List.{ext_get_or}
use Rattle.tb_geom.specs.declared.rect.Rect.{Rect}
use Rattle.tb_geom.specs.Pixels.{Pixels}
use Rattle.tb_geom.specs.Rects.{empty_rect}
use Rattle.desk_layers.specs.declared.part.Part.TheVariants as part
use Rattle.def_iface.specs.Slots.{TakenBox}
use Rattle.def_iface.specs.ListMeaning.{ListLoan}
use Rattle.def_iface.specs.WindowMeaning.{WindowLoan}
use Rattle.def_iface.specs.WindowSlots.{WindowSlot}
use Rattle.list_cells.specs.declared.click.SelectionFlags.{SelectionFlags}
use Rattle.list_cells.specs.declared.selecting.Selecting.{Selecting}
use Rattle.list_cells.specs.Contents.{empty_content}
use Rattle.list_cells.specs.Grids.{Grid, IsGrid}
use Rattle.list_cells.specs.Selections.{IsChange, IsSelecting, selected_by}
use Rattle.list_cells.proofs.SelectionLemmas.{selected_grid, selecting_by}
use Rattle.list_view.specs.Shown.{is_turned}
use Rattle.window_items.specs.declared.item.Item.{Item}
use Rattle.list_mgr.specs.declared.list_record.ListRecord.{ListRecord}
use Rattle.list_mgr.specs.Seen.{seen}
use Rattle.desk_call.specs.declared.list.ListOf.{ListOf}
use Rattle.vis_update.specs.Records.{WindowRecord, record_of}
use Rattle.window_list.specs.declared.window.Window.{Window}
use Rattle.window_mgr.specs.declared.manager.WindowManager.{WindowManager}
use Rattle.window_mgr.specs.DeskStates.{Opened}
use Rattle.window_mgr.specs.Edits.{IsWindowAt}
use Rattle.window_mgr.specs.FullDesk.{FullDesk}
use Rattle.window_mgr.specs.Records.{desk_of, state_of, state_showing}
use Rattle.window_mgr.specs.Relayered.{IsLayerToggled}
use Rattle.window_mgr.proofs.Steps.{found}
use Rattle.control_mgr.specs.ControlDesks.{ControlsState, controls_show}
use Rattle.control_mgr.proofs.Places.{read_is, there_is}
use Rattle.list_mgr.specs.declared.lists.Lists.{Lists}
use Rattle.list_mgr.specs.declared.spots.ListAt.{ListAt}
use Rattle.list_mgr.specs.Changing.{IsMark, IsListMarkedBy, IsMarkedIf, IsSameOrNot, IsShownOrMarked, IsToggledOrMarked}
use Rattle.list_mgr.specs.ListDesks.{KeptList, ListDesk, ListSlot, lists_show}
use Rattle.list_mgr.specs.ListSteps.{IsListChanged, IsSeenOrNot, IsSelectionChanged, IsToggledOrNot, with_grid}
use Rattle.list_mgr.specs.Spots.{IsSpotOf}
use Rattle.list_mgr.specs.WholeLists.{IsChangedOver, count_selected, list_desk, lists_state, records_of, AreWholeLists}
use Rattle.list_mgr.proofs.Becoming.{MayBecomeWider}
use Rattle.list_mgr.proofs.Changed.{changed_as, changed_to, grid_keeps, grid_or_not, marked_over, same_item, whole_after}
use Rattle.list_mgr.proofs.Given.{edited, of_read, stays, with_cells_there}
use Rattle.list_mgr.proofs.Places.{found_names}
use Rattle.list_mgr.proofs.Steps.{list_named, list_read}
use Rattle.window_items.proofs.EditLemmas.{there_edited}
use Rattle.tb_geom.specs.Points.{PixelSet}
use Rattle.desk_layers.specs.declared.part.Part.{Part}

-- what a call makes of a selection is one list
pub one_after : (g a b : Grid) (s : Selecting) → IsSelecting g a s → IsSelecting g b s → a ≡ b
one_after g a b s h k =
    let contents : a.contents ≡ b.contents =
    ext_get_or empty_content a.contents b.contents (h.many ∙ sym k.many) (λ i low. let less : i < length g.contents = omega (arith, h.many) in h.each i less ∙ sym (k.each i less)) in
    λ i. record { columns = (h.columns ∙ sym k.columns) i; rows = (h.rows ∙ sym k.rows) i; contents = contents i }

-- and cells as they are to be
pub selecting_grid : (g a : Grid) (s : Selecting) → IsSelecting g a s → IsGrid g → IsGrid a
selecting_grid g a s h is =
    let same : a ≡ record g { contents = a.contents } = λ i. record { columns = h.columns i; rows = h.rows i; contents = a.contents } in
    subst IsGrid (sym same) (selected_grid g g.contents a.contents s is refl h.many h.each)

-- where with lOnlyOne no two are selected then
pub selecting_wider : (flags : SelectionFlags) (g a : Grid) (s : Selecting) → IsSelecting g a s → (flags.only_one ≡ true → count_selected g ≤ 1 → count_selected a ≤ 1) → IsGrid g → MayBecomeWider flags g a
selecting_wider flags g a s h single is = record {
  cells = record { grid = selecting_grid g a s h is; single = single };
  columns = let same = h.columns in omega (arith, same);
  rows = let same = h.rows in omega (arith, same);
}

-- a change that is not drawn
unseen : (b : Bool) (l : ListOf) (g : Grid → Grid) (x : KeptList) (before after : ListDesk) → b ≡ false → IsSeenOrNot b l (with_grid g) x before after → IsToggledOrNot b l g x before after
unseen true l g x before after off h = absurd (true≢false off)
unseen false l g x before after off h = h

module _ {V : Type 0} {H : V → Type 0} (loan : TakenBox V H → WindowLoan) {X : Type 0} {L : X → Type 0} (list_loan : TakenBox X L → ListLoan)
    (l : ListOf) (t : WindowManager V H) (m : Lists (TakenBox X L)) (s : ListAt) (is : IsSpotOf loan list_loan l t m s)
    (x : Item (ListRecord (TakenBox X L))) (read : x ≡ get_or m.list.items.items s.list x)
    (h : SelectionFlags → Grid → Grid) (cells : Grid) (now : cells ≡ h x.kept.flags x.kept.cells) (selecting : Selecting) (chosen : IsSelecting x.kept.cells (h x.kept.flags x.kept.cells) selecting)
    (single : x.kept.flags.only_one ≡ true → count_selected x.kept.cells ≤ 1 → count_selected (h x.kept.flags x.kept.cells) ≤ 1) where
  abbrev g : Grid → Grid
  g = h x.kept.flags

  abbrev n : Lists (TakenBox X L)
  n = with_cells_there loan list_loan l t m s is x read cells

  abbrev y : KeptList
  y = seen list_loan x

  y_there : slice_get (records_of list_loan m) s.list ≡ Some y
  y_there = list_read loan list_loan l t m s is x read

  good : IsGrid x.kept.cells → MayBecomeWider x.kept.flags x.kept.cells (g x.kept.cells)
  good is = selecting_wider x.kept.flags x.kept.cells (g x.kept.cells) selecting chosen single is

  said : selected_by selecting x.kept.cells ≡ g x.kept.cells
  said = one_after x.kept.cells (selected_by selecting x.kept.cells) (g x.kept.cells) selecting (selecting_by x.kept.cells selecting) chosen

  either : (changes : Bool) → IsChange changes x.kept.cells (selected_by selecting x.kept.cells) → IsSameOrNot changes (g x.kept.cells) x.kept.cells
  either true other = λ same. other (sym same ∙ sym said)
  either false same = sym said ∙ sym same

  -- no rectangle is drawn within where something is marked
  abbrev all : Rect
  all = empty_rect

  marked_or_not : (update : Pixels) (changes : Bool) (u : WindowManager V H) → IsMarkedIf list_loan loan changes y t u → IsShownOrMarked list_loan loan all (Some update) changes s n t u
  marked_or_not update true u marked = λ z z_there.
      subst (λ k. IsListMarkedBy list_loan loan k t u)
      (same_item (records_of list_loan n) s.list (with_grid g y) z
      (ap (λ ls. slice_get ls s.list) (edited loan list_loan l t m s is x read g cells now) ∙ there_edited (with_grid g) s.list (records_of list_loan m) y y_there) z_there) marked
  marked_or_not update false u same = same

  -- the selection of the list changed so
  pub selected_so : (mark : Option Pixels) → IsMark list_loan loan t m s mark → (u : WindowManager V H) → IsToggledOrMarked list_loan loan mark selecting s m t u
      → IsChangedOver list_loan loan (IsSelectionChanged l h) t m u n
  selected_so None (z, there, on) u toggled = λ others o slots cs kept whole lists.
      let was = controls_show (lists_show others (records_of list_loan m)) cs.controls in
      let after = controls_show (lists_show others (records_of list_loan n)) cs.controls in
      let place = there_is t.windows.records.items s.window is.window.0 in
      let w : Window V H = place.item in
      let lies : IsWindowAt t.windows.records.items s.window w = read_is t.windows.records.items s.window w place.there in
      let left = toggled y y_there w lies was after slots whole in
      let names = found_names l.window l.list s.list (records_of list_loan m) y is.list y_there in
      let windows : (desk_of loan u []).windows ≡ (desk_of loan t []).windows = ap (λ (d : FullDesk). d.windows) left.1.desk in
      let drawn : y.kept.drawing ≡ true = ap (λ (k : KeptList). k.kept.drawing) (same_item (records_of list_loan m) s.list y z y_there there) ∙ on in
      let turned = λ (cells : Grid) (font : List ℕ). is_turned font y.kept.definition.definition y.kept.view y.kept.cells cells in
      let its : IsLayerToggled l.window w.place (part.List l.list) (turned (g y.kept.cells)) (state_showing was (state_of loan t slots)) (state_showing after (state_of loan u slots)) =
      subst (λ cells. IsLayerToggled l.window w.place (part.List l.list) (turned cells) (state_showing was (state_of loan t slots)) (state_showing after (state_of loan u slots))) said
      (subst (λ k. IsLayerToggled k w.place (part.List l.list) (turned (selected_by selecting y.kept.cells)) (state_showing was (state_of loan t slots)) (state_showing after (state_of loan u slots))) names.0
      (subst (λ k. IsLayerToggled y.window w.place (part.List k) (turned (selected_by selecting y.kept.cells)) (state_showing was (state_of loan t slots)) (state_showing after (state_of loan u slots))) names.1 left.1)) in
      let kept_so = stays loan list_loan l t m s is x read g cells now good in
      let edit = edited loan list_loan l t m s is x read g cells now in (
        left.0,
        windows,
        subst (λ ws. AreWholeLists ws (lists_state list_loan n kept)) (sym windows)
            (whole_after loan list_loan l t m n s is (with_grid g) (grid_keeps g) edit refl kept_so (desk_of loan t []).windows kept lists),
        (
          y,
          list_named loan list_loan l t m s is y y_there,
          subst (λ b. IsToggledOrNot b l g y (list_desk list_loan loan t others o slots cs m kept) (list_desk list_loan loan u others o slots cs n kept)) (sym drawn)
              (record {
                changed = changed_to loan list_loan l t m n s is (with_grid g) (grid_keeps g) edit refl kept_so u others o slots cs kept;
                toggled = λ r r_is.
                    let both : Some (record_of loan w) ≡ Some r = sym (found loan t t slots whole s.window l.window w is.window.0 lies (is.window.1 w lies)) ∙ r_is in
                    let same : record_of loan w ≡ r = cc in
                    subst (λ (k : WindowRecord). IsLayerToggled l.window k.place (part.List l.list) (turned (g y.kept.cells)) (state_showing was (state_of loan t slots)) (state_showing after (state_of loan u slots))) same its;
                shows = refl;
              }),
        ),
      )
  selected_so (Some update) ((z, there, off), region) u toggled = by_change (toggled y y_there)
    where
      drawn : y.kept.drawing ≡ false
      drawn = ap (λ (k : KeptList). k.kept.drawing) (same_item (records_of list_loan m) s.list y z y_there there) ∙ off

      convert : (others : List ℕ → Part → PixelSet) (o : Opened) (slots : List WindowSlot) (cs : ControlsState) (kept : List ListSlot) → IsListChanged l (with_grid g) (list_desk list_loan loan t others o slots cs m kept) (list_desk list_loan loan u others o slots cs n kept)
          → IsSelectionChanged l h (list_desk list_loan loan t others o slots cs m kept) (list_desk list_loan loan u others o slots cs n kept)
      convert others o slots cs kept (k, named, changed) =
          let both : Some k ≡ Some y = sym named ∙ list_named loan list_loan l t m s is y y_there in
          let same : k ≡ y = cc in (
            y,
            list_named loan list_loan l t m s is y y_there,
            unseen y.kept.drawing l g y (list_desk list_loan loan t others o slots cs m kept) (list_desk list_loan loan u others o slots cs n kept) drawn
                (subst (λ k. IsSeenOrNot k.kept.drawing l (with_grid g) k (list_desk list_loan loan t others o slots cs m kept) (list_desk list_loan loan u others o slots cs n kept)) same changed),
          )

      by_change : (changes : Bool) × IsChange changes x.kept.cells (selected_by selecting x.kept.cells) × IsMarkedIf list_loan loan changes y t u → IsChangedOver list_loan loan (IsSelectionChanged l h) t m u n
      by_change (changes, change, marked) =
          changed_as loan list_loan t u m n (IsListChanged l (with_grid g)) (IsSelectionChanged l h) convert
          (marked_over loan list_loan l t m n s is (with_grid g) (grid_keeps g) (edited loan list_loan l t m s is x read g cells now) refl (stays loan list_loan l t m s is x read g cells now good)
          all update changes ((z, there, off), region)
          (of_read loan list_loan l t m s is x read (λ k. IsSameOrNot changes (with_grid g k) k) (grid_or_not changes g y (either changes change))) u (marked_or_not update changes u marked))
