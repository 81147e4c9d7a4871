-- What a call that changes a list changes of pixels is its change.
use Rattle.std.proofs.Common.{◌≡◌, ⊎_elim, ℕ, Bool, true, false, not, ◌==◌, ◌&&◌, ◌||◌, if◌then◌else◌, List, Option, None, Some, refl, sym, ap, ◌∙◌, subst}
use Rattle.std.proofs.Math.Bool.{beq}
use Rattle.std.specs.Prelude.{is_none, slice_get}
use Rattle.std.specs.Bool.{Decides}
use Rattle.std.specs.Cmp.{booleans_Decides}
use Rattle.std.specs.Option.{option_and_then, option_map_or}
use Rattle.std.specs.Ordering.{int_eq}
use Rattle.std.specs.Str.{bytes_eq}
use lib.Pointwise.{pointwise}
use Rattle.std.proofs.lemmas.Bool.{false≢true}
use Rattle.std.proofs.lemmas.Bool.Decides.{Decides-and, Decides-eqb, Decides-int_eq}
use Rattle.std.proofs.lemmas.Slice.Eq.{bytes_eq-Decides, slice_eq-Decides}
use Rattle.tb_geom.specs.declared.point.Point.{Point}
use Rattle.tb_geom.specs.Points.{minus}
use Rattle.desk_layers.specs.declared.part.Part.TheVariants as part
use Rattle.desk_layers.specs.Desk.{on_screen}
use Rattle.desk_layers.specs.Owner.{Owner, owner, same_owner}
use Rattle.desk_layers.specs.Owner.Owner.{Content as ContentOf}
use Rattle.desk_layers.specs.Change.{Change, IsChanged, no_change}
use Rattle.control_values.specs.Settings.{Setting}
use Rattle.list_cells.specs.Contents.{Content}
use Rattle.list_cells.specs.declared.cell.Cell.{Cell}
use Rattle.list_cells.specs.Grids.{Grid, content_of}
use Rattle.list_cells.specs.Selections.{is_toggled}
use Rattle.list_view.specs.Shown.{in_cell, is_turned}
use Rattle.list_view.specs.Views.{View, cell_at}
use Rattle.def_iface.specs.ListMeaning.{ListDefinition, no_list_news}
use Rattle.window_items.specs.Items.{edit_at}
use Rattle.window_items.proofs.EditLemmas.{All-there, there_edited}
use Rattle.window_items.proofs.WindowLemmas.{item_index-edit_at}
use Rattle.desk_call.specs.declared.control.ControlOf.{ControlOf}
use Rattle.desk_call.specs.declared.list.ListOf.{ListOf}
use Rattle.vis_update.specs.Records.{WindowRecord}
use Rattle.window_mgr.specs.Effects.{IsUnchanged}
use Rattle.window_mgr.specs.Finding.{record_with}
use Rattle.window_mgr.specs.FullDesk.{FullState, IsRightState, layered_desk, layered_state}
use Rattle.window_mgr.specs.Refused.{is_missing}
use Rattle.window_mgr.specs.Relayered.{toggled_change}
use Rattle.control_mgr.specs.ControlDesks as controls
use Rattle.control_mgr.specs.ControlSteps.{IsSettingPutAt}
use Rattle.list_mgr.specs.Fields.{with_cells}
use Rattle.list_mgr.specs.ListDesks.{IsListDeskUnchanged, KeptList, ListDesk, ListsState, index_of, list_of, with_controls}
use Rattle.list_mgr.specs.ListSteps.{AreBarsSet, IsBarSet, IsChangedTo, IsListChanged, IsRelined, IsSeenOrNot, IsSelectionChanged, IsToggledOrNot, IsUnseen}
use Rattle.list_mgr.proofs.Places.{found_names}
use Rattle.list_cells.specs.declared.click.SelectionFlags.{SelectionFlags}
use Rattle.desk_toolbox.specs.Reached.{AreContentsRight}
use Rattle.desk_toolbox.specs.ToolboxStates.{ToolboxState, with_lists}
use Rattle.desk_laws.specs.Changes.{cells_edited, cells_selected, is_bar, is_bar_of, is_list, lines_edited, list_edited, list_selected, of_named}
use Rattle.desk_laws.specs.SameLists.{is_as_it_was, same_cells, same_content, same_scroll}
use Rattle.desk_laws.proofs.JoinedChanges.{IsLeftBut, left_anew, left_through, left_wider, marked_then}
use Rattle.desk_laws.proofs.KeptValues.{HaveSameOwners}
use Rattle.desk_laws.proofs.ManagerChanges.{same_windows}
use Rattle.desk_laws.proofs.WindowChanges.{same_but_shows, unchanged_changes}

-- ---- whether a list is as it was

contents_decide : (a b : Content) → Decides (same_content a b) (a ≡ b)
contents_decide a b = let d = Decides-and (bytes_eq a.bytes b.bytes) (beq a.selected b.selected) (bytes_eq-Decides a.bytes b.bytes) (booleans_Decides a.selected b.selected) in (
  λ e. let is = d.0 e in λ i. record { bytes = is.0 i; selected = is.1 i },
  λ e. d.1 (ap (λ (x : Content). x.bytes) e, ap (λ (x : Content). x.selected) e),
)

cells_decide : (a b : Grid) → Decides (same_cells a b) (a ≡ b)
cells_decide a b =
    let all = slice_eq-Decides {E = same_content} contents_decide a.contents b.contents (pointwise same_content a.contents b.contents) refl in
    let d = Decides-and (a.columns == b.columns && a.rows == b.rows) (pointwise same_content a.contents b.contents) (Decides-and (a.columns == b.columns) (a.rows == b.rows) (Decides-eqb a.columns b.columns) (Decides-eqb a.rows b.rows)) all in (
      λ e. let is = d.0 e in λ i. record { columns = is.0.0 i; rows = is.0.1 i; contents = is.1 i },
      λ e. d.1 ((ap (λ (x : Grid). x.columns) e, ap (λ (x : Grid). x.rows) e), ap (λ (x : Grid). x.contents) e),
    )

scroll_decides : (a b : View) → Decides (same_scroll a b) (a.first ≡ b.first)
scroll_decides a b =
    let d = Decides-and (int_eq a.first.column b.first.column) (int_eq a.first.row b.first.row) (Decides-int_eq a.first.column b.first.column) (Decides-int_eq a.first.row b.first.row) in (
      λ e. let is = d.0 e in λ i. record { column = is.0 i; row = is.1 i },
      λ e. d.1 (ap (λ (x : Cell). x.column) e, ap (λ (x : Cell). x.row) e),
    )

-- the list with the cells and the scroll place of another
abbrev pub made_like : KeptList → KeptList → KeptList
made_like x y = record x { kept = record x.kept { cells = y.kept.cells; view = record x.kept.view { first = y.kept.view.first } } }

-- it is as it was just where these are
pub as_it_was : (x y : KeptList) → y ≡ made_like x y → Decides (is_as_it_was x y) (y ≡ x)
as_it_was x y made =
    let d = Decides-and (same_cells x.kept.cells y.kept.cells) (same_scroll x.kept.view y.kept.view) (cells_decide x.kept.cells y.kept.cells) (scroll_decides x.kept.view y.kept.view) in (
      λ e. let is = d.0 e in made ∙ (λ i. record x { kept = record x.kept { cells = sym is.0 i; view = record x.kept.view { first = sym is.1 i } } }),
      λ e. d.1 (ap (λ (l : KeptList). l.kept.cells) (sym e), ap (λ (l : KeptList). l.kept.view.first) (sym e)),
    )

-- ---- the list that is named

-- it is the changed one after the change
pub named_after : (l : ListOf) (f : KeptList → KeptList) → ((x : KeptList) → (f x).window ≡ x.window) → ((x : KeptList) → (f x).serial ≡ x.serial) → (x : KeptList) (before after : ListDesk) → list_of l before.lists.lists ≡ Some x
    → IsChangedTo l f before after → list_of l after.lists.lists ≡ Some (f x)
named_after l f window serial x before after named done =
    let there : slice_get before.lists.lists done.at ≡ Some x = sym (ap (option_and_then (slice_get before.lists.lists)) done.found) ∙ named in
    ap (λ (s : ListsState). list_of l s.lists) done.lists
    ∙ ap (option_and_then (slice_get (edit_at f done.at before.lists.lists))) (item_index-edit_at f window serial l.window l.list done.at before.lists.lists ∙ done.found)
    ∙ there_edited f done.at before.lists.lists x there

-- a change of a list that keeps what it is known by
pub record Edits (f : KeptList → KeptList) : Type 0 where
  pub window : (x : KeptList) → (f x).window ≡ x.window
  pub serial : (x : KeptList) → (f x).serial ≡ x.serial
  pub vertical : (x : KeptList) → (f x).kept.vertical ≡ x.kept.vertical
  pub horizontal : (x : KeptList) → (f x).kept.horizontal ≡ x.kept.horizontal
  pub made : (x : KeptList) → f x ≡ made_like x (f x)

abbrev Changes : Change → ListDesk → ListDesk → Type 0
Changes c before after = IsChanged c (layered_state before.desk.windows) (layered_state after.desk.windows)

abbrev no_owner : Owner → Bool
no_owner o = false

-- the list that is named was changed so, and these pixels with it
pub record IsEdited (l : ListOf) (f : KeptList → KeptList) (x : KeptList) (before after : ListDesk) : Type 0 where
  pub owners : HaveSameOwners (layered_desk before.desk.windows.desk) (layered_desk after.desk.windows.desk)
  pub changed : Changes (list_edited l no_owner x (f x)) before after
  pub named : list_of l after.lists.lists ≡ Some (f x)

unchanged_owners : (before after : ListDesk) → IsListDeskUnchanged before after → HaveSameOwners (layered_desk before.desk.windows.desk) (layered_desk after.desk.windows.desk)
unchanged_owners before after same = record {
  screen = λ p i. on_screen (layered_desk (sym same.desk.windows.desk i)) p;
  owners = λ p i. owner (layered_desk (sym same.desk.windows.desk i)) p;
}

module _ (l : ListOf) (f : KeptList → KeptList) (edits : Edits f) (x : KeptList) (before after : ListDesk) (right : IsRightState before.desk.windows) (named : list_of l before.lists.lists ≡ Some x) where
  -- its change, by whether its drawing is on, and whether it is as it was
  abbrev edited_by : Bool → Bool → Change
  edited_by drawing same = record no_change { added = λ o p. not drawing && (not same && is_list l o); redrawn = λ o. drawing && is_list l o }

  is_so : (drawing same : Bool) → x.kept.drawing ≡ drawing → is_as_it_was x (f x) ≡ same → Changes (edited_by drawing same) before after → Changes (list_edited l no_owner x (f x)) before after
  is_so drawing same on is changed = subst (λ (b : Bool × Bool). Changes (edited_by b.0 b.1) before after) (λ i. (sym on i, sym is i)) changed

  unseen_edited : x.kept.drawing ≡ false → IsUnseen l f x before after → IsEdited l f x before after
  unseen_edited off done = ⊎_elim
      (λ (still : (f x ≡ x) × IsListDeskUnchanged before after). record {
        owners = unchanged_owners before after still.1;
        changed = is_so false true off ((as_it_was x (f x) (edits.made x)).1 still.0) (unchanged_changes before.desk.windows after.desk.windows right still.1.desk.windows);
        named = ap (λ (s : ListsState). list_of l s.lists) still.1.lists ∙ named ∙ ap Some (sym still.0);
      })
      (λ other. record {
        owners = same_but_shows before.desk.windows.desk after.desk.windows.desk other.1.marked.desk;
        changed = is_so false false off (by_test (is_as_it_was x (f x)) refl other.0) other.1.marked.pixels;
        named = named_after l f edits.window edits.serial x before after named other.1.changed;
      })
      done
    where
      by_test : (b : Bool) → is_as_it_was x (f x) ≡ b → (f x ≡ x → ⊥) → is_as_it_was x (f x) ≡ false
      by_test true e differs = absurd (differs ((as_it_was x (f x) (edits.made x)).0 e))
      by_test false e differs = e

  seen_edited : (b : Bool) → x.kept.drawing ≡ b → IsSeenOrNot b l f x before after → IsEdited l f x before after
  seen_edited true on done = record {
    owners = same_but_shows before.desk.windows.desk after.desk.windows.desk done.redrawn.desk;
    changed = is_so true (is_as_it_was x (f x)) on refl done.redrawn.pixels;
    named = named_after l f edits.window edits.serial x before after named done.changed;
  }
  seen_edited false off done = unseen_edited off done

-- ---- what the change of a call is

-- the change of a call that names this list, as it was and as it is
of_named_is : (l : ListOf) (before after : ToolboxState) (change : KeptList → KeptList → Change) (x y : KeptList) → list_of l before.lists.lists ≡ Some x → list_of l after.lists.lists ≡ Some y → of_named l before after change ≡ change x y
of_named_is l before after change x y was is = λ i. option_map_or (λ w. option_map_or (λ v. change w v) (is i) no_change) (was i) no_change

pub cells_change : (l : ListOf) (f : KeptList → KeptList) → Edits f → (before after : ToolboxState) → IsRightState before.desk.windows → IsListChanged l f (with_lists before) (with_lists after)
    → IsChanged (cells_edited l before after) (layered_state before.desk.windows) (layered_state after.desk.windows)
cells_change l f edits before after right (x, named, done) =
    let its = seen_edited l f edits x (with_lists before) (with_lists after) right named x.kept.drawing refl done in
    subst (λ c. IsChanged c (layered_state before.desk.windows) (layered_state after.desk.windows)) (sym (of_named_is l before after (λ was is. list_edited l (λ o. false) was is) x (f x) named its.named)) its.changed

-- ---- scroll bars

-- nothing changed, whichever owners may be shown anew
pub unchanged_left : (these : Owner → Bool) (before after : FullState) → IsUnchanged before after → IsLeftBut these (layered_state before) (layered_state after)
unchanged_left these before after same = record {
  owners = record { screen = screen; owners = λ p i. owner (layered_desk (sym same.desk i)) p };
  stale = λ p on none. same.stale p (screen p ∙ on);
  image = λ p on n s. same.image p (screen p ∙ on);
}
  where
    screen : (p : Point) → on_screen (layered_desk before.desk) p ≡ on_screen (layered_desk after.desk) p
    screen p = λ i. on_screen (layered_desk (sym same.desk i)) p

-- nothing is changed but what the owners of this sort show
abbrev pub LeftBut : (Owner → Bool) → ListDesk → ListDesk → Type 0
LeftBut these before after = IsLeftBut these (layered_state before.desk.windows) (layered_state after.desk.windows)

put_left : (o : Option ℕ) (c : ControlOf) (setting : Setting) (before after : ListDesk) → IsSettingPutAt o c setting (with_controls before) (with_controls after) → LeftBut (λ q. same_owner q (ContentOf c.window (part.Control c.control))) before after
put_left None c setting before after same =
    unchanged_left (λ q. same_owner q (ContentOf c.window (part.Control c.control))) before.desk.windows after.desk.windows (same_windows before.desk.windows after.desk.windows same.windows)
put_left (Some at) c setting before after done =
    left_anew (λ q. same_owner q (ContentOf c.window (part.Control c.control))) (layered_state before.desk.windows) (layered_state after.desk.windows) (same_but_shows before.desk.windows.desk after.desk.windows.desk done.redrawn.desk) done.redrawn.pixels

bar_left : (window : ℕ) (o : Option ℕ) (setting : Setting) (before after : ListDesk) → IsBarSet window o setting before after → LeftBut (is_bar window o) before after
bar_left window None setting before after same = unchanged_left (is_bar window None) before.desk.windows after.desk.windows same.desk.windows
bar_left window (Some n) setting before after done =
    put_left (controls.index_of (record { window = window; control = n }) before.controls.controls) (record { window = window; control = n }) setting before after done.0

bar_keeps_lists : (window : ℕ) (o : Option ℕ) (setting : Setting) (before after : ListDesk) → IsBarSet window o setting before after → after.lists ≡ before.lists
bar_keeps_lists window None setting before after same = same.lists
bar_keeps_lists window (Some n) setting before after done = done.2.lists

neither : (a b : Bool) → (a || b) ≡ false → (a ≡ false) × (b ≡ false)
neither false false e = (refl, refl)
neither true b e = absurd (false≢true (sym e))
neither false true e = absurd (false≢true (sym e))

-- the bars of a list that was changed were set
module _ (l : ListOf) (f : KeptList → KeptList) (edits : Edits f) (x : KeptList) (mid after : ListDesk) (named : list_of l mid.lists.lists ≡ Some (f x)) (bars : AreBarsSet l mid after) where
  abbrev y : KeptList
  y = bars.0

  its : (f x ≡ y)
  its = one (f x) y named bars.1
    where
      one : (a b : KeptList) → list_of l mid.lists.lists ≡ Some a → list_of l mid.lists.lists ≡ Some b → a ≡ b
      one a b e g = cc

  bars_keep_lists : after.lists ≡ mid.lists
  bars_keep_lists = bar_keeps_lists l.window y.kept.horizontal _ bars.2.0 after bars.2.2 ∙ bar_keeps_lists l.window y.kept.vertical _ mid bars.2.0 bars.2.1

  of_its : LeftBut (is_bar_of l.window y) mid after
  of_its = left_through (is_bar_of l.window y) (layered_state mid.desk.windows) (layered_state bars.2.0.desk.windows) (layered_state after.desk.windows)
      (left_wider (is_bar l.window y.kept.vertical) (is_bar_of l.window y) (layered_state mid.desk.windows) (layered_state bars.2.0.desk.windows) (λ o e. (neither (is_bar l.window y.kept.vertical o) (is_bar l.window y.kept.horizontal o) e).0)
      (bar_left l.window y.kept.vertical _ mid bars.2.0 bars.2.1))
      (left_wider (is_bar l.window y.kept.horizontal) (is_bar_of l.window y) (layered_state bars.2.0.desk.windows) (layered_state after.desk.windows) (λ o e. (neither (is_bar l.window y.kept.vertical o) (is_bar l.window y.kept.horizontal o) e).1)
      (bar_left l.window y.kept.horizontal _ bars.2.0 after bars.2.2))

  bars_left : LeftBut (is_bar_of l.window x) mid after
  bars_left = subst (λ (b : Option ℕ × Option ℕ). LeftBut (λ o. is_bar l.window b.0 o || is_bar l.window b.1 o) mid after)
      (λ i. (((ap (λ (z : KeptList). z.kept.vertical) (sym its)) ∙ edits.vertical x) i, (ap (λ (z : KeptList). z.kept.horizontal) (sym its) ∙ edits.horizontal x) i)) of_its

pub lines_change : (l : ListOf) (f : KeptList → KeptList) → Edits f → (before after : ToolboxState) → IsRightState before.desk.windows → IsRightState after.desk.windows → IsRelined l f (with_lists before) (with_lists after)
    → IsChanged (lines_edited l before after) (layered_state before.desk.windows) (layered_state after.desk.windows)
lines_change l f edits before after right now (mid, (x, named, done), bars) =
    let its = seen_edited l f edits x (with_lists before) mid right named x.kept.drawing refl done in
    let less : (o : Owner) → (is_bar_of l.window x o || (x.kept.drawing && is_list l o)) ≡ false → (x.kept.drawing && is_list l o) ≡ false =
    λ o e. (neither (is_bar_of l.window x o) (x.kept.drawing && is_list l o) e).1 in
    let wide : (o : Owner) → (is_bar_of l.window x o || (x.kept.drawing && is_list l o)) ≡ false → is_bar_of l.window x o ≡ false =
    λ o e. (neither (is_bar_of l.window x o) (x.kept.drawing && is_list l o) e).0 in
    subst (λ c. IsChanged c (layered_state before.desk.windows) (layered_state after.desk.windows))
    (sym (of_named_is l before after (λ was is. list_edited l (is_bar_of l.window was) was is) x (f x) named (ap (λ (s : ListsState). list_of l s.lists) (bars_keep_lists l f edits x mid (with_lists after) its.named bars) ∙ its.named)))
    (marked_then (λ o p. not x.kept.drawing && (not (is_as_it_was x (f x)) && is_list l o)) (λ o. x.kept.drawing && is_list l o) (λ o. is_bar_of l.window x o || (x.kept.drawing && is_list l o))
    (layered_state before.desk.windows) (layered_state mid.desk.windows) (layered_state after.desk.windows) its.owners its.changed
    (left_wider (is_bar_of l.window x) (λ o. is_bar_of l.window x o || (x.kept.drawing && is_list l o)) (layered_state mid.desk.windows) (layered_state after.desk.windows) wide (bars_left l f edits x mid (with_lists after) its.named bars))
    less now.plain)

-- ---- selections

there_window : (o : Option WindowRecord) → is_none o ≡ false → (w : WindowRecord) × (o ≡ Some w)
there_window None e = absurd (false≢true (sym e))
there_window (Some w) e = (w, refl)

-- the window of a list that is named
window_of_list : (l : ListOf) (x : KeptList) (before : ToolboxState) → AreContentsRight before → list_of l before.lists.lists ≡ Some x → (w : WindowRecord) × (record_with l.window before.desk.windows.desk.windows ≡ Some w)
window_of_list l x before contents named = by_place (index_of l before.lists.lists) refl
  where
    by_place : (o : Option ℕ) → index_of l before.lists.lists ≡ o → (w : WindowRecord) × (record_with l.window before.desk.windows.desk.windows ≡ Some w)
    by_place None e = let none : list_of l before.lists.lists ≡ None = ap (option_and_then (slice_get before.lists.lists)) e in absurd (cc)
    by_place (Some at) e =
        let there : slice_get before.lists.lists at ≡ Some x = sym (ap (option_and_then (slice_get before.lists.lists)) e) ∙ named in
        let names = found_names l.window l.list at before.lists.lists x e there in
        there_window (record_with l.window before.desk.windows.desk.windows)
        (ap (λ n. is_missing n before.desk.windows.desk.windows) (sym names.0) ∙ All-there (λ (y : KeptList). is_missing y.window before.desk.windows.desk.windows ≡ false) at before.lists.lists x there contents.lists.somewhere)

module _ (l : ListOf) (x y : KeptList) (before after : ToolboxState) (named : list_of l before.lists.lists ≡ Some x) (is_now : list_of l after.lists.lists ≡ Some y)
    (w : WindowRecord) (found : record_with l.window before.desk.windows.desk.windows ≡ Some w) where
  abbrev font : List ℕ
  font = before.desk.windows.desk.font

  abbrev selected_by : Bool → Change
  selected_by drawing = if drawing
      then toggled_change l.window w.place (part.List l.list) (is_turned font x.kept.definition.definition x.kept.view x.kept.cells y.kept.cells)
      else list_edited l no_owner x y

  selected_is : (drawing : Bool) → x.kept.drawing ≡ drawing → IsChanged (selected_by drawing) (layered_state before.desk.windows) (layered_state after.desk.windows)
      → IsChanged (cells_selected l before after) (layered_state before.desk.windows) (layered_state after.desk.windows)
  selected_is drawing on changed = subst (λ c. IsChanged c (layered_state before.desk.windows) (layered_state after.desk.windows))
      (ap selected_by (sym on)
      ∙ sym (ap (λ o. option_map_or (λ (v : WindowRecord). list_selected l v.place font x y) o no_change) found)
      ∙ sym (of_named_is l before after (λ was is. option_map_or (λ (v : WindowRecord). list_selected l v.place font was is) (record_with l.window before.desk.windows.desk.windows) no_change) x y named is_now))
      changed

selection_edits : (g : Grid → Grid) → Edits (λ x. with_cells (g x.kept.cells) x)
selection_edits g = record { window = λ x. refl; serial = λ x. refl; vertical = λ x. refl; horizontal = λ x. refl; made = λ x. refl }

toggled_change_is : (l : ListOf) (g : Grid → Grid) (x : KeptList) (before after : ToolboxState) → IsRightState before.desk.windows → AreContentsRight before → list_of l before.lists.lists ≡ Some x
    → (b : Bool) → x.kept.drawing ≡ b → IsToggledOrNot b l g x (with_lists before) (with_lists after) → IsChanged (cells_selected l before after) (layered_state before.desk.windows) (layered_state after.desk.windows)
toggled_change_is l g x before after right contents named true on done =
    let w = window_of_list l x before contents named in
    let now = named_after l (λ y. with_cells (g y.kept.cells) y) (λ y. refl) (λ y. refl) x (with_lists before) (with_lists after) named done.changed in
    selected_is l x (with_cells (g x.kept.cells) x) before after named now w.0 w.1 true on (done.toggled w.0 w.1).pixels
toggled_change_is l g x before after right contents named false off done =
    let w = window_of_list l x before contents named in
    let its = unseen_edited l (λ y. with_cells (g y.kept.cells) y) (selection_edits g) x (with_lists before) (with_lists after) right named off done in
    selected_is l x (with_cells (g x.kept.cells) x) before after named its.named w.0 w.1 false off its.changed

pub selection_change : (l : ListOf) (g : SelectionFlags → Grid → Grid) (before after : ToolboxState) → IsRightState before.desk.windows → AreContentsRight before → IsSelectionChanged l g (with_lists before) (with_lists after)
    → IsChanged (cells_selected l before after) (layered_state before.desk.windows) (layered_state after.desk.windows)
selection_change l g before after right contents (x, named, done) = toggled_change_is l (g x.kept.flags) x before after right contents named x.kept.drawing refl done

-- ---- where no selection changed

nothing_turned : (font : List ℕ) (d : ListDefinition) (v : View) (g : Grid) (p : Point) → is_turned font d v g g p ≡ false
nothing_turned font d v g p = by_cell (cell_at g.columns g.rows v p)
  where
    none : (selected : Bool) → (if selected then not selected else selected) ≡ false
    none true = refl
    none false = refl

    and_none : (a b : Bool) → a ≡ false → (a && b) ≡ false
    and_none true b e = absurd (false≢true (sym e))
    and_none false b e = refl

    by_cell : (o : Option Cell) → option_map_or (λ c. is_toggled g g c && d.highlight no_list_news font (content_of g c).bytes (in_cell v c p)) o false ≡ false
    by_cell None = refl
    by_cell (Some c) = and_none (is_toggled g g c) _ (none (content_of g c).selected)

no_toggle : (b t v : Bool) → t ≡ false → v ≡ (if b && t then not v else v)
no_toggle b true v e = absurd (false≢true (sym e))
no_toggle true false v e = refl
no_toggle false false v e = refl

same_edits : Edits (λ (x : KeptList). x)
same_edits = record { window = λ x. refl; serial = λ x. refl; vertical = λ x. refl; horizontal = λ x. refl; made = λ x. refl }

pub unselected_change : (l : ListOf) (x : KeptList) (before after : ToolboxState) → IsRightState before.desk.windows → AreContentsRight before → list_of l before.lists.lists ≡ Some x → IsListDeskUnchanged (with_lists before) (with_lists after)
    → IsChanged (cells_selected l before after) (layered_state before.desk.windows) (layered_state after.desk.windows)
unselected_change l x before after right contents named same = by_drawing x.kept.drawing refl
  where
    w : (w : WindowRecord) × (record_with l.window before.desk.windows.desk.windows ≡ Some w)
    w = window_of_list l x before contents named

    now : list_of l after.lists.lists ≡ Some x
    now = ap (λ (s : ListsState). list_of l s.lists) same.lists ∙ named

    nothing : IsChanged no_change (layered_state before.desk.windows) (layered_state after.desk.windows)
    nothing = unchanged_changes before.desk.windows after.desk.windows right same.desk.windows

    by_drawing : (b : Bool) → x.kept.drawing ≡ b → IsChanged (cells_selected l before after) (layered_state before.desk.windows) (layered_state after.desk.windows)
    by_drawing true on = selected_is l x x before after named now w.0 w.1 true on
        (subst (λ (f : Owner → Point → Bool → Bool). IsChanged (record no_change { drawn = f }) (layered_state before.desk.windows) (layered_state after.desk.windows))
        (λ i o p v. no_toggle (same_owner o (ContentOf l.window (part.List l.list))) (is_turned before.desk.windows.desk.font x.kept.definition.definition x.kept.view x.kept.cells x.kept.cells (minus p w.0.place)) v (nothing_turned before.desk.windows.desk.font x.kept.definition.definition x.kept.view x.kept.cells (minus p w.0.place)) i)
        nothing)
    by_drawing false off = selected_is l x x before after named now w.0 w.1 false off
        (is_so l (λ y. y) same_edits x (with_lists before) (with_lists after) right named false true off ((as_it_was x x refl).1 refl) nothing)
