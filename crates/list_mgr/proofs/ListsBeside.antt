-- A call about lists leaves the windows as they are but for the layers of their controls and of their lists.
use Rattle.std.proofs.Common.{◌≡◌, inl, inr, ℕ, Bool, true, false, not, cond, List, [], ◌∷◌, map, Option, None, Some, Result, Ok, Err, refl, sym, ap, ◌∙◌}
use Rattle.std.specs.Prelude.{is_none}
use Rattle.tb_geom.specs.declared.refusal.Refusal.{Refusal}
use Rattle.tb_geom.specs.declared.refusal.Refusal.TheVariants.{OutOfRange}
use Rattle.tb_geom.specs.Rects.{in_plane}
use Rattle.tb_geom.specs.Refusals.{first_refusal}
use Rattle.desk_layers.specs.declared.part.Part.TheVariants as part
use Rattle.control_values.specs.Settings.{Setting}
use Rattle.list_cells.specs.declared.cell.Cell.{Cell}
use Rattle.list_cells.specs.Grids.{Grid}
use Rattle.window_list.specs.declared.layer.Layer.{Layer}
use Rattle.desk_call.specs.declared.control.ControlCall.TheVariants as control_calls
use Rattle.desk_call.specs.declared.control.ControlOf.{ControlOf}
use Rattle.desk_call.specs.declared.control.ControlReply.TheVariants as control_reply
use Rattle.desk_call.specs.declared.control.NewControl.{NewControl}
use Rattle.desk_call.specs.declared.list.ListCall.{ListCall}
use Rattle.desk_call.specs.declared.list.ListCall.TheVariants.{New, Dispose, AddRows, AddColumns, DeleteRows, DeleteColumns, SetCell, AddToCell, ClearCell, GetCell, Select, IsSelected, FirstSelected, NextCell, Search, Click, Scroll, SetDrawing}
use Rattle.desk_call.specs.declared.list.ListClick.{ListClick}
use Rattle.desk_call.specs.declared.list.ListOf.{ListOf}
use Rattle.desk_call.specs.declared.list.ListReply.{ListReply}
use Rattle.desk_call.specs.declared.list.NewList.{NewList}
use Rattle.desk_call.specs.declared.update.LayerKind.TheVariants.{Controls, Lists}
use Rattle.vis_update.specs.Records.{WindowRecord}
use Rattle.window_paint.specs.Kinds.{is_of}
use Rattle.window_mgr.specs.Finding.{record_with}
use Rattle.window_mgr.specs.FullDesk.{FullDesk, FullState}
use Rattle.window_mgr.specs.Refused.{is_missing}
use Rattle.control_mgr.specs.ControlDesks.{index_of}
use Rattle.control_mgr.specs.ControlSteps.{IsSettingPutAt, behind_controls}
use Rattle.control_mgr.proofs.ControlsKept.{control_behind, uncontrolled}
use Rattle.list_mgr.specs.ListDesks.{IsListDeskUnchanged, KeptList, ListDesk, list_of, with_controls}
use Rattle.list_mgr.specs.ListRefusals.{cell_refusals, is_word, list_refusals, of_list}
use Rattle.list_mgr.specs.ListSteps.{AreBarsSet, IsBarGone, IsBarGoneIf, IsBarMade, IsBarSet, IsClickOn, IsListDisposed, IsListEffect, IsListGone, IsListMade, IsListPut, IsListStep, IsRelined, IsSeenOrNot, IsToggledOrNot, IsUnseen, clicked_at, with_last, without_part}
use Rattle.list_mgr.proofs.ListFacts.{there_window, window_there}
use Rattle.list_mgr.proofs.ListedLayers.{beside_last, beside_lists, beside_without}
use Rattle.list_mgr.proofs.ListsApart.{unlisted}
use Rattle.list_mgr.proofs.ListsBars.{bar_gone_keeps, bar_made_keeps}
use Rattle.list_mgr.proofs.ListsKept.{IsRightLists}
use Rattle.list_mgr.proofs.ListsLaid.{beside_are, gone_keeps}

-- a window with the layers alone that are neither controls' nor lists'
abbrev pub others_only : WindowRecord → WindowRecord
others_only w = record w { layers = beside_lists (behind_controls w.layers) }

-- ---- windows without some of their layers

both_ways : (ks : List Layer) → behind_controls (beside_lists ks) ≡ beside_lists (behind_controls ks)
both_ways [] = refl
both_ways (k ∷ ks) = by_tests (is_of Controls k.part) refl (is_of Lists k.part) refl (both_ways ks)
  where
    by_tests : (b : Bool) → is_of Controls k.part ≡ b → (c : Bool) → is_of Lists k.part ≡ c → behind_controls (beside_lists ks) ≡ beside_lists (behind_controls ks)
        → behind_controls (cond (not c) (k ∷ beside_lists ks) (beside_lists ks)) ≡ beside_lists (cond (not b) (k ∷ behind_controls ks) (behind_controls ks))
    by_tests true is true of rest = rest
    by_tests true is false of rest = ap (λ b. cond (not b) (k ∷ behind_controls (beside_lists ks)) (behind_controls (beside_lists ks))) is ∙ rest
    by_tests false is true of rest = rest ∙ sym (ap (λ c. cond (not c) (k ∷ beside_lists (behind_controls ks)) (beside_lists (behind_controls ks))) of)
    by_tests false is false of rest =
        ap (λ b. cond (not b) (k ∷ behind_controls (beside_lists ks)) (behind_controls (beside_lists ks))) is
        ∙ ap (λ xs. k ∷ xs) rest
        ∙ sym (ap (λ c. cond (not c) (k ∷ beside_lists (behind_controls ks)) (beside_lists (behind_controls ks))) of)

as_unlisted : (ws : List WindowRecord) → map others_only ws ≡ map unlisted (map uncontrolled ws)
as_unlisted [] = refl
as_unlisted (w ∷ ws) = ap (λ vs. others_only w ∷ vs) (as_unlisted ws)

as_uncontrolled : (ws : List WindowRecord) → map others_only ws ≡ map uncontrolled (map unlisted ws)
as_uncontrolled [] = refl
as_uncontrolled (w ∷ ws) = λ i. record w { layers = sym (both_ways w.layers) i } ∷ as_uncontrolled ws i

pub from_uncontrolled : (ws vs : List WindowRecord) → map uncontrolled vs ≡ map uncontrolled ws → map others_only vs ≡ map others_only ws
from_uncontrolled ws vs same = as_unlisted vs ∙ ap (map unlisted) same ∙ sym (as_unlisted ws)

from_unlisted : (ws vs : List WindowRecord) → map unlisted vs ≡ map unlisted ws → map others_only vs ≡ map others_only ws
from_unlisted ws vs same = as_uncontrolled vs ∙ ap (map uncontrolled) same ∙ sym (as_uncontrolled ws)

-- ---- the parts of a call

-- the layers that are neither controls' nor lists' are as they were
abbrev pub SameOthers : ListDesk → ListDesk → Type 0
SameOthers before after = map others_only after.desk.windows.desk.windows ≡ map others_only before.desk.windows.desk.windows

abbrev SameWindows : ListDesk → ListDesk → Type 0
SameWindows before after = after.desk.windows.desk.windows ≡ before.desk.windows.desk.windows

others_of : (before after : ListDesk) → SameWindows before after → SameOthers before after
others_of before after same = ap (map others_only) same

still : (before after : ListDesk) → IsListDeskUnchanged before after → SameWindows before after
still before after same = ap (λ (d : FullDesk). d.windows) same.desk.windows.desk

unseen : (l : ListOf) (f : KeptList → KeptList) (x : KeptList) (before after : ListDesk) → IsUnseen l f x before after → SameWindows before after
unseen l f x before after (inl same) = still before after same.1
unseen l f x before after (inr its) = ap (λ (d : FullDesk). d.windows) its.1.marked.desk

seen : (b : Bool) (l : ListOf) (f : KeptList → KeptList) (x : KeptList) (before after : ListDesk) → IsSeenOrNot b l f x before after → SameWindows before after
seen true l f x before after its = ap (λ (d : FullDesk). d.windows) its.redrawn.desk
seen false l f x before after done = unseen l f x before after done

selected : (b : Bool) (l : ListOf) (g : Grid → Grid) (x : KeptList) (before after : ListDesk) → is_missing l.window before.desk.windows.desk.windows ≡ false → IsToggledOrNot b l g x before after → SameWindows before after
selected true l g x before after there its =
    let window = there_window (record_with l.window before.desk.windows.desk.windows) there in
    ap (λ (d : FullDesk). d.windows) (its.toggled window.0 window.1).desk
selected false l g x before after there done = unseen l _ x before after done

put_at : (o : Option ℕ) (c : ControlOf) (setting : Setting) (before after : ListDesk) → IsSettingPutAt o c setting (with_controls before) (with_controls after) → SameWindows before after
put_at None c setting before after same = ap (λ (s : FullState). s.desk.windows) same.windows
put_at (Some at) c setting before after done = ap (λ (d : FullDesk). d.windows) done.redrawn.desk

bar_set : (window : ℕ) (o : Option ℕ) (setting : Setting) (before after : ListDesk) → IsBarSet window o setting before after → SameWindows before after
bar_set window None setting before after same = still before after same
bar_set window (Some n) setting before after done = put_at (index_of (record { window = window; control = n }) before.controls.controls) (record { window = window; control = n }) setting before after done.0

bars_set : (l : ListOf) (before after : ListDesk) → AreBarsSet l before after → SameWindows before after
bars_set l before after (x, named, (mid, down, across)) = bar_set l.window x.kept.horizontal _ mid after across ∙ bar_set l.window x.kept.vertical _ before mid down

relined : (l : ListOf) (f : KeptList → KeptList) (before after : ListDesk) → IsRelined l f before after → SameOthers before after
relined l f before after (mid, (x, named, done), bars) = others_of before after (bars_set l mid after bars ∙ seen x.kept.drawing l f x before mid done)

module _ (before after : ListDesk) (was : IsRightLists before) where
  pub bar_made : (wanted : Bool) (n : NewControl) (serial : Option ℕ) → IsBarMade wanted n serial before after → SameOthers before after
  bar_made false n serial done = others_of before after (still before after done.1)
  bar_made true n serial ((c, is, step), same) =
      from_uncontrolled before.desk.windows.desk.windows after.desk.windows.desk.windows
      (control_behind (control_calls.New n) (Ok (control_reply.Made c)) (with_controls before) (with_controls after) was.desk.right.plain.desk was.desk.whole.apart step)

  gone_if : (b : Bool) (c : ControlOf) → IsBarGoneIf b c before after → SameOthers before after
  gone_if true c same = others_of before after (still before after same)
  gone_if false c done =
      from_uncontrolled before.desk.windows.desk.windows after.desk.windows.desk.windows
      (control_behind (control_calls.Dispose c) (Ok control_reply.Done) (with_controls before) (with_controls after) was.desk.right.plain.desk was.desk.whole.apart done.0)

  pub bar_gone : (window : ℕ) (o : Option ℕ) → IsBarGone window o before after → SameOthers before after
  bar_gone window None same = others_of before after (still before after same)
  bar_gone window (Some n) done = gone_if (is_none (index_of (record { window = window; control = n }) before.controls.controls)) (record { window = window; control = n }) done

  list_put : (n : NewList) (serial : ℕ) (vertical horizontal : Option ℕ) → IsListPut n serial vertical horizontal before after → SameOthers before after
  list_put n serial vertical horizontal put =
      from_unlisted before.desk.windows.desk.windows after.desk.windows.desk.windows
      (beside_are before after was n.window (with_last put.layer) (Some (part.List serial)) put.laid put.beside.controls (λ ks. beside_last ks put.layer (ap (is_of Lists) put.its.part)))

  pub list_gone : (l : ListOf) (x : KeptList) → IsListGone l x before after → SameOthers before after
  list_gone l x gone =
      from_unlisted before.desk.windows.desk.windows after.desk.windows.desk.windows
      (beside_are before after was l.window (without_part (part.List l.list)) None gone.laid gone.beside.controls (beside_without l.list))

made : (n : NewList) (serial : ℕ) (before after : ListDesk) → IsRightLists before → IsListMade n serial before after → SameOthers before after
made n serial before after was (a, b, vertical, horizontal, down, across, put) =
    let first = bar_made_keeps before a was n.vertical_bar _ vertical down in
    let second = bar_made_keeps a b first n.horizontal_bar _ horizontal across in
    list_put b after second n serial vertical horizontal put ∙ bar_made a b first n.horizontal_bar _ horizontal across ∙ bar_made before a was n.vertical_bar _ vertical down

disposed : (l : ListOf) (before after : ListDesk) → IsRightLists before → IsListDisposed l before after → SameOthers before after
disposed l before after was (x, gone, mid, first, down, across) =
    let once = gone_keeps before gone was l x first in
    let twice = bar_gone_keeps gone mid once l.window x.kept.vertical down in
    bar_gone mid after twice l.window x.kept.horizontal across ∙ bar_gone gone mid once l.window x.kept.vertical down ∙ list_gone before gone was l x first

-- ---- each call

module _ (before after : ListDesk) (was : IsRightLists before) where
  clicked : (k : ListClick) (o : Option Cell) (answer : ListReply) → is_missing k.list.window before.desk.windows.desk.windows ≡ false → IsClickOn k o answer before after → SameOthers before after
  clicked k None answer there done = others_of before after (still before after done.1)
  clicked k (Some c) answer there (is, (x, named, done)) = others_of before after (selected x.kept.drawing k.list _ x before after there done)

  effect_others : (call : ListCall) (answer : ListReply) → first_refusal (list_refusals call before.desk.windows.desk before.controls before.lists) ≡ None → IsListEffect call answer before after → SameOthers before after
  effect_others (New n) answer may (serial, is, done) = made n serial before after was done
  effect_others (Dispose l) answer may done = disposed l before after was done.1
  effect_others (AddRows n) answer may done = relined n.list _ before after done.1
  effect_others (AddColumns n) answer may done = relined n.list _ before after done.1
  effect_others (DeleteRows n) answer may done = relined n.list _ before after done.1
  effect_others (DeleteColumns n) answer may done = relined n.list _ before after done.1
  effect_others (SetCell t) answer may (is, (x, named, done)) = others_of before after (seen x.kept.drawing t.cell.list _ x before after done)
  effect_others (AddToCell t) answer may (is, (x, named, done)) = others_of before after (seen x.kept.drawing t.cell.list _ x before after done)
  effect_others (ClearCell c) answer may (is, (x, named, done)) = others_of before after (seen x.kept.drawing c.list _ x before after done)
  effect_others (GetCell c) answer may done = others_of before after (still before after done.1)
  effect_others (Select k) answer may (is, (x, named, done)) =
      others_of before after (selected x.kept.drawing k.cell.list _ x before after (window_there before after k.cell.list (of_list (cell_refusals k.cell.cell) (list_of k.cell.list before.lists.lists)) may) done)
  effect_others (IsSelected c) answer may done = others_of before after (still before after done.1)
  effect_others (FirstSelected c) answer may done = others_of before after (still before after done.1)
  effect_others (NextCell n) answer may done = others_of before after (still before after done.1)
  effect_others (Search t) answer may done = others_of before after (still before after done.1)
  effect_others (Click k) answer may (x, named, done) = clicked k (clicked_at k x) answer (window_there before after k.list ((not (in_plane k.point), OutOfRange) ∷ (not (is_word k.modifiers), OutOfRange) ∷ []) may) done
  effect_others (Scroll m) answer may done = relined m.list _ before after done.1
  effect_others (SetDrawing d) answer may (is, change, same) = others_of before after (ap (λ (s : FullDesk). s.windows) same.windows.desk)

-- a call about lists leaves the layers of windows that are neither controls' nor lists'
pub list_beside : (call : ListCall) (result : Result ListReply Refusal) (before after : ListDesk) → IsRightLists before → IsListStep call result before after → SameOthers before after
list_beside call (Ok answer) before after was step = effect_others before after was call answer step.0 step.1
list_beside call (Err e) before after was step = others_of before after (still before after step.1)
