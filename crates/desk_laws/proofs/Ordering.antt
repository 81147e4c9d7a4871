-- The reasons to refuse, and the written order.
use Rattle.std.proofs.Common.{◌≡◌, Bool, true, false, if◌then◌else◌, List, [], ◌∷◌, ◌++◌, map, Option, Some, None, refl, subst, arith}
use Rattle.std.specs.Prelude.{All}
use Rattle.std.proofs.lemmas.Bool.{and_parts, le-leb, leb-true}
use Rattle.std.proofs.lemmas.List.Elements.{All-nil, All-cons}
use Rattle.tb_geom.specs.declared.refusal.Refusal.{Refusal}
use Rattle.tb_geom.specs.declared.refusal.Refusal.TheVariants.{Busy, NoSuchMenu, NoSuchWindow}
use Rattle.tb_geom.specs.Refusals.{first_refusal, in_order, is_before, place_in, refusal_order}
use Rattle.desk_call.specs.declared.control.ControlCall.{ControlCall}
use Rattle.desk_call.specs.declared.control.ControlCall.TheVariants as controls
use Rattle.desk_call.specs.declared.control.NewControl.{NewControl}
use Rattle.control_mgr.specs.ControlDesks.{ControlSlot, ControlsState}
use Rattle.control_mgr.specs.ControlRefusals.{control_form_refusals, control_refusals}
use Rattle.desk_call.specs.declared.list.ListCall.{ListCall}
use Rattle.desk_call.specs.declared.list.ListCall.TheVariants as lists
use Rattle.desk_call.specs.declared.list.ListOf.{ListOf}
use Rattle.list_cells.specs.Grids.{data_refusals, search_refusals}
use Rattle.list_cells.specs.Runs.{add_refusals, delete_refusals, new_refusals}
use Rattle.list_mgr.specs.ListDesks.{KeptList, ListsState, list_of}
use Rattle.list_mgr.specs.ListRefusals.{list_reasons, list_refusals, missing_refusals, of_list}
use Rattle.desk_call.specs.declared.frame.FrameCall.{FrameCall}
use Rattle.desk_call.specs.declared.frame.FrameCall.TheVariants.{SetTitle, Hilite, TrackGoAway, StepGoAway, EndGoAway}
use Rattle.desk_call.specs.declared.menu.MenuCall.{MenuCall}
use Rattle.desk_call.specs.declared.menu.MenuCall.TheVariants.{New, Append, SetItem, Insert, Delete, Dispose, Enable, Disable, Check, Down, Move, Up, Key, Hilite}
use Rattle.desk_call.specs.declared.menu.NewMenu.{NewMenu}
use Rattle.menu_mgr.specs.MenuDesks.{MenuSlot, MenusState}
use Rattle.menu_mgr.specs.MenuRefusals.{menu_form_refusals, menu_refusals}
use Rattle.window_mgr.specs.FullDesk.{FullDesk}
use Rattle.window_frame.specs.FrameRefusals.{frame_refusals}
use Rattle.window_outline.specs.OutlineRefusals.{outline_refusals}
use Rattle.desk_call.specs.declared.activity.Activity.{Activity}
use Rattle.desk_call.specs.declared.outline.OutlineCall.{OutlineCall}
use Rattle.desk_call.specs.declared.outline.OutlineCall.TheVariants.{Drag, StepDrag, EndDrag, Grow, StepGrow, EndGrow}
use Rattle.desk_laws.specs.Ordered.{AreInOrder}

pub frame_reasons_in_order : (call : FrameCall) (desk : FullDesk) → AreInOrder (frame_refusals call desk)
frame_reasons_in_order (SetTitle n) desk = refl
frame_reasons_in_order (Hilite h) desk = refl
frame_reasons_in_order (TrackGoAway g) desk = refl
frame_reasons_in_order (StepGoAway p) desk = refl
frame_reasons_in_order (EndGoAway p) desk = refl

pub outline_reasons_in_order : (call : OutlineCall) (activity : Activity) (desk : FullDesk) → AreInOrder (outline_refusals call activity desk)
outline_reasons_in_order (Drag d) activity desk = refl
outline_reasons_in_order (StepDrag p) activity desk = refl
outline_reasons_in_order (EndDrag p) activity desk = refl
outline_reasons_in_order (Grow g) activity desk = refl
outline_reasons_in_order (StepGrow p) activity desk = refl
outline_reasons_in_order (EndGrow p) activity desk = refl

pub menu_reasons_in_order : (call : MenuCall) (menus : MenusState) → AreInOrder (menu_refusals call menus)
menu_reasons_in_order (New n) menus = refl
menu_reasons_in_order (Append a) menus = refl
menu_reasons_in_order (SetItem t) menus = refl
menu_reasons_in_order (Insert i) menus = refl
menu_reasons_in_order (Delete id) menus = refl
menu_reasons_in_order (Dispose id) menus = refl
menu_reasons_in_order (Enable i) menus = refl
menu_reasons_in_order (Disable i) menus = refl
menu_reasons_in_order (Check c) menus = refl
menu_reasons_in_order (Down p) menus = refl
menu_reasons_in_order (Move p) menus = refl
menu_reasons_in_order (Up p) menus = refl
menu_reasons_in_order (Key k) menus = refl
menu_reasons_in_order (Hilite id) menus = refl

-- what is judged of a new menu whatever is open, what is open, and the rest
pub menu_form_in_order : (n : NewMenu) (slots : List MenuSlot) (busy missing : Bool) → AreInOrder (menu_form_refusals (New n) slots ++ (busy, Busy) ∷ (missing, NoSuchMenu) ∷ [])
menu_form_in_order n slots busy missing = refl

pub control_reasons_in_order : (call : ControlCall) (desk : FullDesk) (s : ControlsState) → AreInOrder (control_refusals call desk s)
control_reasons_in_order (controls.New n) desk s = refl
control_reasons_in_order (controls.Dispose c) desk s = refl
control_reasons_in_order (controls.Show c) desk s = refl
control_reasons_in_order (controls.Hide c) desk s = refl
control_reasons_in_order (controls.Move m) desk s = refl
control_reasons_in_order (controls.Size z) desk s = refl
control_reasons_in_order (controls.SetValue n) desk s = refl
control_reasons_in_order (controls.SetMinimum n) desk s = refl
control_reasons_in_order (controls.SetMaximum n) desk s = refl
control_reasons_in_order (controls.Hilite n) desk s = refl
control_reasons_in_order (controls.SetTitle t) desk s = refl
control_reasons_in_order (controls.Get c) desk s = refl
control_reasons_in_order (controls.Find p) desk s = refl
control_reasons_in_order (controls.Test p) desk s = refl
control_reasons_in_order (controls.Track p) desk s = refl
control_reasons_in_order (controls.Step p) desk s = refl
control_reasons_in_order (controls.End p) desk s = refl

-- what is judged of a new control whatever is open, what is open, and the rest
pub control_form_in_order : (n : NewControl) (slots : List ControlSlot) (busy missing : Bool) → AreInOrder (control_form_refusals (controls.New n) slots ++ (busy, Busy) ∷ (missing, NoSuchWindow) ∷ [])
control_form_in_order n slots busy missing = refl

-- of a list that is named, where what is told of it once it is there is in order
of_list_in_order : (l : ListOf) (f : KeptList → List (Bool × Refusal)) (desk : FullDesk) (ls : List KeptList) → ((x : KeptList) → AreInOrder (missing_refusals l desk ls ++ f x)) → AreInOrder (list_reasons l f desk ls)
of_list_in_order l f desk ls ok = by_list (list_of l ls)
  where
    by_list : (o : Option KeptList) → AreInOrder (missing_refusals l desk ls ++ of_list f o)
    by_list None = refl
    by_list (Some x) = ok x

pub list_reasons_in_order : (call : ListCall) (desk : FullDesk) (c : ControlsState) (s : ListsState) → AreInOrder (list_refusals call desk c s)
unfolding add_refusals delete_refusals data_refusals search_refusals new_refusals
list_reasons_in_order (lists.New n) desk c s = refl
list_reasons_in_order (lists.Dispose l) desk c s = refl
list_reasons_in_order (lists.AddRows n) desk c s = of_list_in_order n.list _ desk s.lists (λ x. refl)
list_reasons_in_order (lists.AddColumns n) desk c s = of_list_in_order n.list _ desk s.lists (λ x. refl)
list_reasons_in_order (lists.DeleteRows n) desk c s = of_list_in_order n.list _ desk s.lists (λ x. refl)
list_reasons_in_order (lists.DeleteColumns n) desk c s = of_list_in_order n.list _ desk s.lists (λ x. refl)
list_reasons_in_order (lists.SetCell t) desk c s = of_list_in_order t.cell.list _ desk s.lists (λ x. refl)
list_reasons_in_order (lists.AddToCell t) desk c s = of_list_in_order t.cell.list _ desk s.lists (λ x. refl)
list_reasons_in_order (lists.ClearCell k) desk c s = of_list_in_order k.list _ desk s.lists (λ x. refl)
list_reasons_in_order (lists.GetCell k) desk c s = of_list_in_order k.list _ desk s.lists (λ x. refl)
list_reasons_in_order (lists.Select k) desk c s = of_list_in_order k.cell.list _ desk s.lists (λ x. refl)
list_reasons_in_order (lists.IsSelected k) desk c s = of_list_in_order k.list _ desk s.lists (λ x. refl)
list_reasons_in_order (lists.FirstSelected k) desk c s = of_list_in_order k.list _ desk s.lists (λ x. refl)
list_reasons_in_order (lists.NextCell n) desk c s = of_list_in_order n.cell.list _ desk s.lists (λ x. refl)
list_reasons_in_order (lists.Search t) desk c s = of_list_in_order t.cell.list _ desk s.lists (λ x. refl)
list_reasons_in_order (lists.Click k) desk c s = refl
list_reasons_in_order (lists.Scroll m) desk c s = refl
list_reasons_in_order (lists.SetDrawing d) desk c s = refl

-- ---- what is told comes first

before_itself : (e : Refusal) → is_before e e ≡ true
before_itself e = le-leb (place_in refusal_order e) (place_in refusal_order e) (omega arith)

before_both : (e f g : Refusal) → is_before e f ≡ true → is_before f g ≡ true → is_before e g ≡ true
before_both e f g first next =
    let low = leb-true (place_in refusal_order e) (place_in refusal_order f) first in
    let high = leb-true (place_in refusal_order f) (place_in refusal_order g) next in
    le-leb (place_in refusal_order e) (place_in refusal_order g) (omega arith)

-- those after the first are in order too
rest_in_order : (r : Bool × Refusal) (rs : List (Bool × Refusal)) → AreInOrder (r ∷ rs) → AreInOrder rs
rest_in_order r [] ok = refl
rest_in_order r (s ∷ rs) ok = (and_parts (is_before r.1 s.1) (in_order (s.1 ∷ map (λ x. x.1) rs)) ok).1

-- what comes before the first of them comes before each
before_each : (e : Refusal) (r : Bool × Refusal) (rs : List (Bool × Refusal)) → is_before e r.1 ≡ true → AreInOrder (r ∷ rs) → All (λ s. s.0 ≡ true → is_before e s.1 ≡ true) (r ∷ rs)
before_each e r [] first ok = All-cons (λ s. s.0 ≡ true → is_before e s.1 ≡ true) r [] (λ holds. first) (All-nil (λ s. s.0 ≡ true → is_before e s.1 ≡ true))
before_each e r (s ∷ rs) first ok =
    let parts = and_parts (is_before r.1 s.1) (in_order (s.1 ∷ map (λ x. x.1) rs)) ok in
    All-cons (λ s. s.0 ≡ true → is_before e s.1 ≡ true) r (s ∷ rs) (λ holds. first)
    (before_each e s rs (before_both e r.1 s.1 first parts.0) parts.1)

pub told_comes_first : (reasons : List (Bool × Refusal)) (e : Refusal) → AreInOrder reasons → first_refusal reasons ≡ Some e → All (λ r. r.0 ≡ true → is_before e r.1 ≡ true) reasons
told_comes_first [] e ok is = All-nil (λ r. r.0 ≡ true → is_before e r.1 ≡ true)
told_comes_first (r ∷ rs) e ok is = by_test r.0 refl is (told_comes_first rs e (rest_in_order r rs ok))
  where
    by_test : (b : Bool) → r.0 ≡ b → (if b then Some r.1 else first_refusal rs) ≡ Some e → (first_refusal rs ≡ Some e → All (λ r. r.0 ≡ true → is_before e r.1 ≡ true) rs) → All (λ r. r.0 ≡ true → is_before e r.1 ≡ true) (r ∷ rs)
    by_test true holds told rest =
        let same : r.1 ≡ e = cc in
        before_each e r rs (subst (λ f. is_before f r.1 ≡ true) same (before_itself r.1)) ok
    by_test false not_so told rest =
        All-cons (λ r. r.0 ≡ true → is_before e r.1 ≡ true) r rs (λ holds. absurd (cc)) (rest told)
