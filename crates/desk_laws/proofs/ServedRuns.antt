-- A run that began a window's update, drew all its layers and ended it, served it; and what was told of its regions meanwhile.
use Rattle.std.proofs.Common.{◌≡◌, ◌⊎◌, ⊎_elim, inl, inr, ℕ, true, false, if◌then◌else◌, List, [], ◌∷◌, ◌++◌, map, Option, None, Some, Result, Ok, Err, refl, sym, ap, ◌∙◌, subst}
use Rattle.std.specs.Prelude.{◌≢◌}
use Rattle.std.proofs.lemmas.List.Elements.{All-head, All-tail}
use Rattle.tb_geom.specs.declared.point.Point.{Point}
use Rattle.tb_geom.specs.declared.refusal.Refusal.{Refusal}
use Rattle.tb_geom.specs.Points.{PixelSet}
use Rattle.desk_layers.proofs.Owning.{same_number}
use Rattle.desk_call.specs.declared.activity.Activity.TheVariants.{Updating}
use Rattle.desk_call.specs.declared.call.Call.{Call}
use Rattle.desk_call.specs.declared.call.Call.TheVariants.{Window, Update, Frame, Control, Menu, Event}
use Rattle.desk_call.specs.declared.call.Call.TheVariants as calls
use Rattle.desk_call.specs.declared.call.Reply.{Reply}
use Rattle.desk_call.specs.declared.call.Reply.TheVariants as reply
use Rattle.desk_call.specs.declared.update.LayerKind.{LayerKind}
use Rattle.desk_call.specs.declared.update.LayerKind.TheVariants.{Picture}
use Rattle.desk_call.specs.declared.update.UpdateCall.{UpdateCall}
use Rattle.desk_call.specs.declared.update.UpdateCall.TheVariants as update
use Rattle.desk_call.specs.declared.window.WindowCall.{WindowCall}
use Rattle.desk_call.specs.declared.window.WindowCall.TheVariants.{VisibleRegion, UpdateRegion}
use Rattle.desk_call.specs.declared.window.WindowReply.{WindowReply}
use Rattle.desk_call.specs.declared.window.WindowReply.TheVariants.{Done}
use Rattle.desk_call.specs.Gates.{gate, update_standing}
use Rattle.window_mgr.specs.DeskStates.{DeskState, is_updating, narrowed}
use Rattle.window_mgr.specs.FullDesk.{FullState}
use Rattle.window_mgr.specs.Telling.{IsRegionTold, update_of, visible_of}
use Rattle.window_update.specs.Served.{AreAllKinds, AreDone, drawing, update_drawing}
use Rattle.window_update.specs.UpdateSteps.{IsUpdateStep}
use Rattle.window_update.specs.Waiting.{IsEmpty}
use Rattle.window_update.proofs.AnyOrder.{AreDrawnSince, IsAmong, all_drawn, drawn_in_any_order_is_served, drawn_stay}
use Rattle.window_update.proofs.ServedLaws.{served_has_nothing, served_leaves_others}
use Rattle.desk_laws.specs.OpenUpdates.{IsAllDrawn, IsDrawnIn, IsNotEnded, answered_until, begun_until, done}
use Rattle.desk_toolbox.specs.Reached.{IsConsistent}
use Rattle.desk_toolbox.specs.Run.{IsGated, IsRestKept, IsRunOfCalls, IsStep, IsWindowAnswer, IsWindowMade, replied}
use Rattle.desk_toolbox.specs.ToolboxStates.{ToolboxState}
use Rattle.desk_laws.proofs.Consistent.{step_keeps_consistent}
use Rattle.desk_laws.proofs.FrontLaws.{asks_may_come}
use Rattle.desk_laws.proofs.OpenUpdates.{step_goes_on, with_drawn}

-- ---- one step of a call about updates

-- a call about updates that was done is one that may come, and a step of the desk alone
record IsUpdateMade (call : UpdateCall) (answer : WindowReply) (before after : ToolboxState) : Type 0 where
  pub may : gate before.desk.activity (update_standing call) ≡ None
  pub step : IsUpdateStep call (Ok answer) before.desk after.desk
  pub rest : IsRestKept before after

update_made : (call : UpdateCall) (answer : WindowReply) (before after : ToolboxState) → IsStep (Update call) (Ok (reply.Window answer)) before after → IsUpdateMade call answer before after
update_made call answer before after step = by_gate (gate before.desk.activity (update_standing call)) refl step
  where
    by_own : (own : Result WindowReply Refusal) → Ok (reply.Window answer) ≡ replied reply.Window own → IsUpdateStep call own before.desk after.desk → IsUpdateStep call (Ok answer) before.desk after.desk
    by_own (Ok x) is made = let same : x ≡ answer = cc in subst (λ r. IsUpdateStep call (Ok r) before.desk after.desk) same made
    by_own (Err e) is made = absurd (cc)

    by_gate : (stopped : Option Refusal) → gate before.desk.activity (update_standing call) ≡ stopped → IsGated stopped (Update call) (Ok (reply.Window answer)) before after → IsUpdateMade call answer before after
    by_gate None may (own, is, (made, rest)) = record { may = may; step = by_own own is made; rest = rest }
    by_gate (Some e) may wrong = absurd wrong

-- and where it may come, such a step is one of the Toolbox
made_is_step : (call : UpdateCall) (before after : ToolboxState) → gate before.desk.activity (update_standing call) ≡ None → IsUpdateStep call (Ok Done) before.desk after.desk → IsRestKept before after → IsStep (Update call) done before after
made_is_step call before after may step rest = subst (λ stopped. IsGated stopped (Update call) done before after) (sym may) (Ok Done, refl, (step, rest))

-- ---- the last step of a run

no_more : (s last : ToolboxState) (a : Result Reply Refusal) (answers : List (Result Reply Refusal)) → IsRunOfCalls s [] (answers ++ a ∷ []) last → ⊥
no_more s last a [] run = run
no_more s last a (answer ∷ answers) run = run

no_answers : (s last : ToolboxState) (c : Call) (cs : List Call) → IsRunOfCalls s (cs ++ c ∷ []) [] last → ⊥
no_answers s last c [] run = run
no_answers s last c (call ∷ cs) run = run

split_run : (first last : ToolboxState) (cs : List Call) (answers : List (Result Reply Refusal)) (c : Call) (a : Result Reply Refusal) → IsRunOfCalls first (cs ++ c ∷ []) (answers ++ a ∷ []) last
    → (middle : ToolboxState) × IsRunOfCalls first cs answers middle × IsStep c a middle last
split_run first last [] [] c a (next, step, ends) = (first, refl, subst (λ s. IsStep c a first s) (sym ends) step)
split_run first last [] (answer ∷ answers) c a (next, step, run) = absurd (no_more next last a answers run)
split_run first last (call ∷ cs) [] c a (next, step, run) = absurd (no_answers next last c cs run)
split_run first last (call ∷ cs) (answer ∷ answers) c a (next, step, run) =
    let rest = split_run next last cs answers c a run in (rest.0, (next, step, rest.1), rest.2)

-- ---- while the update of a window is open

module _ (s : ℕ) where
  -- the update stays open, and its begin as it was
  stays_open : (first last : ToolboxState) (cs : List Call) (answers : List (Result Reply Refusal)) → IsNotEnded s cs → first.desk.activity ≡ Updating s → IsRunOfCalls first cs answers last → (last.desk.activity ≡ Updating s) × (last.desk.begun ≡ first.desk.begun)
  stays_open first last [] [] rests opened run = (ap (λ (x : ToolboxState). x.desk.activity) run ∙ opened, ap (λ (x : ToolboxState). x.desk.begun) run)
  stays_open first last [] (answer ∷ answers) rests opened run = absurd run
  stays_open first last (call ∷ cs) [] rests opened run = absurd run
  stays_open first last (call ∷ cs) (answer ∷ answers) rests opened (next, step, run) =
      let goes = step_goes_on s call answer first next step opened (All-head (λ c. c ≢ Update (update.End s)) call cs rests) in
      let more = stays_open next last cs answers (All-tail (λ c. c ≢ Update (update.End s)) call cs rests) goes.activity run in
      (more.0, more.1 ∙ goes.begun)

  drawn_now : (call : Call) (answer : Result Reply Refusal) (kinds : List LayerKind) (kind : LayerKind) → call ≡ Update (drawing s kind) → answer ≡ done → IsAmong kind (with_drawn call answer kinds)
  drawn_now call answer kinds kind is did =
      subst (λ (x : Call × Result Reply Refusal). IsAmong kind (with_drawn x.0 x.1 kinds)) (λ i. (sym is i, sym did i)) (inl refl)

  drawn_before : (call : Call) (answer : Result Reply Refusal) (kinds : List LayerKind) (kind : LayerKind) → IsAmong kind kinds → IsAmong kind (with_drawn call answer kinds)
  drawn_before (Update (update.Draw d)) (Ok answer) kinds kind here = inr here
  drawn_before (Update (update.Draw d)) (Err e) kinds kind here = here
  drawn_before (Update (update.Invalidate m)) answer kinds kind here = here
  drawn_before (Update (update.Validate m)) answer kinds kind here = here
  drawn_before (Update (update.Begin t)) answer kinds kind here = here
  drawn_before (Update (update.End t)) answer kinds kind here = here
  drawn_before (Update (update.Serve t)) answer kinds kind here = here
  drawn_before (Window call) answer kinds kind here = here
  drawn_before (Frame call) answer kinds kind here = here
  drawn_before (Control call) answer kinds kind here = here
  drawn_before (calls.List call) answer kinds kind here = here
  drawn_before (calls.Text call) answer kinds kind here = here
  drawn_before (Menu call) answer kinds kind here = here
  drawn_before (calls.Outline call) answer kinds kind here = here
  drawn_before (Event call) answer kinds kind here = here

  drawn_or_later : (call : Call) (answer : Result Reply Refusal) (kinds : List LayerKind) (kind : LayerKind) (cs : List Call) (answers : List (Result Reply Refusal))
      → IsAmong kind kinds ⊎ IsDrawnIn s kind (call ∷ cs) (answer ∷ answers) → IsAmong kind (with_drawn call answer kinds) ⊎ IsDrawnIn s kind cs answers
  drawn_or_later call answer kinds kind cs answers some =
      ⊎_elim (λ here. inl (drawn_before call answer kinds kind here)) (λ later. ⊎_elim (λ (is, did). inl (drawn_now call answer kinds kind is did)) (λ more. inr more) later) some

  -- of the windows no more changed than that layers were drawn, those that had been before, and those that these calls draw
  drawn_meanwhile : (start : FullState) (kinds : List LayerKind) (first last : ToolboxState) (cs : List Call) (answers : List (Result Reply Refusal)) → IsConsistent first → IsNotEnded s cs → first.desk.activity ≡ Updating s
      → AreDrawnSince s kinds start first.desk.windows → IsRunOfCalls first cs answers last
      → (all : List LayerKind) × ((kind : LayerKind) → IsAmong kind kinds ⊎ IsDrawnIn s kind cs answers → IsAmong kind all) × AreDrawnSince s all start last.desk.windows
  drawn_meanwhile start kinds first last [] [] was rests opened drawn run =
      (kinds, (λ kind some. ⊎_elim (λ here. here) (λ wrong. absurd wrong) some), subst (λ (x : ToolboxState). AreDrawnSince s kinds start x.desk.windows) (sym run) drawn)
  drawn_meanwhile start kinds first last [] (answer ∷ answers) was rests opened drawn run = absurd run
  drawn_meanwhile start kinds first last (call ∷ cs) [] was rests opened drawn run = absurd run
  drawn_meanwhile start kinds first last (call ∷ cs) (answer ∷ answers) was rests opened drawn (next, step, run) =
      let goes = step_goes_on s call answer first next step opened (All-head (λ c. c ≢ Update (update.End s)) call cs rests) in
      let more = drawn_meanwhile start (with_drawn call answer kinds) next last cs answers (step_keeps_consistent call answer first next was step)
      (All-tail (λ c. c ≢ Update (update.End s)) call cs rests) goes.activity (goes.drawn was.contents.shown kinds start drawn) run in
      (more.0, (λ kind some. more.1 kind (drawn_or_later call answer kinds kind cs answers some)), more.2)

-- ---- an update that was served

pub drawn_update_is_served : (window : ℕ) (first last : ToolboxState) (cs : List Call) (answers : List (Result Reply Refusal)) → IsConsistent first → IsNotEnded window cs → IsAllDrawn window first.desk.windows cs answers
    → IsRunOfCalls first (begun_until window cs (Update (update.End window))) (answered_until answers done) last → IsUpdateStep (update.Serve window) (Ok Done) first.desk last.desk
drawn_update_is_served window first last cs answers was rests all (begun, begin, run) =
    let opening = update_made (update.Begin window) Done first begun begin in
    let split = split_run begun last cs answers (Update (update.End window)) done run in
    let opened = opening.step.1.1 in
    let meanwhile = drawn_meanwhile window first.desk.windows [] begun split.0 cs answers (step_keeps_consistent (Update (update.Begin window)) done first begun was begin) rests opened.opened opened.windows split.1 in
    let ending = (update_made (update.End window) Done split.0 last split.2).step.1.1 in (
      opening.step.0,
      (
        refl,
        (
          ending.0,
          all_drawn window meanwhile.0 first.desk.windows last.desk.windows (meanwhile.1 Picture (inr all.picture))
              (λ kind. ⊎_elim (λ some. inl (meanwhile.1 kind (inr some))) (λ none. inr none) (all.others kind)) (drawn_stay window meanwhile.0 first.desk.windows split.0.desk.windows last.desk.windows meanwhile.2 ending.1),
        ),
      ),
    )

pub drawn_update_leaves_nothing : (window : ℕ) (first last : ToolboxState) (cs : List Call) (answers : List (Result Reply Refusal)) → IsConsistent first → IsNotEnded window cs → IsAllDrawn window first.desk.windows cs answers
    → IsRunOfCalls first (begun_until window cs (Update (update.End window))) (answered_until answers done) last → IsEmpty (update_of window last.desk.windows)
drawn_update_leaves_nothing window first last cs answers was rests all run = served_has_nothing window first.desk last.desk (drawn_update_is_served window first last cs answers was rests all run)

pub drawn_update_leaves_others : (window other : ℕ) (first last : ToolboxState) (cs : List Call) (answers : List (Result Reply Refusal)) → IsConsistent first → IsNotEnded window cs → IsAllDrawn window first.desk.windows cs answers
    → IsRunOfCalls first (begun_until window cs (Update (update.End window))) (answered_until answers done) last → other ≢ window → (p : Point) → update_of other last.desk.windows p ≡ update_of other first.desk.windows p
drawn_update_leaves_others window other first last cs answers was rests all run = served_leaves_others window other first.desk last.desk (drawn_update_is_served window first last cs answers was rests all run)

-- ---- an update that was drawn, with no other call between

rest_kept : (a b c : ToolboxState) → IsRestKept a b → IsRestKept b c → IsRestKept a c
rest_kept a b c first second = record {
  events = second.events ∙ first.events;
  controls = second.controls ∙ first.controls;
  lists = second.lists ∙ first.lists;
  texts = second.texts ∙ first.texts;
  menus = second.menus ∙ first.menus;
}

none_done : (s : ToolboxState) → IsRestKept s s
none_done s = record { events = refl; controls = refl; lists = refl; texts = refl; menus = refl }

all_done : (cs : List UpdateCall) (first last : ToolboxState) → IsRunOfCalls first (map Update cs) (map (λ c. done) cs) last → AreDone cs first.desk last.desk × IsRestKept first last
all_done [] first last run = (ap (λ (x : ToolboxState). x.desk) run, subst (IsRestKept first) (sym run) (none_done first))
all_done (c ∷ cs) first last (next, step, run) =
    let made = update_made c Done first next step in
    let rest = all_done cs next last run in
    ((next.desk, made.step, rest.0), rest_kept first next last made.rest rest.1)

pub drawn_in_order_is_served : (window : ℕ) (kinds : List LayerKind) (first last : ToolboxState) → AreAllKinds window first.desk.windows kinds → IsRunOfCalls first (map Update (update_drawing window kinds)) (map (λ c. done) (update_drawing window kinds)) last → IsStep (Update (update.Serve window)) done first last
drawn_in_order_is_served window kinds first last all run =
    let every = all_done (update_drawing window kinds) first last run in
    made_is_step (update.Serve window) first last (update_made (update.Begin window) Done first run.0 run.1).may
    (drawn_in_any_order_is_served window kinds first.desk last.desk all every.0) every.1

-- ---- an update that was served at once

pub served_update_leaves_nothing : (window : ℕ) (before after : ToolboxState) → IsStep (Update (update.Serve window)) done before after → IsEmpty (update_of window after.desk.windows)
served_update_leaves_nothing window before after step = served_has_nothing window before.desk after.desk (update_made (update.Serve window) Done before after step).step

pub served_update_leaves_others : (window other : ℕ) (before after : ToolboxState) → IsStep (Update (update.Serve window)) done before after → other ≢ window → (p : Point) → update_of other after.desk.windows p ≡ update_of other before.desk.windows p
served_update_leaves_others window other before after step = served_leaves_others window other before.desk after.desk (update_made (update.Serve window) Done before after step).step

-- ---- what is told of a window's regions

-- what a call on windows that asks is answered comes from its desk
told_by : (call : WindowCall) (set : PixelSet) (answer : WindowReply) (before after : ToolboxState) → ((x : WindowReply) (middle : DeskState) → IsWindowAnswer (narrowed call before.desk.activity before.desk.begun) call (Ok x) before.desk middle → IsRegionTold set x)
    → (own : Result WindowReply Refusal) → Ok (reply.Window answer) ≡ replied reply.Window own → IsWindowMade call own before after → IsRegionTold set answer
told_by call set answer before after told (Ok x) is made = let same : x ≡ answer = cc in subst (IsRegionTold set) same (told x made.middle made.answered)
told_by call set answer before after told (Err e) is made = absurd (cc)

visible_by : (window : ℕ) (answer : WindowReply) (before after : ToolboxState) (set : PixelSet) → ((x : WindowReply) (middle : DeskState) → IsWindowAnswer (narrowed (VisibleRegion window) before.desk.activity before.desk.begun) (VisibleRegion window) (Ok x) before.desk middle → IsRegionTold set x)
    → IsStep (Window (VisibleRegion window)) (Ok (reply.Window answer)) before after → IsRegionTold set answer
visible_by window answer before after set told step =
    let admitted = subst (λ stopped. IsGated stopped (Window (VisibleRegion window)) (Ok (reply.Window answer)) before after) (asks_may_come before.desk.activity) step in
    told_by (VisibleRegion window) set answer before after told admitted.0 admitted.1 admitted.2

update_by : (window : ℕ) (answer : WindowReply) (before after : ToolboxState) (set : PixelSet) → ((x : WindowReply) (middle : DeskState) → IsWindowAnswer (narrowed (UpdateRegion window) before.desk.activity before.desk.begun) (UpdateRegion window) (Ok x) before.desk middle → IsRegionTold set x)
    → IsStep (Window (UpdateRegion window)) (Ok (reply.Window answer)) before after → IsRegionTold set answer
update_by window answer before after set told step =
    let admitted = subst (λ stopped. IsGated stopped (Window (UpdateRegion window)) (Ok (reply.Window answer)) before after) (asks_may_come before.desk.activity) step in
    told_by (UpdateRegion window) set answer before after told admitted.0 admitted.1 admitted.2

pub visible_is_told : (window : ℕ) (answer : WindowReply) (before after : ToolboxState) → is_updating window before.desk.activity ≡ false → IsStep (Window (VisibleRegion window)) (Ok (reply.Window answer)) before after → IsRegionTold (visible_of window before.desk.windows) answer
visible_is_told window answer before after closed step =
    visible_by window answer before after (visible_of window before.desk.windows)
    (λ x middle answered. (subst (λ b. IsWindowAnswer (if b then Some before.desk.begun else None) (VisibleRegion window) (Ok x) before.desk middle) closed answered).1.1.0) step

pub update_is_told : (window : ℕ) (answer : WindowReply) (before after : ToolboxState) → is_updating window before.desk.activity ≡ false → IsStep (Window (UpdateRegion window)) (Ok (reply.Window answer)) before after → IsRegionTold (update_of window before.desk.windows) answer
update_is_told window answer before after closed step =
    update_by window answer before after (update_of window before.desk.windows)
    (λ x middle answered. (subst (λ b. IsWindowAnswer (if b then Some (λ p. false) else None) (UpdateRegion window) (Ok x) before.desk middle) closed answered).1.1.0) step

-- while the window's update is open, it is told by what was to be redrawn when that began
module _ (window : ℕ) (first last : ToolboxState) (cs : List Call) (answers : List (Result Reply Refusal)) (answer : WindowReply) (rests : IsNotEnded window cs) where
  module _ (begun middle : ToolboxState) (begin : IsStep (Update (update.Begin window)) done first begun) (run : IsRunOfCalls begun cs answers middle) where
    open_then : (middle.desk.activity ≡ Updating window) × (middle.desk.begun ≡ begun.desk.begun)
    open_then = stays_open window begun middle cs answers rests (update_made (update.Begin window) Done first begun begin).step.1.1.opened run

    updating : is_updating window middle.desk.activity ≡ true
    updating = ap (is_updating window) open_then.0 ∙ same_number window

    as_begun : middle.desk.begun ≡ update_of window first.desk.windows
    as_begun = open_then.1 ∙ (λ i p. (update_made (update.Begin window) Done first begun begin).step.1.1.begun p i)

  pub open_visible_is_told : IsRunOfCalls first (begun_until window cs (Window (VisibleRegion window))) (answered_until answers (Ok (reply.Window answer))) last → IsRegionTold (update_of window first.desk.windows) answer
  open_visible_is_told (begun, begin, run) =
      let split = split_run begun last cs answers (Window (VisibleRegion window)) (Ok (reply.Window answer)) run in
      visible_by window answer split.0 last (update_of window first.desk.windows)
      (λ x middle answered. subst (λ set. IsRegionTold set x) (as_begun begun split.0 begin split.1)
      (subst (λ b. IsWindowAnswer (if b then Some split.0.desk.begun else None) (VisibleRegion window) (Ok x) split.0.desk middle) (updating begun split.0 begin split.1) answered).0) split.2

  pub open_update_is_told : IsRunOfCalls first (begun_until window cs (Window (UpdateRegion window))) (answered_until answers (Ok (reply.Window answer))) last → IsRegionTold (λ p. false) answer
  open_update_is_told (begun, begin, run) =
      let split = split_run begun last cs answers (Window (UpdateRegion window)) (Ok (reply.Window answer)) run in
      update_by window answer split.0 last (λ p. false)
      (λ x middle answered. (subst (λ b. IsWindowAnswer (if b then Some (λ p. false) else None) (UpdateRegion window) (Ok x) split.0.desk middle) (updating begun split.0 begin split.1) answered).0) split.2
