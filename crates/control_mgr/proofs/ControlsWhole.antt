-- Controls that are whole are whole after any call about controls.
use Rattle.std.proofs.Common.{◌≡◌, ℕ, pos, ◌<◌, Bool, true, false, not, ◌==◌, cond, List, [], ◌∷◌, ◌++◌, length, Option, Some, None, Result, Ok, Err, refl, sym, ap, ◌∙◌, subst, arith}
use Rattle.std.specs.Prelude.{is_none, nat_le, nat_lt, slice_get}
use Rattle.std.specs.Option.{option_and_then}
use Rattle.std.proofs.lemmas.Bool.{false≢true}
use Rattle.std.proofs.lemmas.Bool.Decides.{nat_tests}
use Rattle.tb_geom.specs.declared.point.Point.{Point}
use Rattle.tb_geom.specs.declared.refusal.Refusal.{Refusal}
use Rattle.tb_geom.specs.declared.refusal.Refusal.TheVariants.{NoDefinition, NoSuchControl, NoSuchName, NoSuchWindow, OutOfRange, TooLong, TooMany}
use Rattle.tb_geom.specs.Refusals.{first_refusal}
use Rattle.control_values.specs.declared.part.ControlPart.{ControlPart}
use Rattle.control_values.specs.Highlights.{is_highlight}
use Rattle.control_values.specs.Parts.{number_of}
use Rattle.control_values.specs.Settings.{Setting}
use Rattle.window_items.specs.Items.{are_before, items_of, count_of}
use Rattle.window_items.proofs.SerialLemmas.{or_parts}
use Rattle.control_mgr.specs.Fields.{with_highlight, with_place, with_shown, with_size, with_title}
use Rattle.window_items.proofs.LawLemmas.{no_others}
use Rattle.window_items.proofs.WindowLemmas.{items_of-push, found_in}
use Rattle.def_iface.specs.Slots.{has_kind}
use Rattle.desk_call.specs.declared.activity.Activity.{Activity}
use Rattle.desk_call.specs.declared.activity.Activity.TheVariants.{TrackingControl}
use Rattle.desk_call.specs.declared.control.ControlCall.{ControlCall}
use Rattle.desk_call.specs.declared.control.ControlCall.TheVariants.{New, Dispose, Show, Hide, Move, Size, SetValue, SetMinimum, SetMaximum, Hilite, SetTitle, Get, Find, Test, Track, Step, End}
use Rattle.desk_call.specs.declared.control.ControlOf.{ControlOf}
use Rattle.desk_call.specs.declared.control.ControlReply.{ControlReply}
use Rattle.desk_call.specs.declared.control.NewControl.{NewControl}
use Rattle.desk_call.specs.declared.control.PointAtControl.{PointAtControl}
use Rattle.vis_update.specs.Records.{WindowRecord}
use Rattle.window_mgr.specs.Finding.{record_with}
use Rattle.window_mgr.specs.FullDesk.{FullDesk, FullState}
use Rattle.window_mgr.specs.Refused.{is_missing, longest_text}
use Rattle.control_mgr.specs.declared.laying.Lie.{Lie}
use Rattle.control_mgr.specs.ControlDesks.{ControlDesk, ControlRecord, ControlSlot, ControlsState, IsControlDeskUnchanged, control_of, index_of}
use Rattle.control_mgr.specs.ControlRefusals.{control_refusals, is_full, is_setting, judged_refusals, may_be_maximum, may_be_minimum, most_controls, offered_control}
use Rattle.control_mgr.specs.ControlSteps.{AreLayersOf, IsControlDisposed, IsControlEffect, IsControlLaid, IsControlMade, IsControlStep, IsHighlighted, IsControlReleased, IsShownAnew, IsStepped, IsTracked, SameShown, highlight_of, is_thumb, new_control, released, tested, with_maximum, with_minimum, with_value}
use Rattle.control_mgr.specs.Judged.{may_be_in, may_get_size, may_go_to}
use Rattle.control_mgr.specs.Settled.{IsSettledControl, MayHaveSetting}
use Rattle.control_mgr.specs.Spots.{with_lie, with_state}
use Rattle.control_mgr.specs.WholeControls.{AreWholeControls}
use Rattle.control_mgr.proofs.Disposed.{whole_ended}
use Rattle.control_mgr.proofs.Lays.{lie_parts}
use Rattle.control_mgr.proofs.Made.{whole_made}
use Rattle.control_mgr.proofs.Moves.{lie_of}
use Rattle.control_mgr.proofs.Settled.{MayBeSo, changed_alike, settled_told, whole_laid, whole_put}
use Rattle.control_mgr.proofs.Sets.{state_of_control}
use Rattle.control_mgr.proofs.Sound.{MayHave, after_shows, found_shows, maximum_given, minimum_given, part_shows, released_given, setting_given, value_given}
use Rattle.control_mgr.proofs.Steps.{none_hold}
use Rattle.window_items.proofs.EditLemmas.{All-there}

-- ---- reasons that do not hold

-- of reasons of which none holds, the first ones do not
pub front_fails : (xs ys : List (Bool × Refusal)) → first_refusal (xs ++ ys) ≡ None → first_refusal xs ≡ None
front_fails [] ys none = refl
front_fails (x ∷ xs) ys none = by_test (front_fails xs ys) x.0 none
  where
    by_test : (first_refusal (xs ++ ys) ≡ None → first_refusal xs ≡ None) → (b : Bool) → cond b (Some x.1) (first_refusal (xs ++ ys)) ≡ None → cond b (Some x.1) (first_refusal xs) ≡ None
    by_test rest true none = absurd (cc)
    by_test rest false none = rest none

not_false : (b : Bool) → not b ≡ false → b ≡ true
not_false true e = refl
not_false false e = absurd (false≢true (sym e))

-- a window that is not missing
there_window : (o : Option WindowRecord) → is_none o ≡ false → (w : WindowRecord) × (o ≡ Some w)
there_window None e = absurd (false≢true (sym e))
there_window (Some w) e = (w, refl)

-- ---- one control that is changed

module _ (before after : ControlDesk) (whole : AreWholeControls before.desk.windows.desk.windows before.controls) where
  abbrev ws : List WindowRecord
  ws = before.desk.windows.desk.windows

  abbrev cs : List ControlRecord
  cs = before.controls.controls

  -- the controls are whole afterwards
  abbrev IsWhole : Type 0
  IsWhole = AreWholeControls after.desk.windows.desk.windows after.controls

  -- nothing of them changed
  same_whole : after.desk.windows.desk ≡ before.desk.windows.desk → after.controls ≡ before.controls → IsWhole
  same_whole desk controls = subst (λ (x : FullDesk × ControlsState). AreWholeControls x.0.windows x.1) (λ i. (sym desk i, sym controls i)) whole

  still_whole : SameShown before after → IsWhole
  still_whole same = same_whole (ap (λ (s : FullState). s.desk) same.windows) same.controls

  unchanged_whole : IsControlDeskUnchanged before after → IsWhole
  unchanged_whole same = same_whole same.desk.windows.desk same.controls

  -- a control got another state
  pub anew_whole : (c : ControlOf) (f : ControlRecord → ControlRecord) → ((x : ControlRecord) → f x ≡ with_state (state_of_control (f x)) x) → ((x : ControlRecord) → control_of c cs ≡ Some x → IsSettledControl x → MayHave (state_of_control (f x)))
      → IsShownAnew c f before after → IsWhole
  anew_whole c f keeps may done =
      subst (λ (x : List WindowRecord × ControlsState). AreWholeControls x.0 x.1) (λ i. (ap (λ (d : FullDesk). d.windows) (sym done.redrawn.desk) i, sym done.changed.state i))
      (whole_put (state_of_control (f control)) (may control (ap (option_and_then (slice_get cs)) done.changed.found ∙ done.changed.changed.there) (All-there IsSettledControl done.changed.at cs control done.changed.changed.there whole.settled)) done.changed.at ws before.controls done.changed.controls whole
      (changed_alike f (with_state (state_of_control (f control))) done.changed.at cs done.changed.controls agrees done.changed.changed))
    where
      control : ControlRecord
      control = done.changed.changed.control

      agrees : (x : ControlRecord) → slice_get cs done.changed.at ≡ Some x → f x ≡ with_state (state_of_control (f control)) x
      agrees x e =
          let same : x ≡ control = one x control e done.changed.changed.there in
          keeps x ∙ ap (λ (y : ControlRecord). with_state (state_of_control (f y)) x) same
        where
          one : (y z : ControlRecord) → slice_get cs done.changed.at ≡ Some y → slice_get cs done.changed.at ≡ Some z → y ≡ z
          one y z e g = cc

  -- a control came to lie so
  laid_whole : (c : ControlOf) (f : ControlRecord → ControlRecord) → ((x : ControlRecord) → f x ≡ with_lie (lie_of (f x)) x)
      → ((x : ControlRecord) → control_of c cs ≡ Some x → IsSettledControl x → MayBeSo x.kept.definition.definition (f x)) → IsControlLaid c f before after → IsWhole
  laid_whole c f keeps may done =
      subst (λ (x : List WindowRecord × ControlsState). AreWholeControls x.0 x.1) (λ i. (ap (λ (d : FullDesk). d.windows) (sym done.laid.set.desk) i, sym done.changed.state i))
      (whole_laid (lie_of (f control)) done.changed.at c.window done.laid.layers ws before.controls done.changed.controls whole (found_in c.window c.control done.changed.at cs done.changed.found) may_be
      (changed_alike f (with_lie (lie_of (f control))) done.changed.at cs done.changed.controls agrees done.changed.changed)
      (subst (λ xs. AreLayersOf (items_of c.window xs) done.laid.layers) (ap (λ (s : ControlsState). s.controls) done.changed.state) done.laid.joined))
    where
      control : ControlRecord
      control = done.changed.changed.control

      agrees : (x : ControlRecord) → slice_get cs done.changed.at ≡ Some x → f x ≡ with_lie (lie_of (f control)) x
      agrees x e =
          let same : x ≡ control = one x control e done.changed.changed.there in
          keeps x ∙ ap (λ (y : ControlRecord). with_lie (lie_of (f y)) x) same
        where
          one : (y z : ControlRecord) → slice_get cs done.changed.at ≡ Some y → slice_get cs done.changed.at ≡ Some z → y ≡ z
          one y z e g = cc

      may_be : (x : ControlRecord) → slice_get cs done.changed.at ≡ Some x → MayBeSo x.kept.definition.definition (with_lie (lie_of (f control)) x)
      may_be x e = subst (MayBeSo x.kept.definition.definition) (agrees x e) (may x (ap (option_and_then (slice_get cs)) done.changed.found ∙ e) (All-there IsSettledControl done.changed.at cs x e whole.settled))

  -- one that lies as it lay, shown or hidden
  stays : (shown : Bool) (x : ControlRecord) → IsSettledControl x → MayBeSo x.kept.definition.definition (with_shown shown x)
  stays shown x its = record { placed = its.placed; fits = its.fits; inside = its.inside; setting = its.setting; highlight = its.highlight }

  -- one that may be placed so in its window
  placed_so : (x : ControlRecord) → IsSettledControl x → (k : Lie) (window : ℕ) → is_missing window ws ≡ false → may_be_in (Some x.kept.definition.definition) k.place k.size (record_with window ws) ≡ true → MayBeSo x.kept.definition.definition (with_lie k x)
  placed_so x its k window there may =
      let w = there_window (record_with window ws) there in
      let so = (lie_parts x.kept.definition.definition k w.0.place (sym (ap (may_be_in (Some x.kept.definition.definition) k.place k.size) w.1) ∙ may)).so in
      record { placed = so.placed; fits = so.fits; inside = so.inside; setting = its.setting; highlight = its.highlight }

  -- where nothing refuses a call about a control, its window is there, and what else was asked holds
  asked : (c : ControlOf) (b : Bool) → first_refusal ((is_missing c.window ws, NoSuchWindow) ∷ (is_none (index_of c cs), NoSuchControl) ∷ (not b, OutOfRange) ∷ []) ≡ None → (is_missing c.window ws ≡ false) × (b ≡ true)
  asked c b none =
      let first = none_hold (is_missing c.window ws) NoSuchWindow ((is_none (index_of c cs), NoSuchControl) ∷ (not b, OutOfRange) ∷ []) none in
      let second = none_hold (is_none (index_of c cs)) NoSuchControl ((not b, OutOfRange) ∷ []) first.1 in
      (first.0, not_false b (none_hold (not b) OutOfRange [] second.1).0)

  -- ---- controls that are made and ended

  module _ (n : NewControl) (serial : ℕ) (none : first_refusal (control_refusals (New n) before.desk.windows.desk before.controls) ≡ None) (made : IsControlMade n serial before after) where
    abbrev one : ControlRecord
    one = new_control n serial made.loan.slot made.begun

    self : (a : ℕ) → (a == a) ≡ true
    self a = grind (arith, nat_tests)

    -- the definition that was taken is the one that was judged
    offered_is : offered_control n.kind before.controls.stock ≡ Some made.loan.definition
    offered_is = ap (option_and_then (λ at. option_and_then (λ (s : ControlSlot). s.held) (slice_get before.controls.stock at))) made.taken.first ∙ ap (option_and_then (λ (s : ControlSlot). s.held)) made.taken.held

    reasons : first_refusal (judged_refusals n (Some made.loan.definition) before.desk.windows.desk cs before.controls.next) ≡ None
    reasons =
        ap (λ o. first_refusal (judged_refusals n o before.desk.windows.desk cs before.controls.next)) (sym offered_is)
        ∙ front_fails (judged_refusals n (offered_control n.kind before.controls.stock) before.desk.windows.desk cs before.controls.next) ((is_none (offered_control n.kind before.controls.stock), NoDefinition) ∷ [])
        (none_hold (not (has_kind n.kind before.controls.stock)) NoSuchName
        (judged_refusals n (offered_control n.kind before.controls.stock) before.desk.windows.desk cs before.controls.next ++ (is_none (offered_control n.kind before.controls.stock), NoDefinition) ∷ []) none).1

    abbrev placed : Bool
    placed = may_be_in (Some made.loan.definition) n.place n.size (record_with n.window ws)

    abbrev others : List (Bool × Refusal)
    others = (not (is_setting n.minimum n.maximum n.value), OutOfRange) ∷ (nat_lt longest_text (length n.title), TooLong) ∷ (is_full (count_of n.window cs) before.controls.next, TooMany) ∷ []

    -- what was judged: where it may lie, its setting, and how many controls the window has
    record Judged : Type 0 where
      pub there : is_missing n.window ws ≡ false
      pub placed : may_be_in (Some made.loan.definition) n.place n.size (record_with n.window ws) ≡ true
      pub setting : is_setting n.minimum n.maximum n.value ≡ true
      pub room : count_of n.window cs < most_controls

    fewer : (k : ℕ) → nat_le most_controls k ≡ false → k < most_controls
    fewer k e = grind (arith, nat_tests)

    judged : Judged
    judged =
        let first = none_hold (is_missing n.window ws) NoSuchWindow ((not placed, OutOfRange) ∷ others) reasons in
        let second = none_hold (not placed) OutOfRange others first.1 in
        let third = none_hold (not (is_setting n.minimum n.maximum n.value)) OutOfRange ((nat_lt longest_text (length n.title), TooLong) ∷ (is_full (count_of n.window cs) before.controls.next, TooMany) ∷ []) second.1 in
        let fourth = none_hold (nat_lt longest_text (length n.title)) TooLong ((is_full (count_of n.window cs) before.controls.next, TooMany) ∷ []) third.1 in
        let fifth = none_hold (is_full (count_of n.window cs) before.controls.next) TooMany [] fourth.1 in
        record {
          there = first.0;
          placed = not_false placed second.0;
          setting = not_false (is_setting n.minimum n.maximum n.value) third.0;
          room = fewer (count_of n.window cs) (or_parts (nat_le most_controls (count_of n.window cs)) (is_none before.controls.next) fifth.0).0;
        }

    may : MayBeSo made.loan.definition one
    may =
        let w = there_window (record_with n.window ws) judged.there in
        let so = (lie_parts made.loan.definition (record { place = n.place; size = n.size; shown = n.shown }) w.0.place (sym (ap (may_be_in (Some made.loan.definition) n.place n.size) w.1) ∙ judged.placed)).so in
        record { placed = so.placed; fits = so.fits; inside = so.inside; setting = setting_given n.minimum n.maximum n.value judged.setting; highlight = refl }

    made_whole : IsWhole
    made_whole =
        subst (λ (x : List WindowRecord × ControlsState). AreWholeControls x.0 x.1) (λ i. (ap (λ (d : FullDesk). d.windows) (sym made.laid.set.desk) i, record { controls = sym made.controls i; next = sym made.next i; stock = after.controls.stock }))
        (whole_made one made.loan.definition n.kind made.laid.layers ws before.controls after.controls.stock whole made.serials
        (no_others one cs (subst (λ o. are_before o cs ≡ true) made.serials whole.given))
        (settled_told one made.loan.definition made.begun made.loan.slot may made.live) judged.there judged.room made.taken
        (subst (λ xs. AreLayersOf xs made.laid.layers) (ap (items_of n.window) made.controls ∙ items_of-push n.window cs one (self n.window)) made.laid.joined))

  ended_whole : (c : ControlOf) → IsControlDisposed c before after → IsWhole
  ended_whole c gone =
      subst (λ (x : List WindowRecord × ControlsState). AreWholeControls x.0 x.1) (λ i. (ap (λ (d : FullDesk). d.windows) (sym gone.laid.set.desk) i, sym gone.controls i))
      (whole_ended gone.at c.window gone.control gone.laid.layers ws before.controls after.controls.stock whole gone.there (found_in c.window c.control gone.at cs gone.found) gone.shut
      (subst (λ xs. AreLayersOf (items_of c.window xs) gone.laid.layers) (ap (λ (s : ControlsState). s.controls) gone.controls) gone.laid.joined))

  -- ---- each call

  -- another setting, or another highlighting
  set_so : (x : ControlRecord) → IsSettledControl x → (values : Setting) → MayHaveSetting values → MayHave (record (state_of_control x) { values = values })
  set_so x its values may = record { setting = may; highlight = its.highlight }

  lit_so : (h : ℕ) (x : ControlRecord) → IsSettledControl x → is_highlight (pos h) ≡ true → MayHave (state_of_control (with_highlight h x))
  lit_so h x its may = record { setting = its.setting; highlight = may }

  highlighted_whole : (thumb : Bool) (c : ControlOf) (h : ℕ) → is_highlight (pos h) ≡ true → IsHighlighted thumb c h before after → IsWhole
  highlighted_whole true c h may same = still_whole same
  highlighted_whole false c h may done = anew_whole c (with_highlight h) (λ x. refl) (λ x e its. lit_so h x its may) done

  tracked_whole : (p : PointAtControl) (o : Option ControlPart) → IsTracked p o before after → IsWhole
  tracked_whole p None same = unchanged_whole same
  tracked_whole p (Some its) done = highlighted_whole (is_thumb its) p.control (number_of its) (part_shows its) done.1

  stepped_whole : (a : Activity) (p : Point) (answer : Option ControlPart) → IsStepped a p answer before after → IsWhole
  stepped_whole (TrackingControl k) p answer done = highlighted_whole (is_thumb k.part) k.control (highlight_of answer) (found_shows answer) done.2
  stepped_whole a p answer wrong = absurd wrong

  released_whole : (a : Activity) (p : Point) (answer : Option ControlPart) → IsControlReleased a p answer before after → IsWhole
  released_whole (TrackingControl k) p answer done = anew_whole k.control (released k p answer) (λ x. refl)
      (λ x e its. record { setting = released_given k p answer x its.setting; highlight = after_shows k.part x.kept.highlight its.highlight }) done.2
  released_whole a p answer wrong = absurd wrong

  effect_whole : (call : ControlCall) (answer : ControlReply) → first_refusal (control_refusals call before.desk.windows.desk before.controls) ≡ None → IsControlEffect call answer before after → IsWhole
  effect_whole (New n) answer none (serial, is, made) = made_whole n serial none made
  effect_whole (Dispose c) answer none (is, gone) = ended_whole c gone
  effect_whole (Show c) answer none (is, done) = laid_whole c (with_shown true) (λ x. refl) (λ x e its. stays true x its) done
  effect_whole (Hide c) answer none (is, done) = laid_whole c (with_shown false) (λ x. refl) (λ x e its. stays false x its) done
  effect_whole (Move m) answer none (is, done) = laid_whole m.control (with_place m.place) (λ x. refl)
      (λ x e its.
      let its_window = asked m.control (may_go_to m.place (control_of m.control cs) (record_with m.control.window ws)) none in
      placed_so x its (record { place = m.place; size = x.kept.size; shown = x.kept.shown }) m.control.window its_window.0 (ap (λ o. may_go_to m.place o (record_with m.control.window ws)) (sym e) ∙ its_window.1))
      done
  effect_whole (Size z) answer none (is, done) = laid_whole z.control (with_size z.size) (λ x. refl)
      (λ x e its.
      let its_window = asked z.control (may_get_size z.size (control_of z.control cs) (record_with z.control.window ws)) none in
      placed_so x its (record { place = x.kept.place; size = z.size; shown = x.kept.shown }) z.control.window its_window.0 (ap (λ o. may_get_size z.size o (record_with z.control.window ws)) (sym e) ∙ its_window.1))
      done
  effect_whole (SetValue n) answer none done = anew_whole n.control (with_value n.number) (λ x. refl)
      (λ x e its. set_so x its _ (value_given x.kept.values n.number its.setting)) done.2
  effect_whole (SetMinimum n) answer none done = anew_whole n.control (with_minimum n.number) (λ x. refl)
      (λ x e its. set_so x its _ (minimum_given x.kept.values n.number its.setting (ap (may_be_minimum n.number) (sym e) ∙ (asked n.control (may_be_minimum n.number (control_of n.control cs)) none).1))) done.2
  effect_whole (SetMaximum n) answer none done = anew_whole n.control (with_maximum n.number) (λ x. refl)
      (λ x e its. set_so x its _ (maximum_given x.kept.values n.number its.setting (ap (may_be_maximum n.number) (sym e) ∙ (asked n.control (may_be_maximum n.number (control_of n.control cs)) none).1))) done.2
  effect_whole (Hilite n) answer none (h, is, done) = anew_whole n.control (with_highlight h) (λ x. refl)
      (λ x e its. lit_so h x its (ap is_highlight (sym is) ∙ (asked n.control (is_highlight n.number) none).1)) done.2
  effect_whole (SetTitle t) answer none done = anew_whole t.control (with_title t.title) (λ x. refl)
      (λ x e its. record { setting = its.setting; highlight = its.highlight }) done.2
  effect_whole (Get c) answer none (is, same) = unchanged_whole same
  effect_whole (Find p) answer none (is, same) = unchanged_whole same
  effect_whole (Test p) answer none (is, same) = unchanged_whole same
  effect_whole (Track p) answer none (is, done) = tracked_whole p (tested p.control cs p.point) done
  effect_whole (Step p) answer none (its, is, done) = stepped_whole before.desk.activity p its done
  effect_whole (End p) answer none (its, is, done) = released_whole before.desk.activity p its done

-- a call about controls leaves whole controls whole
pub control_whole : (call : ControlCall) (result : Result ControlReply Refusal) (before after : ControlDesk) → AreWholeControls before.desk.windows.desk.windows before.controls
    → IsControlStep call result before after → AreWholeControls after.desk.windows.desk.windows after.controls
control_whole call (Ok answer) before after whole step = effect_whole before after whole call answer step.0 step.1
control_whole call (Err e) before after whole step = unchanged_whole before after whole step.1
