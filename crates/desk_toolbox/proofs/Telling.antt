-- Calls about events: which window was last told active, and which activate event is told.
use Rattle.std.proofs.Common.{◌≡◌, ℕ, nat_abs, nat_eq, ◌==◌, Bool, true, false, if◌then◌else◌, List, [], ◌∷◌, ◌++◌, Option, None, Some, Result, Ok, Err, refl, sym, ap, ◌∙◌, subst, arith}
use Rattle.std.proofs.lemmas.Bool.Decides.{nat_tests}
use Rattle.std.proofs.lemmas.List.Elements.{All-head, All-tail}
use Rattle.std.specs.List.{find}
use Rattle.tb_geom.specs.declared.refusal.Refusal.{Refusal}
use Rattle.tb_geom.specs.declared.refusal.Refusal.TheVariants.{OutOfRange}
use Rattle.event_queue.specs.declared.event.Event.{Event}
use Rattle.event_queue.specs.declared.event.EventKind.{EventKind}
use Rattle.event_queue.specs.declared.event.EventKind.TheVariants as kind
use Rattle.event_queue.specs.Events.{is_posted, selects, is_selected, activation, deactivation, update_event}
use Rattle.event_queue.specs.History.{Step, Tells, event_list, telling}
use Rattle.event_queue.specs.Queues.{posted, update_events, event_or_null, next_event, told_after}
use Rattle.event_queue.specs.Telling.{activate_events, first_event, told_from, forgotten}
use Rattle.desk_call.specs.declared.call.Call.{Call}
use Rattle.desk_call.specs.declared.call.Call.TheVariants as asks
use Rattle.desk_call.specs.declared.call.Reply.{Reply}
use Rattle.desk_call.specs.declared.call.Reply.TheVariants as reply
use Rattle.desk_call.specs.declared.event.EventCall.{EventCall}
use Rattle.desk_call.specs.declared.event.EventCall.TheVariants.{Post, Next, Avail, Flush, SetMask}
use Rattle.desk_call.specs.declared.event.EventReply.TheVariants.{Posted}
use Rattle.desk_call.specs.declared.window.WindowCall.{WindowCall}
use Rattle.desk_call.specs.declared.window.WindowCall.TheVariants as window
use Rattle.vis_update.specs.Records.{WindowRecord}
use Rattle.desk_toolbox.specs.declared.events.Events.{Events}
use Rattle.desk_toolbox.specs.Activations.{is_activate, if_activate, activate_event_told, to_dispose}
use Rattle.desk_toolbox.specs.EventSteps.{EventStep, is_word, word_of, with_word, asked_event, posting, told_next, after_telling, event_step, events_left, with_queued}
use Rattle.desk_toolbox.specs.Run.{replied}
use Rattle.desk_toolbox.proofs.Totals.{Ordinary}
use Rattle.desk_toolbox.proofs.StepCounts.{Apart}
use Rattle.desk_toolbox.proofs.Told.{ArePosted, IsPosted}

-- ---- the window last told active

-- what a step leaves of it
abbrev ToldOf : List WindowRecord → EventStep → Type 0
ToldOf ws x = Ordinary x.1.told ws

after_telling_ordinary : (mask : ℕ) (told active : Option ℕ) (ws : List WindowRecord) → Ordinary told ws → Ordinary active ws → Ordinary (told_after mask told active) ws
after_telling_ordinary mask None None ws was is = tt
after_telling_ordinary mask None (Some a) ws was is = by_selected (selects mask kind.Activate)
  where
    by_selected : (b : Bool) → Ordinary (told_from None (if b then Some (activation a) else None)) ws
    by_selected true = is
    by_selected false = tt
after_telling_ordinary mask (Some t) None ws was is = by_selected (selects mask kind.Activate)
  where
    by_selected : (b : Bool) → Ordinary (told_from (Some t) (if b then Some (deactivation t) else None)) ws
    by_selected true = tt
    by_selected false = was
after_telling_ordinary mask (Some t) (Some a) ws was is = by_same (nat_eq t a)
  where
    by_selected : (b : Bool) → Ordinary (told_from (Some t) (if b then Some (deactivation t) else if b then Some (activation a) else None)) ws
    by_selected true = tt
    by_selected false = was

    by_same : (b : Bool) → Ordinary (told_from (Some t) (find (is_selected mask) (if b then [] else deactivation t ∷ activation a ∷ []))) ws
    by_same true = was
    by_same false = by_selected (selects mask kind.Activate)

by_word_told : (w : Result ℕ Refusal) (before : Events) (step : ℕ → EventStep) (ws : List WindowRecord) → Ordinary before.told ws → ((m : ℕ) → ToldOf ws (step m)) → ToldOf ws (with_word w before step)
by_word_told (Ok m) before step ws h each = each m
by_word_told (Err e) before step ws h each = h

abbrev posting_if : Bool → Event → Events → EventStep
posting_if b e before = if b then (Ok (Posted (is_selected before.queue.system_mask e)), with_queued (posted before.queue.system_mask before.queue.events e) before) else (Err OutOfRange, before)

posting_told : (o : Option Event) (before : Events) → (posting o before).1.told ≡ before.told
posting_told None before = refl
posting_told (Some e) before = by_posted (is_posted e.what)
  where
    by_posted : (b : Bool) → (posting_if b e before).1.told ≡ before.told
    by_posted true = refl
    by_posted false = refl

pub step_told_ordinary : (call : EventCall) (active update : Option ℕ) (before : Events) (ws : List WindowRecord) → Ordinary before.told ws → Ordinary active ws → Ordinary (event_step call active update before).1.told ws
step_told_ordinary (Post p) active update before ws was is = subst (λ o. Ordinary o ws) (sym (posting_told (asked_event p) before)) was
step_told_ordinary (Next mask) active update before ws was is = by_word_told (word_of mask) before (λ m. (Ok (told_next m active update before), after_telling m active before)) ws was (λ m. after_telling_ordinary m before.told active ws was is)
step_told_ordinary (Avail mask) active update before ws was is = by_word_told (word_of mask) before (λ m. (Ok (told_next m active update before), before)) ws was (λ m. was)
step_told_ordinary (Flush f) active update before ws was is = by_word_told (word_of f.mask) before _ ws was (λ m. by_word_told (word_of f.stop) before _ ws was (λ stop. was))
step_told_ordinary (SetMask mask) active update before ws was is = by_word_told (word_of mask) before _ ws was (λ m. was)

-- ---- after a call on windows

abbrev pub forgotten_if : Option ℕ → Option ℕ → Option ℕ
forgotten_if None told = told
forgotten_if (Some w) told = forgotten w told

pub left_after : (call : WindowCall) (before : Events) → events_left call before ≡ record before { told = forgotten_if (to_dispose call) before.told }
left_after (window.Dispose s) before = refl
left_after _ before = refl

-- a window that was not forgotten is another
pub forgotten_ordinary : (o told : Option ℕ) (ws : List WindowRecord) → (Apart o told → Ordinary told ws) → Ordinary (forgotten_if o told) ws
forgotten_ordinary None told ws kept = kept tt
forgotten_ordinary (Some w) None ws kept = tt
forgotten_ordinary (Some w) (Some t) ws kept = by_window (nat_eq t w) refl
  where
    by_window : (b : Bool) → nat_eq t w ≡ b → Ordinary (if b then None else Some t) ws
    by_window true e = tt
    by_window false e = let other : (w == t) ≡ false = grind (arith, nat_tests) in kept other

-- ---- the activate event that is told

posted_is_no_activate : (e : Event) → is_posted e.what ≡ true → if_activate e ≡ []
posted_is_no_activate e is = by_kind e.what is
  where
    by_kind : (k : EventKind) → is_posted k ≡ true → (if is_activate k then e ∷ [] else []) ≡ []
    by_kind kind.Null is = refl
    by_kind kind.MouseDown is = refl
    by_kind kind.MouseUp is = refl
    by_kind kind.KeyDown is = refl
    by_kind kind.KeyUp is = refl
    by_kind kind.Update is = refl
    by_kind kind.Activate is = absurd (cc)

-- neither a queued event nor an update event is an activate event
pub queued_is_no_activate : (test : Event → Bool) (update : Option ℕ) (events : List Event) → ArePosted events → if_activate (event_or_null (find test (events ++ update_events update))) ≡ []
queued_is_no_activate test None [] h = refl
queued_is_no_activate test (Some w) [] h = by_test (test (update_event w))
  where
    by_test : (b : Bool) → if_activate (event_or_null (if b then Some (update_event w) else None)) ≡ []
    by_test true = refl
    by_test false = refl
queued_is_no_activate test update (e ∷ events) h = by_test (test e) (queued_is_no_activate test update events (All-tail IsPosted e events h))
  where
    by_test : (b : Bool) → if_activate (event_or_null (find test (events ++ update_events update))) ≡ [] → if_activate (event_or_null (if b then Some e else find test (events ++ update_events update))) ≡ []
    by_test true rest = posted_is_no_activate e (All-head IsPosted e events h)
    by_test false rest = rest

-- what is told from a window told active and an active one, where these wait
abbrev by_waiting : ℕ → ℕ → List Step → List Event → Bool → List Event
by_waiting t a rest es b = if b then event_list (first_event es) ++ telling (told_from (Some t) (first_event es)) (Some a) rest else telling (Some t) (Some a) rest

-- a step of the queue's history, where the mask selects activate events
abbrev pub told_if : Bool → List Step → List Step
told_if b rest = if b then Tells ∷ rest else rest

module _ (mask : ℕ) (update : Option ℕ) (events : List Event) (posted : ArePosted events) (rest : List Step) where
  none_told : if_activate (event_or_null (find (is_selected mask) (events ++ update_events update))) ≡ []
  none_told = queued_is_no_activate (is_selected mask) update events posted

  then_rest : (told active : Option ℕ) → telling told active rest ≡ if_activate (event_or_null (find (is_selected mask) (events ++ update_events update))) ++ telling told active rest
  then_rest told active = sym (ap (λ (es : List Event). es ++ telling told active rest) none_told)

  pub next_tells : (told active : Option ℕ) → telling told active (told_if (selects mask kind.Activate) rest) ≡ if_activate (next_event mask told active events update) ++ telling (told_after mask told active) active rest
  next_tells None None = by_selected (selects mask kind.Activate)
    where
      by_selected : (b : Bool) → telling None None (told_if b rest) ≡ if_activate (event_or_null (find (is_selected mask) (events ++ update_events update))) ++ telling None None rest
      by_selected true = then_rest None None
      by_selected false = then_rest None None
  next_tells None (Some a) = by_selected (selects mask kind.Activate)
    where
      by_selected : (b : Bool) → telling None (Some a) (told_if b rest) ≡ if_activate (event_or_null (if b then Some (activation a) else find (is_selected mask) (events ++ update_events update))) ++ telling (told_from None (if b then Some (activation a) else None)) (Some a) rest
      by_selected true = refl
      by_selected false = then_rest None (Some a)
  next_tells (Some t) None = by_selected (selects mask kind.Activate)
    where
      by_selected : (b : Bool) → telling (Some t) None (told_if b rest) ≡ if_activate (event_or_null (if b then Some (deactivation t) else find (is_selected mask) (events ++ update_events update))) ++ telling (told_from (Some t) (if b then Some (deactivation t) else None)) None rest
      by_selected true = refl
      by_selected false = then_rest (Some t) None
  next_tells (Some t) (Some a) = first_step (selects mask kind.Activate) ∙ by_same (nat_eq t a)
    where
      first_step : (b : Bool) → telling (Some t) (Some a) (told_if b rest) ≡ by_waiting t a rest (activate_events (Some t) (Some a)) b
      first_step true = refl
      first_step false = refl

      by_selected : (b : Bool) → by_waiting t a rest (deactivation t ∷ activation a ∷ []) b ≡ if_activate (event_or_null (if b then Some (deactivation t) else if b then Some (activation a) else find (is_selected mask) (events ++ update_events update))) ++ telling (told_from (Some t) (if b then Some (deactivation t) else if b then Some (activation a) else None)) (Some a) rest
      by_selected true = refl
      by_selected false = then_rest (Some t) (Some a)

      none_waits : (b : Bool) → by_waiting t a rest [] b ≡ if_activate (event_or_null (find (is_selected mask) (events ++ update_events update))) ++ telling (Some t) (Some a) rest
      none_waits true = then_rest (Some t) (Some a)
      none_waits false = then_rest (Some t) (Some a)

      by_same : (c : Bool) → by_waiting t a rest (if c then [] else deactivation t ∷ activation a ∷ []) (selects mask kind.Activate) ≡ if_activate (event_or_null (find (is_selected mask) ((if c then [] else deactivation t ∷ activation a ∷ []) ++ (events ++ update_events update)))) ++ telling (told_from (Some t) (find (is_selected mask) (if c then [] else deactivation t ∷ activation a ∷ []))) (Some a) rest
      by_same true = none_waits (selects mask kind.Activate)
      by_same false = by_selected (selects mask kind.Activate)

-- the history's step of a call, in front of others
abbrev pub telling_on : Call → Result Reply Refusal → List Step → List Step
telling_on (asks.Event (Next mask)) (Ok answer) rest = told_if (selects (nat_abs mask) kind.Activate) rest
telling_on _ _ rest = rest

-- what a step of events tells, with what it leaves
abbrev Tellings : Option ℕ → Option ℕ → EventCall → List Step → EventStep → Type 0
Tellings told active call rest x =
    telling told active (telling_on (asks.Event call) (replied reply.Event x.0) rest)
    ≡ activate_event_told (asks.Event call) (replied reply.Event x.0) ++ telling x.1.told active rest

same_told : (w : Result ℕ Refusal) (before : Events) (step : ℕ → EventStep) → ((m : ℕ) → (step m).1.told ≡ before.told) → (with_word w before step).1.told ≡ before.told
same_told (Ok m) before step each = each m
same_told (Err e) before step each = refl

pub event_tells : (call : EventCall) (active update : Option ℕ) (before : Events) (rest : List Step) → ArePosted before.queue.events → Tellings before.told active call rest (event_step call active update before)
event_tells (Post p) active update before rest posted = ap (λ o. telling o active rest) (sym (posting_told (asked_event p) before))
event_tells (Next mask) active update before rest posted = by_word (is_word mask)
  where
    by_word : (b : Bool) → Tellings before.told active (Next mask) rest (with_word (if b then Ok (nat_abs mask) else Err OutOfRange) before (λ m. (Ok (told_next m active update before), after_telling m active before)))
    by_word true = next_tells (nat_abs mask) update before.queue.events posted rest before.told active
    by_word false = refl
event_tells (Avail mask) active update before rest posted =
    ap (λ o. telling o active rest) (sym (same_told (word_of mask) before (λ m. (Ok (told_next m active update before), before)) (λ m. refl)))
event_tells (Flush f) active update before rest posted =
    ap (λ o. telling o active rest) (sym (same_told (word_of f.mask) before _ (λ m. same_told (word_of f.stop) before _ (λ stop. refl))))
event_tells (SetMask mask) active update before rest posted = ap (λ o. telling o active rest) (sym (same_told (word_of mask) before _ (λ m. refl)))
