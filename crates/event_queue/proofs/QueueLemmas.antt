-- A queue that is gone through once, each event being taken from the front and put back or not.
use Rattle.std.proofs.Common.{◌≡◌, ℕ, ◌+◌, ◌-◌, ◌<◌, ◌≤◌, Bool, true, false, not, ◌||◌, if◌then◌else◌, nat_lt, nat_eq, List, [], ◌∷◌, ◌++◌, length, take, drop, get_or, slice_get, Option, None, Some, refl, sym, ap, ◌∙◌, subst, arith}
use Rattle.std.specs.List.{find, list_any}
use Rattle.std.specs.Option.{is_some, option_or}
use Rattle.std.proofs.lemmas.List.{drop_more, take_more, append_assoc, append-nil, length_push, drop-append-le, length-drop}
use Rattle.std.proofs.lemmas.List.Folds.{find-append, list_any-append}
use Rattle.std.proofs.lemmas.Bool.{false≢true, lt-ltb}
use Rattle.circular_buffer.specs.Buffer.{Buffer, buffer, keep_last}
use Rattle.event_queue.specs.declared.event.Event.{Event}
use Rattle.event_queue.specs.declared.event.EventKind.TheVariants.{Activate}
use Rattle.event_queue.specs.Events.{null_event, activation, deactivation, selects, is_selected}
use Rattle.event_queue.specs.Telling.{activate_events, first_event}
use Rattle.event_queue.specs.Queues.{Queue, added, without_first, flushed, event_or_null, update_events, next_event}

-- an event that is put back, or none
abbrev pub back : Bool → Event → List Event
back true e = e ∷ []
back false e = []

pub without_first_more : (test : Event → Bool) (events : List Event) (e : Event) → without_first test (events ++ e ∷ []) ≡ without_first test events ++ back (is_some (find test events) || not (test e)) e
without_first_more test [] e = by_test (test e)
  where
    by_test : (b : Bool) → (if b then [] else e ∷ []) ≡ back (not b) e
    by_test true = refl
    by_test false = refl
without_first_more test (x ∷ events) e = by_test (test x) (without_first_more test events e)
  where
    by_test : (b : Bool) → without_first test (events ++ e ∷ []) ≡ without_first test events ++ back (is_some (find test events) || not (test e)) e → (if b then events ++ e ∷ [] else x ∷ without_first test (events ++ e ∷ [])) ≡ (if b then events else x ∷ without_first test events) ++ back (is_some (if b then Some x else find test events) || not (test e)) e
    by_test true rest = refl
    by_test false rest = ap (λ es. x ∷ es) rest

pub flushed_more : (test stop : Event → Bool) (events : List Event) (e : Event) → flushed test stop (events ++ e ∷ []) ≡ flushed test stop events ++ back ((list_any stop events || stop e) || not (test e)) e
flushed_more test stop [] e = by_tests (stop e) (test e)
  where
    by_tests : (s t : Bool) → (if s then e ∷ [] else if t then [] else e ∷ []) ≡ back (s || not t) e
    by_tests true t = refl
    by_tests false true = refl
    by_tests false false = refl
flushed_more test stop (x ∷ events) e = by_tests (stop x) (test x) (flushed_more test stop events e)
  where
    by_tests : (s t : Bool) → flushed test stop (events ++ e ∷ []) ≡ flushed test stop events ++ back ((list_any stop events || stop e) || not (test e)) e →
        (if s then x ∷ (events ++ e ∷ []) else if t then flushed test stop (events ++ e ∷ []) else x ∷ flushed test stop (events ++ e ∷ [])) ≡ (if s then x ∷ events else if t then flushed test stop events else x ∷ flushed test stop events) ++ back (((s || list_any stop events) || stop e) || not (test e)) e
    by_tests true t rest = refl
    by_tests false true rest = rest
    by_tests false false rest = ap (λ es. x ∷ es) rest

-- in a queue that was gone through up to i, the event in front is the one at i
pub front_is : (all now kept : List Event) (i : ℕ) (e : Event) → i < length all → now ≡ drop i all ++ kept → Some e ≡ slice_get now 0 → get_or all i e ≡ e
front_is all now kept i e low is front = sym (ap event_or_null front ∙ ap (λ es. event_or_null (slice_get es 0)) is ∙ ap (λ es. event_or_null (slice_get (es ++ kept) 0)) (drop_more all i e low))

pub front_off : (all now kept : List Event) (i : ℕ) → i < length all → now ≡ drop i all ++ kept → drop 1 now ≡ drop (i + 1) all ++ kept
front_off all now kept i low is = ap (drop 1) is ∙ ap (λ es. drop 1 (es ++ kept)) (drop_more all i null_event low)

pub front_there : (all now kept : List Event) (i : ℕ) → i < length all → now ≡ drop i all ++ kept → is_some (slice_get now 0) ≡ true
front_there all now kept i low is = ap (λ es. is_some (slice_get es 0)) is ∙ ap (λ es. is_some (slice_get (es ++ kept) 0)) (drop_more all i null_event low)

abbrev pub queue_with : ℕ → List Event → Queue
queue_with system_mask events = record { events = events; system_mask = system_mask }

pub added_with_room : (events : List Event) (e : Event) → nat_lt (length events) 20 ≡ true → added events e ≡ events ++ e ∷ []
unfolding added
added_with_room events e low = ap (λ b. if b then events ++ e ∷ [] else drop 1 events ++ e ∷ []) low

pub added_is_kept : (events : List Event) (e : Event) → length events ≤ 20 → keep_last 20 (events ++ e ∷ []) ≡ added events e
unfolding added
added_is_kept events e low = by_room (nat_lt (length events) 20) refl
  where
    by_room : (b : Bool) → nat_lt (length events) 20 ≡ b → keep_last 20 (events ++ e ∷ []) ≡ (if b then events ++ e ∷ [] else drop 1 events ++ e ∷ [])
    by_room true h =
        let n : length events + 1 - 20 ≡ 0 = grind (arith) in
        ap (λ n. drop n (events ++ e ∷ [])) (ap (λ n. n - 20) (length_push events e) ∙ n)
    by_room false h =
        let n : length events + 1 - 20 ≡ 1 = grind (arith) in
        let some : 1 ≤ length events = grind (arith) in
        ap (λ n. drop n (events ++ e ∷ [])) (ap (λ n. n - 20) (length_push events e) ∙ n) ∙ drop-append-le 1 events (e ∷ []) some

pub appended : (after : Buffer Event) (events : List Event) (capacity system_mask : ℕ) (e : Event) → after ≡ buffer (keep_last capacity (events ++ e ∷ [])) capacity → capacity ≡ 20 → length events ≤ 20 → queue_with system_mask after.items ≡ queue_with system_mask (added events e)
appended after events capacity system_mask e is room bound = ap (queue_with system_mask) (ap (λ (b : Buffer Event). b.items) is ∙ ap (λ n. keep_last n (events ++ e ∷ [])) room ∙ added_is_kept events e bound)

pub added_is_bounded : (events : List Event) (e : Event) → length events ≤ 20 → length (added events e) ≤ 20
unfolding added
added_is_bounded events e low = by_room (nat_lt (length events) 20) refl
  where
    by_room : (b : Bool) → nat_lt (length events) 20 ≡ b → length (if b then events ++ e ∷ [] else drop 1 events ++ e ∷ []) ≤ 20
    by_room true h =
        let n : length events + 1 ≤ 20 = grind (arith) in
        subst (λ n. n ≤ 20) (sym (length_push events e)) n
    by_room false h =
        let n : length events - 1 + 1 ≤ 20 = grind (arith) in
        subst (λ n. n ≤ 20) (sym (length_push (drop 1 events) e ∙ ap (λ n. n + 1) (length-drop 1 events))) n

-- the event in front is put back
pub front_put_back : (all now kept : List Event) (i : ℕ) (e : Event) → i < length all → length now ≤ 20 → now ≡ drop i all ++ kept → added (drop 1 now) e ≡ drop (i + 1) all ++ (kept ++ e ∷ [])
front_put_back all now kept i e low bound is =
    added_with_room (drop 1 now) e (ap (λ n. nat_lt n 20) (length-drop 1 now) ∙ lt-ltb (length now - 1) 20 (grind (arith))) ∙ ap (λ es. es ++ e ∷ []) (front_off all now kept i low is) ∙ append_assoc (drop (i + 1) all) kept (e ∷ [])

-- the list up to i, and the event at i
pub one_more : (all : List Event) (i : ℕ) (e : Event) → i < length all → get_or all i e ≡ e → take (i + 1) all ≡ take i all ++ e ∷ []
one_more all i e low is = take_more all i e low ∙ ap (λ x. take i all ++ x ∷ []) is

-- whether an event is the first that passes, where `found` was found before it
still_found : (found : Option Event) (b : Bool) (e : Event) → (is_some found || not b) ≡ true → found ≡ option_or found (if b then Some e else None)
still_found (Some x) b e h = refl
still_found None true e h = absurd (false≢true h)
still_found None false e h = refl

now_found : (found : Option Event) (b : Bool) (e : Event) → (is_some found || not b) ≡ false → Some e ≡ option_or found (if b then Some e else None)
now_found (Some x) b e h = absurd (false≢true (sym h))
now_found None true e h = refl
now_found None false e h = absurd (false≢true (sym h))

-- one turn of the search for the first event that passes
pub record IsSearched (test : Event → Bool) (all now : List Event) (found : Option Event) (i : ℕ) : Type 0 where
  pub events : now ≡ drop i all ++ without_first test (take i all)
  pub found_is : found ≡ find test (take i all)

pub searched_on : (test : Event → Bool) (all now : List Event) (found : Option Event) (i : ℕ) (e : Event) → i < length all → length now ≤ 20 → IsSearched test all now found i → Some e ≡ slice_get now 0
    → (is_some found || not (test e)) ≡ true → IsSearched test all (added (drop 1 now) e) found (i + 1)
searched_on test all now found i e low bound h front stays =
    let at : get_or all i e ≡ e = front_is all now (without_first test (take i all)) i e low h.events front in
    let more : take (i + 1) all ≡ take i all ++ e ∷ [] = one_more all i e low at in
    let is : without_first test (take (i + 1) all) ≡ without_first test (take i all) ++ e ∷ [] =
    ap (without_first test) more ∙ without_first_more test (take i all) e ∙ ap (λ o. without_first test (take i all) ++ back (is_some o || not (test e)) e) (sym h.found_is) ∙ ap (λ b. without_first test (take i all) ++ back b e) stays in
    record {
      events = front_put_back all now (without_first test (take i all)) i e low bound h.events ∙ ap (λ es. drop (i + 1) all ++ es) (sym is);
      found_is = still_found found (test e) e stays ∙ ap (λ o. option_or o (find test (e ∷ []))) h.found_is ∙ sym (ap (find test) more ∙ find-append test (take i all) (e ∷ []));
    }

pub searched_out : (test : Event → Bool) (all now : List Event) (found : Option Event) (i : ℕ) (e : Event) → i < length all → IsSearched test all now found i → Some e ≡ slice_get now 0
    → (is_some found || not (test e)) ≡ false → IsSearched test all (drop 1 now) (Some e) (i + 1)
searched_out test all now found i e low h front goes =
    let at : get_or all i e ≡ e = front_is all now (without_first test (take i all)) i e low h.events front in
    let more : take (i + 1) all ≡ take i all ++ e ∷ [] = one_more all i e low at in
    let is : without_first test (take (i + 1) all) ≡ without_first test (take i all) ++ [] =
    ap (without_first test) more ∙ without_first_more test (take i all) e ∙ ap (λ o. without_first test (take i all) ++ back (is_some o || not (test e)) e) (sym h.found_is) ∙ ap (λ b. without_first test (take i all) ++ back b e) goes in
    record {
      events = front_off all now (without_first test (take i all)) i low h.events ∙ ap (λ es. drop (i + 1) all ++ es) (sym (is ∙ append-nil (without_first test (take i all))));
      found_is = now_found found (test e) e goes ∙ ap (λ o. option_or o (find test (e ∷ []))) h.found_is ∙ sym (ap (find test) more ∙ find-append test (take i all) (e ∷ []));
    }

-- one turn of a flush
pub record IsFlushed (test stop : Event → Bool) (all now : List Event) (stopped : Bool) (i : ℕ) : Type 0 where
  pub events : now ≡ drop i all ++ flushed test stop (take i all)
  pub stopped_is : stopped ≡ list_any stop (take i all)

pub flushed_on : (test stop : Event → Bool) (all now next : List Event) (stopped : Bool) (i : ℕ) (e : Event) → i < length all → length now ≤ 20 → IsFlushed test stop all now stopped i → Some e ≡ slice_get now 0
    → next ≡ (if (stopped || stop e) || not (test e) then added (drop 1 now) e else drop 1 now) → IsFlushed test stop all next (stopped || stop e) (i + 1)
flushed_on test stop all now next stopped i e low bound h front next_is =
    let at : get_or all i e ≡ e = front_is all now (flushed test stop (take i all)) i e low h.events front in
    let more : take (i + 1) all ≡ take i all ++ e ∷ [] = one_more all i e low at in
    let is : flushed test stop (take (i + 1) all) ≡ flushed test stop (take i all) ++ back ((stopped || stop e) || not (test e)) e =
    ap (flushed test stop) more ∙ flushed_more test stop (take i all) e ∙ ap (λ s. flushed test stop (take i all) ++ back ((s || stop e) || not (test e)) e) (sym h.stopped_is) in
    record {
      events = next_is ∙ by_test ((stopped || stop e) || not (test e)) ∙ ap (λ es. drop (i + 1) all ++ es) (sym is);
      stopped_is = ap (λ s. s || stop e) h.stopped_is ∙ sym (ap (list_any stop) more ∙ list_any-append stop (take i all) (e ∷ []) ∙ ap (λ b. list_any stop (take i all) || b) (or_false (stop e)));
    }
  where
    by_test : (b : Bool) → (if b then added (drop 1 now) e else drop 1 now) ≡ drop (i + 1) all ++ (flushed test stop (take i all) ++ back b e)
    by_test true = front_put_back all now (flushed test stop (take i all)) i e low bound h.events
    by_test false = front_off all now (flushed test stop (take i all)) i low h.events ∙ ap (λ es. drop (i + 1) all ++ es) (sym (append-nil (flushed test stop (take i all))))

    or_false : (b : Bool) → (b || false) ≡ b
    or_false true = refl
    or_false false = refl

-- of activate events the first is answered, or none
pub first_selected : (mask : ℕ) (told active : Option ℕ) → find (is_selected mask) (activate_events told active) ≡ (if selects mask Activate then first_event (activate_events told active) else None)
first_selected mask None None = by_test (selects mask Activate)
  where
    by_test : (b : Bool) → find (is_selected mask) [] ≡ (if b then None else None)
    by_test true = refl
    by_test false = refl
first_selected mask None (Some a) = refl
first_selected mask (Some t) None = refl
first_selected mask (Some t) (Some a) = by_tests (nat_eq t a) (selects mask Activate) refl
  where
    by_tests : (same b : Bool) → selects mask Activate ≡ b → find (is_selected mask) (if same then [] else deactivation t ∷ activation a ∷ []) ≡ (if b then first_event (if same then [] else deactivation t ∷ activation a ∷ []) else None)
    by_tests true true h = refl
    by_tests true false h = refl
    by_tests false true h = ap (λ b. if b then Some (deactivation t) else if b then Some (activation a) else None) h
    by_tests false false h = ap (λ b. if b then Some (deactivation t) else if b then Some (activation a) else None) h

-- what waits is searched in three parts
pub next_in_parts : (mask : ℕ) (told active : Option ℕ) (events : List Event) (update : Option ℕ) → next_event mask told active events update ≡ event_or_null (option_or (find (is_selected mask) (activate_events told active)) (option_or (find (is_selected mask) events) (find (is_selected mask) (update_events update))))
next_in_parts mask told active events update =
    ap event_or_null (find-append (is_selected mask) (activate_events told active) (events ++ update_events update) ∙ ap (option_or (find (is_selected mask) (activate_events told active))) (find-append (is_selected mask) events (update_events update)))

-- no activate event is answered, and a queued one is
pub next_is_queued : (mask : ℕ) (told active : Option ℕ) (events : List Event) (update : Option ℕ) (e : Event) → find (is_selected mask) (activate_events told active) ≡ None → find (is_selected mask) events ≡ Some e → e ≡ next_event mask told active events update
next_is_queued mask told active events update e none some =
    sym (next_in_parts mask told active events update ∙ ap (λ o. event_or_null (option_or o (option_or (find (is_selected mask) events) (find (is_selected mask) (update_events update))))) none ∙ ap (λ o. event_or_null (option_or o (find (is_selected mask) (update_events update)))) some)

-- neither an activate event nor a queued one is answered
pub next_is_last : (mask : ℕ) (told active : Option ℕ) (events : List Event) (update : Option ℕ) (e : Event) → find (is_selected mask) (activate_events told active) ≡ None → find (is_selected mask) events ≡ None → e ≡ event_or_null (find (is_selected mask) (update_events update)) → e ≡ next_event mask told active events update
next_is_last mask told active events update e none empty is =
    is ∙ sym (next_in_parts mask told active events update ∙ ap (λ o. event_or_null (option_or o (option_or (find (is_selected mask) events) (find (is_selected mask) (update_events update))))) none ∙ ap (λ o. event_or_null (option_or o (find (is_selected mask) (update_events update)))) empty)
