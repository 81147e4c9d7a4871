-- Runs of steps: what is told of one window, and of two.
use Rattle.std.proofs.Common.{◌≡◌, ◌≢◌, ℕ, Bool, true, false, not, if◌then◌else◌, nat_eq, List, [], ◌∷◌, ◌++◌, Option, None, Some, refl, sym, ap, ◌∙◌, subst}
use Rattle.std.proofs.lemmas.Bool.{false≢true, eqb-true}
use Rattle.event_queue.specs.declared.event.Event.{Event}
use Rattle.event_queue.specs.Events.{activation, deactivation}
use Rattle.event_queue.specs.Telling.{activate_events, first_event, told_from, is_window, forgotten}
use Rattle.event_queue.specs.History.{Step, BecomesActive, IsDisposed, Tells, NeverActive, NeverDisposed, IsHistory, event_list, telling, told_of, Alternates, last_told, is_told_active}

-- the first activate event: none, an activation where none is told active, or a deactivation of the one that is
by_first : (P : Option Event → Type 0) (told active : Option ℕ) → P None
    → ((a : ℕ) → told ≡ None → active ≡ Some a → P (Some (activation a)))
    → ((t : ℕ) → told ≡ Some t → P (Some (deactivation t)))
    → P (first_event (activate_events told active))
by_first P None None none on off = none
by_first P None (Some a) none on off = on a refl refl
by_first P (Some t) None none on off = off t refl
by_first P (Some t) (Some a) none on off = by_same (nat_eq t a)
  where
    by_same : (b : Bool) → P (first_event (if b then [] else deactivation t ∷ activation a ∷ []))
    by_same true = none
    by_same false = off t refl

not_of : (w : ℕ) (o : Option ℕ) → o ≢ Some w → is_window w o ≡ false
not_of w None h = refl
not_of w (Some t) h = by_same (nat_eq t w) refl
  where
    by_same : (b : Bool) → nat_eq t w ≡ b → b ≡ false
    by_same true e = absurd (h (ap Some (eqb-true t w e)))
    by_same false e = refl

forgotten_is_not : (w x : ℕ) (told : Option ℕ) → is_window w told ≡ false → is_window w (forgotten x told) ≡ false
forgotten_is_not w x None h = refl
forgotten_is_not w x (Some t) h = by_same (nat_eq t x)
  where
    by_same : (b : Bool) → is_window w (if b then None else Some t) ≡ false
    by_same true = refl
    by_same false = h

-- of a window that is neither told active nor active, nor will be, nothing is told
silent : (w : ℕ) (told active : Option ℕ) (steps : List Step) → is_window w told ≡ false → is_window w active ≡ false → NeverActive w steps → told_of w (telling told active steps) ≡ []
silent w told active [] t a never = refl
silent w told active (BecomesActive b ∷ steps) t a never = silent w told b steps t (not_of w b never.0) never.1
silent w told active (IsDisposed x ∷ steps) t a never = silent w (forgotten x told) active steps (forgotten_is_not w x told t) a never
silent w told active (Tells ∷ steps) t a never =
    by_first (λ o. told_of w (event_list o ++ telling (told_from told o) active steps) ≡ []) told active
    (silent w told active steps t a never)
    (λ n none is.
    let other : nat_eq n w ≡ false = sym (ap (is_window w) is) ∙ a in
    ap (λ b. if b then true ∷ told_of w (telling (Some n) active steps) else told_of w (telling (Some n) active steps)) other ∙ silent w (Some n) active steps other a never)
    (λ n is.
    let other : nat_eq n w ≡ false = sym (ap (is_window w) is) ∙ t in
    ap (λ b. if b then false ∷ told_of w (telling None active steps) else told_of w (telling None active steps)) other ∙ silent w None active steps refl a never)

alternates_on : (b : Bool) (rest : List Bool) → Alternates (not b) rest → Alternates true (if b then true ∷ rest else rest)
alternates_on true rest h = (refl, h)
alternates_on false rest h = h

alternates_off : (b : Bool) (rest : List Bool) → Alternates true rest → Alternates (not b) (if b then false ∷ rest else rest)
alternates_off true rest h = (refl, h)
alternates_off false rest h = h

-- the events of a window alternate; the first is an activation, but where the window is told active
alternating : (w : ℕ) (told active : Option ℕ) (steps : List Step) → IsHistory active steps → Alternates (not (is_window w told)) (told_of w (telling told active steps))
alternating w told active [] h = tt
alternating w told active (BecomesActive a ∷ steps) h = alternating w told a steps h
alternating w None active (IsDisposed x ∷ steps) h = alternating w None active steps h.2
alternating w (Some t) active (IsDisposed x ∷ steps) h = by_same (nat_eq t x) refl (alternating w None active steps h.2) (alternating w (Some t) active steps h.2)
  where
    by_window : (b : Bool) → nat_eq t w ≡ b → nat_eq t x ≡ true → Alternates true (told_of w (telling None active steps)) → Alternates (not b) (told_of w (telling None active steps))
    by_window true e same rest =
        let x_is_w : x ≡ w = sym (eqb-true t x same) ∙ eqb-true t w e in
        let never : NeverActive w steps = subst (λ n. NeverActive n steps) x_is_w h.1 in
        let other : is_window w active ≡ false = subst (λ n. is_window n active ≡ false) x_is_w (not_of x active h.0) in
        subst (λ es. Alternates false es) (sym (silent w None active steps refl other never)) tt
    by_window false e same rest = rest

    by_same : (b : Bool) → nat_eq t x ≡ b → Alternates true (told_of w (telling None active steps)) → Alternates (not (nat_eq t w)) (told_of w (telling (Some t) active steps)) → Alternates (not (nat_eq t w)) (told_of w (telling (if b then None else Some t) active steps))
    by_same true same gone kept = by_window (nat_eq t w) refl same gone
    by_same false same gone kept = kept
alternating w told active (Tells ∷ steps) h =
    by_first (λ o. Alternates (not (is_window w told)) (told_of w (event_list o ++ telling (told_from told o) active steps))) told active
    (alternating w told active steps h)
    (λ a none is. subst (λ o. Alternates (not (is_window w o)) (if nat_eq a w then true ∷ told_of w (telling (Some a) active steps) else told_of w (telling (Some a) active steps))) (sym none)
    (alternates_on (nat_eq a w) (told_of w (telling (Some a) active steps)) (alternating w (Some a) active steps h)))
    (λ t is. subst (λ o. Alternates (not (is_window w o)) (if nat_eq t w then false ∷ told_of w (telling None active steps) else told_of w (telling None active steps))) (sym is)
    (alternates_off (nat_eq t w) (told_of w (telling None active steps)) (alternating w None active steps h)))

pub told_events_alternate : (w : ℕ) (steps : List Step) → IsHistory None steps → Alternates true (told_of w (telling None None steps))
told_events_alternate w steps h = alternating w None None steps h

-- the window last told active at the end
told_at_end : Option ℕ → Option ℕ → List Step → Option ℕ
told_at_end told active [] = told
told_at_end told active (BecomesActive a ∷ steps) = told_at_end told a steps
told_at_end told active (IsDisposed x ∷ steps) = told_at_end (forgotten x told) active steps
told_at_end told active (Tells ∷ steps) = told_at_end (told_from told (first_event (activate_events told active))) active steps

abbrev number_in : ℕ → Option ℕ → ℕ
number_in d None = d
number_in d (Some n) = n

forgets_no_other : (w x : ℕ) (told : Option ℕ) → x ≢ w → is_window w (forgotten x told) ≡ is_window w told
forgets_no_other w x None other = refl
forgets_no_other w x (Some t) other = by_same (nat_eq t x) refl
  where
    by_same : (b : Bool) → nat_eq t x ≡ b → is_window w (if b then None else Some t) ≡ nat_eq t w
    by_same true e = sym (not_of w (Some t) (λ p. other (sym (eqb-true t x e) ∙ ap (number_in t) p)))
    by_same false e = refl

last_on : (b : Bool) (rest : List Bool) → last_told false (if b then true ∷ rest else rest) ≡ last_told b rest
last_on true rest = refl
last_on false rest = refl

last_off : (b : Bool) (rest : List Bool) → last_told b (if b then false ∷ rest else rest) ≡ last_told false rest
last_off true rest = refl
last_off false rest = refl

-- of a window that is not disposed, the last event tells whether it is the one that is told active
last_is_told : (w : ℕ) (told active : Option ℕ) (steps : List Step) → NeverDisposed w steps → last_told (is_window w told) (told_of w (telling told active steps)) ≡ is_window w (told_at_end told active steps)
unfolding told_at_end
last_is_told w told active [] never = refl
last_is_told w told active (BecomesActive a ∷ steps) never = last_is_told w told a steps never
last_is_told w told active (IsDisposed x ∷ steps) never =
    ap (λ b. last_told b (told_of w (telling (forgotten x told) active steps))) (sym (forgets_no_other w x told never.0)) ∙ last_is_told w (forgotten x told) active steps never.1
last_is_told w told active (Tells ∷ steps) never =
    by_first (λ o. last_told (is_window w told) (told_of w (event_list o ++ telling (told_from told o) active steps)) ≡ is_window w (told_at_end (told_from told o) active steps)) told active
    (last_is_told w told active steps never)
    (λ a none is. ap (λ o. last_told (is_window w o) (if nat_eq a w then true ∷ told_of w (telling (Some a) active steps) else told_of w (telling (Some a) active steps))) none
    ∙ last_on (nat_eq a w) (told_of w (telling (Some a) active steps)) ∙ last_is_told w (Some a) active steps never)
    (λ t is. ap (λ o. last_told (is_window w o) (if nat_eq t w then false ∷ told_of w (telling None active steps) else told_of w (telling None active steps))) is
    ∙ last_off (nat_eq t w) (told_of w (telling None active steps)) ∙ last_is_told w None active steps never)

one_of : (v w : ℕ) (o : Option ℕ) → is_window v o ≡ true → is_window w o ≡ true → v ≡ w
one_of v w None a b = absurd (false≢true a)
one_of v w (Some t) a b = sym (eqb-true t v a) ∙ eqb-true t w b

pub at_most_one_told : (v w : ℕ) (steps : List Step) → NeverDisposed v steps → NeverDisposed w steps → is_told_active v (telling None None steps) ≡ true → is_told_active w (telling None None steps) ≡ true → v ≡ w
at_most_one_told v w steps a b c d =
    one_of v w (told_at_end None None steps) (sym (last_is_told v None None steps a) ∙ c) (sym (last_is_told w None None steps b) ∙ d)
