-- A key that was typed, judged.
use Rattle.std.proofs.Common.{◌≡◌, inl, inr, ℕ, Bool, true, false, ◌&&◌, cond, [], ◌∷◌, Some, None, Result, Ok, Err, MatchResult, refl, sym, ap, ◌∙◌}
use Rattle.std.specs.Prelude.{IfOk, IfErr, if◌then◌else◌}
use Rattle.tb_geom.specs.declared.refusal.Refusal.{Refusal}
use Rattle.tb_geom.specs.declared.refusal.Refusal.TheVariants.{NoMemory, OutOfRange, TooLong}
use Rattle.tb_geom.specs.Refusals.{first_refusal}
use Rattle.text_mgr.specs.Editing.{IsRefusedOrShort}

-- where the byte of a key is this
pub key_judged : (outside : Bool) (n code : ℕ) (r : Result (Unit {0}) Refusal) (typed long : ℕ → Bool) → (if outside then None else Some n) ≡ Some code
    → IfOk r (λ x. (typed code && long code) ≡ false) → IfErr r (λ e. typed code ≡ true) → IfErr r (λ e. e ≡ (if long code then TooLong else NoMemory))
    → MatchResult r (λ x. first_refusal ((outside, OutOfRange) ∷ (typed n && long n, TooLong) ∷ []) ≡ None) (IsRefusedOrShort ((outside, OutOfRange) ∷ (typed n && long n, TooLong) ∷ []))
key_judged true n code r typed long e ok its why = absurd (cc)
key_judged false n code (Ok x) typed long e ok its why =
    let same : n ≡ code = cc in
    ap (λ b. cond b (Some TooLong) None) (ap (λ k. typed k && long k) same ∙ ok)
key_judged false n code (Err x) typed long e ok its why = by_long (long code) refl
  where
    same : n ≡ code
    same = cc

    by_long : (b : Bool) → long code ≡ b → IsRefusedOrShort ((false, OutOfRange) ∷ (typed n && long n, TooLong) ∷ []) x
    by_long true is = inl (
        ap (λ b. cond b (Some TooLong) None) (ap (λ k. typed k && long k) same ∙ (λ i. its i && is i))
        ∙ ap Some (sym (why ∙ ap (λ b. if b then TooLong else NoMemory) is)))
    by_long false is = inr (
      ap (λ b. cond b (Some TooLong) None) (ap (λ k. typed k && long k) same ∙ (λ i. its i && is i)),
      why ∙ ap (λ b. if b then TooLong else NoMemory) is,
    )
