use Rattle.std.proofs.Common.{◌≡◌, ℕ, ◌+◌, ◌<◌, ◌≤◌, ◌↔◌, List, true, Result, Ok, Err, length, get_or, take, sym, ap, ◌∙◌, arith}
use Rattle.std.specs.List.{flat_map}
use Rattle.std.specs.Result.{IsOk, is_err}
use Rattle.std.proofs.lemmas.Bool.{false≢true}
use Rattle.std.proofs.lemmas.List.Folds.{length-flat_map-take}
use Rattle.watched_io.proofs.sink.joined.Goals as goal

-- what did not fit
too_long : {X E : Type 0} (r : Result X E) (n room : ℕ) → (IsOk r ↔ (n ≤ room)) → is_err r ≡ true → room < n
too_long (Ok x) n room fits e = absurd (cc)
too_long (Err x) n room fits e = let over : n ≤ room → ⊥ = λ h. false≢true (fits.1 h) in omega (arith, over)

-- where a front of the pieces and the next one do not fit, all do not
all_too_long : {X : Type 0} (f : X → List ℕ) (xs : List X) (i room : ℕ) (d : X) (text : List ℕ)
    → i < length xs → text ≡ flat_map f (take i xs) → room < length text + length (f (get_or xs i d)) → room < length (flat_map f xs)
all_too_long f xs i room d text within so_far over = omega (arith, ap length so_far, length-flat_map-take f xs i d within)

pub returns-then-is_err : goal.returns-then-is_err
returns-then-is_err c =
    all_too_long (λ piece. piece.now) c.args.pieces.now c.loop-piece.piece-index 64 _ _ c.loop-piece-test.true c.loop-piece.invariant
    (too_long c.try_extend_from_slice.result _ _ c.try_extend_from_slice.ensures.variant (sym c.is_err.ensures.value ∙ c.if-is_err.true))
