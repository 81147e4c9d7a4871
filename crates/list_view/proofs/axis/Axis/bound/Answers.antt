use Rattle.std.proofs.Common.{◌≡◌, ◌∙◌, ap, ℤ, pos, ◌-ℤ◌, arith, w32}
use Rattle.std.specs.Int.{int_max, cast_signed, cast_unsigned}
use Rattle.std.proofs.lemmas.Int.{ints, clamps}
use Rattle.list_view.proofs.axis.Axis.bound.Goals as goal

pub returns-clause-value : goal.returns-clause-value
returns-clause-value c =
    let is : cast_signed w32 (cast_unsigned w32 c.max.result) ≡ int_max (pos 0) (pos c.args.count -ℤ c.shown.result) = omega (arith, ints, clamps) in
    is ∙ ap (λ (shown : ℤ). int_max (pos 0) (pos c.args.count -ℤ shown)) c.shown.ensures.value

pub returns-clause-line : goal.returns-clause-line
returns-clause-line c = record { least = omega (arith, ints, clamps); most = omega (arith, ints, clamps) }
