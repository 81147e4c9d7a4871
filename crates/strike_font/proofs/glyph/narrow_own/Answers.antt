use Rattle.std.proofs.Common.{◌≡◌, ◌<◌, ◌^◌, ◌-◌, ◌≤ℤ◌, ◌<ℤ◌, pos, SFits, w32, rules}
use Rattle.std.proofs.lemmas.Int.{ints, to_z-of_z}
use Rattle.strike_font.proofs.WordsLemmas.{own_left, own_right}
use Rattle.strike_font.proofs.glyph.narrow_own.Goals as goal

pub returns-then-start-lt0 : goal.returns-then-start-lt0
returns-then-start-lt0 c =
    let fits : SFits w32 c.args.start = search rules in
    let less : c.args.start <ℤ pos 0 = search (rules, ints) in
    let far = simp to_z-of_z at c.unsigned_abs-far.ensures.value in
    let small : c.black_between.result < 2 ^ 64 = search rules in
    λ k low. own_left c.args.columns c.black_between.result c.unsigned_abs-far.result k c.args.start small less far (rw c.from-columns.ensures at c.black_between.ensures) low

pub returns-else-start-lt0 : goal.returns-else-start-lt0
returns-else-start-lt0 c =
    let fits : SFits w32 c.args.start = search rules in
    let more : pos 0 ≤ℤ c.args.start = search (rules, ints) in
    let far = simp to_z-of_z at c.unsigned_abs-far.ensures.value in
    λ k low. own_right c.args.columns c.black_between-else-start-lt0.result c.unsigned_abs-far.result _ k c.args.start more far (search rules) c.black_between-else-start-lt0.ensures low
