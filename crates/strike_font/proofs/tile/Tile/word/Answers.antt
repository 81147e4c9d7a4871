use Rattle.std.proofs.Common.{◌<◌, ◌*◌, ◌^◌, get_or, ◌∙◌, ◌≤ℤ◌, ◌<ℤ◌, ◌+ℤ◌, pos, negsuc, nat_abs, ap, sym, SFits, w64, w32, rules, arith}
use Rattle.std.proofs.lemmas.Int.{ints, to_z-of_z}
use Rattle.bit_map.proofs.WordLemmas.{bit_in-and, bit_in-none}
use Rattle.strike_font.specs.Tiles.{tile_bit}
use Rattle.strike_font.proofs.TileLemmas.{tile_above, tile_under, tile_before, tile_after, tile_left, tile_right}
use Rattle.strike_font.proofs.tile.Tile.word.Goals as goal
use Rattle.strike_font.proofs.tile.Tile.word.Goals.{then-y-lt0-via-then-y-lt0, then-y-lt0-via-else-y-lt0+then-y-ge16, then-y-lt0-via-else-y-lt0+else-y-ge16+then-x-leminus64, then-y-lt0-via-else-y-lt0+else-y-ge16+else-x-leminus64+then-x-ge512}

pub returns-then-y-lt0 : goal.returns-then-y-lt0
returns-then-y-lt0 c =
    let words = c.args.self.now in
    let x = c.args.x in
    let y = c.args.y in
    let fx : SFits w64 x = search rules in
    let fy : SFits w64 y = search rules in
    elim c.then-y-lt0.branch [
      | then-y-lt0-via-then-y-lt0 w ↦ let out : y <ℤ pos 0 = search (rules, ints) in λ k low. bit_in-none k ∙ sym (tile_above words (x +ℤ pos k) y out)
      | then-y-lt0-via-else-y-lt0+then-y-ge16 w ↦ let out : pos 16 ≤ℤ y = search (rules, ints) in λ k low. bit_in-none k ∙ sym (tile_under words (x +ℤ pos k) y out)
      | then-y-lt0-via-else-y-lt0+else-y-ge16+then-x-leminus64 w ↦ let out : x ≤ℤ negsuc 63 = search (rules, ints) in λ k low. bit_in-none k ∙ sym (tile_before words (x +ℤ pos k) y (omega (arith, ints, out, low)))
      | then-y-lt0-via-else-y-lt0+else-y-ge16+else-x-leminus64+then-x-ge512 w ↦ let out : pos 512 ≤ℤ x = search (rules, ints) in λ k low. bit_in-none k ∙ sym (tile_after words (x +ℤ pos k) y (omega (arith, ints, out)))
    ]

pub returns-then-x-lt0 : goal.returns-then-x-lt0
returns-then-x-lt0 c =
    let x = c.args.x in
    let y = c.args.y in
    let fx : SFits w64 x = search rules in
    let fy : SFits w64 y = search rules in
    let row : pos 0 ≤ℤ y = search (rules, ints) in
    let down : y <ℤ pos 16 = search (rules, ints) in
    let less : x <ℤ pos 0 = search (rules, ints) in
    let more : negsuc 63 <ℤ x = search (rules, ints) in
    let far = simp to_z-of_z at c.unsigned_abs.ensures.value in
    let words = c.self.inside.words in
    let small : get_or words (8 * nat_abs y) 0 < 2 ^ 64 = search rules in
    simp to_z-of_z (λ k low. tile_left words x y c.unsigned_abs.result k small row down more less far low ∙ ap (λ w. tile_bit w (x +ℤ pos k) y) c.self.view_is)

pub returns-else-x-lt0 : goal.returns-else-x-lt0
returns-else-x-lt0 c =
    let x = c.args.x in
    let y = c.args.y in
    let fx : SFits w64 x = search rules in
    let fy : SFits w64 y = search rules in
    let row : pos 0 ≤ℤ y = search (rules, ints) in
    let down : y <ℤ pos 16 = search (rules, ints) in
    let more : pos 0 ≤ℤ x = search (rules, ints) in
    let less : x <ℤ pos 512 = search (rules, ints) in
    let fw : SFits w32 x = search (rules, ints) in
    let held = simp to_z-of_z at c.held.ensures in
    let bits = simp to_z-of_z at c.word_from.ensures in
    let words = c.self.inside.words in
    λ k low. bit_in-and c.word_from.result c.held.result k ∙ tile_right words x y c.word_from.result c.held.result k row down more low (bits k low) (held k low) ∙ ap (λ w. tile_bit w (x +ℤ pos k) y) c.self.view_is
