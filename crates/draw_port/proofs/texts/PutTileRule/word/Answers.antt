use Rattle.std.proofs.Common.{◌<◌, ◌∙◌, ◌+ℤ◌, pos, ap, cond, SFits, w32, w64, rules, arith}
use Rattle.std.proofs.lemmas.Int.{to_z-of_z}
use Rattle.bit_map.specs.Words.{bit_in}
use Rattle.strike_font.specs.Tiles.{tile_bit}
use Rattle.draw_port.proofs.TextLemmas.{column-turn}
use Rattle.draw_port.proofs.texts.PutTileRule.word.Goals as goal

pub returns : goal.returns
returns c =
    let put = c.args.self.now in
    let fits_h : SFits w32 c.args.start.h = search rules in
    let fits_v : SFits w32 c.args.start.v = search rules in
    let place_h : SFits w32 put.place.h = search rules in
    let place_v : SFits w32 put.place.v = search rules in
    let fits_x : SFits w64 c.difference-x.result = search rules in
    let fits_y : SFits w64 c.difference-y.result = search rules in
    let x = simp to_z-of_z at c.difference-x.ensures.value in
    let y = simp to_z-of_z at c.difference-y.ensures.value in
    let bits = simp to_z-of_z at c.word-bits.ensures in
    record {
      ruled = λ k less.
          let low : k < 64 = omega (arith, less, c.requires.short) in
          let has = bits k low ∙ (λ i. tile_bit put.tile.now ((ap (λ n. n +ℤ pos k) x ∙ column-turn c.args.start.h put.place.h k) i) (y i)) in
          let new = c.of.ensures k low ∙ c.all-black.ensures k (bit_in c.args.old k) low ∙ c.effect.ensures (bit_in c.args.old k) in
          c.blended.ensures k low ∙ (λ i. cond (has i) (new i) (bit_in c.args.old k));
    }
