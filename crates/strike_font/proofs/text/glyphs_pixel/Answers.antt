use Rattle.std.proofs.Common.{◌∙◌, sym, arith, rules, SFits, w64}
use Rattle.std.proofs.lemmas.Int.{to_z-of_z}
use Rattle.strike_font.proofs.TextLemmas.{glyphs-found, glyphs-next}
use Rattle.strike_font.proofs.text.glyphs_pixel.Goals as goal

pub returns-then-glyph_pixel : goal.returns-then-glyph_pixel
returns-then-glyph_pixel c =
    let fx = c.ranges.x in
    let fy = c.ranges.y in
    let fr : SFits w64 c.right_of.result = search rules in
    let i = simp to_z-of_z at c.loop-character.invariant.value in
    let a = simp to_z-of_z at c.right_of.ensures.value in
    let b = simp to_z-of_z at c.glyph_pixel.ensures in
    sym (i ∙ glyphs-found c.args.bytes.now c.args.text.now c.loop-character.character-index c.loop-character.across c.args.x c.args.y c.right_of.result c.glyph_of-glyph.result (search rules) c.glyph_of-glyph.ensures.value a (sym b ∙ c.if-glyph_pixel.true))

pub loop-character-preserved : goal.loop-character-preserved
loop-character-preserved c =
    let fx = c.ranges.x in
    let fy = c.ranges.y in
    let fr : SFits w64 c.right_of.result = search rules in
    let i = simp to_z-of_z at c.loop-character.invariant.value in
    let a = simp to_z-of_z at c.right_of.ensures.value in
    let b = simp to_z-of_z at c.glyph_pixel.ensures in
    simp to_z-of_z (record {
      value = i ∙ glyphs-next c.args.bytes.now c.args.text.now c.loop-character.character-index c.loop-character.across c.from-across.result c.args.x c.args.y c.right_of.result c.glyph_of-glyph.result (search rules) c.glyph_of-glyph.ensures.value a (sym b ∙ c.if-glyph_pixel.false) c.from-across.ensures;
      small = omega arith;
    })
