use Rattle.std.proofs.Common.{◌/◌, ◌+ℤ◌, pos, ap, SFits, w32, w64, rules, arith}
use Rattle.std.proofs.lemmas.Int.{to_z-of_z}
use Rattle.tb_geom.specs.declared.rect.Rect.{Rect}
use Rattle.strike_font.proofs.TileLemmas.{text_more, reach_more}
use Rattle.strike_font.proofs.tile.put_text.Goals as goal

pub loop-character-preserved : goal.loop-character-preserved
loop-character-preserved c =
    let fx : SFits w64 c.args.x = search rules in
    let fy : SFits w64 c.args.y = search rules in
    let side = c.glyph_rect.result.right in
    let next = c.further-right.result in
    let fits : SFits w32 side = search rules in
    let fits_n : SFits w32 next = search rules in
    let further = simp to_z-of_z at c.further-right.ensures in
    let was = simp to_z-of_z at c.loop-character.invariant in
    let fr : SFits w64 c.right_of.result = search rules in
    let there = simp to_z-of_z at c.right_of.ensures.value in
    let put = simp to_z-of_z at c.put_glyph.ensures in
    simp to_z-of_z (record {
      value = λ n low. text_more c.args.bytes.now c.args.text.now c.loop-character.character-index c.loop-character.across c.from-across.result n c.args.x (c.args.y +ℤ pos (n / 512)) c.right_of.result c.glyph_of-glyph.result c.args.words.now c.loop-character.words c.put_glyph.new.words _ (search rules) c.glyph_of-glyph.ensures.value there c.from-across.ensures (put n low) (was.value n low);
      far = reach_more c.args.bytes.now c.args.text.now c.loop-character.character-index c.loop-character.across c.from-across.result side _ next c.glyph_of-glyph.result (search rules) c.glyph_of-glyph.ensures.value c.from-across.ensures
          (ap (λ (r : Rect). r.right) c.glyph_rect.ensures) further.1 further.0 was.far;
      small = omega arith;
    })
