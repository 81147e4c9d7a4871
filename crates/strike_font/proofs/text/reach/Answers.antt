use Rattle.std.proofs.Common.{SFits, w32, ap, rules, arith}
use Rattle.std.proofs.lemmas.Int.{to_z-of_z}
use Rattle.tb_geom.specs.declared.rect.Rect.{Rect}
use Rattle.strike_font.proofs.TileLemmas.{reach_more}
use Rattle.strike_font.proofs.text.reach.Goals as goal

pub loop-character-preserved : goal.loop-character-preserved
loop-character-preserved c =
    let side = c.glyph_rect.result.right in
    let next = c.further-right.result in
    let fits : SFits w32 side = search rules in
    let fits_n : SFits w32 next = search rules in
    let was = c.loop-character.invariant in
    let further = simp to_z-of_z at c.further-right.ensures in
    simp to_z-of_z (record {
      value = reach_more c.args.bytes.now c.args.text.now c.loop-character.character-index c.loop-character.across c.from-across.result side _ next c.glyph_of-glyph.result (search rules) c.glyph_of-glyph.ensures.value c.from-across.ensures
          (ap (λ (r : Rect). r.right) c.glyph_rect.ensures) further.1 further.0 was.value;
      small = omega arith;
    })
