use Rattle.std.proofs.Common.{◌∙◌, ◌<◌, ap, arith}
use Rattle.tb_geom.specs.Points.{minus}
use Rattle.bit_map.specs.Modes.{mode_bit}
use Rattle.bit_map.specs.Rules.{right_of}
use Rattle.bit_map.specs.Words.{bit_in}
use Rattle.bit_blit.proofs.SourceLemmas.{copied_word}
use Rattle.bit_blit.proofs.copying.CopiedRule.word.Goals as goal

pub returns : goal.returns
returns g c =
    let r = c.args.self.now in
    let has = g.S.Source.has r.source.now in
    let bits = g.S.Source.bit_at r.source.now in
    record {
      ruled = λ k under.
          let low : k < 64 = omega (arith, under, c.requires.short) in
          let q = minus (right_of c.args.start k) r.origin in
          let at = c.from_origin-place.ensures.row has c.held-held.ensures.near k low in
          copied_word has bits (mode_bit r.mode) q (bit_in c.held-held.result k) (bit_in c.source_word-bits.result k) (bit_in c.args.old k) (bit_in c.of.result k) (bit_in c.blended.result k)
          (c.held-held.ensures.value k low ∙ at.0)
          (λ on. c.source_word-bits.ensures k low (at.0 ∙ on) ∙ ap bits (at.1 (at.0 ∙ on)))
          (c.of.ensures k low ∙ c.effects.ensures k (bit_in c.args.old k) low)
          (c.blended.ensures k low);
    }
