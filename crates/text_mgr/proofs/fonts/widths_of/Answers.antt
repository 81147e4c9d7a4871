use Rattle.std.proofs.Common.{ap, ◌∙◌, arith}
use Rattle.std.proofs.lemmas.List.{length-set}
use Rattle.strike_font.specs.declared.glyph.Glyph.{Glyph}
use Rattle.text_mgr.proofs.Widths.{one_more}
use Rattle.text_mgr.proofs.fonts.widths_of.Goals as goal

pub loop-byte-preserved : goal.loop-byte-preserved
loop-byte-preserved c = (
  length-set c.loop-byte.widths c.loop-byte.byte c.glyph.result.width ∙ c.loop-byte.invariant.0,
  one_more c.args.font.now c.loop-byte.widths c.loop-byte.byte c.glyph.result.width c.loop-byte.invariant.0 c.loop-byte-test.true (ap (λ (g : Glyph). g.width) c.glyph.ensures.value) c.loop-byte.invariant.1,
)

pub returns : goal.returns
returns c = record { many = c.loop-byte.invariant.0; each = λ k low. c.loop-byte.invariant.1 k (let end = c.loop-byte-test.false in omega (arith, low, end)) }
