use Rattle.std.proofs.Common.{rules}
use Rattle.line_words.proofs.HexOut.{hex_text-more}
use Rattle.line_words.proofs.region.digits_of.Goals as goal

pub loop-byte-preserved : goal.loop-byte-preserved
loop-byte-preserved c = record {
  digits = hex_text-more 65 c.args.part.now c.loop-byte.byte-index _ _ _ _ _ _ (search rules) c.loop-byte.invariant.digits c.push.ensures.items c.push-in-loop-byte.ensures.items c.digit.ensures c.digit-in-loop-byte.ensures;
  len = search rules;
}
