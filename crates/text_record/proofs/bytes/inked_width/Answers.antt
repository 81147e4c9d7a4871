use Rattle.std.proofs.Common.{◌∙◌, sym, arith}
use Rattle.std.proofs.lemmas.List.{at_drop_all}
use Rattle.text_record.proofs.WidthLemmas.{inked_walk, walk_is}
use Rattle.text_record.proofs.bytes.inked_width.Goals as goal

pub returns-clause-value : goal.returns-clause-value
returns-clause-value c =
    let ended = at_drop_all (inked_walk c.args.widths.now c.loop-byte.wide c.loop-byte.inked) c.args.bytes.now c.loop-byte.byte-index (omega arith) in
    sym ended ∙ c.loop-byte.invariant.value ∙ walk_is c.args.widths.now c.args.bytes.now
