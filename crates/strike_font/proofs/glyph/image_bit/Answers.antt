use Rattle.std.proofs.Common.{arith}
use Rattle.strike_font.proofs.RecordLemmas.{image-in}
use Rattle.strike_font.proofs.glyph.image_bit.Goals as goal

pub bounds-bytes-from : goal.bounds-bytes-from
bounds-bytes-from c = image-in c.args.bytes.now c.from-row_words.result c.args.column c.from.result c.requires.font (omega arith) c.requires.column_in (omega arith)
