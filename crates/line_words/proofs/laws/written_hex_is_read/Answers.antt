use Rattle.line_words.proofs.HexLaws.{hex_is_read}
use Rattle.line_words.proofs.laws.written_hex_is_read.Goals as goal

pub returns : goal.returns
returns c = hex_is_read
