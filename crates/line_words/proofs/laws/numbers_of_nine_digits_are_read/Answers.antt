use Rattle.line_words.proofs.NumberLaws.{decimal_is_a_number}
use Rattle.line_words.proofs.laws.numbers_of_nine_digits_are_read.Goals as goal

pub returns : goal.returns
returns c = decimal_is_a_number
