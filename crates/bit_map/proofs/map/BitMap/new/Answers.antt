use Rattle.std.proofs.Common.{◌≡◌, ◌*◌, replicate, refl, rules}
use Rattle.bit_map.proofs.BitsLemmas.{bit-white}
use Rattle.bit_map.proofs.CountLemmas.{count-none}
use Rattle.bit_map.proofs.map.BitMap.new.Goals as goal

pub returns-in_ok-words-clause-white : goal.returns-in_ok-words-clause-white
returns-in_ok-words-clause-white c =
    let e : c.in_ok-words.words.items ≡ replicate (c.from.result * c.words_across.result) 0 = search rules in
    bit-white _ c.in_ok-words.words.items _ refl e

pub returns-in_ok-words-clause-unwritten : goal.returns-in_ok-words-clause-unwritten
returns-in_ok-words-clause-unwritten c = count-none _ c.new.result.tag.numbers refl c.new.ensures
