use Rattle.std.proofs.Common.{◌≡◌, ◌+◌, ◌-◌, ◌*◌, ◌/◌, ℕ, ◌&&◌, nat_le, nat_lt, ◌∙◌, arith}
use Rattle.std.proofs.lemmas.Bool.Decides.{nat_tests}
use Rattle.bit_map.proofs.WideLemmas.{wide_moved}
use Rattle.bit_map.proofs.moves.move_wide.Goals as goal

-- the bits of a word from its first one on
from_first : (k n : ℕ) → (nat_le 0 k && nat_lt k (0 + n)) ≡ nat_lt k n
from_first k n = grind (arith, nat_tests)

pub returns : goal.returns
returns c =
    let end = c.args.place + c.args.count in
    wide_moved c.args.place c.args.source c.args.count c.args.words.now c.move_whole.new.words c.restore.new.words c.restore-2.new.words c.black_from.result c.black_run.result (record {
      some = c.requires.some;
      gap = c.requires.left;
      moved = c.move_whole.ensures;
      first = c.restore.ensures;
      last = c.restore-2.ensures;
      from = c.black_from.ensures;
      to = λ k low. c.black_run.ensures k low ∙ from_first k (end - 64 * ((end - 1) / 64));
    })
