use Rattle.std.proofs.Common.{◌≡◌, ◌+◌, ◌-◌, ◌*◌, ◌∙◌, ap, arith}
use Rattle.bit_map.specs.Words.{place_bit}
use Rattle.bit_map.proofs.MoveLemmas.{read_four, part_place}
use Rattle.bit_map.proofs.moves.four_of.Goals as goal

pub returns-then-bit-eq0-clause-each : goal.returns-then-bit-eq0-clause-each
returns-then-bit-eq0-clause-each c =
    let less : c.args.near + 4 - c.args.near ≡ 4 = omega arith in
    rw less (λ j k low l. let at : 64 * (c.args.near + j) + k ≡ 64 * (c.args.near + j) + c.args.bit + k = omega arith in read_four c.args.words.now c.args.near j k low l ∙ ap (place_bit c.args.words.now) at)

pub returns-clause-each : goal.returns-clause-each
returns-clause-each c =
    let less : c.args.near + 5 - c.args.near ≡ 5 = omega arith in
    let joined = rw less at c.joined_lanes.ensures.each in
    let bit_low = c.requires.bit_in in
    λ j k low l. let at : 64 * c.args.near + (64 * j + c.args.bit + k) ≡ 64 * (c.args.near + j) + c.args.bit + k = omega arith in
    joined j k low l ∙ part_place c.args.words.now c.args.near 5 (64 * j + c.args.bit + k) (omega (arith, low, l, bit_low)) ∙ ap (place_bit c.args.words.now) at
