use Rattle.std.proofs.Common.{◌+◌}
use Rattle.bit_map.proofs.MoveLemmas.{lanes_are}
use Rattle.bit_map.proofs.moves.joined_lanes.Goals as goal

pub returns-clause-each : goal.returns-clause-each
returns-clause-each c = λ j k low l. lanes_are c.args.words.now c.args.bit j k c.requires.long (c.type_inv.words (1 + j)).fits c.requires.bit_in low l
