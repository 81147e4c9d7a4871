use Rattle.bit_map.proofs.LayLemmas.{eight_are}
use Rattle.bit_map.proofs.effect.Effects.of_eight.Goals as goal

pub returns-clause-each : goal.returns-clause-each
returns-clause-each c = λ j k low under. eight_are c.args.words.now c.args.self.keeps c.args.self.turns j k c.requires low
