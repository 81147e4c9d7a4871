use Rattle.std.proofs.Common.{rules, pos, to_z, of_z, w32}
use Rattle.tb_geom.proofs.RectLemmas.{same_rect}
use Rattle.bit_map.proofs.BitsLemmas.{rect_holds-same}
use Rattle.bit_map.proofs.map.BitMap.bounds.Goals as goal

pub returns-clause-sides : goal.returns-clause-sides
returns-clause-sides c = same_rect _ _ (search rules) (search rules) (search rules) (search rules)

pub returns-clause-pixels : goal.returns-clause-pixels
returns-clause-pixels c =
    rect_holds-same (record { left = pos 0; top = pos 0; right = to_z w32 (of_z w32 c.from.result); bottom = to_z w32 (of_z w32 c.from-2.result) }) c.args.self.now (search rules) (search rules) (search rules) (search rules)
