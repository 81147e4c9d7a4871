use Rattle.std.proofs.Common.{SFits, w32, rules, arith}
use Rattle.std.proofs.lemmas.Int.{ints}
use Rattle.bit_map.proofs.BitsLemmas.{on_map-sides}
use Rattle.bit_map.proofs.map.BitMap.place.Goals as goal

pub natural-requires : goal.natural-requires
natural-requires c =
    let fits : SFits w32 c.args.point.v = search rules in
    let at = on_map-sides c.args.self.now c.args.point c.requires in
    omega (arith, ints)

pub natural-requires-2 : goal.natural-requires-2
natural-requires-2 c =
    let fits : SFits w32 c.args.point.h = search rules in
    let at = on_map-sides c.args.self.now c.args.point c.requires in
    omega (arith, ints)
