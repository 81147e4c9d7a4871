use Rattle.std.proofs.Common.{rules, SFits, w32}
use Rattle.std.proofs.lemmas.Int.{to_z-of_z}
use Rattle.scan_region.proofs.SeenSteady.{fewer}
use Rattle.scan_region.proofs.part.PixelTest.turn.Goals as goal

pub loop-x-smaller : goal.loop-x-smaller
loop-x-smaller c =
    let fits_l = c.ranges.limit in
    let fits_x : SFits w32 c.loop-x.x = search rules in
    let fits_n : SFits w32 c.next_column-x-in-loop-x.result = search rules in
    let t = simp to_z-of_z at c.next_column-x-in-loop-x.ensures in
    simp to_z-of_z (fewer _ c.next_column-x-in-loop-x.result c.args.limit t.on t.within)
