use Rattle.std.proofs.Common.{rules, SFits, w32}
use Rattle.std.proofs.lemmas.Int.{to_z-of_z}
use Rattle.tb_geom.specs.Pixels.{holds}
use Rattle.region_inset.proofs.RangeLemmas.{frame_steady}
use Rattle.region_inset.proofs.frame_region.FrameRegionPixelRows.turns.Goals as goal

pub returns-else-turns_at : goal.returns-else-turns_at
returns-else-turns_at c = λ none.
    let s = c.args.self.now in
    let fits_v = c.ranges.v in
    let fits_across : SFits w32 c.from.result = search rules in
    let fits_down : SFits w32 c.from-else-turns_at.result = search rules in
    let region = simp to_z-of_z at (c.turns_at.ensures c.if-turns_at.false) in
    let inside = simp to_z-of_z at (c.inset_turns.ensures none) in
    frame_steady (holds s.region.now) s.pen c.from.result c.from-else-turns_at.result c.args.v c.from.ensures c.from-else-turns_at.ensures region inside
