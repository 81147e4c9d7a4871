use Rattle.std.proofs.Common.{◌≡◌, true, false, sym, rules, SFits, w32}
use Rattle.std.proofs.lemmas.Int.{to_z-of_z}
use Rattle.tb_geom.specs.Pixels.{holds}
use Rattle.tb_geom.specs.Rects.{is_in_range, moved_rect}
use Rattle.pixel_rows.proofs.BoxLemmas.{moved_bounds, still_bounds}
use Rattle.pixel_rows.proofs.moved.MovedPixelRows.bounds.Goals as goal

pub returns-in-Ok : goal.returns-in-Ok
returns-in-Ok c =
    let s = c.args.self.now in
    let fits_dh : SFits w32 c.args.self.now.dh = search rules in
    let fits_dv : SFits w32 c.args.self.now.dv = search rules in
    let stays : is_in_range (moved_rect c.region_bounds-bounds.result s.dh s.dv) ≡ true = sym (simp to_z-of_z at c.in-Ok.ensures.in_range) in
    let sides = simp to_z-of_z at c.in-Ok.ensures.sides in
    let pixels = simp to_z-of_z at c.in-Ok.ensures.pixels in
    moved_bounds (holds s.region.now) c.region_bounds-bounds.result c.in-Ok.moved (record { h = s.dh; v = s.dv }) c.region_bounds-bounds.ensures.bounds sides stays pixels

pub returns-in-Err : goal.returns-in-Err
returns-in-Err c =
    let s = c.args.self.now in
    let fits_dh : SFits w32 c.args.self.now.dh = search rules in
    let fits_dv : SFits w32 c.args.self.now.dv = search rules in
    let leaves : is_in_range (moved_rect c.region_bounds-bounds.result s.dh s.dv) ≡ false = sym (simp to_z-of_z at c.in-Err.ensures.in_range) in
    still_bounds s.region.now c.region_bounds-bounds.result (record { h = s.dh; v = s.dv }) c.region_bounds-bounds.ensures.bounds c.region_bounds-bounds.ensures.exact s.stays leaves
