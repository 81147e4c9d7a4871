use Rattle.std.proofs.Common.{pos, negsuc, rules}
use Rattle.std.proofs.lemmas.Int.{to_z-of_z}
use Rattle.region_rows.specs.Gaps.{IsPlace}
use Rattle.shape_region.proofs.CrossLemmas.{put_pixels, put_climbs, taken_pixels, taken_climbs}
use Rattle.shape_region.proofs.pass.turn_from.Goals as goal

pub returns-then-is_there-clause-pixels : goal.returns-then-is_there-clause-pixels
returns-then-is_there-clause-pixels c =
    let fits_x = c.ranges.x in
    let xs = c.args.columns.now.items in
    let p = c.place_of-place.result.0 in
    let s : IsPlace xs c.args.x p c.place_of-place.result.1 = simp (to_z-of_z, c.as_slice.ensures.value) at c.place_of-place.ensures in
    let there = s.there c.if-is_there.true in
    λ h. rw c.remove.ensures.items (taken_pixels xs p c.args.x h there.0 there.1)

pub returns-then-is_there-clause-climb : goal.returns-then-is_there-clause-climb
returns-then-is_there-clause-climb c =
    let fits_x = c.ranges.x in
    let xs = c.args.columns.now.items in
    let p = c.place_of-place.result.0 in
    let s : IsPlace xs c.args.x p c.place_of-place.result.1 = simp (to_z-of_z, c.as_slice.ensures.value) at c.place_of-place.ensures in
    let there = s.there c.if-is_there.true in
    rw c.remove.ensures.items (taken_climbs xs p c.args.x (negsuc 16384) (pos 16382) c.requires.climb there.0 (search rules) (search rules) s.left there.1)

pub returns-clause-pixels : goal.returns-clause-pixels
returns-clause-pixels c =
    let fits_x = c.ranges.x in
    λ h. rw c.put_in.ensures (simp to_z-of_z (put_pixels c.args.columns.now.items c.place_of-place.result.0 c.args.x h))

pub returns-clause-climb : goal.returns-clause-climb
returns-clause-climb c =
    let fits_x = c.ranges.x in
    let xs = c.args.columns.now.items in
    let s : IsPlace xs c.args.x c.place_of-place.result.0 c.place_of-place.result.1 = simp (to_z-of_z, c.as_slice.ensures.value) at c.place_of-place.ensures in
    rw c.put_in.ensures (simp to_z-of_z (put_climbs xs c.place_of-place.result.0 c.args.x (negsuc 16384) (pos 16382) c.requires.climb s.within (search rules) (search rules) s.left (s.apart c.if-is_there.false)))
