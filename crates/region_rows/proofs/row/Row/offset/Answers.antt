use Rattle.std.proofs.Common.{◌≡◌, rules, ap, ◌∙◌, sym, subst, ◌+ℤ◌, SFits, w32, map, length}
use Rattle.smallvec.proofs.SmallVecLemmas.{items-with_items}
use Rattle.std.proofs.lemmas.Int.{to_z-of_z}
use Rattle.region_rows.proofs.MovedRows.{edges_stay, top_fits}
use Rattle.region_rows.proofs.row.Row.offset.Goals as goal

pub move_points-requires : goal.move_points-requires
move_points-requires c =
    let fits_h = c.ranges.dh in
    let edges : c.as_mut_slice.result.now ≡ c.args.self.now.1 = c.as_mut_slice.ensures.value ∙ ap (λ r. r.1) c.self.view_is in
    simp to_z-of_z (rw edges (edges_stay c.args.self.now (record { h = c.args.dh; v = c.args.dv }) c.requires))

pub returns : goal.returns
returns c =
    let fits_h = c.ranges.dh in
    let fits_d = c.ranges.dv in
    let fits_v : SFits w32 c.self.inside.v = search rules in
    let view = c.self.view_is in
    let top = ap (λ r. r.0 +ℤ c.args.dv) view in
    let fits : SFits w32 (c.self.inside.v +ℤ c.args.dv) = subst (SFits w32) (sym top) (top_fits _ c.requires.0) in
    let moved = simp to_z-of_z at c.move_points.ensures in
    let edges = moved ∙ ap (map (λ x. x +ℤ c.args.dh)) (c.as_mut_slice.ensures.value ∙ ap (λ r. r.1) view) in
    let long : length c.move_points.new.points ≡ length c.self.inside.points.items = c.move_points.auto.points ∙ ap length c.as_mut_slice.ensures.value in
    simp to_z-of_z (λ i. (top i, (items-with_items c.self.inside.points c.move_points.new.points long ∙ edges) i))
