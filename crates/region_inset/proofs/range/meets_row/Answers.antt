use Rattle.std.proofs.Common.{◌&&◌, ℤ, pos, negsuc, sym, ◌∙◌}
use Rattle.std.proofs.lemmas.Bool.{and_parts}
use Rattle.std.proofs.lemmas.Int.{to_z-of_z}
use Rattle.tb_geom.specs.Pixels.{holds}
use Rattle.tb_geom.specs.Rects.{between}
use Rattle.region_inset.specs.Insets.{inset}
use Rattle.region_inset.proofs.range.meets_row.Goals as goal

pub returns : goal.returns
returns c =
    let fits_v = c.ranges.v in
    let fits_dh = c.ranges.dh in
    let fits_dv = c.ranges.dv in
    let row = simp to_z-of_z at c.inset_row.ensures in
    let s = holds c.args.region.now in
    let dh : ℤ = c.args.dh in
    let dv : ℤ = c.args.dv in
    let v : ℤ = c.args.v in (
      λ t.
          let one = c.has_any.ensures.0 t in
          (one.0, (and_parts (between (negsuc 16383) one.0 (pos 16383)) (inset s dh dv (record { h = one.0; v = v })) (sym (row one.0) ∙ one.2)).1),
      λ one.
          let in_range = c.requires.columns (record { h = one.0; v = v }) one.1 in
          c.has_any.ensures.1 (one.0, in_range, row one.0 ∙ (λ i. in_range i && one.1 i)),
    )
