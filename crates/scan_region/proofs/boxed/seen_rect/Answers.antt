use Rattle.std.proofs.Common.{◌-ℤ◌, negsuc, sym, ap, rules, SFits, w32}
use Rattle.std.proofs.lemmas.Int.{to_z-of_z}
use Rattle.region_rows.specs.Seen.{seen_rect}
use Rattle.scan_region.proofs.Boxes.{sides_in_range}
use Rattle.region_rows.proofs.SeenRows.{mirrored_fits}
use Rattle.scan_region.proofs.boxed.seen_rect.Goals as goal

pub returns-then-up : goal.returns-then-up
returns-then-up c =
    let r = c.args.rect in
    let in_range = sides_in_range r c.requires in
    let fits_l : SFits w32 r.left = search rules in
    let fits_t : SFits w32 r.top = search rules in
    let fits_r : SFits w32 r.right = search rules in
    let fits_b : SFits w32 r.bottom = search rules in
    let a : SFits w32 (negsuc 0 -ℤ r.left) = mirrored_fits r.left in_range.0.0 in_range.0.1 in
    let b : SFits w32 (negsuc 0 -ℤ r.top) = mirrored_fits r.top in_range.1.0 in_range.1.1 in
    let d : SFits w32 (negsuc 0 -ℤ r.right) = mirrored_fits r.right in_range.2.0 in_range.2.1 in
    let e : SFits w32 (negsuc 0 -ℤ r.bottom) = mirrored_fits r.bottom in_range.3.0 in_range.3.1 in
    simp to_z-of_z (sym (ap (λ up. seen_rect up r) c.if-up.true))
