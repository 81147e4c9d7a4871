use Rattle.std.proofs.Common.{◌≡◌, ℤ, pos, ◌+ℤ◌, ◌-ℤ◌, ◌≤ℤ◌, ◌<ℤ◌, sym, ap, ◌∙◌, subst, rules, arith, SFits, w32, to_z}
use Rattle.std.proofs.lemmas.Int.{ints, to_z-of_z}
use Rattle.tb_geom.specs.Pixels.{holds}
use Rattle.tb_geom.proofs.Steps.{fits_next}
use Rattle.pixel_rows.specs.Columns.{has_column}
use Rattle.pixel_rows.specs.Combined.{means}
use Rattle.region_inset.proofs.InsetLemmas.{AreJoined, all_joined, first_joined, joined_beside, one_joined, row_narrowed, steady_joined}
use Rattle.region_inset.proofs.ReachLemmas.{window_around}
use Rattle.region_inset.proofs.inset_row.inset_row.Goals.{then-turns_at, else-turns_at}
use Rattle.region_inset.proofs.inset_row.inset_row.Goals as goal

pub overflow_sub-first : goal.overflow_sub-first
overflow_sub-first c =
    let fits_v = c.ranges.v in
    let fits_dv = c.ranges.dv in
    let fits_r : SFits w32 c.reach-reach.result = search rules in
    let is = simp to_z-of_z at c.reach-reach.ensures in
    let w = window_around c.args.v c.args.dv c.reach-reach.result c.requires.row is c.requires.down in
    simp to_z-of_z w.first_fits

pub overflow_add-last : goal.overflow_add-last
overflow_add-last c =
    let fits_v = c.ranges.v in
    let fits_dv = c.ranges.dv in
    let fits_r : SFits w32 c.reach-reach.result = search rules in
    let is = simp to_z-of_z at c.reach-reach.ensures in
    let w = window_around c.args.v c.args.dv c.reach-reach.result c.requires.row is c.requires.down in
    simp to_z-of_z w.middle_fits

pub overflow_step-y : goal.overflow_step-y
overflow_step-y c =
    let fits_v = c.ranges.v in
    let fits_dv = c.ranges.dv in
    let fits_r : SFits w32 c.reach-reach.result = search rules in
    let is = simp to_z-of_z at c.reach-reach.ensures in
    let w = window_around c.args.v c.args.dv c.reach-reach.result c.requires.row is c.requires.down in
    let fits_first = w.first_fits in
    simp to_z-of_z w.second_fits

pub overflow_add-y-end : goal.overflow_add-y-end
overflow_add-y-end c =
    let fits_v = c.ranges.v in
    let fits_dv = c.ranges.dv in
    let fits_r : SFits w32 c.reach-reach.result = search rules in
    let is = simp to_z-of_z at c.reach-reach.ensures in
    let w = window_around c.args.v c.args.dv c.reach-reach.result c.requires.row is c.requires.down in
    let fits_middle = w.middle_fits in
    simp to_z-of_z w.last_fits

pub loop-y-init : goal.loop-y-init
loop-y-init c =
    let fits_v = c.ranges.v in
    let fits_dh = c.ranges.dh in
    let fits_dv = c.ranges.dv in
    let v : ℤ = c.args.v in
    let r : ℤ = c.reach-reach.result in
    let fits_r : SFits w32 c.reach-reach.result = search rules in
    let is = simp to_z-of_z at c.reach-reach.ensures in
    let w = window_around v c.args.dv r c.requires.row is c.requires.down in
    let fits_first = w.first_fits in
    let fits_second = w.second_fits in
    let order : (v -ℤ r) ≤ℤ (v +ℤ r) = w.order in
    let pixels = simp to_z-of_z at c.region_row.ensures in
    let narrowed = simp to_z-of_z at c.narrowed_columns-row.ensures in
    let row = row_narrowed (holds c.args.region.now) c.args.dh c.args.bounds.left c.args.bounds.right (v -ℤ r) c.region_row.result c.narrowed_columns-row.result pixels narrowed in
    simp to_z-of_z (record {
      low = omega (arith, ints);
      high = omega (arith, ints);
      joined = first_joined c.narrows-all.result (holds c.args.region.now) c.args.dh c.args.bounds.left c.args.bounds.right (v -ℤ r) c.narrowed_columns-row.result row;
    })

pub meant_columns-row-requires-clause-within : goal.meant_columns-row-requires-clause-within
meant_columns-row-requires-clause-within c =
    let fits_v = c.ranges.v in
    let fits_dh = c.ranges.dh in
    let fits_dv = c.ranges.dv in
    let v : ℤ = c.args.v in
    let r : ℤ = c.reach-reach.result in
    let fits_r : SFits w32 c.reach-reach.result = search rules in
    let y : ℤ = to_z w32 c.loop-y.y-bits in
    let so_far = simp to_z-of_z at c.loop-y.invariant.joined in
    let pixels = c.region_row-then-turns_at.ensures in
    let narrowed = simp to_z-of_z at c.narrowed_columns-narrowed.ensures in
    let row = row_narrowed (holds c.args.region.now) c.args.dh c.args.bounds.left c.args.bounds.right y c.region_row-then-turns_at.result c.narrowed_columns-narrowed.result pixels narrowed in
    λ h out. ap (λ k. means k (has_column c.loop-y.row h) (has_column c.narrowed_columns-narrowed.result h)) c.joining.ensures
    ∙ joined_beside c.narrows-all.result (holds c.args.region.now) c.args.dh c.args.bounds.left c.args.bounds.right (v -ℤ r) y c.loop-y.row c.narrowed_columns-narrowed.result so_far row h out

pub loop-y-preserved : goal.loop-y-preserved
loop-y-preserved c =
    let fits_v = c.ranges.v in
    let fits_dh = c.ranges.dh in
    let fits_dv = c.ranges.dv in
    let v : ℤ = c.args.v in
    let r : ℤ = c.reach-reach.result in
    let fits_r : SFits w32 c.reach-reach.result = search rules in
    let is = simp to_z-of_z at c.reach-reach.ensures in
    let w = window_around v c.args.dv r c.requires.row is c.requires.down in
    let fits_middle = w.middle_fits in
    let fits_end = w.last_fits in
    let y : ℤ = to_z w32 c.loop-y.y-bits in
    let fits_y : SFits w32 y = search rules in
    let below : y <ℤ ((v +ℤ r) +ℤ pos 1) = search (rules, ints) in
    let fits : SFits w32 (y +ℤ pos 1) = fits_next _ _ fits_y fits_end below in
    let low : (v -ℤ r) <ℤ y = simp to_z-of_z at c.loop-y.invariant.low in
    let all = c.narrows-all.result in
    let s = holds c.args.region.now in
    let dh : ℤ = c.args.dh in
    let left : ℤ = c.args.bounds.left in
    let right : ℤ = c.args.bounds.right in
    let so_far = simp to_z-of_z at c.loop-y.invariant.joined in
    let more : AreJoined all s dh (v -ℤ r) (y +ℤ pos 1) left right c.if-turns_at.row = elim c.if-turns_at.branch [
      | then-turns_at t ↦
          let pixels = t.region_row-then-turns_at.ensures in
          let narrowed = simp to_z-of_z at t.narrowed_columns-narrowed.ensures in
          let row = row_narrowed s dh left right y t.region_row-then-turns_at.result t.narrowed_columns-narrowed.result pixels narrowed in
          subst (AreJoined all s dh (v -ℤ r) (y +ℤ pos 1) left right) (sym t.row-is)
          (one_joined all s dh left right (v -ℤ r) y c.loop-y.row t.narrowed_columns-narrowed.result t.meant_columns-row.result so_far low row
          (λ h. t.meant_columns-row.ensures h ∙ ap (λ k. means k (has_column c.loop-y.row h) (has_column t.narrowed_columns-narrowed.result h)) t.joining.ensures))
      | else-turns_at t ↦
          subst (AreJoined all s dh (v -ℤ r) (y +ℤ pos 1) left right) (sym t.row-is)
          (steady_joined all s dh left right (v -ℤ r) y c.loop-y.row so_far low (c.turns_at.ensures t.if-turns_at.false))
    ] in
    simp to_z-of_z (record { low = omega (arith, ints); high = omega (arith, ints); joined = more })

pub returns : goal.returns
returns c =
    let fits_v = c.ranges.v in
    let fits_dh = c.ranges.dh in
    let fits_dv = c.ranges.dv in
    let v : ℤ = c.args.v in
    let r : ℤ = c.reach-reach.result in
    let fits_r : SFits w32 c.reach-reach.result = search rules in
    let is = simp to_z-of_z at c.reach-reach.ensures in
    let all = simp to_z-of_z at c.narrows-all.ensures in
    let w = window_around v c.args.dv r c.requires.row is c.requires.down in
    let fits_middle = w.middle_fits in
    let fits_end = w.last_fits in
    let y : ℤ = to_z w32 c.loop-y.y-bits in
    let past : ((v +ℤ r) +ℤ pos 1) ≤ℤ y = search (rules, ints) in
    let high : y ≤ℤ ((v +ℤ r) +ℤ pos 1) = simp to_z-of_z at c.loop-y.invariant.high in
    let end : y ≡ (v +ℤ r) +ℤ pos 1 = omega (arith, ints) in
    let so_far = simp to_z-of_z at c.loop-y.invariant.joined in
    all_joined (holds c.args.region.now) c.args.dh c.args.dv r v y c.args.bounds.left c.args.bounds.right c.narrows-all.result c.loop-y.row is all end so_far
