use Rattle.std.proofs.Common.{◌≡◌, Bool, ℤ, pos, ◌+ℤ◌, ◌-ℤ◌, ◌≤ℤ◌, ◌<ℤ◌, sym, ◌∙◌, subst, rules, arith, SFits, w32, to_z}
use Rattle.std.proofs.lemmas.Int.{ints, to_z-of_z}
use Rattle.tb_geom.specs.Pixels.{holds}
use Rattle.tb_geom.proofs.Steps.{fits_next}
use Rattle.pixel_rows.specs.Combined.{means}
use Rattle.region_inset.specs.Insets.{inset_columns}
use Rattle.region_inset.specs.Near.{narrowed}
use Rattle.region_inset.proofs.InsetLemmas.{meant_joined, pixel_joined}
use Rattle.region_inset.proofs.NearLemmas.{IsJoined, joined_first, joined_more, joined_steady}
use Rattle.region_inset.proofs.ReachLemmas.{window_around}
use Rattle.region_inset.proofs.inset_row.inset_has.Goals.{then-turns_at, else-turns_at}
use Rattle.region_inset.proofs.inset_row.inset_has.Goals as goal

pub overflow_sub-first : goal.overflow_sub-first
overflow_sub-first c =
    let fits_v = c.ranges.v in
    let fits_dv = c.ranges.dv in
    let fits_r : SFits w32 c.reach-reach.result = search rules in
    let is = simp to_z-of_z at c.reach-reach.ensures in
    let w = window_around c.args.v c.args.dv c.reach-reach.result c.requires.row is c.requires.down in
    simp to_z-of_z w.first_fits

pub overflow_add-last : goal.overflow_add-last
overflow_add-last c =
    let fits_v = c.ranges.v in
    let fits_dv = c.ranges.dv in
    let fits_r : SFits w32 c.reach-reach.result = search rules in
    let is = simp to_z-of_z at c.reach-reach.ensures in
    let w = window_around c.args.v c.args.dv c.reach-reach.result c.requires.row is c.requires.down in
    simp to_z-of_z w.middle_fits

pub overflow_step-y : goal.overflow_step-y
overflow_step-y c =
    let fits_v = c.ranges.v in
    let fits_dv = c.ranges.dv in
    let fits_r : SFits w32 c.reach-reach.result = search rules in
    let is = simp to_z-of_z at c.reach-reach.ensures in
    let w = window_around c.args.v c.args.dv c.reach-reach.result c.requires.row is c.requires.down in
    let fits_first = w.first_fits in
    simp to_z-of_z w.second_fits

pub overflow_add-y-end : goal.overflow_add-y-end
overflow_add-y-end c =
    let fits_v = c.ranges.v in
    let fits_dv = c.ranges.dv in
    let fits_r : SFits w32 c.reach-reach.result = search rules in
    let is = simp to_z-of_z at c.reach-reach.ensures in
    let w = window_around c.args.v c.args.dv c.reach-reach.result c.requires.row is c.requires.down in
    let fits_middle = w.middle_fits in
    simp to_z-of_z w.last_fits

pub loop-y-init : goal.loop-y-init
loop-y-init c =
    let fits_h = c.ranges.h in
    let fits_v = c.ranges.v in
    let fits_dh = c.ranges.dh in
    let fits_dv = c.ranges.dv in
    let v : ℤ = c.args.v in
    let r : ℤ = c.reach-reach.result in
    let fits_r : SFits w32 c.reach-reach.result = search rules in
    let is = simp to_z-of_z at c.reach-reach.ensures in
    let w = window_around v c.args.dv r c.requires.row is c.requires.down in
    let fits_first = w.first_fits in
    let fits_second = w.second_fits in
    let order : (v -ℤ r) ≤ℤ (v +ℤ r) = w.order in
    let pixels = simp to_z-of_z at c.region_row.ensures in
    let first = simp to_z-of_z at c.narrowed_at-answer.ensures in
    let test : ℤ → Bool = λ y. inset_columns (holds c.args.region.now) c.args.dh (record { h = c.args.h; v = y }) in
    let same : c.narrowed_at-answer.result ≡ test (v -ℤ r) = first ∙ (λ i. narrowed c.args.dh (λ x. pixels x i) c.args.h) in
    simp to_z-of_z (record {
      low = omega (arith, ints);
      high = omega (arith, ints);
      joined = joined_first c.narrows-all.result test (v -ℤ r) c.narrowed_at-answer.result same;
    })

pub loop-y-preserved : goal.loop-y-preserved
loop-y-preserved c =
    let fits_h = c.ranges.h in
    let fits_v = c.ranges.v in
    let fits_dh = c.ranges.dh in
    let fits_dv = c.ranges.dv in
    let v : ℤ = c.args.v in
    let r : ℤ = c.reach-reach.result in
    let fits_r : SFits w32 c.reach-reach.result = search rules in
    let is = simp to_z-of_z at c.reach-reach.ensures in
    let w = window_around v c.args.dv r c.requires.row is c.requires.down in
    let fits_middle = w.middle_fits in
    let fits_end = w.last_fits in
    let y : ℤ = to_z w32 c.loop-y.y-bits in
    let fits_y : SFits w32 y = search rules in
    let below : y <ℤ ((v +ℤ r) +ℤ pos 1) = search (rules, ints) in
    let fits : SFits w32 (y +ℤ pos 1) = fits_next _ _ fits_y fits_end below in
    let low : (v -ℤ r) <ℤ y = simp to_z-of_z at c.loop-y.invariant.low in
    let all = c.narrows-all.result in
    let test : ℤ → Bool = λ y. inset_columns (holds c.args.region.now) c.args.dh (record { h = c.args.h; v = y }) in
    let so_far = simp to_z-of_z at c.loop-y.invariant.joined in
    let more : IsJoined all test (v -ℤ r) (y +ℤ pos 1) c.if-turns_at.answer = elim c.if-turns_at.branch [
      | then-turns_at t ↦
          let pixels = t.region_row-then-turns_at.ensures in
          let narrowed_here = simp to_z-of_z at t.narrowed_at-narrowed.ensures in
          let here : t.narrowed_at-narrowed.result ≡ test y = narrowed_here ∙ (λ i. narrowed c.args.dh (λ x. pixels x i) c.args.h) in
          subst (IsJoined all test (v -ℤ r) (y +ℤ pos 1)) (sym t.answer-is)
          (joined_more all test (v -ℤ r) y c.loop-y.answer t.means-answer.result so_far (omega (arith, ints))
          (t.means-answer.ensures ∙ (λ i. means (t.joining.ensures i) c.loop-y.answer (here i)) ∙ meant_joined all c.loop-y.answer (test y)))
      | else-turns_at t ↦
          subst (IsJoined all test (v -ℤ r) (y +ℤ pos 1)) (sym t.answer-is)
          (joined_steady all test (v -ℤ r) y c.loop-y.answer so_far low (λ i. narrowed c.args.dh (λ x. c.turns_at.ensures t.if-turns_at.false x i) c.args.h))
    ] in
    simp to_z-of_z (record { low = omega (arith, ints); high = omega (arith, ints); joined = more })

pub returns : goal.returns
returns c =
    let fits_h = c.ranges.h in
    let fits_v = c.ranges.v in
    let fits_dh = c.ranges.dh in
    let fits_dv = c.ranges.dv in
    let v : ℤ = c.args.v in
    let r : ℤ = c.reach-reach.result in
    let fits_r : SFits w32 c.reach-reach.result = search rules in
    let is = simp to_z-of_z at c.reach-reach.ensures in
    let all = simp to_z-of_z at c.narrows-all.ensures in
    let w = window_around v c.args.dv r c.requires.row is c.requires.down in
    let fits_middle = w.middle_fits in
    let fits_end = w.last_fits in
    let y : ℤ = to_z w32 c.loop-y.y-bits in
    let past : ((v +ℤ r) +ℤ pos 1) ≤ℤ y = search (rules, ints) in
    let high : y ≤ℤ ((v +ℤ r) +ℤ pos 1) = simp to_z-of_z at c.loop-y.invariant.high in
    let end : y ≡ (v +ℤ r) +ℤ pos 1 = omega (arith, ints) in
    let so_far = simp to_z-of_z at c.loop-y.invariant.joined in
    pixel_joined (holds c.args.region.now) c.args.dh c.args.dv r c.args.h v y c.narrows-all.result c.loop-y.answer is all end so_far
