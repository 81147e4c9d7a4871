use Rattle.std.proofs.Common.{◌≡◌, ◌&&◌, Bool, true, ℤ, pos, ◌+ℤ◌, ◌-ℤ◌, ◌≤ℤ◌, ◌<ℤ◌, sym, ap, ◌∙◌, subst, rules, arith, SFits, w32, to_z}
use Rattle.std.proofs.lemmas.Bool.{and_left}
use Rattle.std.proofs.lemmas.Int.{ints, to_z-of_z}
use Rattle.tb_geom.proofs.RectLemmas.{between-in}
use Rattle.tb_geom.proofs.Steps.{fits_next}
use Rattle.tb_geom.specs.Rects.{between}
use Rattle.shape_strips.proofs.RangeLemmas.{sides_in}
use Rattle.pixel_rows.specs.Columns.{has_column}
use Rattle.pixel_rows.proofs.ColumnLemmas.{AreKept, none_kept, one_kept, one_passed, all_kept, column_in}
use Rattle.region_inset.specs.Near.{narrowed, IsRun}
use Rattle.region_inset.proofs.NearLemmas.{run_narrowed}
use Rattle.region_inset.proofs.ReachLemmas.{coordinate_word, reach_within, window_around}
use Rattle.region_inset.proofs.narrowed.narrowed_columns.Goals.{then-decides, else-decides}
use Rattle.region_inset.proofs.narrowed.narrowed_columns.Goals as goal

pub run_before-alike-requires-clause-from : goal.run_before-alike-requires-clause-from
run_before-alike-requires-clause-from c =
    let fits_d = c.ranges.d in
    let fits_left : SFits w32 c.args.bounds.left = search rules in
    let fits_r : SFits w32 c.reach-reach.result = search rules in
    let is = simp to_z-of_z at c.reach-reach.ensures in
    let sides = sides_in c.args.bounds c.requires.in_range in
    let w = window_around c.args.bounds.left c.args.d c.reach-reach.result (coordinate_word c.args.bounds.left (sides.left_low, sides.left_high)) is c.requires.distance in
    let fits_first = w.first_fits in
    simp to_z-of_z w.first

pub run_before-alike-requires-clause-to : goal.run_before-alike-requires-clause-to
run_before-alike-requires-clause-to c =
    let fits_d = c.ranges.d in
    let fits_left : SFits w32 c.args.bounds.left = search rules in
    let fits_r : SFits w32 c.reach-reach.result = search rules in
    let is = simp to_z-of_z at c.reach-reach.ensures in
    let sides = sides_in c.args.bounds c.requires.in_range in
    let w = window_around c.args.bounds.left c.args.d c.reach-reach.result (coordinate_word c.args.bounds.left (sides.left_low, sides.left_high)) is c.requires.distance in
    let fits_middle = w.middle_fits in
    simp to_z-of_z w.middle

pub run_before-alike-requires-clause-order : goal.run_before-alike-requires-clause-order
run_before-alike-requires-clause-order c =
    let fits_d = c.ranges.d in
    let fits_left : SFits w32 c.args.bounds.left = search rules in
    let fits_r : SFits w32 c.reach-reach.result = search rules in
    let is = simp to_z-of_z at c.reach-reach.ensures in
    let sides = sides_in c.args.bounds c.requires.in_range in
    let w = window_around c.args.bounds.left c.args.d c.reach-reach.result (coordinate_word c.args.bounds.left (sides.left_low, sides.left_high)) is c.requires.distance in
    let fits_first = w.first_fits in
    let fits_middle = w.middle_fits in
    simp to_z-of_z w.order

pub loop-h-init : goal.loop-h-init
loop-h-init c =
    let fits_d = c.ranges.d in
    let fits_left : SFits w32 c.args.bounds.left = search rules in
    let fits_r : SFits w32 c.reach-reach.result = search rules in
    let fits_n : SFits w32 c.run_before-alike.result = search rules in
    let is = simp to_z-of_z at c.reach-reach.ensures in
    let sides = sides_in c.args.bounds c.requires.in_range in
    let w = window_around c.args.bounds.left c.args.d c.reach-reach.result (coordinate_word c.args.bounds.left (sides.left_low, sides.left_high)) is c.requires.distance in
    let fits_first = w.first_fits in
    let fits_middle = w.middle_fits in
    let run = simp to_z-of_z at c.run_before-alike.ensures in
    let row : ℤ → Bool = λ x. between c.args.bounds.left x c.args.bounds.right && narrowed c.args.d (has_column c.args.columns.now) x in
    simp to_z-of_z (record { low = omega (arith, ints); run = run; kept = none_kept row c.args.bounds.left _ c.none-row.ensures })

pub overflow_add-h : goal.overflow_add-h
overflow_add-h c =
    let fits_d = c.ranges.d in
    let fits_left : SFits w32 c.args.bounds.left = search rules in
    let fits_right : SFits w32 c.args.bounds.right = search rules in
    let fits_r : SFits w32 c.reach-reach.result = search rules in
    let h : ℤ = to_z w32 c.loop-h.h-bits in
    let fits_h : SFits w32 h = search rules in
    let low = c.loop-h.invariant.low in
    let below : h <ℤ c.args.bounds.right = search (rules, ints) in
    let is = simp to_z-of_z at c.reach-reach.ensures in
    let w = window_around h c.args.d c.reach-reach.result (coordinate_word h (column_in c.args.bounds h c.requires.in_range low below)) is c.requires.distance in
    let fits : SFits w32 (h +ℤ c.reach-reach.result) = w.middle_fits in
    simp to_z-of_z fits

pub next_run-alike-requires : goal.next_run-alike-requires
next_run-alike-requires c =
    let fits_d = c.ranges.d in
    let fits_left : SFits w32 c.args.bounds.left = search rules in
    let fits_right : SFits w32 c.args.bounds.right = search rules in
    let r : ℤ = c.reach-reach.result in
    let fits_r : SFits w32 c.reach-reach.result = search rules in
    let h : ℤ = to_z w32 c.loop-h.h-bits in
    let fits_h : SFits w32 h = search rules in
    let n : ℤ = to_z w32 c.loop-h.alike-bits in
    let low = c.loop-h.invariant.low in
    let below : h <ℤ c.args.bounds.right = search (rules, ints) in
    let is = simp to_z-of_z at c.reach-reach.ensures in
    let within = reach_within c.args.d r is c.requires.distance in
    let r_high = within.1 in
    let column = column_in c.args.bounds h c.requires.in_range low below in
    let h_high = column.1 in
    let sides = sides_in c.args.bounds c.requires.in_range in
    let left_low = sides.left_low in
    let so_far = simp to_z-of_z at c.loop-h.invariant.run in
    let few : n ≤ℤ ((h +ℤ r) -ℤ (c.args.bounds.left -ℤ r)) = so_far.high in
    omega (arith, ints)

pub decides-requires-clause-low : goal.decides-requires-clause-low
decides-requires-clause-low c =
    let fits_d = c.ranges.d in
    let fits_r : SFits w32 c.reach-reach.result = search rules in
    let is = simp to_z-of_z at c.reach-reach.ensures in
    simp to_z-of_z (reach_within c.args.d c.reach-reach.result is c.requires.distance).0

pub decides-requires-clause-high : goal.decides-requires-clause-high
decides-requires-clause-high c =
    let fits_d = c.ranges.d in
    let fits_r : SFits w32 c.reach-reach.result = search rules in
    let is = simp to_z-of_z at c.reach-reach.ensures in
    simp to_z-of_z (reach_within c.args.d c.reach-reach.result is c.requires.distance).1

pub loop-h-preserved : goal.loop-h-preserved
loop-h-preserved c =
    let fits_d = c.ranges.d in
    let fits_left : SFits w32 c.args.bounds.left = search rules in
    let fits_right : SFits w32 c.args.bounds.right = search rules in
    let r : ℤ = c.reach-reach.result in
    let fits_r : SFits w32 c.reach-reach.result = search rules in
    let h : ℤ = to_z w32 c.loop-h.h-bits in
    let fits_h : SFits w32 h = search rules in
    let left : ℤ = c.args.bounds.left in
    let right : ℤ = c.args.bounds.right in
    let low : left ≤ℤ h = c.loop-h.invariant.low in
    let below : h <ℤ right = search (rules, ints) in
    let fits : SFits w32 (h +ℤ pos 1) = fits_next _ _ fits_h fits_right below in
    let fits_m : SFits w32 c.next_run-alike.result = search rules in
    let is = simp to_z-of_z at c.reach-reach.ensures in
    let all = simp to_z-of_z at c.narrows-all.ensures in
    let column = column_in c.args.bounds h c.requires.in_range low below in
    let w = window_around h c.args.d r (coordinate_word h column) is c.requires.distance in
    let fits_middle : SFits w32 (h +ℤ r) = w.middle_fits in
    let before : IsRun c.narrows-all.result (has_column c.args.columns.now) (left -ℤ r) (h +ℤ r) (to_z w32 c.loop-h.alike-bits) = simp to_z-of_z at c.loop-h.invariant.run in
    let step = simp to_z-of_z at c.next_run-alike.ensures in
    let run : IsRun c.narrows-all.result (has_column c.args.columns.now) (left -ℤ r) ((h +ℤ r) +ℤ pos 1) c.next_run-alike.result = step (left -ℤ r) (omega (arith, ints)) before in
    let next : (h +ℤ r) +ℤ pos 1 ≡ (h +ℤ pos 1) +ℤ r = omega (arith, ints) in
    let long = simp to_z-of_z at c.decides.ensures.long in
    let short = simp to_z-of_z at c.decides.ensures.short in
    let row : ℤ → Bool = λ x. between left x right && narrowed c.args.d (has_column c.args.columns.now) x in
    let inside : between left h right ≡ true = between-in left h right low below in
    let here : c.decides.result ≡ row h =
    run_narrowed c.args.d (has_column c.args.columns.now) (left -ℤ r) h c.next_run-alike.result r c.narrows-all.result c.decides.result is all run (omega (arith, ints)) long short
    ∙ sym (ap (λ t. t && narrowed c.args.d (has_column c.args.columns.now) h) inside) in
    let kept = simp to_z-of_z at c.loop-h.invariant.kept in
    let more : AreKept row left (h +ℤ pos 1) c.if-decides.row = elim c.if-decides.branch [
      | then-decides w ↦ subst (AreKept row left (h +ℤ pos 1)) (sym w.row-is) (one_kept row left h c.loop-h.row w.flip.new.self kept low column (sym here ∙ w.if-decides.true) w.flip.ensures)
      | else-decides w ↦ subst (AreKept row left (h +ℤ pos 1)) (sym w.row-is) (one_passed row left h c.loop-h.row kept (sym here ∙ w.if-decides.false))
    ] in
    simp to_z-of_z (record {
      low = omega (arith, ints);
      run = subst (λ z. IsRun c.narrows-all.result (has_column c.args.columns.now) (left -ℤ r) z c.next_run-alike.result) next run;
      kept = more;
    })

pub returns : goal.returns
returns c =
    let fits_right : SFits w32 c.args.bounds.right = search rules in
    let h : ℤ = to_z w32 c.loop-h.h-bits in
    let past : c.args.bounds.right ≤ℤ h = search (rules, ints) in
    let row : ℤ → Bool = λ x. between c.args.bounds.left x c.args.bounds.right && narrowed c.args.d (has_column c.args.columns.now) x in
    let fits_d = c.ranges.d in
    let kept = simp to_z-of_z at c.loop-h.invariant.kept in
    all_kept row c.args.bounds.left c.args.bounds.right h _ kept past (λ x out. and_left (between c.args.bounds.left x c.args.bounds.right) (narrowed c.args.d (has_column c.args.columns.now) x) out)
