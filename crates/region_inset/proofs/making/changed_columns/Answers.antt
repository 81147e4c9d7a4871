use Rattle.std.proofs.Common.{◌≡◌, ◌++◌, [], ◌∷◌, not, Bool, ℤ, pos, ◌+ℤ◌, ◌≤ℤ◌, ◌<ℤ◌, sym, ap, ◌∙◌, subst, rules, arith, SFits, w32, to_z}
use Rattle.std.proofs.lemmas.Int.{ints, to_z-of_z}
use Rattle.tb_geom.proofs.Steps.{fits_next}
use Rattle.region_rows.specs.Edges.{differ}
use Rattle.shape_strips.proofs.RangeLemmas.{sides_in, sum_fits}
use Rattle.pixel_rows.specs.Columns.{changes}
use Rattle.pixel_rows.proofs.ChangeLemmas.{AreFound, alike_beside}
use Rattle.region_inset.proofs.MadeLemmas.{all_found, found_none, found_one, found_row, none_found}
use Rattle.region_inset.proofs.making.changed_columns.Goals.{then-turns+in_ok-push, else-turns}
use Rattle.region_inset.proofs.making.changed_columns.Goals as goal

pub loop-h-init : goal.loop-h-init
loop-h-init c =
    let fits_left : SFits w32 c.args.bounds.left = search rules in
    let sides = sides_in c.args.bounds c.requires.in_range in
    let first = sides.left_high in
    let left : ℤ = c.args.bounds.left in
    let right : ℤ = c.args.bounds.right in
    simp to_z-of_z (record {
      low = omega (arith, ints);
      high = omega (arith, ints);
      found = none_found left right (changes c.args.above.now c.args.row.now) c.new-points.result.items c.new-points.ensures.items
          (alike_beside left right c.args.above.now c.args.row.now c.requires.above c.requires.row);
    })

pub loop-h-preserved : goal.loop-h-preserved
loop-h-preserved c =
    let fits_left : SFits w32 c.args.bounds.left = search rules in
    let fits_right : SFits w32 c.args.bounds.right = search rules in
    let h : ℤ = to_z w32 c.loop-h.h-bits in
    let fits_h : SFits w32 h = search rules in
    let sides = sides_in c.args.bounds c.requires.in_range in
    let last = sides.right_high in
    let fits_end : SFits w32 (c.args.bounds.right +ℤ pos 1) = sum_fits c.args.bounds.right 1 sides.right_low last (omega arith) in
    let low = c.loop-h.invariant.low in
    let below : h <ℤ (c.args.bounds.right +ℤ pos 1) = search (rules, ints) in
    let fits : SFits w32 (h +ℤ pos 1) = fits_next _ _ fits_h fits_end below in
    let t : ℤ → Bool = changes c.args.above.now c.args.row.now in
    let left : ℤ = c.args.bounds.left in
    let so_far = c.loop-h.invariant.found in
    let here : c.differ-turns.result ≡ differ (t h) c.loop-h.turned = c.differ-turns.ensures ∙ ap (λ b. differ b c.loop-h.turned) c.differs_at.ensures in
    let more : AreFound left (h +ℤ pos 1) t c.if-turns.points.items c.if-turns.turned = elim c.if-turns.branch [
      | then-turns+in_ok-push w ↦
          let pushed : w.push.new.self.items ≡ c.loop-h.points.items ++ h ∷ [] = search rules in
          subst (λ b. AreFound left (h +ℤ pos 1) t c.if-turns.points.items b) (sym w.turned-is)
          (subst (λ v. AreFound left (h +ℤ pos 1) t v.items (not c.loop-h.turned)) (sym w.points-is)
          (found_one left h t c.loop-h.points.items w.push.new.self.items c.loop-h.turned so_far low (sym here ∙ w.if-turns.true) pushed))
      | else-turns w ↦
          subst (λ b. AreFound left (h +ℤ pos 1) t c.if-turns.points.items b) (sym w.turned-is)
          (subst (λ v. AreFound left (h +ℤ pos 1) t v.items c.loop-h.turned) (sym w.points-is)
          (found_none left h t c.loop-h.points.items c.loop-h.turned so_far (sym here ∙ w.if-turns.false)))
    ] in
    simp to_z-of_z (record { low = omega (arith, ints); high = omega (arith, ints); found = more })

pub returns-clause-pixels : goal.returns-clause-pixels
returns-clause-pixels c =
    let fits_right : SFits w32 c.args.bounds.right = search rules in
    let h : ℤ = to_z w32 c.loop-h.h-bits in
    let sides = sides_in c.args.bounds c.requires.in_range in
    let fits_end : SFits w32 (c.args.bounds.right +ℤ pos 1) = sum_fits c.args.bounds.right 1 sides.right_low sides.right_high (omega arith) in
    let past : (c.args.bounds.right +ℤ pos 1) ≤ℤ h = search (rules, ints) in
    all_found c.args.bounds.left c.args.bounds.right h (changes c.args.above.now c.args.row.now) c.loop-h.points.items c.loop-h.turned c.loop-h.invariant.found (omega (arith, ints))
    (alike_beside c.args.bounds.left c.args.bounds.right c.args.above.now c.args.row.now c.requires.above c.requires.row)

pub returns-clause-row : goal.returns-clause-row
returns-clause-row c =
    let fits_right : SFits w32 c.args.bounds.right = search rules in
    let h : ℤ = to_z w32 c.loop-h.h-bits in
    let sides = sides_in c.args.bounds c.requires.in_range in
    let fits_end : SFits w32 (c.args.bounds.right +ℤ pos 1) = sum_fits c.args.bounds.right 1 sides.right_low sides.right_high (omega arith) in
    let past : (c.args.bounds.right +ℤ pos 1) ≤ℤ h = search (rules, ints) in
    found_row c.args.bounds.left c.args.bounds.right h (changes c.args.above.now c.args.row.now) c.loop-h.points.items c.loop-h.turned c.loop-h.invariant.found (omega (arith, ints))
    (alike_beside c.args.bounds.left c.args.bounds.right c.args.above.now c.args.row.now c.requires.above c.requires.row) (sides.left_low, sides.left_high) c.loop-h.invariant.high
