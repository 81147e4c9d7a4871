use Rattle.std.proofs.Common.{sym, rules, ap, ◌∙◌, SFits, w32, get_or, pos, ◌≡◌, to_z, of_z, not, take}
use Rattle.std.proofs.lemmas.Int.{to_z-of_z}
use Rattle.region_rows.specs.Edges.{inside, differ}
use Rattle.region_rows.proofs.contains.is_inside.Goals as goal
use Rattle.region_rows.proofs.contains.is_inside.Goals.{then-x-h, else-x-h}
use Rattle.region_bytes.proofs.Edges.{inside-more, inside-nil}

pub loop-x-init : goal.loop-x-init
loop-x-init c = sym (inside-nil _)

pub loop-x-preserved : goal.loop-x-preserved
loop-x-preserved c =
    let fits_h = c.ranges.h in
    let more = inside-more c.args.points.now c.loop-x.x-index (to_z w32 (of_z w32 c.args.h)) c.loop-x-test.true in
    let fits : SFits w32 (get_or c.args.points.now c.loop-x.x-index (pos 0)) = search rules in
    let now = simp to_z-of_z at more in
    let so_far : c.loop-x.within ≡ inside (take c.loop-x.x-index c.args.points.now) c.args.h = simp to_z-of_z at c.loop-x.invariant in
    elim c.if-x-h.branch [
      | then-x-h w ↦ let t = simp to_z-of_z at w.if-x-h.true in simp to_z-of_z (w.within-is ∙ ap not so_far ∙ sym (now ∙ (λ i. differ (t i) (inside (take c.loop-x.x-index c.args.points.now) c.args.h))))
      | else-x-h w ↦ let t = simp to_z-of_z at w.if-x-h.false in simp to_z-of_z (w.within-is ∙ so_far ∙ sym (now ∙ (λ i. differ (t i) (inside (take c.loop-x.x-index c.args.points.now) c.args.h))))
    ]
