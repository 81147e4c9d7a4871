use Rattle.std.proofs.Common.{rules, ◌≡◌, ◌↔◌, IsTrue, Bool, true, false, refl, sym, ◌∙◌}
use Rattle.std.proofs.lemmas.Bool.{false≢true}
use Rattle.tb_geom.specs.declared.point.Point.{Point}
use Rattle.tb_geom.specs.declared.rect.Rect.{Rect}
use Rattle.tb_geom.specs.Rects.{rect_holds, IsBoxOf}
use Rattle.tb_geom.specs.Pixels.{Pixels, holds}
use Rattle.vis_update.proofs.plan.Seat.stays.Goals as goal

-- a region whose box the changed one misses has none of it
apart : (region changed : Pixels) (box : Rect) (b : Bool) → IsTrue b ↔ ((p : Point) × (holds changed p ≡ true) × (rect_holds box p ≡ true)) → b ≡ false → IsBoxOf box (holds region) → (p : Point) → holds region p ≡ true → holds changed p ≡ false
apart region changed box b meets away boxed p has = by_test (holds changed p) refl
  where
    by_test : (x : Bool) → holds changed p ≡ x → holds changed p ≡ false
    by_test true e = let met : b ≡ true = meets.1 (p, e, boxed.holds p has) in absurd (false≢true (sym away ∙ met))
    by_test false e = e

pub returns : goal.returns
returns g c e = record {
  other = search rules;
  visible = apart c.args.self.now.area.now.visible c.args.lost.now c.bbox.result c.meets_rect.result c.meets_rect.ensures (search rules) c.bbox.ensures.exact;
  frame = apart c.args.self.now.area.now.frame c.args.lost.now c.bbox-else-meets_rect.result c.meets_rect-else-meets_rect.result c.meets_rect-else-meets_rect.ensures (search rules) c.bbox-else-meets_rect.ensures.exact;
  beside = c.is_beside.ensures.beside e;
}
