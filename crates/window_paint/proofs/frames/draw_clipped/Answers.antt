use Rattle.std.proofs.Common.{◌≡◌, Bool, true, false, IsTrue, ◌↔◌, ◌&&◌, refl, sym, ◌∙◌, rules}
use Rattle.std.proofs.lemmas.Bool.{and_parts, false≢true}
use Rattle.tb_geom.specs.declared.point.Point.{Point}
use Rattle.tb_geom.specs.declared.rect.Rect.{Rect}
use Rattle.tb_geom.specs.Pixels.{Pixels, holds}
use Rattle.tb_geom.specs.Rects.{rect_holds}
use Rattle.bit_blit.proofs.DrawsLemmas.{Draws-none}
use Rattle.bit_blit.proofs.WrittenLemmas.{written_none}
use Rattle.window_paint.proofs.CutLemmas.{inside_drawn, inside_written}
use Rattle.window_paint.proofs.frames.draw_clipped.Goals as goal

pub returns-clause-drawn : goal.returns-clause-drawn
returns-clause-drawn g c =
    inside_drawn c.cut_inside-cut.result c.args.region c.args.clip _ c.args.map.now c.draw.new.canvas.map.now _ c.cut_inside-cut.ensures (search rules) c.draw.ensures.drawn

pub returns-clause-written : goal.returns-clause-written
returns-clause-written g c =
    inside_written c.cut_inside-cut.result c.args.region c.args.clip c.args.map.now c.draw.new.canvas.map.now _ c.cut_inside-cut.ensures (search rules) c.draw.ensures.same_frame.written

-- a region that a rectangle does not meet has no pixel of it
none_within : (region : Pixels) (clip : Rect) (met : Bool) → IsTrue met ↔ ((p : Point) × (holds region p ≡ true) × (rect_holds clip p ≡ true)) → met ≡ false → (p : Point) → (rect_holds clip p && holds region p) ≡ false
none_within region clip met meets away p = by_test (rect_holds clip p && holds region p) refl
  where
    by_test : (b : Bool) → (rect_holds clip p && holds region p) ≡ b → (rect_holds clip p && holds region p) ≡ false
    by_test true e = let its = and_parts (rect_holds clip p) (holds region p) e in absurd (false≢true (sym away ∙ meets.1 (p, its.1, its.0)))
    by_test false e = e

pub returns-then-not-meets_rect-clause-drawn : goal.returns-then-not-meets_rect-clause-drawn
returns-then-not-meets_rect-clause-drawn g c = Draws-none _ _ c.args.map.now (λ p on. none_within c.args.region.now c.args.clip c.meets_rect.result c.meets_rect.ensures (search rules) p)

pub returns-then-not-meets_rect-clause-written : goal.returns-then-not-meets_rect-clause-written
returns-then-not-meets_rect-clause-written g c = written_none _ c.args.map.now
