use Rattle.std.proofs.Common.{◌≡◌, true, false, ap, sym, ◌∙◌}
use Rattle.std.proofs.lemmas.Int.{to_z-of_z}
use Rattle.tb_geom.specs.Rects.{is_empty_rect, is_in_range}
use Rattle.shape_strips.specs.Rounds.{round_holds}
use Rattle.shape_strips.specs.Frames.{inset_rect, inset_corner}
use Rattle.shape_strips.proofs.RangeLemmas.{inset_in_range}
use Rattle.shape_strips.proofs.InsideLemmas.{round_of_none}
use Rattle.shape_strips.proofs.inside.InsideStrip.inset_run.Goals as goal

pub returns-then-is_empty : goal.returns-then-is_empty
returns-then-is_empty c =
    let none : is_empty_rect (inset_rect c.args.self.now.rect c.args.self.now.pen) ≡ true =
    ap is_empty_rect (sym c.inset_rect-rect.ensures) ∙ sym c.is_empty.ensures.sides ∙ c.if-is_empty.true in
    λ h. c.empty.ensures h ∙ sym (round_of_none (inset_rect c.args.self.now.rect c.args.self.now.pen) (inset_corner c.args.self.now.corner c.args.self.now.pen) none (record { h = h; v = c.args.v }))

pub invariant_of-run : goal.invariant_of-run
invariant_of-run c =
    let some : is_empty_rect (inset_rect c.args.self.now.rect c.args.self.now.pen) ≡ false =
    ap is_empty_rect (sym c.inset_rect-rect.ensures) ∙ sym c.is_empty.ensures.sides ∙ c.if-is_empty.false in
    record { in_range = ap is_in_range c.inset_rect-rect.ensures ∙ inset_in_range c.args.self.now.rect c.args.self.now.pen c.args.self.now.in_range some }

pub returns : goal.returns
returns c =
    let fits = c.ranges.v in
    let told = simp to_z-of_z at c.run.ensures in
    λ h. told h ∙ (λ i. round_holds (c.inset_rect-rect.ensures i) (c.inset_corner-corner.ensures i) (record { h = h; v = c.args.v }))
