use Rattle.std.proofs.Common.{Some, None, if◌then◌else◌, sym, ap, ◌∙◌}
use Rattle.control_mgr.specs.ControlSteps.{is_part}
use Rattle.control_mgr.proofs.Tracks.{part_tracked, settled_there, thumb_tracked}
use Rattle.control_mgr.proofs.tracking.Controls+TakenControl.tracked_part.Goals.{then-is_thumb, else-is_thumb}
use Rattle.control_mgr.proofs.tracking.Controls+TakenControl.tracked_part.Goals as goal

pub is_within-inside-requires-clause-settled : goal.is_within-inside-requires-clause-settled
is_within-inside-requires-clause-settled g c = settled_there _ c.args.self.now c.args.at c.index-control.result.now c.requires.at c.index-control.ensures c.requires.settled

pub part_tested-requires-clause-settled : goal.part_tested-requires-clause-settled
part_tested-requires-clause-settled g c = settled_there _ c.args.self.now c.args.at c.index-control.result.now c.requires.at c.index-control.ensures c.requires.settled

pub returns-then-inside : goal.returns-then-inside
returns-then-inside g c =
    sym (ap (λ b. if b then Some c.args.tracked.part else None) c.if-inside.true)
    ∙ elim c.if-is_thumb.branch [
      | then-is_thumb w ↦ thumb_tracked _ c.args.self.now c.args.at c.index-control.result.now c.requires.at c.index-control.ensures c.args.tracked c.args.point c.if-is_thumb.inside (sym c.is_thumb.ensures ∙ w.if-is_thumb.true) (w.inside-is ∙ w.is_within-inside.ensures)
      | else-is_thumb w ↦ part_tracked _ c.args.self.now c.args.at c.index-control.result.now c.requires.at c.index-control.ensures c.args.tracked c.args.point c.if-is_thumb.inside (sym c.is_thumb.ensures ∙ w.if-is_thumb.false) (w.inside-is ∙ w.is_part-inside.ensures ∙ ap (is_part c.args.tracked.part) w.part_tested.ensures)
    ]

pub returns-else-inside : goal.returns-else-inside
returns-else-inside g c =
    sym (ap (λ b. if b then Some c.args.tracked.part else None) c.if-inside.false)
    ∙ elim c.if-is_thumb.branch [
      | then-is_thumb w ↦ thumb_tracked _ c.args.self.now c.args.at c.index-control.result.now c.requires.at c.index-control.ensures c.args.tracked c.args.point c.if-is_thumb.inside (sym c.is_thumb.ensures ∙ w.if-is_thumb.true) (w.inside-is ∙ w.is_within-inside.ensures)
      | else-is_thumb w ↦ part_tracked _ c.args.self.now c.args.at c.index-control.result.now c.requires.at c.index-control.ensures c.args.tracked c.args.point c.if-is_thumb.inside (sym c.is_thumb.ensures ∙ w.if-is_thumb.false) (w.inside-is ∙ w.is_part-inside.ensures ∙ ap (is_part c.args.tracked.part) w.part_tested.ensures)
    ]
