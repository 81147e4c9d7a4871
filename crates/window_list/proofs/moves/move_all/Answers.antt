use Rattle.std.proofs.Common.{◌<◌, length, arith, sym, ap, subst, ◌∙◌}
use Rattle.std.proofs.lemmas.List.{get_or_default}
use Rattle.tb_geom.specs.Points.{minus}
use Rattle.tb_geom.specs.Pixels.{holds}
use Rattle.scan_region.specs.Moves.{StaysInRange}
use Rattle.window_list.proofs.Moved.{first_ahead, ahead_more, moved_more}
use Rattle.window_list.proofs.moves.move_all.Goals as goal

pub move_by-requires : goal.move_by-requires
move_by-requires c =
    let within : c.loop-at.at < length c.loop-at.regions = omega arith in
    subst (λ r. StaysInRange r c.args.by) (sym (first_ahead c.loop-at.regions c.args.regions.now c.loop-at.at c.index-regions-at.result within c.loop-at-test.true c.loop-at.invariant.ahead))
    (c.requires c.loop-at.at c.index-regions-at.result c.loop-at-test.true)

pub loop-at-preserved : goal.loop-at-preserved
loop-at-preserved c =
    let within : c.loop-at.at < length c.loop-at.regions = omega arith in
    record {
      moved = moved_more c.args.by c.loop-at.regions c.args.regions.now c.loop-at.at c.move_by.new.region within c.loop-at-test.true c.loop-at.invariant.ahead c.loop-at.invariant.moved
          (λ p. c.move_by.ensures p ∙ ap (λ r. holds r (minus p c.args.by)) (get_or_default c.loop-at.regions c.loop-at.at c.index-regions-at.result c.move_by.new.region within));
      ahead = ahead_more c.loop-at.regions c.args.regions.now c.loop-at.at c.move_by.new.region within c.loop-at-test.true c.loop-at.invariant.ahead;
    }
