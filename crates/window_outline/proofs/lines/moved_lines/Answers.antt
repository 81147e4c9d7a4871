use Rattle.std.proofs.Common.{◌≡◌, ◌<◌, ◌≤◌, Err, length, sym, ap, subst, ◌∙◌, arith, rules}
use Rattle.std.proofs.lemmas.List.{length-set}
use Rattle.tb_geom.specs.Rects.{is_in_range}
use Rattle.def_iface.specs.Lines.{AreApart}
use Rattle.window_outline.specs.Outlining.{moved_lines}
use Rattle.window_outline.specs.OutlineRefusals.{AreLines}
use Rattle.window_outline.proofs.LineMoves.{moved_apart, moved_whole, not_all, one_more, one_more_in}
use Rattle.window_outline.proofs.lines.moved_lines.Goals as goal

pub loop-at-preserved : goal.loop-at-preserved
loop-at-preserved c =
    let within : c.loop-at.at < length c.args.lines = grind arith in
    let long = c.loop-at.invariant.long in
    let low = c.loop-at-test.true in
    let room : c.loop-at.at < length c.loop-at.moved = omega arith in
    record {
      long = length-set c.loop-at.moved c.loop-at.at c.in_ok-moved.field-0 ∙ long;
      moved = one_more c.args.place c.args.lines c.loop-at.moved c.loop-at.at _ c.in_ok-moved.field-0 within room c.loop-at.invariant.moved c.in_ok-moved.ensures.0;
      in_range = one_more_in c.loop-at.moved c.loop-at.at c.in_ok-moved.field-0 room c.loop-at.invariant.in_range (ap is_in_range c.in_ok-moved.ensures.0 ∙ c.in_ok-moved.ensures.1);
    }

pub returns-in_err-moved-clause-moved : goal.returns-in_err-moved-clause-moved
returns-in_err-moved-clause-moved c =
    let within : c.loop-at.at < length c.args.lines = grind arith in
    let is : c.from_residual.result ≡ Err c.in_err-moved.field-0.0 = search rules in
    subst (AreLines (moved_lines c.args.place c.args.lines)) (sym is) (not_all c.args.place c.args.lines c.loop-at.at _ within c.in_err-moved.ensures.0, c.in_err-moved.ensures.1)

pub returns-clause-apart : goal.returns-clause-apart
returns-clause-apart c =
    let long = c.loop-at.invariant.long in
    let done = c.loop-at-test.false in
    let moved_all : length c.loop-at.moved ≤ c.loop-at.at = omega arith in
    let all : length c.args.lines ≤ c.loop-at.at = grind arith in
    subst AreApart (sym (moved_whole c.args.place c.args.lines c.loop-at.moved c.loop-at.at moved_all all c.loop-at.invariant.moved)) (moved_apart c.args.place c.args.lines c.requires)
