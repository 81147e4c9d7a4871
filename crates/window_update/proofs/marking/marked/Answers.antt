use Rattle.std.proofs.Common.{sym, ap, ◌∙◌, ◌&&◌, ◌||◌, not}
use Rattle.tb_geom.specs.Points.{plus, minus}
use Rattle.tb_geom.specs.Pixels.{holds}
use Rattle.window_mgr.proofs.TellLemmas as telling
use Rattle.window_update.specs.Marks.{marked_by}
use Rattle.window_update.proofs.MarkLemmas.{if_ok, part_stays, back_is}
use Rattle.window_update.proofs.marking.marked.Goals as goal

pub move_by-requires : goal.move_by-requires
move_by-requires c = telling.stays_there c.in_ok-shown.shown c.args.place c.local.result c.local.ensures (λ p e. c.requires.there p (ap (λ r. holds r (plus p c.args.place)) (sym c.in_ok-shown.ensures) ∙ e))

pub move_by-requires-2 : goal.move_by-requires-2
move_by-requires-2 c = part_stays c.args.area.now.visible c.in_ok-shown.shown c.move_by.new.region c.in_ok-part.part c.in_ok-part.part c.args.place c.local.result c.in_ok-shown.ensures c.local.ensures c.move_by.ensures (holds c.args.pixels.now) c.in_ok-part.ensures c.requires.here

pub returns-in-Stale : goal.returns-in-Stale
returns-in-Stale c =
    if_ok c.union.result (λ update is p. is p
    ∙ ap (λ b. holds c.args.area.now.update p || b) (back_is c.args.area.now.visible c.in_ok-shown.shown c.move_by.new.region c.in_ok-part.part c.move_by-2.new.region c.args.place c.local.result c.in_ok-shown.ensures c.local.ensures c.move_by.ensures (holds c.args.pixels.now) c.in_ok-part.ensures c.move_by-2.ensures p)
    ∙ ap (λ k. marked_by k (holds c.args.area.now.update p) (holds c.args.area.now.visible p && holds c.args.pixels.now (minus p c.args.place))) (sym c.in-Stale.is))
    c.union.ensures

pub returns : goal.returns
returns c =
    if_ok c.diff.result (λ update is p. is p
    ∙ ap (λ b. holds c.args.area.now.update p && not b) (back_is c.args.area.now.visible c.in_ok-shown.shown c.move_by.new.region c.in_ok-part.part c.move_by-2.new.region c.args.place c.local.result c.in_ok-shown.ensures c.local.ensures c.move_by.ensures (holds c.args.pixels.now) c.in_ok-part.ensures c.move_by-2.ensures p)
    ∙ ap (λ k. marked_by k (holds c.args.area.now.update p) (holds c.args.area.now.visible p && holds c.args.pixels.now (minus p c.args.place))) (sym c.in-Right.is))
    c.diff.ensures
