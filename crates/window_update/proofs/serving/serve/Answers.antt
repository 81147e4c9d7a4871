use Rattle.std.proofs.Common.{Ok, refl}
use Rattle.desk_call.specs.declared.activity.Activity.TheVariants.{Idle}
use Rattle.desk_call.specs.declared.window.WindowReply.TheVariants.{Done}
use Rattle.vis_update.specs.Areas.{is_content_of}
use Rattle.window_update.proofs.ServeLemmas.{refreshed, served, same_width, same_height}
use Rattle.window_update.proofs.serving.serve.Goals as goal

pub returns-clause-step : goal.returns-clause-step
returns-clause-step g c = λ begun.
    served _ (g.S.Showing.shows c.args.layers.now) c.args.windows.now c.requires.kept c.args.window c.in-Some.at c.in-Some.ensures c.serve_all.new.self
    (refreshed _ (g.S.Showing.shows c.args.layers.now) c.args.windows.now c.requires.kept c.args.window c.in-Some.at c.in-Some.ensures is_content_of c.serve_all.new.self c.serve_all.ensures)
    (record { activity = c.args.activity.now; begun = begun }) (record { activity = Idle; begun = begun }) (Ok Done) refl refl

pub returns-clause-width : goal.returns-clause-width
returns-clause-width g c = same_width _ (g.S.Showing.shows c.args.layers.now) c.args.windows.now c.requires.kept c.args.window c.in-Some.at c.in-Some.ensures is_content_of c.serve_all.new.self c.serve_all.ensures

pub returns-clause-height : goal.returns-clause-height
returns-clause-height g c = same_height _ (g.S.Showing.shows c.args.layers.now) c.args.windows.now c.requires.kept c.args.window c.in-Some.at c.in-Some.ensures is_content_of c.serve_all.new.self c.serve_all.ensures
