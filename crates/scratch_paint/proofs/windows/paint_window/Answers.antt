use Rattle.std.proofs.Common.{rules}
use Rattle.def_iface.specs.contracts.taken_window.TakenWindowDefined.TheImpl as taken
use Rattle.vis_update.specs.Records.{record_of}
use Rattle.scratch_paint.specs.Paints.{look_in}
use Rattle.scratch_paint.proofs.PaintLemmas.{hidden_painted, is_placed_there, window_painted}
use Rattle.scratch_paint.proofs.windows.paint_window.Goals as goal

pub regions_of-requires : goal.regions_of-requires
regions_of-requires g c = is_placed_there _ c.requires.settled

pub returns-then-not-window : goal.returns-then-not-window
returns-then-not-window g c =
    hidden_painted (look_in (g.S.Showing.shows c.args.layers.now) c.args.font.now) (record_of (taken.loan-value g.dyn-1).it c.args.window.now) c.args.gray.now c.args.image.now (search rules)

pub returns : goal.returns
returns g c =
    window_painted (look_in (g.S.Showing.shows c.args.layers.now) c.args.font.now) (record_of (taken.loan-value g.dyn-1).it c.args.window.now) c.args.gray.now c.in_ok-regions.regions c.args.image.now c.paint_frame.new.image c.paint_picture.new.image c.paint_layers.new.image (search rules) c.in_ok-regions.ensures c.paint_frame.ensures c.paint_picture.ensures c.in_ok-paint_layers.ensures
