use Rattle.window_paint.proofs.CutLemmas.{cut_holds-both_less}
use Rattle.window_paint.proofs.layers.meeting_but.Goals as goal

pub returns : goal.returns
returns c = cut_holds-both_less c.args.region c.args.other c.args.but
