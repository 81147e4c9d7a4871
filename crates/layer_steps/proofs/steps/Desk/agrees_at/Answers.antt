use Rattle.std.proofs.Common.{◌<◌, length, ap, arith}
use Rattle.window_list.specs.declared.list.WindowList.{WindowList}
use Rattle.window_mgr.proofs.Remarked.{area_low}
use Rattle.layer_steps.proofs.steps.Desk.agrees_at.Goals as goal

pub area-area-requires : goal.area-area-requires
area-area-requires g c =
    let long = c.len-at-end.ensures in
    let same = ap (λ (l : WindowList _ _). length l.records.items) c.list.ensures in
    let below = c.loop-at-test.true in
    let low : c.loop-at.at < length c.args.self.now.windows.windows.records.items = omega arith in
    area_low _ c.args.self.now.windows _ c.requires c.loop-at.at low
