use Rattle.window_mgr.proofs.EditSeats.{there_is}
use Rattle.window_mgr.proofs.FrameTold as telling
use Rattle.window_mgr.proofs.PaintLemmas.{settled_placed}
use Rattle.window_mgr.proofs.Remarked.{area_kept, settled_there}
use Rattle.window_mgr.proofs.PlacementCalls.{read_at}
use Rattle.window_mgr.proofs.manager.WindowManager.notify.Goals as goal

pub notify-damage-requires-clause-live : goal.notify-damage-requires-clause-live
notify-damage-requires-clause-live g c =
    let found = there_is c.args.self.now.windows.records.items c.args.at c.requires.at in
    rw (read_at c.args.self.now.windows.records.items c.args.at found.0 c.requires.at found.1)
    (settled_there _ c.args.self.now c.requires.kept c.args.at found.0 c.requires.at found.1).live

pub notify-damage-requires-clause-fits : goal.notify-damage-requires-clause-fits
notify-damage-requires-clause-fits g c =
    let found = there_is c.args.self.now.windows.records.items c.args.at c.requires.at in
    let its = settled_there _ c.args.self.now c.requires.kept c.args.at found.0 c.requires.at found.1 in
    rw (read_at c.args.self.now.windows.records.items c.args.at found.0 c.requires.at found.1) (rw its.told its.fits)

pub index-requires : goal.index-requires
index-requires g c = area_kept _ c.args.self.now c.requires.kept c.args.at c.requires.at

pub at-requires : goal.at-requires
at-requires g c =
    let found = there_is c.args.self.now.windows.records.items c.args.at c.requires.at in
    let told = rw (read_at c.args.self.now.windows.records.items c.args.at found.0 c.requires.at found.1) at c.notify-damage.ensures.told in
    telling.still_low _ c.requires.at told

pub paint_frame-requires-clause-placed : goal.paint_frame-requires-clause-placed
paint_frame-requires-clause-placed g c =
    let found = there_is c.args.self.now.windows.records.items c.args.at c.requires.at in
    let told = rw (read_at c.args.self.now.windows.records.items c.args.at found.0 c.requires.at found.1) at c.notify-damage.ensures.told in
    settled_placed _ (telling.drawn_settled _ c.args.self.now c.requires.kept.slots c.requires.kept.whole c.args.at c.requires.at found.0 found.1 c.args.change c.requires.size c.notify-damage.result c.notify-damage.new.self told c.at.result.now c.at.ensures)

pub paint_frame-requires-clause-inside : goal.paint_frame-requires-clause-inside
paint_frame-requires-clause-inside g c =
    let found = there_is c.args.self.now.windows.records.items c.args.at c.requires.at in
    let told = rw (read_at c.args.self.now.windows.records.items c.args.at found.0 c.requires.at found.1) at c.notify-damage.ensures.told in
    telling.drawn_within _ c.args.self.now c.requires.kept.slots c.requires.kept.whole c.args.at c.requires.at found.0 found.1 c.args.change c.requires.size c.notify-damage.result c.notify-damage.new.self told c.at.result.now c.at.ensures c.index.result.now c.index.ensures

pub returns-clause-told : goal.returns-clause-told
returns-clause-told g c w there slots whole =
    let told = rw (read_at c.args.self.now.windows.records.items c.args.at w c.requires.at there) at c.notify-damage.ensures.told in
    telling.frame_told_by _ c.args.self.now slots whole c.args.at c.requires.at w there c.args.change c.requires.size c.notify-damage.result c.notify-damage.new.self told c.at.result.now c.at.ensures c.index.result.now c.index.ensures
    c.paint_frame.new.map c.paint_frame.ensures.drawn c.paint_frame.ensures.near c.notify-damage.ensures.others

pub returns-clause-repainted : goal.returns-clause-repainted
returns-clause-repainted g c w there =
    let told = rw (read_at c.args.self.now.windows.records.items c.args.at w c.requires.at there) at c.notify-damage.ensures.told in
    telling.frame_repainted_by _ c.args.self.now c.requires.kept.slots c.requires.kept.whole c.args.at c.requires.at w there c.args.change c.requires.size c.notify-damage.result c.notify-damage.new.self told c.at.result.now c.at.ensures c.index.result.now c.index.ensures
    c.paint_frame.new.map c.paint_frame.ensures.drawn c.paint_frame.ensures.near c.notify-damage.ensures.others c.paint_frame.ensures.written

pub returns-clause-within : goal.returns-clause-within
returns-clause-within g c w there =
    let told = rw (read_at c.args.self.now.windows.records.items c.args.at w c.requires.at there) at c.notify-damage.ensures.told in
    telling.frame_written_by _ c.args.self.now c.requires.kept.slots c.requires.kept.whole c.args.at c.requires.at w there c.args.change c.requires.size c.notify-damage.result c.notify-damage.new.self told c.at.result.now c.at.ensures c.index.result.now c.index.ensures
    c.paint_frame.new.map c.paint_frame.ensures.drawn c.paint_frame.ensures.near c.notify-damage.ensures.others c.paint_frame.ensures.written
