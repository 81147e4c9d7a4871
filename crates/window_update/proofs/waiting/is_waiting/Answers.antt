use Rattle.std.proofs.Common.{sym, ap, ◌∙◌}
use Rattle.std.specs.Prelude.{slice_index_or}
use Rattle.window_list.specs.declared.list.WindowList.{WindowList}
use Rattle.window_list.specs.declared.window.Window.{Window}
use Rattle.window_mgr.proofs.EditSeats.{same_at}
use Rattle.window_mgr.specs.DeskStates.{is_updating}
use Rattle.window_update.proofs.MarkLemmas.{area_low}
use Rattle.window_update.proofs.WaitLemmas.{told_waiting}
use Rattle.window_update.proofs.waiting.is_waiting.Goals as goal

pub area-requires : goal.area-requires
area-requires g c = area_low _ c.args.windows.now c.requires.kept c.args.at c.requires.at

pub returns : goal.returns
returns g c = λ w w_is begun slots.
    let there = c.at.ensures ∙ ap (λ (l : WindowList _ _). slice_index_or l.records.items c.args.at c.at.result.now) c.list.ensures in
    let same = same_at c.args.windows.now.windows.records.items c.args.at w c.at.result.now c.requires.at w_is there in
    let closed = ap (λ (x : Window _ _). is_updating x.serial c.args.activity) same ∙ sym c.is_updating.ensures ∙ c.if-is_updating.false in
    told_waiting _ c.args.windows.now (record { activity = c.args.activity; begun = begun }) c.requires.kept c.args.at c.requires.at w w_is c.area.result.now c.area.ensures slots closed c.is_empty.result c.is_empty.ensures
