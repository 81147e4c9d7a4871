use Rattle.std.proofs.Common.{ap, ◌∙◌}
use Rattle.std.specs.Prelude.{slice_index_or}
use Rattle.window_list.specs.declared.list.WindowList.{WindowList}
use Rattle.window_update.proofs.MarkLemmas.{if_ok, after_is, settled, seen_in, shown_in, area_low}
use Rattle.window_update.proofs.marking.update_after.Goals as goal

pub area-requires : goal.area-requires
area-requires g c = area_low _ c.args.windows.now c.requires.kept c.args.at c.requires.at

pub marked-requires-clause-place : goal.marked-requires-clause-place
marked-requires-clause-place g c = (settled _ c.args.windows.now c.requires.kept c.args.at c.requires.at c.at.result.now (c.at.ensures ∙ ap (λ (l : WindowList _ _). slice_index_or l.records.items c.args.at c.at.result.now) c.list.ensures)).placed

pub marked-requires-clause-there : goal.marked-requires-clause-there
marked-requires-clause-there g c = seen_in _ c.args.windows.now c.requires.kept c.args.at c.requires.at c.at.result.now c.area.result.now (c.at.ensures ∙ ap (λ (l : WindowList _ _). slice_index_or l.records.items c.args.at c.at.result.now) c.list.ensures) c.area.ensures

pub marked-requires-clause-here : goal.marked-requires-clause-here
marked-requires-clause-here g c = shown_in _ c.args.windows.now c.requires.kept c.args.at c.requires.at c.at.result.now c.area.result.now (c.at.ensures ∙ ap (λ (l : WindowList _ _). slice_index_or l.records.items c.args.at c.at.result.now) c.list.ensures) c.area.ensures

pub returns : goal.returns
returns g c =
    if_ok c.marked.result (λ update is. after_is _ c.args.windows.now c.requires.kept c.args.at c.requires.at c.args.area.now c.args.verdict c.in_ok-pixels.pixels update c.at.result.now c.area.result.now c.in_ok-pixels.ensures (c.at.ensures ∙ ap (λ (l : WindowList _ _). slice_index_or l.records.items c.args.at c.at.result.now) c.list.ensures) c.area.ensures is) c.marked.ensures
