use Rattle.std.proofs.Common.{◌≡◌, refl, sym, ap, subst, ◌∙◌}
use Rattle.def_iface.specs.contracts.taken_window.TakenWindowDefined.TheImpl as taken
use Rattle.vis_update.specs.Records.{record_of}
use Rattle.window_mgr.proofs.EditSeats.{same_at}
use Rattle.std.specs.Prelude.{slice_index_or}
use Rattle.def_iface.specs.WindowNews.{told_highlighted}
use Rattle.window_list.specs.declared.list.WindowList.{WindowList}
use Rattle.window_frame.specs.Followers.Flag.{Highlighting}
use Rattle.window_frame.specs.FrameSteps.{with_flag}
use Rattle.window_frame.proofs.FrameSteps.{knew, informed_so}
use Rattle.window_frame.proofs.Informing.{agree, differ}
use Rattle.window_frame.proofs.Repainting.{repainted_none, repainted_in, draws_only}
use Rattle.window_frame.proofs.followers.notify_highlighting.Goals as goal

pub returns-then-window-highlighted-clause-told : goal.returns-then-window-highlighted-clause-told
returns-then-window-highlighted-clause-told g c =
    let x = c.at-window.result.now in
    let there = c.at-window.ensures ∙ ap (λ (l : WindowList _ _). slice_index_or l.records.items c.args.at x) c.list.ensures in
    informed_so _ c.args.windows.now c.requires.kept c.args.at c.requires.at x there Highlighting (told_highlighted x.highlighted) (with_flag x.highlighted) c.notify.new.self
    (differ x.heard.highlighted x.highlighted c.if-window-highlighted.true) refl refl c.notify.ensures.told

pub returns-else-window-highlighted-clause-told : goal.returns-else-window-highlighted-clause-told
returns-else-window-highlighted-clause-told g c =
    let x = c.at-window.result.now in
    let there = c.at-window.ensures ∙ ap (λ (l : WindowList _ _). slice_index_or l.records.items c.args.at x) c.list.ensures in
    knew _ c.args.windows.now c.requires.kept c.args.at c.requires.at x there Highlighting (agree x.heard.highlighted x.highlighted c.if-window-highlighted.false)

pub returns-then-window-highlighted-clause-repainted : goal.returns-then-window-highlighted-clause-repainted
returns-then-window-highlighted-clause-repainted g c w w_is =
    let x = c.at-window.result.now in
    let there = c.at-window.ensures ∙ ap (λ (l : WindowList _ _). slice_index_or l.records.items c.args.at x) c.list.ensures in
    let same = same_at c.args.windows.now.windows.records.items c.args.at x w c.requires.at there w_is in
    repainted_in _ _ _ _ _ _
    (draws_only Highlighting (record_of (taken.loan-value g.dyn-1).it w) (λ k. differ x.heard.highlighted x.highlighted c.if-window-highlighted.true (subst (λ z. z.heard.highlighted ≡ z.highlighted) (sym same) k)))
    (c.notify.ensures.repainted w w_is)

pub returns-else-window-highlighted-clause-repainted : goal.returns-else-window-highlighted-clause-repainted
returns-else-window-highlighted-clause-repainted g c w w_is = repainted_none _ _ c.args.windows.now.screen
