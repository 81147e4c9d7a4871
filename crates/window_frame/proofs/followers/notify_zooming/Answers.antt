use Rattle.std.proofs.Common.{◌≡◌, Bool, sym, ap, subst, ◌∙◌}
use Rattle.std.specs.Option.{is_some}
use Rattle.window_mgr.proofs.EditSeats.{same_at}
use Rattle.std.specs.Prelude.{slice_index_or}
use Rattle.def_iface.specs.WindowNews.{told_zoomed}
use Rattle.def_iface.specs.contracts.taken_window.TakenWindowDefined.TheImpl as taken
use Rattle.vis_update.specs.Records.{WindowRecord, record_of}
use Rattle.window_list.specs.declared.list.WindowList.{WindowList}
use Rattle.window_frame.specs.Followers.Flag.{Zooming}
use Rattle.window_frame.proofs.FrameSteps.{knew, informed_so}
use Rattle.window_frame.proofs.Informing.{agree, differ}
use Rattle.window_frame.proofs.Repainting.{repainted_none, repainted_in, draws_only}
use Rattle.window_frame.proofs.followers.notify_zooming.Goals as goal

pub returns-then-window-is_zoomed-clause-told : goal.returns-then-window-is_zoomed-clause-told
returns-then-window-is_zoomed-clause-told g c =
    let x = c.at-window.result.now in
    let zoomed = c.is_some-is_zoomed.result in
    let there = c.at-window.ensures ∙ ap (λ (l : WindowList _ _). slice_index_or l.records.items c.args.at x) c.list.ensures in
    informed_so _ c.args.windows.now c.requires.kept c.args.at c.requires.at x there Zooming (told_zoomed zoomed) (λ (w : WindowRecord). record w { heard = record w.heard { zoomed = zoomed } }) c.notify.new.self
    (λ knows. differ x.heard.zoomed zoomed c.if-window-is_zoomed.true (knows ∙ sym c.is_some-is_zoomed.ensures))
    (ap told_zoomed c.is_some-is_zoomed.ensures) (ap (λ (z : Bool). record (record_of (taken.loan-value g.dyn-1).it x) { heard = record x.heard { zoomed = z } }) c.is_some-is_zoomed.ensures) c.notify.ensures.told

pub returns-else-window-is_zoomed-clause-told : goal.returns-else-window-is_zoomed-clause-told
returns-else-window-is_zoomed-clause-told g c =
    let x = c.at-window.result.now in
    let there = c.at-window.ensures ∙ ap (λ (l : WindowList _ _). slice_index_or l.records.items c.args.at x) c.list.ensures in
    knew _ c.args.windows.now c.requires.kept c.args.at c.requires.at x there Zooming (agree x.heard.zoomed c.is_some-is_zoomed.result c.if-window-is_zoomed.false ∙ c.is_some-is_zoomed.ensures)

pub returns-then-window-is_zoomed-clause-repainted : goal.returns-then-window-is_zoomed-clause-repainted
returns-then-window-is_zoomed-clause-repainted g c w w_is =
    let x = c.at-window.result.now in
    let there = c.at-window.ensures ∙ ap (λ (l : WindowList _ _). slice_index_or l.records.items c.args.at x) c.list.ensures in
    let same = same_at c.args.windows.now.windows.records.items c.args.at x w c.requires.at there w_is in
    repainted_in _ _ _ _ _ _
    (draws_only Zooming (record_of (taken.loan-value g.dyn-1).it w) (λ k. differ x.heard.zoomed c.is_some-is_zoomed.result c.if-window-is_zoomed.true (subst (λ z. z.heard.zoomed ≡ is_some z.user_state) (sym same) k ∙ sym c.is_some-is_zoomed.ensures)))
    (c.notify.ensures.repainted w w_is)

pub returns-else-window-is_zoomed-clause-repainted : goal.returns-else-window-is_zoomed-clause-repainted
returns-else-window-is_zoomed-clause-repainted g c w w_is = repainted_none _ _ c.args.windows.now.screen
