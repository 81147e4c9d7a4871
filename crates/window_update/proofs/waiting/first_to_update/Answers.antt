use Rattle.std.proofs.Common.{None, ap, ◌∙◌, subst, arith, ◌<◌, length}
use Rattle.std.specs.Prelude.{slice_index_or}
use Rattle.window_list.specs.declared.list.WindowList.{WindowList}
use Rattle.window_update.specs.Waiting.{IsWaiting}
use Rattle.window_mgr.specs.DeskStates.{Opened, desk_state}
use Rattle.window_mgr.proofs.EditSeats.{there_is}
use Rattle.window_update.proofs.WaitLemmas.{is_here, goes_on, there_is_none}
use Rattle.window_update.proofs.waiting.first_to_update.Goals as goal

pub returns-then-is_waiting : goal.returns-then-is_waiting
returns-then-is_waiting g c = λ begun slots.
    let o : Opened = record { activity = c.args.activity; begun = begun } in
    let there = c.at.ensures ∙ ap (λ (l : WindowList _ _). slice_index_or l.records.items c.loop-at.at c.at.result.now) c.list-list.ensures in
    let long = c.len-at-end.ensures in
    let same = ap (λ (l : WindowList _ _). length l.records.items) c.list-list.ensures in
    c.loop-at.invariant begun slots _ (is_here _ c.args.windows.now o slots c.loop-at.at c.at.result.now (omega arith) there
    (subst (IsWaiting c.at.result.now.serial (desk_state _ c.args.windows.now o slots)) c.if-is_waiting.true (c.is_waiting.ensures c.at.result.now there begun slots)))

pub loop-at-preserved : goal.loop-at-preserved
loop-at-preserved g c = λ begun slots first rest.
    let o : Opened = record { activity = c.args.activity; begun = begun } in
    let long = c.len-at-end.ensures in
    let same = ap (λ (l : WindowList _ _). length l.records.items) c.list-list.ensures in
    let low : c.loop-at.at < length c.args.windows.now.windows.records.items = omega arith in
    let here = there_is c.args.windows.now.windows.records.items c.loop-at.at low in
    c.loop-at.invariant begun slots first (goes_on _ c.args.windows.now o slots c.loop-at.at here.0 low here.1
    (subst (IsWaiting here.0.serial (desk_state _ c.args.windows.now o slots)) c.if-is_waiting.false (c.is_waiting.ensures here.0 here.1 begun slots)) first rest)

pub returns : goal.returns
returns g c = λ begun slots.
    let o : Opened = record { activity = c.args.activity; begun = begun } in
    let long = c.len-at-end.ensures in
    let same = ap (λ (l : WindowList _ _). length l.records.items) c.list-list.ensures in
    let past = c.loop-at-test.false in
    c.loop-at.invariant begun slots None (there_is_none _ c.args.windows.now o slots c.loop-at.at (omega arith))
