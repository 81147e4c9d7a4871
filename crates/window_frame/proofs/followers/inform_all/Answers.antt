use Rattle.std.proofs.Common.{◌≡◌, ◌<◌, ◌∙◌, ap, length, arith}
use Rattle.window_list.specs.declared.list.WindowList.{WindowList}
use Rattle.window_frame.proofs.Informing as informing
use Rattle.window_frame.proofs.followers.inform_all.Goals as goal

pub loop-at-init : goal.loop-at-init
loop-at-init g c = informing.begins _ c.args.windows.now c.requires

pub notify_highlighting-requires-clause-at : goal.notify_highlighting-requires-clause-at
notify_highlighting-requires-clause-at g c =
    let count = c.len-count.ensures ∙ ap (λ (l : WindowList _ _). length l.records.items) c.list.ensures in
    let many = c.loop-at.invariant.many in
    let low = c.loop-at-test.true in
    omega arith

pub notify_zooming-requires-clause-kept : goal.notify_zooming-requires-clause-kept
notify_zooming-requires-clause-kept g c =
    let count = c.len-count.ensures ∙ ap (λ (l : WindowList _ _). length l.records.items) c.list.ensures in
    let before = c.loop-at-test.true in
    let low : c.loop-at.at < length c.args.windows.now.windows.records.items = omega arith in
    informing.middle_kept _ c.loop-at.at c.args.windows.now c.loop-at.windows c.notify_highlighting.new.windows c.loop-at.invariant low c.notify_highlighting.ensures.told

pub notify_zooming-requires-clause-at : goal.notify_zooming-requires-clause-at
notify_zooming-requires-clause-at g c =
    let count = c.len-count.ensures ∙ ap (λ (l : WindowList _ _). length l.records.items) c.list.ensures in
    let before = c.loop-at-test.true in
    let low : c.loop-at.at < length c.args.windows.now.windows.records.items = omega arith in
    informing.middle_low _ c.loop-at.at c.args.windows.now c.loop-at.windows c.notify_highlighting.new.windows c.loop-at.invariant low c.notify_highlighting.ensures.told

pub loop-at-preserved : goal.loop-at-preserved
loop-at-preserved g c =
    let count = c.len-count.ensures ∙ ap (λ (l : WindowList _ _). length l.records.items) c.list.ensures in
    let before = c.loop-at-test.true in
    let low : c.loop-at.at < length c.args.windows.now.windows.records.items = omega arith in
    informing.both_told _ c.loop-at.at c.args.windows.now c.loop-at.windows c.notify_highlighting.new.windows c.loop-at.invariant low c.notify_highlighting.ensures.told c.notify_highlighting.ensures.repainted c.notify_zooming.new.windows c.notify_zooming.ensures.told c.notify_zooming.ensures.repainted

pub returns-clause-told : goal.returns-clause-told
returns-clause-told g c =
    let count = c.len-count.ensures ∙ ap (λ (l : WindowList _ _). length l.records.items) c.list.ensures in
    let end = c.loop-at.auto.at-end in
    let over = c.loop-at-test.false in
    let all : c.loop-at.at ≡ length c.args.windows.now.windows.records.items = omega arith in
    informing.ends _ c.args.windows.now c.loop-at.windows c.loop-at.at all c.loop-at.invariant

pub returns-clause-repainted : goal.returns-clause-repainted
returns-clause-repainted g c = c.loop-at.invariant.repainted
