use Rattle.std.proofs.Common.{◌<◌, length, rules}
use Rattle.window_list.specs.Lists.{dimmed}
use Rattle.window_list.proofs.ListLemmas.{mapped_more}
use Rattle.window_list.proofs.list.WindowList.dim.Goals as goal

pub loop-at-preserved : goal.loop-at-preserved
loop-at-preserved g c =
    let within : c.loop-at.at < length c.args.self.now.records.items = search rules in
    let records = mapped_more (dimmed c.args.self.now.active) c.args.self.now.records c.loop-at.self.records c.loop-at.at c.at_mut-window.result.now c.dim.new.self (λ i. (c.loop-at.invariant i).records) within c.at_mut-window.ensures.value c.dim.ensures in
    λ i. record { records = records i; active = (c.loop-at.invariant i).active; next = (c.loop-at.invariant i).next }
