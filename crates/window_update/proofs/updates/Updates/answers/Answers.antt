use Rattle.std.proofs.Common.{refl}
use Rattle.window_update.specs.WholeUpdates.{opened}
use Rattle.window_update.proofs.ServeLemmas.{narrowed_visible, narrowed_update}
use Rattle.window_update.proofs.updates.Updates.answers.Goals as goal

pub returns-in-VisibleRegion : goal.returns-in-VisibleRegion
returns-in-VisibleRegion c =
    (_, narrowed_visible c.args.asks c.args.activity (opened c.args.activity c.args.self.now).begun c.in-Updating.open c.in-VisibleRegion.window c.in-Updating.is c.if-window-open.true c.in-VisibleRegion.is, c.told.ensures _ (λ p. refl))

pub returns-in-UpdateRegion : goal.returns-in-UpdateRegion
returns-in-UpdateRegion c =
    (_, narrowed_update c.args.asks c.args.activity (opened c.args.activity c.args.self.now).begun c.in-Updating.open c.in-UpdateRegion.window c.in-Updating.is c.if-window-open-2.true c.in-UpdateRegion.is, c.told-in-UpdateRegion-2.ensures _ c.empty.ensures)
