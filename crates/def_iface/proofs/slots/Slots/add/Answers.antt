use Rattle.def_iface.specs.Slots.{slot_views}
use Rattle.def_iface.proofs.StockLemmas.{full_added}
use Rattle.def_iface.proofs.SeenLemmas.{added_seen}
use Rattle.def_iface.proofs.slots.Slots.add.Goals as goal

pub returns-in-Ok-clause-added : goal.returns-in-Ok-clause-added
returns-in-Ok-clause-added g c =
    added_seen g.T.Held.meaning (slot_views c.args.self.now.slots.items) (slot_views c.push.new.self.slots.items) c.args.kind.now c.args.definition c.in-Ok.ensures.added

pub returns-in-Ok-clause-full : goal.returns-in-Ok-clause-full
returns-in-Ok-clause-full g c = full_added g.T.Held.stage_of _ _ c.args.kind.now _ c.requires (returns-in-Ok-clause-added g c)
