use Rattle.std.proofs.Common.{◌≡◌, ◌<◌, ◌∙◌, length, Some, map, refl, sym, rules, set}
use Rattle.def_iface.specs.Slots.{slot_view, holding, is_left}
use Rattle.def_iface.proofs.SeenLemmas.{left_seen, put_back_seen}
use Rattle.def_iface.proofs.StockLemmas.{put-seen, left_is_there}
use Rattle.def_iface.proofs.slots.Slots.put_back.Goals as goal

pub index_mut-slot-requires : goal.index_mut-slot-requires
index_mut-slot-requires g c =
    let slots = c.args.self.now.slots in
    let left = sym (left_seen g.T.Held.meaning c.args.taken.slot (map slot_view slots.items)) ∙ c.requires.left in
    let within : c.args.taken.slot < length slots.items = left_is_there slot_view slots.items c.args.taken.slot left in
    search rules

pub returns : goal.returns
returns g c =
    put_back_seen g.T.Held.meaning (record { definition = c.args.taken.definition; slot = c.args.taken.slot }) (map slot_view c.args.self.now.slots.items) _
    (put-seen slot_view c.args.self.now.slots.items c.args.taken.slot c.index_mut-slot.result.now (holding (Some c.args.taken.definition)) _ c.index_mut-slot.ensures.value refl)
