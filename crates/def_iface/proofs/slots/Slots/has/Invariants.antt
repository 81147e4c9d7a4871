use Rattle.std.proofs.Common.{◌≡◌, drop, map}
use Rattle.std.specs.List.{list_any}
use Rattle.def_iface.specs.Slots.{slot_view, seen_slot, is_kind}
use Rattle.def_iface.proofs.slots.Slots.has.Given as goal

abbrev pub invariant-loop-slot : goal.invariant-loop-slot
invariant-loop-slot g l =
    list_any (is_kind l.kind) (map (seen_slot g.T.Held.meaning) (map slot_view l.self.slots.items))
    ≡ list_any (is_kind l.kind) (map (seen_slot g.T.Held.meaning) (map slot_view (drop l.slot-index l.self.slots.items)))
