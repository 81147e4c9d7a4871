use Rattle.std.proofs.Common.{◌≡◌, Some, None, true, sym, ap, ◌∙◌, set, map}
use Rattle.std.proofs.lemmas.List.{map-set}
use Rattle.def_iface.specs.Slots.{SlotOf, slot_view, offers, holding}
use Rattle.def_iface.proofs.SeenLemmas.{offer_seen, stage_by, taken_seen}
use Rattle.def_iface.proofs.StockLemmas.{offers-true, slice_get-read, same_slot, held_same, taken_is_left}
use Rattle.def_iface.proofs.slots.Slots.take.Goals as goal

pub returns-in-Some-clause-taken : goal.returns-in-Some-clause-taken
returns-in-Some-clause-taken g c =
    let meaning = g.T.Held.meaning in
    let stage = stage_by meaning g.T.Held.stage_of in
    let x = c.index_mut.result.now in
    let items = c.args.self.now.slots.items in
    let found = slice_get-read slot_view items c.in-Some.slot x (λ s. offers stage c.args.kind.now (slot_view s) ≡ true) c.index_mut.ensures.value c.in-Some.ensures.offered in
    let d = offers-true stage c.args.kind.now (slot_view x) found.1 in
    let held = c.empty-definition.ensures.held in
    taken_seen meaning g.T.Held.stage_of c.args.kind.now (record { definition = c.empty-definition.result; slot = c.in-Some.slot })
    (map slot_view items) (map slot_view (set items c.in-Some.slot c.empty-definition.new.self)) (record {
      first = sym (offer_seen meaning g.T.Held.stage_of c.args.kind.now (map slot_view items)) ∙ sym c.in-Some.ensures.value;
      held = found.0 ∙ ap Some (same_slot (slot_view x) c.args.kind.now _ (ap (λ (s : SlotOf _). s.kind) d.1) held);
      fresh = held_same stage _ _ _ _ d.1 held d.2;
      left = map-set slot_view items c.in-Some.slot c.empty-definition.new.self
          ∙ ap (λ (s : SlotOf _). set (map slot_view items) c.in-Some.slot s) (ap slot_view c.empty-definition.ensures.left ∙ ap (λ (s : SlotOf _). holding None s) d.1);
    })

pub returns-in-Some-clause-left : goal.returns-in-Some-clause-left
returns-in-Some-clause-left g c = taken_is_left g.T.Held.stage_of _ _ _ _ (returns-in-Some-clause-taken g c)
