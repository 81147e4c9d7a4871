use Rattle.std.proofs.Common.{◌≡◌, arith, true, sym, ap, ◌∙◌, get_or, map}
use Rattle.def_iface.specs.Slots.{slot_view, offers}
use Rattle.def_iface.proofs.SeenLemmas.{offer_seen, stage_by}
use Rattle.def_iface.proofs.StockLemmas.{position-first, position-nowhere, position-map}
use Rattle.def_iface.proofs.slots.Slots.first_offer.Goals as goal

pub returns-then-offers-clause-value : goal.returns-then-offers-clause-value
returns-then-offers-clause-value g c =
    let stage = stage_by g.T.Held.meaning g.T.Held.stage_of in
    let items = c.args.self.now.slots.items in
    let read : get_or items c.loop-at.at c.slot-item.result ≡ c.slot-item.result = cc in
    let here : offers stage c.args.kind.now (slot_view (get_or items c.loop-at.at c.slot-item.result)) ≡ true = ap (λ s. offers stage c.args.kind.now (slot_view s)) read ∙ sym c.offers.ensures ∙ c.if-offers.true in
    sym (offer_seen g.T.Held.meaning g.T.Held.stage_of c.args.kind.now (map slot_view items)
    ∙ position-map (offers stage c.args.kind.now) slot_view items ∙ position-first (λ s. offers stage c.args.kind.now (slot_view s)) items c.loop-at.at c.slot-item.result (omega arith) (λ k e h. c.loop-at.invariant k e h) here)

pub returns-clause-value : goal.returns-clause-value
returns-clause-value g c =
    let stage = stage_by g.T.Held.meaning g.T.Held.stage_of in
    let items = c.args.self.now.slots.items in
    sym (offer_seen g.T.Held.meaning g.T.Held.stage_of c.args.kind.now (map slot_view items)
    ∙ position-map (offers stage c.args.kind.now) slot_view items ∙ position-nowhere (λ s. offers stage c.args.kind.now (slot_view s)) items (λ k e h. c.loop-at.invariant k e (omega arith)))
