use Rattle.std.proofs.Common.{◌≡◌, length, ◌∙◌, ap, arith}
use Rattle.slab.specs.Slab.{slab_len}
use Rattle.window_list.specs.Ranks.{items_of}
use Rattle.window_list.proofs.RanksLemmas.{length-items}
use Rattle.window_list.proofs.ranks.Ranks.reserve.Goals as goal

pub invariant_of-self : goal.invariant_of-self
invariant_of-self g c = rw c.reserve.ensures.rest_kept (record { keys_are = c.self.invariant.keys_are; counted = c.self.invariant.counted })

pub invariant_of-self-in_err-reserve-2 : goal.invariant_of-self-in_err-reserve-2
invariant_of-self-in_err-reserve-2 g c = rw (c.reserve.ensures.rest_kept, c.reserve-2.ensures.items) (record { keys_are = c.self.invariant.keys_are; counted = c.self.invariant.counted })

pub invariant_of-self-2 : goal.invariant_of-self-2
invariant_of-self-2 g c = rw (c.reserve.ensures.rest_kept, c.reserve-2.ensures.items) (record { keys_are = c.self.invariant.keys_are; counted = c.self.invariant.counted })

pub returns-clause-room : goal.returns-clause-room
returns-clause-room g c =
    let same : length (items_of c.reserve.new.self c.reserve-2.new.self.items) ≡ length c.self.inside.order.items =
    (λ i. length (items_of (c.reserve.ensures.rest_kept i) (c.reserve-2.ensures.items i))) ∙ length-items c.self.inside.records c.self.inside.order.items c.self.invariant.keys_are in
    let counted = ap slab_len c.reserve.ensures.rest_kept in
    omega (arith, c.in_ok-reserve.ensures.room, c.in_ok-reserve-2.ensures.ok, c.reserve-2.ensures.len, c.self.invariant.counted, c.self.inside.order.ok)
