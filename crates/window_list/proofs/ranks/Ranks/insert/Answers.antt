use Rattle.std.proofs.Common.{ap, ◌∙◌, arith}
use Rattle.std.specs.Prelude.{min}
use Rattle.window_list.proofs.RanksLemmas.{as_many, keys_more, items_more}
use Rattle.window_list.proofs.ranks.Ranks.insert.Goals as goal

pub insert_reserved-key-requires : goal.insert_reserved-key-requires
insert_reserved-key-requires g c =
    let many = (as_many c.self.inside _ c.self.view_is c.self.invariant).1 in
    let counted = c.self.invariant.counted in
    let room = ap (λ s. s.capacity) c.self.view_is in
    omega (arith, c.requires.room)

pub insert-requires : goal.insert-requires
insert-requires g c =
    let many = (as_many c.self.inside _ c.self.view_is c.self.invariant).0 in
    omega (arith, c.requires.place)

pub unwrap-requires : goal.unwrap-requires
unwrap-requires g c =
    let many = (as_many c.self.inside _ c.self.view_is c.self.invariant).0 in
    let room = ap (λ s. s.capacity) c.self.view_is in
    c.insert.ensures.succeeds (omega (arith, c.requires.room))

pub invariant_of-self : goal.invariant_of-self
invariant_of-self g c =
    let put = rw (unwrap-requires g c.before) at c.insert.ensures.items in
    record {
      keys_are = rw put (keys_more c.self.inside.records c.insert_reserved-key.new.self c.self.inside.order.items c.args.at c.insert_reserved-key.result c.args.value c.insert_reserved-key.ensures.was_vacant c.insert_reserved-key.ensures.updates.changed c.insert_reserved-key.ensures.updates.others c.self.invariant.keys_are);
      counted = let len = rw (unwrap-requires g c.before) at c.insert.ensures.len in omega (arith, c.insert_reserved-key.ensures.len, c.self.invariant.counted, c.insert.new.self.ok, c.self.inside.order.ok);
    }

pub returns-clause-items : goal.returns-clause-items
returns-clause-items g c =
    let put = rw (unwrap-requires g c.before) at c.insert.ensures.items in
    rw (← c.self.view_is, put) (items_more c.self.inside.records c.insert_reserved-key.new.self c.self.inside.order.items c.args.at c.insert_reserved-key.result c.args.value c.insert_reserved-key.ensures.was_vacant c.insert_reserved-key.ensures.updates.changed c.insert_reserved-key.ensures.updates.others c.self.invariant.keys_are)

pub returns-clause-capacity : goal.returns-clause-capacity
returns-clause-capacity g c =
    let many = (as_many c.self.inside _ c.self.view_is c.self.invariant).0 in
    let room = ap (λ s. s.capacity) c.self.view_is in
    let same = c.insert.ensures.in_place (omega (arith, c.requires.room)) in
    (λ i. min (c.insert_reserved-key.ensures.capacity i) (same.1.0 i)) ∙ room
