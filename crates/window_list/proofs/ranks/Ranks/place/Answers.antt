use Rattle.std.proofs.Common.{ap, ◌∙◌, arith}
use Rattle.std.specs.Prelude.{min}
use Rattle.window_list.proofs.RanksLemmas.{as_many, keys_moved, items_moved}
use Rattle.window_list.proofs.ranks.Ranks.place.Goals as goal

pub remove-key-requires : goal.remove-key-requires
remove-key-requires g c =
    let many = (as_many c.self.inside _ c.self.view_is c.self.invariant).0 in
    omega (arith, c.requires.from)

pub insert-requires : goal.insert-requires
insert-requires g c =
    let many = (as_many c.self.inside _ c.self.view_is c.self.invariant).0 in
    omega (arith, c.requires.to, c.remove-key.ensures.len)

pub unwrap-requires : goal.unwrap-requires
unwrap-requires g c = c.insert.ensures.succeeds (omega (arith, c.remove-key.ensures.len, c.remove-key.ensures.capacity, c.self.inside.order.ok))

pub invariant_of-self : goal.invariant_of-self
invariant_of-self g c =
    let many = (as_many c.self.inside _ c.self.view_is c.self.invariant).1 in
    let put = rw (unwrap-requires g c.before) at c.insert.ensures.items in
    let len = rw (unwrap-requires g c.before) at c.insert.ensures.len in
    record {
      keys_are = rw (put, c.remove-key.ensures.items) (keys_moved c.self.inside.records c.self.inside.order.items c.args.from c.args.to c.remove-key.result c.remove-key.ensures.value (omega (arith, c.requires.from)) c.self.invariant.keys_are);
      counted = omega (arith, c.remove-key.ensures.len, c.self.invariant.counted, c.insert.new.self.ok, c.self.inside.order.ok);
    }

pub returns-clause-items : goal.returns-clause-items
returns-clause-items g c =
    let many = (as_many c.self.inside _ c.self.view_is c.self.invariant).1 in
    let put = rw (unwrap-requires g c.before) at c.insert.ensures.items in
    rw (← c.self.view_is, put, c.remove-key.ensures.items) (items_moved c.self.inside.records c.self.inside.order.items c.args.from c.args.to c.remove-key.result c.remove-key.ensures.value (omega (arith, c.requires.from)) c.self.invariant.keys_are)

pub returns-clause-capacity : goal.returns-clause-capacity
returns-clause-capacity g c =
    let room = ap (λ s. s.capacity) c.self.view_is in
    let same = c.insert.ensures.in_place (omega (arith, c.remove-key.ensures.len, c.remove-key.ensures.capacity, c.self.inside.order.ok)) in
    ap (λ n. min c.self.inside.records.capacity n) (same.1.0 ∙ c.remove-key.ensures.capacity) ∙ room
