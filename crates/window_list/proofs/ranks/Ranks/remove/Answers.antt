use Rattle.std.proofs.Common.{sym, subst, arith}
use Rattle.std.specs.Prelude.{IsSome}
use Rattle.slab.specs.Slab.{get}
use Rattle.window_list.proofs.RanksLemmas.{as_many, value_at, item_is, keys_left, items_left}
use Rattle.window_list.proofs.ranks.Ranks.remove.Goals as goal

pub remove-key-requires : goal.remove-key-requires
remove-key-requires g c =
    let many = (as_many c.self.inside _ c.self.view_is c.self.invariant).0 in
    omega (arith, c.requires)

pub remove-requires : goal.remove-requires
remove-requires g c =
    let many = (as_many c.self.inside _ c.self.view_is c.self.invariant).1 in
    subst (λ k. IsSome (get c.self.inside.records k)) (sym c.remove-key.ensures.value) (value_at c.self.inside.records c.self.inside.order.items c.args.at c.remove-key.result (omega (arith, c.requires)) c.self.invariant.keys_are)

pub invariant_of-self : goal.invariant_of-self
invariant_of-self g c =
    let many = (as_many c.self.inside _ c.self.view_is c.self.invariant).1 in
    let here = c.remove-key.ensures.items in
    record {
      keys_are = rw here (keys_left c.self.inside.records c.remove.new.self c.self.inside.order.items c.args.at c.remove-key.result c.remove-key.ensures.value (omega (arith, c.requires)) c.remove.ensures.updates.others c.self.invariant.keys_are);
      counted = omega (arith, c.remove.ensures.len, c.remove-key.ensures.len, c.self.invariant.counted, c.remove-key.new.self.ok, c.self.inside.order.ok);
    }

pub returns-clause-value : goal.returns-clause-value
returns-clause-value g c =
    let many = (as_many c.self.inside _ c.self.view_is c.self.invariant).1 in
    rw (← c.self.view_is) (item_is c.self.inside.records c.self.inside.order.items c.args.at c.remove-key.result c.remove.result c.remove-key.ensures.value (omega (arith, c.requires)) c.remove.ensures.value c.self.invariant.keys_are)

pub returns-clause-items : goal.returns-clause-items
returns-clause-items g c =
    let many = (as_many c.self.inside _ c.self.view_is c.self.invariant).1 in
    rw (← c.self.view_is, c.remove-key.ensures.items) (items_left c.self.inside.records c.remove.new.self c.self.inside.order.items c.args.at c.remove-key.result c.remove-key.ensures.value (omega (arith, c.requires)) c.remove.ensures.updates.others c.self.invariant.keys_are)
