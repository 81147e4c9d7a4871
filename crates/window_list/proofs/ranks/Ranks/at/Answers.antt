use Rattle.std.proofs.Common.{sym, subst, arith}
use Rattle.std.specs.Prelude.{IsSome}
use Rattle.slab.specs.Slab.{get}
use Rattle.window_list.proofs.RanksLemmas.{as_many, value_at, item_is}
use Rattle.window_list.proofs.ranks.Ranks.at.Goals as goal

pub index-requires : goal.index-requires
index-requires g c =
    let many = (as_many c.self.inside _ c.self.view_is c.self.invariant).0 in
    omega (arith, c.requires)

pub index-requires-2 : goal.index-requires-2
index-requires-2 g c =
    let many = (as_many c.self.inside _ c.self.view_is c.self.invariant).1 in
    subst (λ k. IsSome (get c.self.inside.records k)) (sym c.index.ensures) (value_at c.self.inside.records c.self.inside.order.items c.args.at c.index.result.now (omega (arith, c.requires)) c.self.invariant.keys_are)

pub returns : goal.returns
returns g c =
    let many = (as_many c.self.inside _ c.self.view_is c.self.invariant).1 in
    rw (← c.self.view_is) (item_is c.self.inside.records c.self.inside.order.items c.args.at c.index.result.now c.index-2.result.now c.index.ensures (omega (arith, c.requires)) c.index-2.ensures c.self.invariant.keys_are)
