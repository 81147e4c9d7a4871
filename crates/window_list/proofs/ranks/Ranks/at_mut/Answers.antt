use Rattle.std.proofs.Common.{◌<◌, length, refl, sym, ap, subst, arith}
use Rattle.std.specs.Prelude.{IsSome, is_some, min, vec_capacity}
use Rattle.slab.specs.Slab.{get, with_value}
use Rattle.slab.proofs.SlabLemmas.{Updates-with_value}
use Rattle.window_list.proofs.RanksLemmas.{as_many, value_at, item_is, items_set, ranked_set}
use Rattle.window_list.proofs.ranks.Ranks.at_mut.Goals as goal

pub index-requires : goal.index-requires
index-requires g c =
    let many = (as_many c.self.inside _ c.self.view_is c.self.invariant).0 in
    omega (arith, c.requires)

pub index_mut-requires : goal.index_mut-requires
index_mut-requires g c =
    let many = (as_many c.self.inside _ c.self.view_is c.self.invariant).1 in
    subst (λ k. IsSome (get c.self.inside.records k)) (sym c.index.ensures) (value_at c.self.inside.records c.self.inside.order.items c.args.at c.index.result.now (omega (arith, c.requires)) c.self.invariant.keys_are)

pub invariant_of-self-lent : goal.invariant_of-self-lent
invariant_of-self-lent g c w = ranked_set c.self.inside.records c.self.inside.order.items c.index.result.now w c.index_mut.result.now c.index_mut.ensures.value c.self.invariant

pub returns : goal.returns
returns g c =
    let many = (as_many c.self.inside _ c.self.view_is c.self.invariant).1 in
    let within : c.args.at < length c.self.inside.order.items = omega (arith, c.requires) in
    let present = ap is_some c.index_mut.ensures.value in (
      (
        refl,
        λ w. let its = Updates-with_value c.self.inside.records c.index.result.now w present in
            rw (← c.self.view_is) (ap (λ xs. record { items = xs; capacity = min c.self.inside.records.capacity (vec_capacity c.self.inside.order) }) (items_set c.self.inside.records (with_value c.self.inside.records c.index.result.now w) c.self.inside.order.items c.args.at c.index.result.now c.index.result.now w c.index.ensures within its.changed its.others c.self.invariant.keys_are)),
      ),
      record { writes_back = tt; value = rw (← c.self.view_is) (item_is c.self.inside.records c.self.inside.order.items c.args.at c.index.result.now c.index_mut.result.now c.index.ensures within c.index_mut.ensures.value c.self.invariant.keys_are) },
    )
