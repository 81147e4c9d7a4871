use Rattle.std.proofs.Common.{◌≡◌, Some, get_or, refl, sym, ap, ◌∙◌, subst}
use Rattle.std.specs.Option.{IsSome}
use Rattle.def_iface.specs.contracts.taken_list.TakenListDefined.TheImpl as list
use Rattle.control_mgr.proofs.Lays.{one_item}
use Rattle.list_mgr.specs.Changing.{IsItsLayer}
use Rattle.list_mgr.proofs.Places.{found_its}
use Rattle.list_mgr.proofs.changing.Lists+TakenList.layer.Goals as goal

pub unwrap-requires : goal.unwrap-requires
unwrap-requires g c =
    let v = c.at.result.now in
    let found = found_its _ _ c.requires.spot.of c.args.windows.now c.args.self.now c.args.spot c.requires.spot.is v (c.at.ensures ∙ ap (λ ls. get_or ls.records.items c.args.spot.window v) c.list.ensures)
    _ refl c.requires.beside.whole c.index.result.now c.index.ensures c.find.result c.find.ensures.first in
    subst IsSome (sym found.1) refl

pub returns : goal.returns
returns g c w lies =
    let v = c.at.result.now in
    let v_is = c.at.ensures ∙ ap (λ ls. get_or ls.records.items c.args.spot.window v) c.list.ensures in
    let found = found_its _ _ c.requires.spot.of c.args.windows.now c.args.self.now c.args.spot c.requires.spot.is v v_is
    _ refl c.requires.beside.whole c.index.result.now c.index.ensures c.find.result c.find.ensures.first in
    let both : Some found.0 ≡ Some c.unwrap.result = sym found.1 ∙ c.unwrap.ensures in
    let same : found.0 ≡ c.unwrap.result = cc in
    subst (λ x. IsItsLayer (list.loan-value g.dyn-1).it c.args.self.now c.args.spot x.layers.layers c.unwrap.result) (one_item c.args.windows.now.windows.records.items c.args.spot.window v w c.requires.spot.is.window.0 v_is lies)
    (subst (λ n. IsItsLayer (list.loan-value g.dyn-1).it c.args.self.now c.args.spot v.layers.layers n) same found.2)
