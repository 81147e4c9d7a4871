use Rattle.std.proofs.Common.{false, get_or, sym, ap, ◌∙◌, subst}
use Rattle.std.specs.Prelude.{MatchResult}
use Rattle.std.proofs.lemmas.Result.{err_from_is_err_and}
use Rattle.def_iface.specs.contracts.taken_window.TakenWindowDefined.TheImpl as window
use Rattle.def_iface.specs.contracts.taken_list.TakenListDefined.TheImpl as list
use Rattle.list_mgr.specs.Seen.{seen}
use Rattle.window_mgr.proofs.Contents.{layers_apart}
use Rattle.window_mgr.proofs.Remarked.{area_there}
use Rattle.list_mgr.specs.Changing.{IsDrawing, IsMark}
use Rattle.list_mgr.proofs.Shown.{marked_region}
use Rattle.list_mgr.proofs.Steps.{list_read}
use Rattle.list_mgr.proofs.changing.Lists+TakenList.mark.Goals as goal

pub returns-then-index : goal.returns-then-index
returns-then-index g c = (
  seen (list.loan-value g.dyn-1).it c.index.result.now,
  list_read _ _ c.requires.spot.of c.args.windows.now c.args.self.now c.args.spot c.requires.spot.is c.index.result.now c.index.ensures,
  c.if-index.true,
)

pub owned-own-requires-clause-apart : goal.owned-own-requires-clause-apart
owned-own-requires-clause-apart g c =
    let v = c.at.result.now in
    layers_apart _ c.args.windows.now c.requires.kept.slots c.requires.kept.whole c.args.spot.window c.requires.spot.is.window.0 v
    (c.at.ensures ∙ ap (λ ls. get_or ls.records.items c.args.spot.window v) c.list.ensures) (λ font q p. false)

pub area-area-requires : goal.area-area-requires
area-area-requires g c = area_there _ c.args.windows.now c.requires.kept c.args.spot.window c.requires.spot.is.window.0

pub returns-in_err-shown : goal.returns-in_err-shown
returns-in_err-shown g c =
    let e = err_from_is_err_and c.from_residual.result c.from_residual.ensures.1 in
    subst (λ r. MatchResult r (IsMark (list.loan-value g.dyn-1).it (window.loan-value g.dyn-2).it c.args.windows.now c.args.self.now c.args.spot) (λ _. IsDrawing (list.loan-value g.dyn-1).it false c.args.self.now c.args.spot)) (sym e.1) (
      seen (list.loan-value g.dyn-1).it c.index.result.now,
      list_read _ _ c.requires.spot.of c.args.windows.now c.args.self.now c.args.spot c.requires.spot.is c.index.result.now c.index.ensures,
      c.if-index.false,
    )

pub returns-in_err-update : goal.returns-in_err-update
returns-in_err-update g c =
    let e = err_from_is_err_and c.from_residual-in_err-update.result c.from_residual-in_err-update.ensures.1 in
    subst (λ r. MatchResult r (IsMark (list.loan-value g.dyn-1).it (window.loan-value g.dyn-2).it c.args.windows.now c.args.self.now c.args.spot) (λ _. IsDrawing (list.loan-value g.dyn-1).it false c.args.self.now c.args.spot)) (sym e.1) (
      seen (list.loan-value g.dyn-1).it c.index.result.now,
      list_read _ _ c.requires.spot.of c.args.windows.now c.args.self.now c.args.spot c.requires.spot.is c.index.result.now c.index.ensures,
      c.if-index.false,
    )

pub returns : goal.returns
returns g c =
    let v = c.at.result.now in
    let v_is = c.at.ensures ∙ ap (λ ls. get_or ls.records.items c.args.spot.window v) c.list.ensures in (
      (
        seen (list.loan-value g.dyn-1).it c.index.result.now,
        list_read _ _ c.requires.spot.of c.args.windows.now c.args.self.now c.args.spot c.requires.spot.is c.index.result.now c.index.ensures,
        c.if-index.false,
      ),
      marked_region _ _ c.args.windows.now c.args.self.now c.args.spot c.requires.spot v v_is c.area-area.result.now c.area-area.ensures
          (area_there _ c.args.windows.now c.requires.kept c.args.spot.window c.requires.spot.is.window.0) c.layer-layer.result (c.layer-layer.ensures v v_is)
          c.owned-own.result.now c.in_ok-shown.shown c.in_ok-update.update c.owned-own.ensures c.in_ok-shown.ensures c.in_ok-update.ensures,
    )
