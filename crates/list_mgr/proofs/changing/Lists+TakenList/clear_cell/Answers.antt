use Rattle.std.proofs.Common.{◌≡◌, true, not, if◌then◌else◌, [], Ok, refl, sym, ap, ◌∙◌, subst}
use Rattle.std.specs.Prelude.{is_ok}
use Rattle.std.proofs.lemmas.Result.{err_from_is_err_and}
use Rattle.def_iface.specs.contracts.taken_list.TakenListDefined.TheImpl as list
use Rattle.list_cells.specs.Grids.{Grid, content_of, is_cell, with_bytes}
use Rattle.list_mgr.specs.Seen.{seen}
use Rattle.desk_call.specs.declared.list.ListCall.TheVariants as asks
use Rattle.desk_call.specs.declared.list.ListReply.TheVariants as reply
use Rattle.control_mgr.proofs.Lays.{one_item}
use Rattle.list_mgr.proofs.Cells.{cleared_grid, cleared_or_not}
use Rattle.list_mgr.specs.Changing.{IsSameOrNot}
use Rattle.list_mgr.specs.ListSteps.{IsListChanged, IsListStep, with_grid}
use Rattle.list_mgr.proofs.Changed.{right_as, grows_off, short_over_right}
use Rattle.list_mgr.proofs.Given.{beside_so, changed_so, mark_so, read_grid, spot_so, with_cells_there}
use Rattle.list_mgr.proofs.Steps.{cell_there, list_read}
use Rattle.list_view.specs.Views.{cell_rect}
use Rattle.list_view.proofs.LawLemmas.{cell_of_list}
use Rattle.list_mgr.proofs.Outside.{bytes_outside}
use Rattle.list_mgr.proofs.changing.Lists+TakenList.clear_cell.Goals as goal

pub returns-in_err-mark : goal.returns-in_err-mark
returns-in_err-mark g c =
    let named = c.args.cleared in
    let x = c.index.result.now in
    let e = err_from_is_err_and c.from_residual-in_err-mark.result c.from_residual-in_err-mark.ensures.1 in
    short_over_right _ (list.loan-value g.dyn-1).it c.args.windows.now c.args.self.now c.args.self.now refl refl (asks.ClearCell named) c.from_residual-in_err-mark.result e.0 e.1 e.2
    (λ kept. grows_off _ (list.loan-value g.dyn-1).it named.list c.args.windows.now c.args.self.now c.in_ok-spot.spot c.in_ok-spot.ensures c.in_err-mark.ensures kept)
    (λ others o slots cs kept.
    cell_there _ _ named.list c.args.windows.now c.args.self.now c.in_ok-spot.spot c.in_ok-spot.ensures named.cell (seen (list.loan-value g.dyn-1).it x)
    (list_read _ _ named.list c.args.windows.now c.args.self.now c.in_ok-spot.spot c.in_ok-spot.ensures x c.index.ensures) (sym c.cell.ensures.found ∙ ap is_ok c.in_ok-cell.was))

pub cell_rect-within-requires : goal.cell_rect-within-requires
cell_rect-within-requires g c =
    let named = c.args.cleared in
    let x = c.index.result.now in
    cell_of_list x.kept.cells named.cell (read_grid _ (list.loan-value g.dyn-1).it named.list c.args.windows.now c.args.self.now c.in_ok-spot.spot c.in_ok-spot.ensures x c.index.ensures c.requires.beside) (sym c.in_ok-cell.ensures.found)

pub show-requires-clause-beside : goal.show-requires-clause-beside
show-requires-clause-beside g c =
    let cell = c.args.cleared.cell in
    let x = c.index_mut.result.now in
    let has : is_cell x.kept.cells cell ≡ true = sym c.in_ok-clear_cell.ensures.found in
    beside_so _ _ c.args.cleared.list c.args.windows.now c.args.self.now c.in_ok-spot.spot c.in_ok-spot.ensures x c.index_mut.ensures.value (λ (y : Grid). with_bytes y cell []) c.clear_cell.new.self
    (c.in_ok-clear_cell.ensures.cells ∙ ap (λ b. if b then with_bytes x.kept.cells cell [] else x.kept.cells) has) (λ is. cleared_grid x.kept.cells cell is has) c.requires.beside

pub show-requires-clause-spot : goal.show-requires-clause-spot
show-requires-clause-spot g c =
    let cell = c.args.cleared.cell in
    let x = c.index_mut.result.now in
    let has : is_cell x.kept.cells cell ≡ true = sym c.in_ok-clear_cell.ensures.found in
    spot_so _ _ c.args.cleared.list c.args.windows.now c.args.self.now c.in_ok-spot.spot c.in_ok-spot.ensures x c.index_mut.ensures.value (λ (y : Grid). with_bytes y cell []) c.clear_cell.new.self
    (c.in_ok-clear_cell.ensures.cells ∙ ap (λ b. if b then with_bytes x.kept.cells cell [] else x.kept.cells) has) (λ is. cleared_grid x.kept.cells cell is has)

pub show-requires-clause-mark : goal.show-requires-clause-mark
show-requires-clause-mark g c =
    let cell = c.args.cleared.cell in
    let x = c.index_mut.result.now in
    let has : is_cell x.kept.cells cell ≡ true = sym c.in_ok-clear_cell.ensures.found in
    mark_so _ _ c.args.cleared.list c.args.windows.now c.args.self.now c.in_ok-spot.spot c.in_ok-spot.ensures x c.index_mut.ensures.value (λ (y : Grid). with_bytes y cell []) c.clear_cell.new.self
    (c.in_ok-clear_cell.ensures.cells ∙ ap (λ b. if b then with_bytes x.kept.cells cell [] else x.kept.cells) has) (λ is. cleared_grid x.kept.cells cell is has) c.in_ok-mark.mark c.in_ok-mark.ensures

pub returns : goal.returns
returns g c =
    let named = c.args.cleared in
    let cell = named.cell in
    let t = c.args.windows.now in
    let m = c.args.self.now in
    let spot = c.in_ok-spot.spot in
    let is = c.in_ok-spot.ensures in
    let x = c.index_mut.result.now in
    let read = c.index_mut.ensures.value in
    let has : is_cell x.kept.cells cell ≡ true = sym c.in_ok-clear_cell.ensures.found in
    let same : c.index.result.now ≡ x = one_item m.list.items.items spot.list c.index.result.now x is.low c.index.ensures read in
    right_as _ (list.loan-value g.dyn-1).it t c.show.new.windows m (with_cells_there _ (list.loan-value g.dyn-1).it named.list t m spot is x read c.clear_cell.new.self) (IsListChanged named.list (with_grid (λ (y : Grid). with_bytes y cell []))) (IsListStep (asks.ClearCell named) (Ok reply.Done))
    (λ others o slots cs kept done. (
      cell_there _ _ named.list t m spot is cell (seen (list.loan-value g.dyn-1).it x) (list_read _ _ named.list t m spot is x read) has,
      (refl, done),
    ))
    (changed_so _ (list.loan-value g.dyn-1).it named.list t m spot is x read (λ (y : Grid). with_bytes y cell []) c.clear_cell.new.self
    (c.in_ok-clear_cell.ensures.cells ∙ ap (λ b. if b then with_bytes x.kept.cells cell [] else x.kept.cells) has) (λ good. cleared_grid x.kept.cells cell good has) c.cell_rect-within.result (λ settled. bytes_outside c.cell_rect-within.result (seen (list.loan-value g.dyn-1).it x) cell []
    (c.cell_rect-within.ensures.sides ∙ ap (λ y. cell_rect y.kept.view cell) (one_item m.list.items.items spot.list c.index-2.result.now x is.low c.index-2.ensures read)) has settled) c.in_ok-mark.mark (not c.is_empty-changes.result) c.in_ok-mark.ensures
    (subst (λ b. IsSameOrNot (not b) (with_bytes x.kept.cells cell []) x.kept.cells) (sym c.is_empty-changes.ensures)
    (cleared_or_not x.kept.cells cell c.in_ok-cell.field-0.now (c.in_ok-cell.ensures.bytes ∙ ap (λ y. (content_of y.kept.cells cell).bytes) same)
    (read_grid _ (list.loan-value g.dyn-1).it named.list t m spot is x read c.requires.beside) has))
    c.show.new.windows c.show.ensures.shown)
