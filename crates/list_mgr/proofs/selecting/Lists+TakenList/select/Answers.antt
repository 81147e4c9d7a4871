use Rattle.std.proofs.Common.{◌≡◌, true, if◌then◌else◌, Ok, refl, sym, ap, ◌∙◌, subst}
use Rattle.std.proofs.lemmas.Result.{err_from_is_err_and}
use Rattle.def_iface.specs.contracts.taken_list.TakenListDefined.TheImpl as list
use Rattle.list_cells.specs.declared.click.SelectionFlags.{SelectionFlags}
use Rattle.list_cells.specs.Grids.{is_cell}
use Rattle.list_cells.specs.Selections.{IsSelecting, chosen_cell}
use Rattle.list_mgr.specs.Seen.{seen}
use Rattle.desk_call.specs.declared.list.ListCall.TheVariants as asks
use Rattle.desk_call.specs.declared.list.ListReply.TheVariants as reply
use Rattle.control_mgr.proofs.Lays.{one_item}
use Rattle.list_mgr.specs.ListSteps.{IsListStep, IsSelectionChanged}
use Rattle.list_mgr.proofs.Changed.{changed_as, grows_off, short_over}
use Rattle.list_mgr.proofs.Given.{with_cells_there}
use Rattle.list_mgr.proofs.Selected.{selected_so}
use Rattle.list_mgr.proofs.SelectedCells.{chosen_single}
use Rattle.list_mgr.proofs.Steps.{cell_there, list_read}
use Rattle.list_mgr.proofs.selecting.Lists+TakenList.select.Goals as goal

pub returns-in_err-mark : goal.returns-in_err-mark
returns-in_err-mark g c =
    let chosen = c.args.chosen in
    let x = c.index-list.result.now in
    let e = err_from_is_err_and c.from_residual-in_err-mark.result c.from_residual-in_err-mark.ensures.1 in
    short_over _ (list.loan-value g.dyn-1).it c.args.windows.now c.args.self.now c.args.self.now refl refl (asks.Select chosen) c.from_residual-in_err-mark.result e.0 e.1 e.2
    (λ kept. grows_off _ (list.loan-value g.dyn-1).it chosen.cell.list c.args.windows.now c.args.self.now c.in_ok-spot.spot c.in_ok-spot.ensures c.in_err-mark.ensures kept)
    (λ others o slots cs kept.
    cell_there _ _ chosen.cell.list c.args.windows.now c.args.self.now c.in_ok-spot.spot c.in_ok-spot.ensures chosen.cell.cell (seen (list.loan-value g.dyn-1).it x)
    (list_read _ _ chosen.cell.list c.args.windows.now c.args.self.now c.in_ok-spot.spot c.in_ok-spot.ensures x c.index-list.ensures) (sym c.in-Some.ensures.found))

pub returns : goal.returns
returns g c =
    let chosen = c.args.chosen in
    let cell = chosen.cell.cell in
    let t = c.args.windows.now in
    let m = c.args.self.now in
    let spot = c.in_ok-spot.spot in
    let is = c.in_ok-spot.ensures in
    let was = c.index-list.result.now in
    let x = c.index_mut.result.now in
    let read = c.index_mut.ensures.value in
    let same : was ≡ x = one_item m.list.items.items spot.list was x is.low c.index-list.ensures read in
    let has : is_cell x.kept.cells cell ≡ true = sym c.in_ok-select.ensures.found in
    let now : c.select.new.self ≡ chosen_cell cell chosen.selected x.kept.flags.only_one x.kept.cells =
    c.in_ok-select.ensures.cells ∙ ap (λ b. if b then chosen_cell cell chosen.selected was.kept.flags.only_one x.kept.cells else x.kept.cells) has
    ∙ ap (λ z. chosen_cell cell chosen.selected z.kept.flags.only_one x.kept.cells) same in
    let said : IsSelecting x.kept.cells (chosen_cell cell chosen.selected x.kept.flags.only_one x.kept.cells) c.in-Some.selecting =
    subst (λ z. IsSelecting z.kept.cells (chosen_cell cell chosen.selected z.kept.flags.only_one z.kept.cells) c.in-Some.selecting) same c.in-Some.ensures.after in
    changed_as _ (list.loan-value g.dyn-1).it t c.toggle.new.windows m (with_cells_there _ (list.loan-value g.dyn-1).it chosen.cell.list t m spot is x read c.select.new.self) (IsSelectionChanged chosen.cell.list (λ (flags : SelectionFlags). chosen_cell cell chosen.selected flags.only_one)) (IsListStep (asks.Select chosen) (Ok reply.Done))
    (λ others o slots cs kept done.
    (cell_there _ _ chosen.cell.list t m spot is cell (seen (list.loan-value g.dyn-1).it x) (list_read _ _ chosen.cell.list t m spot is x read) has, (refl, done)))
    (selected_so _ (list.loan-value g.dyn-1).it chosen.cell.list t m spot is x read (λ (flags : SelectionFlags). chosen_cell cell chosen.selected flags.only_one) c.select.new.self now c.in-Some.selecting said
    (chosen_single x.kept.flags.only_one x.kept.cells cell chosen.selected) c.in_ok-mark.mark c.in_ok-mark.ensures c.toggle.new.windows c.toggle.ensures)
