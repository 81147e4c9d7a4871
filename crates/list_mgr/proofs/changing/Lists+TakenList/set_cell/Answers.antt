use Rattle.std.proofs.Common.{◌≡◌, ℕ, not, List, None, Ok, Some, length, refl, sym, ap, ◌∙◌, subst}
use Rattle.std.specs.Prelude.{unwrap_or}
use Rattle.std.specs.Str.{bytes_eq}
use Rattle.std.proofs.lemmas.Result.{err_from_is_err_and}
use Rattle.tb_geom.specs.declared.refusal.Refusal.TheVariants.{NoMemory}
use Rattle.tb_geom.specs.Refusals.{first_refusal}
use Rattle.def_iface.specs.contracts.taken_list.TakenListDefined.TheImpl as list
use Rattle.list_cells.specs.Grids.{Grid, content_of, data_refusals, with_bytes}
use Rattle.list_mgr.specs.Seen.{seen}
use Rattle.desk_call.specs.declared.list.ListCall.TheVariants as asks
use Rattle.desk_call.specs.declared.list.ListReply.TheVariants as reply
use Rattle.control_mgr.proofs.Lays.{one_item}
use Rattle.list_mgr.specs.Changing.{IsSameOrNot}
use Rattle.list_mgr.specs.ListSteps.{IsListChanged, IsListStep, with_grid}
use Rattle.list_mgr.proofs.Cells.{cell_of_allowed, no_cell_refused, set_grid, set_or_not}
use Rattle.list_mgr.proofs.Changed.{right_as, refused_over_right, short_over_right}
use Rattle.list_mgr.proofs.Given.{beside_so, changed_so, kept_there, mark_so, read_grid, spot_so, with_cells_there}
use Rattle.list_mgr.proofs.Steps.{its_reasons, list_read}
use Rattle.list_view.specs.Views.{cell_rect}
use Rattle.list_view.proofs.LawLemmas.{cell_of_list}
use Rattle.list_mgr.proofs.Outside.{bytes_outside}
use Rattle.list_mgr.proofs.changing.Lists+TakenList.set_cell.Goals as goal

pub returns-in_err-cell : goal.returns-in_err-cell
returns-in_err-cell g c =
    let set = c.args.set.now in
    let cell = set.cell.cell in
    let x = c.index-2.result.now in
    let e = err_from_is_err_and c.from_residual-in_err-cell.result c.from_residual-in_err-cell.ensures.1 in
    refused_over_right _ (list.loan-value g.dyn-1).it c.args.windows.now c.args.self.now c.args.self.now refl refl (asks.SetCell set) c.from_residual-in_err-cell.result e.0 e.1
    (λ others o slots cs kept.
    its_reasons _ _ set.cell.list c.args.windows.now c.args.self.now c.in_ok-spot.spot c.in_ok-spot.ensures (λ y. data_refusals y.kept.cells cell (length (content_of y.kept.cells cell).bytes) (length set.text))
    (seen (list.loan-value g.dyn-1).it x) (list_read _ _ set.cell.list c.args.windows.now c.args.self.now c.in_ok-spot.spot c.in_ok-spot.ensures x c.index-2.ensures)
    ∙ no_cell_refused x.kept.cells cell (length (content_of x.kept.cells cell).bytes) (length set.text) (sym c.in_err-cell.ensures.found)
    ∙ ap Some (sym (e.2 ∙ c.in_err-cell.ensures.refused)))

pub returns-in_err-mark : goal.returns-in_err-mark
returns-in_err-mark g c =
    let set = c.args.set.now in
    let cell = set.cell.cell in
    let x = c.index.result.now in
    let e = err_from_is_err_and c.from_residual-in_err-mark.result c.from_residual-in_err-mark.ensures.1 in
    short_over_right _ (list.loan-value g.dyn-1).it c.args.windows.now c.args.self.now c.args.self.now refl refl (asks.SetCell set) c.from_residual-in_err-mark.result e.0 e.1 e.2 (λ kept. refl)
    (λ others o slots cs kept.
    its_reasons _ _ set.cell.list c.args.windows.now c.args.self.now c.in_ok-spot.spot c.in_ok-spot.ensures (λ y. data_refusals y.kept.cells cell (length (content_of y.kept.cells cell).bytes) (length set.text))
    (seen (list.loan-value g.dyn-1).it x) (list_read _ _ set.cell.list c.args.windows.now c.args.self.now c.in_ok-spot.spot c.in_ok-spot.ensures x c.index.ensures)
    ∙ subst (λ (text : List ℕ). first_refusal (data_refusals x.kept.cells cell (length (content_of x.kept.cells cell).bytes) (length text)) ≡ None) c.as_slice-text.ensures (sym c.in_default.ensures))

pub returns-in_err-set_cell : goal.returns-in_err-set_cell
returns-in_err-set_cell g c =
    let set = c.args.set.now in
    let cell = set.cell.cell in
    let x = c.index.result.now in
    let y = c.index_mut.result.now in
    let same : x ≡ y = one_item c.args.self.now.list.items.items c.in_ok-spot.spot.list x y c.in_ok-spot.ensures.low c.index.ensures c.index_mut.ensures.value in
    let free : first_refusal (data_refusals x.kept.cells cell (length (content_of x.kept.cells cell).bytes) (length c.as_slice-text.result.now)) ≡ None = sym c.in_default.ensures in
    let e = err_from_is_err_and c.from_residual-in_err-set_cell.result c.from_residual-in_err-set_cell.ensures.1 in
    let memory : e.0 ≡ NoMemory =
    e.2 ∙ c.in_err-set_cell.ensures.refused
    ∙ ap (λ o. unwrap_or o NoMemory) (subst (λ z. first_refusal (data_refusals z.kept.cells cell (length (content_of z.kept.cells cell).bytes) (length c.as_slice-text.result.now)) ≡ None) same free) in
    short_over_right _ (list.loan-value g.dyn-1).it c.args.windows.now c.args.self.now (with_cells_there _ (list.loan-value g.dyn-1).it set.cell.list c.args.windows.now c.args.self.now c.in_ok-spot.spot c.in_ok-spot.ensures y c.index_mut.ensures.value c.set_cell.new.self)
    (kept_there _ (list.loan-value g.dyn-1).it set.cell.list c.args.windows.now c.args.self.now c.in_ok-spot.spot c.in_ok-spot.ensures y c.index_mut.ensures.value c.set_cell.new.self c.in_err-set_cell.ensures.cells)
    refl (asks.SetCell set) c.from_residual-in_err-set_cell.result e.0 e.1 memory (λ kept. refl)
    (λ others o slots cs kept.
    its_reasons _ _ set.cell.list c.args.windows.now c.args.self.now c.in_ok-spot.spot c.in_ok-spot.ensures (λ z. data_refusals z.kept.cells cell (length (content_of z.kept.cells cell).bytes) (length set.text))
    (seen (list.loan-value g.dyn-1).it x) (list_read _ _ set.cell.list c.args.windows.now c.args.self.now c.in_ok-spot.spot c.in_ok-spot.ensures x c.index.ensures)
    ∙ subst (λ (text : List ℕ). first_refusal (data_refusals x.kept.cells cell (length (content_of x.kept.cells cell).bytes) (length text)) ≡ None) c.as_slice-text.ensures free)

pub cell_rect-within-requires : goal.cell_rect-within-requires
cell_rect-within-requires g c =
    let set = c.args.set.now in
    let x = c.index-2.result.now in
    cell_of_list x.kept.cells set.cell.cell (read_grid _ (list.loan-value g.dyn-1).it set.cell.list c.args.windows.now c.args.self.now c.in_ok-spot.spot c.in_ok-spot.ensures x c.index-2.ensures c.requires.beside) (sym c.in_ok-cell.ensures.found)

pub show-requires-clause-beside : goal.show-requires-clause-beside
show-requires-clause-beside g c =
    let set = c.args.set.now in
    let cell = set.cell.cell in
    let x = c.index_mut.result.now in
    let allowed = subst (λ (text : List ℕ). first_refusal (data_refusals x.kept.cells cell (length (content_of x.kept.cells cell).bytes) (length text)) ≡ None) c.as_slice-text.ensures c.in_ok-set_cell.ensures.allowed in
    beside_so _ _ set.cell.list c.args.windows.now c.args.self.now c.in_ok-spot.spot c.in_ok-spot.ensures x c.index_mut.ensures.value (λ (y : Grid). with_bytes y cell set.text) c.set_cell.new.self
    (c.in_ok-set_cell.ensures.cells ∙ ap (λ (text : List ℕ). with_bytes x.kept.cells cell text) c.as_slice-text.ensures) (λ is. set_grid x.kept.cells cell set.text is allowed) c.requires.beside

pub show-requires-clause-spot : goal.show-requires-clause-spot
show-requires-clause-spot g c =
    let set = c.args.set.now in
    let cell = set.cell.cell in
    let x = c.index_mut.result.now in
    let allowed = subst (λ (text : List ℕ). first_refusal (data_refusals x.kept.cells cell (length (content_of x.kept.cells cell).bytes) (length text)) ≡ None) c.as_slice-text.ensures c.in_ok-set_cell.ensures.allowed in
    spot_so _ _ set.cell.list c.args.windows.now c.args.self.now c.in_ok-spot.spot c.in_ok-spot.ensures x c.index_mut.ensures.value (λ (y : Grid). with_bytes y cell set.text) c.set_cell.new.self
    (c.in_ok-set_cell.ensures.cells ∙ ap (λ (text : List ℕ). with_bytes x.kept.cells cell text) c.as_slice-text.ensures) (λ is. set_grid x.kept.cells cell set.text is allowed)

pub show-requires-clause-mark : goal.show-requires-clause-mark
show-requires-clause-mark g c =
    let set = c.args.set.now in
    let cell = set.cell.cell in
    let x = c.index_mut.result.now in
    let allowed = subst (λ (text : List ℕ). first_refusal (data_refusals x.kept.cells cell (length (content_of x.kept.cells cell).bytes) (length text)) ≡ None) c.as_slice-text.ensures c.in_ok-set_cell.ensures.allowed in
    mark_so _ _ set.cell.list c.args.windows.now c.args.self.now c.in_ok-spot.spot c.in_ok-spot.ensures x c.index_mut.ensures.value (λ (y : Grid). with_bytes y cell set.text) c.set_cell.new.self
    (c.in_ok-set_cell.ensures.cells ∙ ap (λ (text : List ℕ). with_bytes x.kept.cells cell text) c.as_slice-text.ensures) (λ is. set_grid x.kept.cells cell set.text is allowed) c.in_ok-mark.mark c.in_ok-mark.ensures

pub returns : goal.returns
returns g c =
    let set = c.args.set.now in
    let cell = set.cell.cell in
    let t = c.args.windows.now in
    let m = c.args.self.now in
    let spot = c.in_ok-spot.spot in
    let is = c.in_ok-spot.ensures in
    let x = c.index_mut.result.now in
    let read = c.index_mut.ensures.value in
    let allowed : first_refusal (data_refusals x.kept.cells cell (length (content_of x.kept.cells cell).bytes) (length set.text)) ≡ None =
    subst (λ (text : List ℕ). first_refusal (data_refusals x.kept.cells cell (length (content_of x.kept.cells cell).bytes) (length text)) ≡ None) c.as_slice-text.ensures c.in_ok-set_cell.ensures.allowed in
    let same : c.index-2.result.now ≡ x = one_item m.list.items.items spot.list c.index-2.result.now x is.low c.index-2.ensures read in
    let changes : not (bytes_eq (content_of x.kept.cells cell).bytes set.text) ≡ c.differ-changes.result =
    sym (c.differ-changes.ensures ∙ ap (λ (old : List ℕ). not (bytes_eq old c.as_slice-text.result.now)) (c.in_ok-cell.ensures.bytes ∙ ap (λ y. (content_of y.kept.cells cell).bytes) same)
    ∙ ap (λ (text : List ℕ). not (bytes_eq (content_of x.kept.cells cell).bytes text)) c.as_slice-text.ensures) in
    right_as _ (list.loan-value g.dyn-1).it t c.show.new.windows m (with_cells_there _ (list.loan-value g.dyn-1).it set.cell.list t m spot is x read c.set_cell.new.self) (IsListChanged set.cell.list (with_grid (λ (y : Grid). with_bytes y cell set.text))) (IsListStep (asks.SetCell set) (Ok reply.Done))
    (λ others o slots cs kept done. (
      its_reasons _ _ set.cell.list t m spot is (λ y. data_refusals y.kept.cells cell (length (content_of y.kept.cells cell).bytes) (length set.text)) (seen (list.loan-value g.dyn-1).it x) (list_read _ _ set.cell.list t m spot is x read) ∙ allowed,
      (refl, done),
    ))
    (changed_so _ (list.loan-value g.dyn-1).it set.cell.list t m spot is x read (λ (y : Grid). with_bytes y cell set.text) c.set_cell.new.self
    (c.in_ok-set_cell.ensures.cells ∙ ap (λ (text : List ℕ). with_bytes x.kept.cells cell text) c.as_slice-text.ensures) (λ good. set_grid x.kept.cells cell set.text good allowed) c.cell_rect-within.result (λ settled. bytes_outside c.cell_rect-within.result (seen (list.loan-value g.dyn-1).it x) cell set.text
    (c.cell_rect-within.ensures.sides ∙ ap (λ y. cell_rect y.kept.view cell) (one_item m.list.items.items spot.list c.index-3.result.now x is.low c.index-3.ensures read)) (cell_of_allowed x.kept.cells cell (length (content_of x.kept.cells cell).bytes) (length set.text) allowed) settled) c.in_ok-mark.mark c.differ-changes.result c.in_ok-mark.ensures
    (subst (λ b. IsSameOrNot b (with_bytes x.kept.cells cell set.text) x.kept.cells) changes
    (set_or_not x.kept.cells cell set.text (read_grid _ (list.loan-value g.dyn-1).it set.cell.list t m spot is x read c.requires.beside) (cell_of_allowed x.kept.cells cell (length (content_of x.kept.cells cell).bytes) (length set.text) allowed)))
    c.show.new.windows c.show.ensures.shown)
