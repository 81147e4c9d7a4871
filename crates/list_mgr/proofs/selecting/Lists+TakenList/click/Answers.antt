use Rattle.std.proofs.Common.{rules, SFits, w32, ◌≡◌, true, false, if◌then◌else◌, Some, Err, refl, sym, ap, ◌∙◌, subst}
use Rattle.std.specs.Prelude.{IfSome, nat_abs}
use Rattle.std.specs.Int.{FitsUnsignedBits}
use Rattle.std.proofs.lemmas.Int.{to_z-of_z}
use Rattle.std.proofs.lemmas.Result.{err_from_is_err_and}
use Rattle.tb_geom.specs.declared.refusal.Refusal.TheVariants.{OutOfRange}
use Rattle.def_iface.specs.contracts.taken_list.TakenListDefined.TheImpl as list
use Rattle.list_cells.specs.declared.click.SelectionFlags.{SelectionFlags}
use Rattle.list_cells.specs.Blocks.{clicked_cell}
use Rattle.list_cells.specs.Clicks.{keys_of}
use Rattle.list_cells.specs.Grids.{is_cell}
use Rattle.list_cells.specs.Selections.{IsSelecting}
use Rattle.list_view.specs.Views.{cell_at}
use Rattle.list_view.proofs.LawLemmas.{found_is_cell}
use Rattle.desk_call.specs.declared.list.ListCall.TheVariants as asks
use Rattle.control_mgr.proofs.Lays.{one_item}
use Rattle.list_mgr.specs.ListRefusals.{is_word}
use Rattle.list_mgr.proofs.Changed.{grows_off, refused_over, short_over}
use Rattle.list_mgr.proofs.Clicks.{a_word, click_free, click_missing, click_no_word, click_outside, clicked_none, clicked_on, no_word}
use Rattle.list_mgr.proofs.Drawn.{settled_there}
use Rattle.list_mgr.proofs.Given.{with_cells_there}
use Rattle.list_mgr.proofs.Selected.{selected_so}
use Rattle.list_mgr.proofs.SelectedCells.{clicked_single}
use Rattle.list_mgr.proofs.selecting.Lists+TakenList.click.Goals as goal

pub returns-in_err-spot : goal.returns-in_err-spot
returns-in_err-spot g c =
    let e = err_from_is_err_and c.from_residual.result c.from_residual.ensures.1 in
    refused_over _ (list.loan-value g.dyn-1).it c.args.windows.now c.args.self.now c.args.self.now refl refl (asks.Click c.args.clicked) c.from_residual.result e.0 e.1
    (λ others o slots cs kept. click_missing _ _ c.args.clicked c.args.windows.now c.args.self.now c.in_err-spot.field-0.0 c.in_err-spot.ensures others o slots cs kept ∙ ap Some (sym e.2))

pub returns-then-not-is_in_range : goal.returns-then-not-is_in_range
returns-then-not-is_in_range g c =
    refused_over _ (list.loan-value g.dyn-1).it c.args.windows.now c.args.self.now c.args.self.now refl refl (asks.Click c.args.clicked) (Err OutOfRange) OutOfRange refl
    (click_outside _ _ c.args.clicked c.args.windows.now c.args.self.now c.in_ok-spot.spot c.in_ok-spot.ensures (sym c.if-not-is_in_range.ensures))

pub returns-in_default : goal.returns-in_default
returns-in_default g c =
    let range : SFits w32 c.args.clicked.modifiers = search rules in
    let none : is_word c.args.clicked.modifiers ≡ false =
    no_word c.args.clicked.modifiers (λ fits. c.in_default.ensures (subst (FitsUnsignedBits 16) (sym (to_z-of_z w32 c.args.clicked.modifiers range)) fits)) in
    refused_over _ (list.loan-value g.dyn-1).it c.args.windows.now c.args.self.now c.args.self.now refl refl (asks.Click c.args.clicked) (Err OutOfRange) OutOfRange refl
    (click_no_word _ _ c.args.clicked c.args.windows.now c.args.self.now c.in_ok-spot.spot c.in_ok-spot.ensures (sym c.if-not-is_in_range.ensures) none)

pub returns-in_default-cell_at : goal.returns-in_default-cell_at
returns-in_default-cell_at g c =
    let k = c.args.clicked in
    let x = c.index-list.result.now in
    let range : SFits w32 k.modifiers = search rules in
    let word : is_word k.modifiers ≡ true = a_word k.modifiers (subst (FitsUnsignedBits 16) (to_z-of_z w32 k.modifiers range) c.in-Ok.ensures.0) in
    clicked_none _ _ k c.args.windows.now c.args.self.now c.in_ok-spot.spot c.in_ok-spot.ensures x c.index-list.ensures (sym c.if-not-is_in_range.ensures) word
    (sym (c.in_default-cell_at.ensures ∙ (λ i. cell_at (c.columns.ensures.columns i) (c.rows.ensures.rows i) x.kept.view k.point)))

pub unwrap-selecting-requires : goal.unwrap-selecting-requires
unwrap-selecting-requires g c =
    let k = c.args.clicked in
    let x = c.index-list.result.now in
    let some : cell_at x.kept.cells.columns x.kept.cells.rows x.kept.view k.point ≡ Some c.in-Some.cell =
    sym (c.in-Some.ensures ∙ (λ i. cell_at (c.columns.ensures.columns i) (c.rows.ensures.rows i) x.kept.view k.point)) in
    let settled = settled_there (list.loan-value g.dyn-1).it c.args.self.now.list.items.items c.in_ok-spot.spot.list x c.in_ok-spot.ensures.low c.index-list.ensures c.requires.beside.whole.settled in
    c.clicking.ensures.found ∙ found_is_cell x.kept.view x.kept.cells c.in-Some.cell k.point settled.view some

pub returns-in_err-mark : goal.returns-in_err-mark
returns-in_err-mark g c =
    let k = c.args.clicked in
    let range : SFits w32 k.modifiers = search rules in
    let word : is_word k.modifiers ≡ true = a_word k.modifiers (subst (FitsUnsignedBits 16) (to_z-of_z w32 k.modifiers range) c.in-Ok.ensures.0) in
    let e = err_from_is_err_and c.from_residual-in_err-mark.result c.from_residual-in_err-mark.ensures.1 in
    short_over _ (list.loan-value g.dyn-1).it c.args.windows.now c.args.self.now c.args.self.now refl refl (asks.Click k) c.from_residual-in_err-mark.result e.0 e.1 e.2
    (λ kept. grows_off _ (list.loan-value g.dyn-1).it k.list c.args.windows.now c.args.self.now c.in_ok-spot.spot c.in_ok-spot.ensures c.in_err-mark.ensures kept)
    (click_free _ _ k c.args.windows.now c.args.self.now c.in_ok-spot.spot c.in_ok-spot.ensures (sym c.if-not-is_in_range.ensures) word)

pub returns : goal.returns
returns g c =
    let k = c.args.clicked in
    let cell = c.in-Some.cell in
    let t = c.args.windows.now in
    let m = c.args.self.now in
    let spot = c.in_ok-spot.spot in
    let is = c.in_ok-spot.ensures in
    let was = c.index-list.result.now in
    let x = c.index_mut.result.now in
    let read = c.index_mut.ensures.value in
    let range : SFits w32 k.modifiers = search rules in
    let word : is_word k.modifiers ≡ true = a_word k.modifiers (subst (FitsUnsignedBits 16) (to_z-of_z w32 k.modifiers range) c.in-Ok.ensures.0) in
    let same : was ≡ x = one_item m.list.items.items spot.list was x is.low c.index-list.ensures read in
    let keys : c.of_modifiers-keys.result ≡ keys_of (nat_abs k.modifiers) = c.of_modifiers-keys.ensures ∙ ap keys_of (c.in-Ok.ensures.1 ∙ ap nat_abs (to_z-of_z w32 k.modifiers range)) in
    let some : cell_at was.kept.cells.columns was.kept.cells.rows was.kept.view k.point ≡ Some cell =
    sym (c.in-Some.ensures ∙ (λ i. cell_at (c.columns.ensures.columns i) (c.rows.ensures.rows i) was.kept.view k.point)) in
    let settled = settled_there (list.loan-value g.dyn-1).it m.list.items.items spot.list was is.low c.index-list.ensures c.requires.beside.whole.settled in
    let has : is_cell x.kept.cells cell ≡ true = ap (λ z. is_cell z.kept.cells cell) (sym same) ∙ found_is_cell was.kept.view was.kept.cells cell k.point settled.view some in
    let now : c.click-clicked.new.self ≡ clicked_cell x.kept.flags (keys_of (nat_abs k.modifiers)) cell x.kept.cells =
    c.click-clicked.ensures.cells ∙ ap (λ b. if b then clicked_cell was.kept.flags c.of_modifiers-keys.result cell x.kept.cells else x.kept.cells) has
    ∙ (λ i. clicked_cell (same i).kept.flags (keys i) cell x.kept.cells) in
    let said : IsSelecting x.kept.cells (clicked_cell x.kept.flags (keys_of (nat_abs k.modifiers)) cell x.kept.cells) c.unwrap-selecting.result =
    subst (λ z. IsSelecting z.kept.cells (clicked_cell z.kept.flags (keys_of (nat_abs k.modifiers)) cell z.kept.cells) c.unwrap-selecting.result) same
    (subst (λ q. IsSelecting was.kept.cells (clicked_cell was.kept.flags q cell was.kept.cells) c.unwrap-selecting.result) keys
    (subst (λ o. IfSome o (λ s. IsSelecting was.kept.cells (clicked_cell was.kept.flags c.of_modifiers-keys.result cell was.kept.cells) s)) c.unwrap-selecting.ensures c.clicking.ensures.after)) in
    clicked_on _ (list.loan-value g.dyn-1).it k t m spot is was c.index-list.ensures (sym c.if-not-is_in_range.ensures) word cell some c.toggle.new.windows (with_cells_there _ (list.loan-value g.dyn-1).it k.list t m spot is x read c.click-clicked.new.self)
    (selected_so _ (list.loan-value g.dyn-1).it k.list t m spot is x read (λ (flags : SelectionFlags). clicked_cell flags (keys_of (nat_abs k.modifiers)) cell) c.click-clicked.new.self now c.unwrap-selecting.result said
    (λ only few. clicked_single x.kept.flags (keys_of (nat_abs k.modifiers)) cell x.kept.cells only) c.in_ok-mark.mark c.in_ok-mark.ensures c.toggle.new.windows c.toggle.ensures)
