use Rattle.std.proofs.Common.{arith, rules, pos, true, Some, Err, SFits, w32, refl, sym, ap, ◌∙◌, subst}
use Rattle.std.proofs.lemmas.Int.{ints, to_z-of_z}
use Rattle.std.proofs.lemmas.Result.{err_from_is_err_and}
use Rattle.tb_geom.specs.Refusals.{first_refusal}
use Rattle.def_iface.specs.contracts.taken_list.TakenListDefined.TheImpl as list
use Rattle.control_mgr.proofs.Lays.{one_item}
use Rattle.list_mgr.specs.LineEdits.{call_of, edit_refusals, reply_of, with_edit}
use Rattle.list_mgr.specs.LinesFrom.{AreLinesFrom}
use Rattle.list_mgr.proofs.Changed.{grows_off}
use Rattle.list_mgr.proofs.Given.{kept_there, read_grid, with_cells_there}
use Rattle.list_mgr.proofs.LinesAnswered.{edit_effect, edit_grows, edit_judged, edit_missing, edit_short, refused_lines, relined_lines, short_lines}
use Rattle.list_mgr.proofs.LinesFrom.{edit_low}
use Rattle.list_mgr.proofs.LinesGiven.{edit_change, edit_differs}
use Rattle.list_mgr.proofs.LinesShown.{edit_shown}
use Rattle.list_mgr.proofs.Relined.{beside_changed, mark_changed, relined_over, spot_changed}
use Rattle.list_mgr.proofs.lines.Lists+TakenList.change_lines.Goals as goal

pub returns-in_err-spot : goal.returns-in_err-spot
returns-in_err-spot g c =
    let list_loan = (list.loan-value g.dyn-1).it in
    let edit = c.args.edit in
    let t = c.args.windows.now in
    let m = c.args.self.now in
    let e = err_from_is_err_and c.from_residual.result c.from_residual.ensures.1 in
    refused_lines _ list_loan _ (call_of edit) t m c.args.controls.now c.from_residual.result e.0 e.1
    (λ others o slots cs kept. edit_missing _ list_loan edit.change edit.axis edit.lines t m c.in_err-spot.field-0.0 c.in_err-spot.ensures others o slots cs kept ∙ ap Some (sym e.2))

pub returns-in-Some : goal.returns-in-Some
returns-in-Some g c =
    let list_loan = (list.loan-value g.dyn-1).it in
    let edit = c.args.edit in
    let t = c.args.windows.now in
    let m = c.args.self.now in
    refused_lines _ list_loan _ (call_of edit) t m c.args.controls.now (Err c.in-Some.refusal) c.in-Some.refusal refl
    (λ others o slots cs kept. edit_judged _ list_loan edit.change edit.axis edit.lines t m c.in_ok-spot.spot c.in_ok-spot.ensures c.index.result.now c.index.ensures others o slots cs kept ∙ sym c.in-Some.ensures)

pub returns-in_err-mark : goal.returns-in_err-mark
returns-in_err-mark g c =
    let list_loan = (list.loan-value g.dyn-1).it in
    let edit = c.args.edit in
    let t = c.args.windows.now in
    let m = c.args.self.now in
    let spot = c.in_ok-spot.spot in
    let is = c.in_ok-spot.ensures in
    let e = err_from_is_err_and c.from_residual-in_err-mark.result c.from_residual-in_err-mark.ensures.1 in
    short_lines _ list_loan _ (call_of edit) t m c.args.controls.now m refl refl c.from_residual-in_err-mark.result e.0 e.1 e.2
    (λ kept. edit_grows edit.change edit.axis edit.lines _ (grows_off _ list_loan edit.lines.list t m spot is c.in_err-mark.ensures kept))
    (λ others o slots cs kept. edit_judged _ list_loan edit.change edit.axis edit.lines t m spot is c.index.result.now c.index.ensures others o slots cs kept ∙ sym c.in_default.ensures)

pub returns-in_err-first : goal.returns-in_err-first
returns-in_err-first g c =
    let list_loan = (list.loan-value g.dyn-1).it in
    let edit = c.args.edit in
    let t = c.args.windows.now in
    let m = c.args.self.now in
    let spot = c.in_ok-spot.spot in
    let is = c.in_ok-spot.ensures in
    let x = c.index_mut.result.now in
    let read = c.index_mut.ensures.value in
    let same = one_item m.list.items.items spot.list c.index.result.now x is.low c.index.ensures read in
    let none = ap (λ y. first_refusal (edit_refusals edit y.kept.cells)) (sym same) ∙ sym c.in_default.ensures in
    let e = err_from_is_err_and c.from_residual-in_err-first.result c.from_residual-in_err-first.ensures.1 in
    let short = edit_short edit.change edit.axis edit.lines (edit_refusals edit x.kept.cells) _ none c.in_err-first.ensures.0 in
    short_lines _ list_loan _ (call_of edit) t m c.args.controls.now (with_cells_there _ list_loan edit.lines.list t m spot is x read c.perform.new.cells)
    (kept_there _ list_loan edit.lines.list t m spot is x read c.perform.new.cells c.in_err-first.ensures.1)
    refl c.from_residual-in_err-first.result e.0 e.1 (e.2 ∙ short.0) (λ kept. short.1 _)
    (λ others o slots cs kept. edit_judged _ list_loan edit.change edit.axis edit.lines t m spot is x read others o slots cs kept ∙ none)

pub line_number-requires : goal.line_number-requires
line_number-requires g c =
    let list_loan = (list.loan-value g.dyn-1).it in
    let edit = c.args.edit in
    let x = c.index_mut.result.now in
    let done = c.in_ok-first.ensures in
    let grid = read_grid _ list_loan edit.lines.list c.args.windows.now c.args.self.now c.in_ok-spot.spot c.in_ok-spot.ensures x c.index_mut.ensures.value c.requires.lists in
    let first = done.0 in
    let low = edit_low edit.change edit.axis edit.lines x.kept.cells grid done.2 in
    omega (arith, first, low)

pub lines_from-within-requires-clause-least : goal.lines_from-within-requires-clause-least
lines_from-within-requires-clause-least g c = rw c.line_number.ensures (omega (arith, ints))

pub lines_from-within-requires-clause-most : goal.lines_from-within-requires-clause-most
lines_from-within-requires-clause-most g c =
    let list_loan = (list.loan-value g.dyn-1).it in
    let edit = c.args.edit in
    let x = c.index_mut.result.now in
    let done = c.in_ok-first.ensures in
    let grid = read_grid _ list_loan edit.lines.list c.args.windows.now c.args.self.now c.in_ok-spot.spot c.in_ok-spot.ensures x c.index_mut.ensures.value c.requires.lists in
    let first = done.0 in
    let low = edit_low edit.change edit.axis edit.lines x.kept.cells grid done.2 in
    rw c.line_number.ensures (omega (arith, ints, first, low))

pub show_with_bars-requires-clause-lists : goal.show_with_bars-requires-clause-lists
show_with_bars-requires-clause-lists g c =
    let list_loan = (list.loan-value g.dyn-1).it in
    let edit = c.args.edit in
    let t = c.args.windows.now in
    let m = c.args.self.now in
    let n = c.scroll_back-scrolled.new.self in
    let spot = c.in_ok-spot.spot in
    let x = c.index_mut.result.now in
    let done = c.in_ok-first.ensures in
    let back = c.scroll_back-scrolled.ensures in
    let change = edit_change _ list_loan edit.lines.list t m spot c.in_ok-spot.ensures x c.index_mut.ensures.value c.perform.new.cells edit done.2 done.1 n back.lists back.next in
    beside_changed _ list_loan edit.lines.list t m n spot (with_edit edit) change c.requires.lists

pub show_with_bars-requires-clause-spot : goal.show_with_bars-requires-clause-spot
show_with_bars-requires-clause-spot g c =
    let list_loan = (list.loan-value g.dyn-1).it in
    let edit = c.args.edit in
    let t = c.args.windows.now in
    let m = c.args.self.now in
    let n = c.scroll_back-scrolled.new.self in
    let spot = c.in_ok-spot.spot in
    let x = c.index_mut.result.now in
    let done = c.in_ok-first.ensures in
    let back = c.scroll_back-scrolled.ensures in
    let change = edit_change _ list_loan edit.lines.list t m spot c.in_ok-spot.ensures x c.index_mut.ensures.value c.perform.new.cells edit done.2 done.1 n back.lists back.next in
    spot_changed _ list_loan edit.lines.list t m n spot (with_edit edit) change

pub show_with_bars-requires-clause-mark : goal.show_with_bars-requires-clause-mark
show_with_bars-requires-clause-mark g c =
    let list_loan = (list.loan-value g.dyn-1).it in
    let edit = c.args.edit in
    let t = c.args.windows.now in
    let m = c.args.self.now in
    let n = c.scroll_back-scrolled.new.self in
    let spot = c.in_ok-spot.spot in
    let x = c.index_mut.result.now in
    let done = c.in_ok-first.ensures in
    let back = c.scroll_back-scrolled.ensures in
    let change = edit_change _ list_loan edit.lines.list t m spot c.in_ok-spot.ensures x c.index_mut.ensures.value c.perform.new.cells edit done.2 done.1 n back.lists back.next in
    mark_changed _ list_loan edit.lines.list t m n spot (with_edit edit) change c.in_ok-mark.mark c.in_ok-mark.ensures

pub returns : goal.returns
returns g c =
    let list_loan = (list.loan-value g.dyn-1).it in
    let edit = c.args.edit in
    let t = c.args.windows.now in
    let m = c.args.self.now in
    let n = c.scroll_back-scrolled.new.self in
    let spot = c.in_ok-spot.spot in
    let is = c.in_ok-spot.ensures in
    let x = c.index_mut.result.now in
    let read = c.index_mut.ensures.value in
    let cells = c.perform.new.cells in
    let done = c.in_ok-first.ensures in
    let allowed = done.2 in
    let back = c.scroll_back-scrolled.ensures in
    let within = c.lines_from-within.result in
    let number : SFits w32 c.line_number.result = search rules in
    let from = simp to_z-of_z at c.lines_from-within.ensures in
    let change = edit_change _ list_loan edit.lines.list t m spot is x read cells edit allowed done.1 n back.lists back.next in
    rw c.reply.ensures
    (relined_lines _ list_loan _ (call_of edit) t m c.args.controls.now edit.lines.list (with_edit edit) (reply_of edit.change c.in_ok-first.first) c.show_with_bars.new.windows c.show_with_bars.new.controls n
    (λ others o slots cs kept. edit_judged _ list_loan edit.change edit.axis edit.lines t m spot is x read others o slots cs kept ∙ allowed)
    (edit_effect _ list_loan edit.change edit.axis edit.lines t m spot is x read c.in_ok-first.first done.0)
    (relined_over _ list_loan edit.lines.list t m n spot (with_edit edit) change _ within
    (edit_shown _ list_loan edit.lines.list t m spot is x read edit cells done.1 allowed c.index-2.result.now c.index-2.ensures within c.scroll_back-scrolled.result
    (subst (λ z. AreLinesFrom edit.axis c.scroll_back-scrolled.result c.index-2.result.now.kept.view z within) (c.line_number.ensures ∙ ap (λ k. pos k) done.0) from)
    back.changes)
    c.in_ok-mark.mark true c.in_ok-mark.ensures
    (edit_differs _ list_loan edit.lines.list t m spot is x read cells edit allowed)
    c.show_with_bars.new.windows c.args.controls.now c.show_with_bars.new.controls c.show_with_bars.ensures))
