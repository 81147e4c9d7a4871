use Rattle.std.proofs.Common.{rules, SFits, w32, refl}
use Rattle.std.proofs.lemmas.Int.{to_z-of_z}
use Rattle.def_iface.specs.contracts.taken_list.TakenListDefined.TheImpl as list
use Rattle.desk_call.specs.declared.list.ListCall.TheVariants as asks
use Rattle.desk_call.specs.declared.list.ListReply.TheVariants as reply
use Rattle.list_mgr.specs.ListSteps.{with_scroll}
use Rattle.list_mgr.proofs.Given.{of_read}
use Rattle.list_mgr.proofs.LinesAnswered.{relined_lines}
use Rattle.list_mgr.proofs.LinesGiven.{scroll_agrees, scroll_change}
use Rattle.list_mgr.proofs.Relined.{beside_changed, mark_changed, relined_over, spot_changed}
use Rattle.list_mgr.proofs.Steps.{nothing_missing}
use Rattle.list_mgr.specs.Seen.{seen}
use Rattle.list_mgr.specs.WholeLists.{IsSettledList}
use Rattle.list_mgr.specs.Within.{IsSameOutside}
use Rattle.list_mgr.proofs.Outside.{view_outside}
use Rattle.list_mgr.proofs.lines.Lists+TakenList.scroll.Goals as goal

pub show_with_bars-requires-clause-lists : goal.show_with_bars-requires-clause-lists
show_with_bars-requires-clause-lists g c =
    let list_loan = (list.loan-value g.dyn-1).it in
    let scrolled = c.args.scrolled in
    let columns : SFits w32 scrolled.columns = search rules in
    let rows : SFits w32 scrolled.rows = search rules in
    let t = c.args.windows.now in
    let m = c.args.self.now in
    let n = c.scroll_by-changes.new.self in
    let spot = c.in_ok-spot.spot in
    let is = c.in_ok-spot.ensures in
    let lists = simp to_z-of_z at c.scroll_by-changes.ensures.lists in
    let change = scroll_change _ list_loan scrolled.list t m n spot scrolled.columns scrolled.rows is lists c.scroll_by-changes.ensures.next in
    beside_changed _ list_loan scrolled.list t m n spot (with_scroll scrolled.columns scrolled.rows) change c.requires.lists

pub show_with_bars-requires-clause-spot : goal.show_with_bars-requires-clause-spot
show_with_bars-requires-clause-spot g c =
    let list_loan = (list.loan-value g.dyn-1).it in
    let scrolled = c.args.scrolled in
    let columns : SFits w32 scrolled.columns = search rules in
    let rows : SFits w32 scrolled.rows = search rules in
    let t = c.args.windows.now in
    let m = c.args.self.now in
    let n = c.scroll_by-changes.new.self in
    let spot = c.in_ok-spot.spot in
    let is = c.in_ok-spot.ensures in
    let lists = simp to_z-of_z at c.scroll_by-changes.ensures.lists in
    let change = scroll_change _ list_loan scrolled.list t m n spot scrolled.columns scrolled.rows is lists c.scroll_by-changes.ensures.next in
    spot_changed _ list_loan scrolled.list t m n spot (with_scroll scrolled.columns scrolled.rows) change

pub show_with_bars-requires-clause-mark : goal.show_with_bars-requires-clause-mark
show_with_bars-requires-clause-mark g c =
    let list_loan = (list.loan-value g.dyn-1).it in
    let scrolled = c.args.scrolled in
    let columns : SFits w32 scrolled.columns = search rules in
    let rows : SFits w32 scrolled.rows = search rules in
    let t = c.args.windows.now in
    let m = c.args.self.now in
    let n = c.scroll_by-changes.new.self in
    let spot = c.in_ok-spot.spot in
    let is = c.in_ok-spot.ensures in
    let lists = simp to_z-of_z at c.scroll_by-changes.ensures.lists in
    let change = scroll_change _ list_loan scrolled.list t m n spot scrolled.columns scrolled.rows is lists c.scroll_by-changes.ensures.next in
    mark_changed _ list_loan scrolled.list t m n spot (with_scroll scrolled.columns scrolled.rows) change c.in_ok-mark.mark c.in_ok-mark.ensures

pub returns : goal.returns
returns g c =
    let list_loan = (list.loan-value g.dyn-1).it in
    let scrolled = c.args.scrolled in
    let columns : SFits w32 scrolled.columns = search rules in
    let rows : SFits w32 scrolled.rows = search rules in
    let t = c.args.windows.now in
    let m = c.args.self.now in
    let n = c.scroll_by-changes.new.self in
    let spot = c.in_ok-spot.spot in
    let is = c.in_ok-spot.ensures in
    let lists = simp to_z-of_z at c.scroll_by-changes.ensures.lists in
    let change = scroll_change _ list_loan scrolled.list t m n spot scrolled.columns scrolled.rows is lists c.scroll_by-changes.ensures.next in
    let agree = simp to_z-of_z at c.scroll_by-changes.ensures.changes in
    relined_lines _ list_loan _ (asks.Scroll scrolled) t m c.args.controls.now scrolled.list (with_scroll scrolled.columns scrolled.rows) reply.Done c.show_with_bars.new.windows c.show_with_bars.new.controls n
    (λ others o slots cs kept. nothing_missing _ list_loan scrolled.list t m spot is)
    (λ before after same done. (refl, done))
    (relined_over _ list_loan scrolled.list t m n spot (with_scroll scrolled.columns scrolled.rows) change _ c.rect-within.result
    (of_read _ list_loan scrolled.list t m spot is c.index.result.now c.index.ensures (λ y. IsSettledList y → IsSameOutside c.rect-within.result y (with_scroll scrolled.columns scrolled.rows y)) (λ settled. view_outside c.rect-within.result (seen list_loan c.index.result.now) (with_scroll scrolled.columns scrolled.rows (seen list_loan c.index.result.now)) c.rect-within.ensures.sides refl))
    c.in_ok-mark.mark c.scroll_by-changes.result c.in_ok-mark.ensures
    (scroll_agrees list_loan m spot scrolled.columns scrolled.rows c.scroll_by-changes.result agree)
    c.show_with_bars.new.windows c.args.controls.now c.show_with_bars.new.controls c.show_with_bars.ensures)
