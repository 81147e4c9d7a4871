use Rattle.std.proofs.Common.{true, false, Some, None, refl, sym, subst}
use Rattle.def_iface.specs.contracts.taken_window.TakenWindowDefined.TheImpl as window
use Rattle.def_iface.specs.contracts.taken_list.TakenListDefined.TheImpl as list
use Rattle.desk_layers.specs.declared.part.Part.TheVariants as part
use Rattle.list_cells.specs.Selections.{IsChange, selected_by}
use Rattle.list_cells.proofs.SelectionLemmas.{selecting_by}
use Rattle.list_view.specs.Shown.{is_turned}
use Rattle.list_mgr.specs.Seen.{seen}
use Rattle.window_mgr.proofs.Remarked.{area_there}
use Rattle.control_mgr.proofs.Places.{read_is, there_is}
use Rattle.list_mgr.specs.Changing.{IsMark, IsToggledAs, IsToggledOrMarked}
use Rattle.list_mgr.proofs.Given.{of_read}
use Rattle.list_mgr.proofs.Marked.{region_within}
use Rattle.list_mgr.proofs.Shown.{marked_by, toggled_by}
use Rattle.list_mgr.proofs.Steps.{list_read, list_there}
use Rattle.list_mgr.proofs.selecting.Lists+TakenList.toggle.Goals as goal

pub set_update-requires-clause-within : goal.set_update-requires-clause-within
set_update-requires-clause-within g c a read p on =
    let spot = c.requires.spot in
    let t = c.args.windows.now in
    let w = there_is t.windows.records.items c.args.spot.window spot.is.window.0 in
    let lies = read_is t.windows.records.items c.args.spot.window w.item w.there in
    let x = list_there _ _ spot.of t c.args.self.now c.args.spot spot.is in
    let mark = subst (IsMark (list.loan-value g.dyn-1).it (window.loan-value g.dyn-2).it t c.args.self.now c.args.spot) c.in-Some.is c.requires.mark in
    region_within _ t c.args.spot.window spot.is.window.0 w.item lies a read (part.List x.item.serial) c.in-Some.update (mark.1 w.item a x.item lies read x.there) c.requires.kept p on

pub returns-in-None : goal.returns-in-None
returns-in-None g c =
    let list_loan = (list.loan-value g.dyn-1).it in
    let loan = (window.loan-value g.dyn-2).it in
    let t = c.args.windows.now in
    let m = c.args.self.now in
    let s = c.args.spot in
    let spot = c.requires.spot in
    let x = c.index-list.result.now in
    subst (λ o. IsToggledOrMarked list_loan loan o c.args.selecting s m t c.toggle_layer.new.self) (sym c.in-None.is)
    (of_read loan list_loan spot.of t m s spot.is x c.index-list.ensures (λ y. IsToggledAs list_loan loan None c.args.selecting s y t c.toggle_layer.new.self)
    (toggled_by loan list_loan t m s spot (seen list_loan x) (list_read loan list_loan spot.of t m s spot.is x c.index-list.ensures) c.layer-layer.result c.layer-layer.ensures
    (λ font. is_turned font (list_loan x.kept.definition).definition x.kept.view x.kept.cells (selected_by c.args.selecting x.kept.cells)) c.toggle_layer.new.self c.toggle_layer.ensures))

pub returns-then-changes_by : goal.returns-then-changes_by
returns-then-changes_by g c =
    let list_loan = (list.loan-value g.dyn-1).it in
    let loan = (window.loan-value g.dyn-2).it in
    let t = c.args.windows.now in
    let m = c.args.self.now in
    let s = c.args.spot in
    let spot = c.requires.spot in
    let x = c.index-list.result.now in
    let mark = subst (IsMark list_loan loan t m s) c.in-Some.is c.requires.mark in
    subst (λ o. IsToggledOrMarked list_loan loan o c.args.selecting s m t c.set_update.new.self) (sym c.in-Some.is)
    (of_read loan list_loan spot.of t m s spot.is x c.index-list.ensures (λ y. IsToggledAs list_loan loan (Some c.in-Some.update) c.args.selecting s y t c.set_update.new.self) (
      true,
      subst (λ b. IsChange b x.kept.cells (selected_by c.args.selecting x.kept.cells)) c.if-changes_by.true (c.changes_by.ensures (selected_by c.args.selecting x.kept.cells) (selecting_by x.kept.cells c.args.selecting)),
      marked_by loan list_loan t m s spot (seen list_loan x) (list_read loan list_loan spot.of t m s spot.is x c.index-list.ensures) c.in-Some.update mark.1
          (area_there loan t c.requires.kept s.window spot.is.window.0) c.set_update.new.self c.set_update.ensures.remarked,
    ))

pub returns-else-changes_by : goal.returns-else-changes_by
returns-else-changes_by g c =
    let list_loan = (list.loan-value g.dyn-1).it in
    let loan = (window.loan-value g.dyn-2).it in
    let t = c.args.windows.now in
    let m = c.args.self.now in
    let s = c.args.spot in
    let spot = c.requires.spot in
    let x = c.index-list.result.now in
    subst (λ o. IsToggledOrMarked list_loan loan o c.args.selecting s m t t) (sym c.in-Some.is)
    (of_read loan list_loan spot.of t m s spot.is x c.index-list.ensures (λ y. IsToggledAs list_loan loan (Some c.in-Some.update) c.args.selecting s y t t)
    (false, subst (λ b. IsChange b x.kept.cells (selected_by c.args.selecting x.kept.cells)) c.if-changes_by.false (c.changes_by.ensures (selected_by c.args.selecting x.kept.cells) (selecting_by x.kept.cells c.args.selecting)), refl))
