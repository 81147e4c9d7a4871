use Rattle.std.proofs.Common.{Some, sym, subst}
use Rattle.tb_geom.specs.Rects.{rect_holds}
use Rattle.def_iface.specs.contracts.taken_window.TakenWindowDefined.TheImpl as window
use Rattle.def_iface.specs.contracts.taken_list.TakenListDefined.TheImpl as list
use Rattle.desk_layers.specs.declared.part.Part.TheVariants as part
use Rattle.window_mgr.proofs.Remarked.{area_there}
use Rattle.control_mgr.proofs.Places.{read_is, there_is}
use Rattle.list_mgr.specs.Changing.{IsMark, IsShownOrMarked}
use Rattle.list_mgr.proofs.Marked.{region_within}
use Rattle.list_mgr.proofs.Shown.{drawn_by, marked_by, none_written, written_by}
use Rattle.list_mgr.proofs.Steps.{list_there}
use Rattle.list_mgr.proofs.changing.Lists+TakenList.show.Goals as goal

pub set_update-requires-clause-within : goal.set_update-requires-clause-within
set_update-requires-clause-within g c a read p on =
    let spot = c.requires.spot in
    let t = c.args.windows.now in
    let w = there_is t.windows.records.items c.args.spot.window spot.is.window.0 in
    let lies = read_is t.windows.records.items c.args.spot.window w.item w.there in
    let x = list_there _ _ spot.of t c.args.self.now c.args.spot spot.is in
    let mark = subst (IsMark (list.loan-value g.dyn-1).it (window.loan-value g.dyn-2).it t c.args.self.now c.args.spot) c.in-Some.is c.requires.mark in
    region_within _ t c.args.spot.window spot.is.window.0 w.item lies a read (part.List x.item.serial) c.in-Some.update (mark.1 w.item a x.item lies read x.there) c.requires.kept p on

pub returns-in-None-clause-shown : goal.returns-in-None-clause-shown
returns-in-None-clause-shown g c =
    subst (λ o. IsShownOrMarked (list.loan-value g.dyn-1).it (window.loan-value g.dyn-2).it c.args.within o c.args.changes c.args.spot c.args.self.now c.args.windows.now c.show_layer.new.self) (sym c.in-None.is)
    (λ x there. drawn_by _ _ c.args.windows.now c.args.self.now c.args.spot c.requires.spot x there c.args.within c.layer-layer.result c.layer-layer.ensures c.show_layer.new.self c.show_layer.ensures.drawn)

pub returns-then-changes-clause-shown : goal.returns-then-changes-clause-shown
returns-then-changes-clause-shown g c =
    let mark = subst (IsMark (list.loan-value g.dyn-1).it (window.loan-value g.dyn-2).it c.args.windows.now c.args.self.now c.args.spot) c.in-Some.is c.requires.mark in
    subst (λ o. IsShownOrMarked (list.loan-value g.dyn-1).it (window.loan-value g.dyn-2).it c.args.within o c.args.changes c.args.spot c.args.self.now c.args.windows.now c.set_update.new.self) (sym c.in-Some.is)
    (subst (λ b. IsShownOrMarked (list.loan-value g.dyn-1).it (window.loan-value g.dyn-2).it c.args.within (Some c.in-Some.update) b c.args.spot c.args.self.now c.args.windows.now c.set_update.new.self) (sym c.if-changes.true)
    (λ x there. marked_by _ _ c.args.windows.now c.args.self.now c.args.spot c.requires.spot x there c.in-Some.update mark.1
    (area_there _ c.args.windows.now c.requires.kept c.args.spot.window c.requires.spot.is.window.0) c.set_update.new.self c.set_update.ensures.remarked))

pub returns-in-None-clause-within : goal.returns-in-None-clause-within
returns-in-None-clause-within g c x there = written_by _ _ c.args.windows.now c.args.self.now c.args.spot c.requires.spot x there c.args.within c.layer-layer.result c.layer-layer.ensures c.show_layer.new.self c.show_layer.ensures.within

pub returns-then-changes-clause-within : goal.returns-then-changes-clause-within
returns-then-changes-clause-within g c x there w lies = none_written _ w.serial (part.List x.serial) w.place (rect_holds c.args.within) c.args.windows.now c.set_update.new.self c.set_update.ensures.quiet
