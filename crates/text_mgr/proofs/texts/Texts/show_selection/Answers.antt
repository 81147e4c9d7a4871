use Rattle.std.proofs.Common.{◌≡◌, true, rules, subst}
use Rattle.std.specs.Prelude.{IfSome}
use Rattle.window_mgr.proofs.Remarked.{area_there}
use Rattle.control_mgr.proofs.Places.{get_is, read_is, there_is}
use Rattle.text_mgr.specs.declared.changes.Change.TheVariants.{Selected}
use Rattle.text_mgr.specs.Changing.{IsShownSo}
use Rattle.text_mgr.specs.TextDesks.{KeptText}
use Rattle.text_mgr.proofs.Shown.{drawn_toggled, index_low, selection_was}
use Rattle.text_mgr.proofs.texts.Texts.show_selection.Goals as goal

pub area-requires : goal.area-requires
area-requires g c = area_there _ c.args.windows.now c.requires.kept c.args.spot.window c.requires.spot.is.window.0

pub toggle_layer-requires-clause-index : goal.toggle_layer-requires-clause-index
toggle_layer-requires-clause-index g c w lies =
    let m = c.args.self.now in
    let spot = c.requires.spot in
    let y = c.index.result.now in
    index_low _ spot.of c.args.windows.now m c.args.spot spot.is c.requires.beside y c.index.ensures w lies
    c.layer-layer.result (c.layer-layer.ensures y (get_is m.list.items.items c.args.spot.text y spot.is.low c.index.ensures) w lies)

pub returns-then-not-is_empty : goal.returns-then-not-is_empty
returns-then-not-is_empty g c t is old so was slots whole showed = c.show_anew.ensures t is was slots whole

pub returns : goal.returns
returns g c t is old so =
    let m = c.args.self.now in
    let y = c.index.result.now in
    let there = get_is m.list.items.items c.args.spot.text y is.low c.index.ensures in
    let w = there_is c.args.windows.now.windows.records.items c.args.spot.window is.window.0 in
    let lies = read_is c.args.windows.now.windows.records.items c.args.spot.window w.item w.there in
    let empty : c.is_empty.result ≡ true = search rules in
    drawn_toggled _ t c.args.windows.now m c.args.spot is c.requires.beside y c.index.ensures w.item lies
    c.layer-layer.result (c.layer-layer.ensures y there w.item lies) old c.toggle_layer.new.self c.area.result.now c.area.ensures (c.is_empty.ensures.0 empty) c.args.was
    (selection_was c.args.windows.now.font old y.kept c.args.was (subst (λ o. IfSome o (λ (x : KeptText). IsShownSo (Selected c.args.was) c.args.windows.now.font old x.kept)) there so))
    (λ l l_is was is slots whole. c.toggle_layer.ensures w.item lies l l_is was is slots whole)
