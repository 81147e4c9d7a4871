use Rattle.std.proofs.Common.{SFits, w32, rules, subst}
use Rattle.std.specs.Prelude.{IfSome}
use Rattle.std.proofs.lemmas.Int.{to_z-of_z}
use Rattle.control_mgr.proofs.Places.{get_is, read_is, there_is}
use Rattle.text_mgr.specs.declared.changes.Change.TheVariants.{From}
use Rattle.text_mgr.specs.Changing.{IsShownSo}
use Rattle.text_mgr.specs.TextDesks.{KeptText}
use Rattle.text_mgr.proofs.Shown.{above_within, drawn_within, index_low}
use Rattle.text_mgr.proofs.texts.Texts.show_from.Goals as goal

pub show_layer-requires-clause-index : goal.show_layer-requires-clause-index
show_layer-requires-clause-index g c w lies =
    let m = c.args.self.now in
    let spot = c.requires.spot in
    let y = c.index.result.now in
    index_low _ spot.of c.args.windows.now m c.args.spot spot.is c.requires.beside y c.index.ensures w lies
    c.layer-layer.result (c.layer-layer.ensures y (get_is m.list.items.items c.args.spot.text y spot.is.low c.index.ensures) w lies)

pub returns : goal.returns
returns g c t is old so =
    let m = c.args.self.now in
    let y = c.index.result.now in
    let there = get_is m.list.items.items c.args.spot.text y is.low c.index.ensures in
    let w = there_is c.args.windows.now.windows.records.items c.args.spot.window is.window.0 in
    let lies = read_is c.args.windows.now.windows.records.items c.args.spot.window w.item w.there in
    let above : IsShownSo (From c.args.row) c.args.windows.now.font old y.kept = subst (λ o. IfSome o (λ (x : KeptText). IsShownSo (From c.args.row) c.args.windows.now.font old x.kept)) there so in
    let bounds = c.bounds-bounds.result in
    let row : SFits w32 c.args.row = search rules in
    let left : SFits w32 bounds.left = search rules in
    let right : SFits w32 bounds.right = search rules in
    let bottom : SFits w32 bounds.bottom = search rules in
    drawn_within _ t c.args.windows.now m c.args.spot is c.requires.beside y c.index.ensures w.item lies
    c.layer-layer.result (c.layer-layer.ensures y there w.item lies) old c.show_layer.new.self c.sect-within.result
    (above_within c.args.windows.now.font old y.kept c.args.row bounds c.sect-within.result c.bounds-bounds.ensures.sides (simp to_z-of_z at c.sect-within.ensures.pixels) above)
    (λ l l_is. c.show_layer.ensures.drawn w.item lies l l_is)
