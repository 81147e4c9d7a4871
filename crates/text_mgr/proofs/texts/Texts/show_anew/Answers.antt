use Rattle.control_mgr.proofs.Places.{get_is, read_is, there_is}
use Rattle.text_mgr.proofs.Reshown.{alone}
use Rattle.text_mgr.proofs.Shown.{drawn_anew, index_low}
use Rattle.text_mgr.proofs.texts.Texts.show_anew.Goals as goal

pub show_layer-requires-clause-index : goal.show_layer-requires-clause-index
show_layer-requires-clause-index g c w lies =
    let m = c.args.self.now in
    let spot = c.requires.spot in
    let y = c.index.result.now in
    index_low _ spot.of c.args.windows.now m c.args.spot spot.is c.requires.beside y c.index.ensures w lies
    c.layer-layer.result (c.layer-layer.ensures y (get_is m.list.items.items c.args.spot.text y spot.is.low c.index.ensures) w lies)

pub returns : goal.returns
returns g c t is was slots whole =
    let m = c.args.self.now in
    let y = c.index.result.now in
    let there = get_is m.list.items.items c.args.spot.text y is.low c.index.ensures in
    let w = there_is c.args.windows.now.windows.records.items c.args.spot.window is.window.0 in
    let lies = read_is c.args.windows.now.windows.records.items c.args.spot.window w.item w.there in
    drawn_anew _ t c.args.windows.now m c.args.spot is c.requires.beside y c.index.ensures w.item lies
    c.layer-layer.result (c.layer-layer.ensures y there w.item lies) c.bounds-bounds.result c.bounds-bounds.ensures.sides c.show_layer.new.self (alone m.list.items.items)
    (λ l l_is. c.show_layer.ensures.drawn w.item lies l l_is) was slots whole
