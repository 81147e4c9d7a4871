use Rattle.std.proofs.Common.{SFits, w32, w64, rules}
use Rattle.std.proofs.lemmas.Int.{to_z-of_z}
use Rattle.draw_port.proofs.TextLemmas.{tile_drawn}
use Rattle.draw_port.proofs.canvas.Canvas.put_tile.Goals as goal

pub returns-clause-drawn : goal.returns-clause-drawn
returns-clause-drawn c =
    let put = c.args.put.now in
    let rect = c.args.rect in
    let left : SFits w32 rect.left = search rules in
    let right : SFits w32 rect.right = search rules in
    let bottom : SFits w32 rect.bottom = search rules in
    let next : SFits w32 c.narrowed-right.result = search rules in
    let reach : SFits w32 c.tile_and_reach-tile.result.1 = search rules in
    let top : SFits w32 rect.top = search rules in
    let pen_h : SFits w32 put.pen.h = search rules in
    let pen_v : SFits w32 put.pen.v = search rules in
    let fits_x : SFits w64 c.difference-x.result = search rules in
    let fits_y : SFits w64 c.difference-y.result = search rules in
    let x = simp to_z-of_z at c.difference-x.ensures.value in
    let y = simp to_z-of_z at c.difference-y.ensures.value in
    let both = simp to_z-of_z at c.tile_and_reach-tile.ensures in
    let narrow = simp to_z-of_z at c.narrowed-right.ensures in
    let drawn = simp to_z-of_z at c.draw_clipped.ensures.drawn in
    tile_drawn c.args.self.now put.clip.now c.args.self.now.font.now put.text.now rect put.pen put.mode c.difference-x.result c.difference-y.result c.narrowed-right.result c.tile_and_reach-tile.result.1 c.tile_and_reach-tile.result.0 _ _ c.requires.rows c.requires.columns x y both.tile narrow.within narrow.past both.reach drawn
