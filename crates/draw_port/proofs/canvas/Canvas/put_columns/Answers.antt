use Rattle.std.proofs.Common.{◌∙◌, ◌≤ℤ◌, refl, SFits, w32, rules, arith}
use Rattle.std.proofs.lemmas.Int.{ints, clamps, to_z-of_z}
use Rattle.draw_port.proofs.CanvasLemmas.{SameFrame-none, SameFrame-then}
use Rattle.draw_port.proofs.TextLemmas.{no_columns, columns_next, next_drawn, all_columns}
use Rattle.draw_port.proofs.canvas.Canvas.put_columns.Goals as goal

pub loop-left-init : goal.loop-left-init
loop-left-init c =
    let rect = c.args.rect in
    let left : SFits w32 rect.left = search rules in
    let right : SFits w32 rect.right = search rules in
    simp to_z-of_z (record {
      same_map = refl;
      same_frame = SameFrame-none c.args.self.now;
      drawn = no_columns c.args.self.now rect.left rect.top rect.bottom _ c.args.self.now.map.now;
      low = omega (arith, ints);
      within = grind (arith, ints, clamps);
    })

pub loop-left-preserved : goal.loop-left-preserved
loop-left-preserved c =
    let canvas = c.args.self.now in
    let rect = c.args.rect in
    let put = c.args.put.now in
    let next = c.after-right.result in
    let fits_l : SFits w32 rect.left = search rules in
    let fits_t : SFits w32 rect.top = search rules in
    let fits_r : SFits w32 rect.right = search rules in
    let fits_b : SFits w32 rect.bottom = search rules in
    let fits_n : SFits w32 next = search rules in
    let was = c.loop-left.invariant in
    let after = simp to_z-of_z at c.after-right.ensures in
    let drawn = simp to_z-of_z at c.put_tile.ensures.drawn in
    let low = was.low in
    let more = after.more in
    let within = after.within in
    simp to_z-of_z (record {
      same_map = c.put_tile.ensures.same_map ∙ was.same_map;
      same_frame = SameFrame-then _ _ _ was.same_frame c.put_tile.ensures.same_frame;
      drawn = next_drawn canvas c.loop-left.self _ _ _ put.clip.now put.text.now put.pen put.mode _ _ _ was.same_frame (columns_next rect.left rect.top rect.right rect.bottom _ next low more) was.drawn drawn;
      low = omega (arith, ints, low, more);
      within = grind (arith, ints, clamps, within);
    })

pub returns-clause-drawn : goal.returns-clause-drawn
returns-clause-drawn c =
    let canvas = c.args.self.now in
    let rect = c.args.rect in
    let fits_l : SFits w32 rect.left = search rules in
    let fits_t : SFits w32 rect.top = search rules in
    let fits_r : SFits w32 rect.right = search rules in
    let fits_b : SFits w32 rect.bottom = search rules in
    let was = c.loop-left.invariant in
    let past : rect.right ≤ℤ c.loop-left.left = search (rules, ints) in
    all_columns canvas rect.left rect.top rect.right rect.bottom _ _ _ _ was.low (omega (arith, ints, past, c.loop-left.left-is)) was.within was.drawn
