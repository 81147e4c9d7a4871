use Rattle.std.proofs.Common.{◌∙◌, ◌≤ℤ◌, refl, SFits, w32, rules, arith}
use Rattle.std.proofs.lemmas.Int.{ints, clamps, to_z-of_z}
use Rattle.draw_port.proofs.CanvasLemmas.{SameFrame-none, SameFrame-then}
use Rattle.draw_port.proofs.TextLemmas.{no_rows, rows_next, next_drawn, all_rows}
use Rattle.draw_port.proofs.canvas.Canvas.put_rows.Goals as goal

pub loop-top-init : goal.loop-top-init
loop-top-init c =
    let rect = c.args.rect in
    let top : SFits w32 rect.top = search rules in
    let bottom : SFits w32 rect.bottom = search rules in
    simp to_z-of_z (record {
      same_map = refl;
      same_frame = SameFrame-none c.args.self.now;
      drawn = no_rows c.args.self.now rect.left rect.top rect.right _ c.args.self.now.map.now;
      low = omega (arith, ints);
      within = grind (arith, ints, clamps);
    })

pub loop-top-preserved : goal.loop-top-preserved
loop-top-preserved c =
    let canvas = c.args.self.now in
    let rect = c.args.rect in
    let put = c.args.put.now in
    let next = c.after-bottom.result in
    let fits_l : SFits w32 rect.left = search rules in
    let fits_t : SFits w32 rect.top = search rules in
    let fits_r : SFits w32 rect.right = search rules in
    let fits_b : SFits w32 rect.bottom = search rules in
    let fits_n : SFits w32 next = search rules in
    let was = c.loop-top.invariant in
    let after = simp to_z-of_z at c.after-bottom.ensures in
    let drawn = simp to_z-of_z at c.put_columns.ensures.drawn in
    let low = was.low in
    let more = after.more in
    let within = after.within in
    simp to_z-of_z (record {
      same_map = c.put_columns.ensures.same_map ∙ was.same_map;
      same_frame = SameFrame-then _ _ _ was.same_frame c.put_columns.ensures.same_frame;
      drawn = next_drawn canvas c.loop-top.self _ _ _ put.clip.now put.text.now put.pen put.mode _ _ _ was.same_frame (rows_next rect.left rect.top rect.right rect.bottom _ next low more) was.drawn drawn;
      low = omega (arith, ints, low, more);
      within = grind (arith, ints, clamps, within);
    })

pub returns-clause-drawn : goal.returns-clause-drawn
returns-clause-drawn c =
    let canvas = c.args.self.now in
    let rect = c.args.rect in
    let fits_l : SFits w32 rect.left = search rules in
    let fits_t : SFits w32 rect.top = search rules in
    let fits_r : SFits w32 rect.right = search rules in
    let fits_b : SFits w32 rect.bottom = search rules in
    let was = c.loop-top.invariant in
    let past : rect.bottom ≤ℤ c.loop-top.top = search (rules, ints) in
    all_rows canvas rect.left rect.top rect.right rect.bottom _ _ _ _ was.low (omega (arith, ints, past, c.loop-top.top-is)) was.within was.drawn
