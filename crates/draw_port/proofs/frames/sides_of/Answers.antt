use Rattle.std.proofs.Common.{SFits, w32, rules, arith}
use Rattle.std.proofs.lemmas.Int.{ints, to_z-of_z}
use Rattle.draw_port.proofs.FrameLemmas.{AreCut, bottom_alone, left_alone, right_alone, frame_whole}
use Rattle.draw_port.proofs.PlacedLemmas.{IsNear}
use Rattle.draw_port.proofs.frames.sides_of.Goals as goal

pub returns : goal.returns
returns c =
    let ft : SFits w32 c.saturating_add.result = search rules in
    let fb : SFits w32 c.saturating_sub.result = search rules in
    let fl : SFits w32 c.saturating_add-2.result = search rules in
    let fm : SFits w32 c.saturating_sub-2.result = search rules in
    let rows = simp to_z-of_z at c.split_rows.ensures in
    let rows2 = simp to_z-of_z at c.split_rows-2.ensures in
    let columns = simp to_z-of_z at c.split_columns.ensures in
    let columns2 = simp to_z-of_z at c.split_columns-2.ensures in
    let cut : AreCut c.args.rect c.split_rows.result.0 c.split_rows.result.1 c.split_rows-2.result.0 c.split_rows-2.result.1 c.split_columns.result.0 c.split_columns.result.1 c.split_columns-2.result.1 c.saturating_add.result c.saturating_sub.result c.saturating_add-2.result c.saturating_sub-2.result = record {
      top_is = rows.above;
      below_is = rows.below;
      between_is = rows2.above;
      bottom_is = rows2.below;
      left_is = columns.left;
      beside_is = columns.right;
      right_is = columns2.right;
    } in
    let l : SFits w32 c.args.rect.left = search rules in
    let t : SFits w32 c.args.rect.top = search rules in
    let r : SFits w32 c.args.rect.right = search rules in
    let b : SFits w32 c.args.rect.bottom = search rules in
    let near : IsNear c.args.rect = record { left = omega (arith, ints); top = omega (arith, ints); right = omega (arith, ints); bottom = omega (arith, ints) } in
    record {
      all = frame_whole cut near (search rules) (search rules) (search rules) (search rules);
      bottom_apart = bottom_alone cut;
      left_apart = left_alone cut;
      right_apart = right_alone cut;
    }
