use Rattle.std.proofs.Common.{SFits, w32, rules, sym, ◌∙◌}
use Rattle.std.proofs.lemmas.Int.{to_z-of_z}
use Rattle.window_outline.proofs.LineMoves.{moved_or_not}
use Rattle.window_outline.proofs.lines.moved_line.Goals as goal

pub returns-else-is_empty : goal.returns-else-is_empty
returns-else-is_empty c =
    let h : SFits w32 c.args.place.h = search rules in
    let v : SFits w32 c.args.place.v = search rules in
    let sides = simp to_z-of_z at c.offset.ensures.sides in
    let within = simp to_z-of_z at c.offset.ensures.in_range in
    moved_or_not c.args.place c.args.line c.offset.result (sym c.is_empty.ensures.sides ∙ c.if-is_empty.false) sides within c.offset.ensures.refused
