use Rattle.std.proofs.Common.{SFits, w32, rules, subst}
use Rattle.std.proofs.lemmas.Int.{to_z-of_z}
use Rattle.window_outline.specs.ShownOutlines.{IsOutlineShown}
use Rattle.window_outline.proofs.OutlinesShown.{outlined_again}
use Rattle.window_outline.proofs.showing.show_lines.Goals as goal

pub returns-in-Dragging : goal.returns-in-Dragging
returns-in-Dragging g c =
    let fits : SFits w32 c.parts-bar.result.bar = search rules in
    outlined_again c.parts-bar.result.bar c.args.windows.now.bar.rows c.in-Dragging.old.outline c.args.lines.now c.args.windows.now.screen c.args.front.now.front c.outline_again.new.self.front
    c.parts-bar.ensures.bar (simp to_z-of_z at c.outline_again.ensures)
    (subst (λ a. IsOutlineShown a c.args.windows.now c.args.front.now) c.in-Dragging.is c.requires.shown)

pub returns-in-Growing : goal.returns-in-Growing
returns-in-Growing g c =
    let fits : SFits w32 c.parts-bar.result.bar = search rules in
    outlined_again c.parts-bar.result.bar c.args.windows.now.bar.rows c.in-Growing.old.outline c.args.lines.now c.args.windows.now.screen c.args.front.now.front c.outline_again-in-Growing.new.self.front
    c.parts-bar.ensures.bar (simp to_z-of_z at c.outline_again-in-Growing.ensures)
    (subst (λ a. IsOutlineShown a c.args.windows.now c.args.front.now) c.in-Growing.is c.requires.shown)
