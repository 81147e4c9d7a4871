use Rattle.std.proofs.Common.{◌≡◌, ◌≤◌, true, arith, rules}
use Rattle.text_paint.specs.Selected.{reselected}
use Rattle.text_paint.proofs.PaintLemmas.{shows_caret}
use Rattle.text_paint.proofs.selection.invert_selection.Goals as goal

pub returns-then-selected-2-clause-drawn : goal.returns-then-selected-2-clause-drawn
returns-then-selected-2-clause-drawn c =
    let s = c.args.selected in
    let active : s.active ≡ true = search rules in
    let point : s.end ≤ s.start = omega (arith, c.if-selected.false) in
    shows_caret c.args.canvas.now (reselected s c.args.text.now) c.caret_rect.result c.args.canvas.now.map.now c.invert.new.self.map.now active point c.if-selected-2.true c.caret_rect.ensures c.invert.ensures.drawn
