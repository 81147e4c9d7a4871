use Rattle.std.proofs.Common.{SFits, w32, rules, []}
use Rattle.std.proofs.lemmas.Int.{to_z-of_z}
use Rattle.overlay.proofs.OutlineLemmas.{outline_gone, outline_shows}
use Rattle.overlay.proofs.overlay.Overlay.outline_again.Goals as goal

pub returns : goal.returns
returns c base =
    let fits : SFits w32 c.args.bar = search rules in λ shown.
    outline_shows [] c.args.bar c.args.new.now base c.draw_outline.new.map c.draw_outline-2.new.map
    (outline_gone [] c.args.bar c.args.old.now base c.args.self.now.front c.draw_outline.new.map shown (simp to_z-of_z at c.draw_outline.ensures))
    (simp to_z-of_z at c.draw_outline-2.ensures)
