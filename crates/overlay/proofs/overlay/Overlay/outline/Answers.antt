use Rattle.std.proofs.Common.{SFits, w32, rules, []}
use Rattle.std.proofs.lemmas.Int.{to_z-of_z}
use Rattle.overlay.proofs.OutlineLemmas.{outline_shows}
use Rattle.overlay.proofs.overlay.Overlay.outline.Goals as goal

pub returns : goal.returns
returns c =
    let fits : SFits w32 c.args.bar = search rules in
    outline_shows [] c.args.bar c.args.lines.now c.args.base.now c.show.new.self.front c.draw_outline.new.map (c.show.ensures []) (simp to_z-of_z at c.draw_outline.ensures)
