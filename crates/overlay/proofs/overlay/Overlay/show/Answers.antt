use Rattle.std.proofs.Common.{◌∙◌}
use Rattle.overlay.proofs.ShownLemmas.{copied_shows}
use Rattle.overlay.proofs.overlay.Overlay.show.Goals as goal

pub returns : goal.returns
returns c font =
    copied_shows font c.args.base.now c.args.self.now.front c.cover.new.map c.bounds-bounds.result c.bounds-bounds.ensures.sides
    c.requires.width c.requires.height (λ p on. c.bounds-bounds.ensures.pixels p ∙ on) c.cover.ensures
