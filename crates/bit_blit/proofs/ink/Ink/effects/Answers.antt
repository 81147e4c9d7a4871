use Rattle.std.proofs.Common.{◌∙◌, ap}
use Rattle.bit_map.specs.Modes.{mode_bit}
use Rattle.bit_blit.proofs.InkLemmas.{pattern-moved}
use Rattle.bit_blit.proofs.ink.Ink.effects.Goals as goal

pub returns : goal.returns
returns c =
    let ink = c.args.self.now in
    λ k old. c.effects.ensures k old ∙ ap (λ b. mode_bit ink.mode b old) (pattern-moved ink.pattern c.near_origin.result c.args.start ink.offset c.near_origin.ensures.across c.near_origin.ensures.down k)
