use Rattle.std.proofs.Common.{◌∙◌, sym, rules}
use Rattle.std.proofs.lemmas.Bool.{and_parts}
use Rattle.vis_update.proofs.ScrollLemmas.{scroll_plan}
use Rattle.vis_update.proofs.scrolling.scroll_of.Goals as goal

pub returns : goal.returns
returns c before serial was covered =
    scroll_plan before serial c.args.by c.args.area.now c.args.covered.now c.in_ok-picture.picture c.in_ok-copied.copied c.in_ok-erase.erase c.in_ok-others.others c.in_ok-moved.moved c.in_ok-joined.field-0 c.in_ok-update.update
    was covered c.in_ok-picture.ensures c.in_ok-copied.ensures c.in_ok-erase.ensures c.in_ok-others.ensures c.in_ok-moved.ensures (λ p. search rules) c.in_ok-update.ensures

pub carried_by-requires-2-clause-within : goal.carried_by-requires-2-clause-within
carried_by-requires-2-clause-within c = λ p copied.
    let both = and_parts _ _ (sym (c.in_ok-copied.ensures p) ∙ copied) in
    c.requires.near p (and_parts _ _ (sym (c.in_ok-picture.ensures p) ∙ both.0)).0
