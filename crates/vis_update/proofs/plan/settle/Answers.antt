use Rattle.std.proofs.Common.{◌≡◌, ◌≤◌, ◌++◌, ◌∷◌, [], length, set, sym, ap, ◌∙◌, rules}
use Rattle.vis_update.specs.Plans.{areas_then}
use Rattle.vis_update.proofs.Settling.{last_none, last_some, last_beyond, all_settled}
use Rattle.vis_update.proofs.plan.settle.Goals as goal

pub loop-area-preserved : goal.loop-area-preserved
loop-area-preserved c =
    sym (ap (areas_then c.loop-area.areas.items) (c.in-Some.ensures.items ∙ (λ i. c.pop.new.self.items ++ c.in_default-area.is i ∷ [])) ∙ last_none c.loop-area.areas.items c.pop.new.self.items)
    ∙ c.loop-area.invariant

pub loop-area-preserved-then-at-len : goal.loop-area-preserved-then-at-len
loop-area-preserved-then-at-len c =
    let at_is : c.len-at.result ≡ length c.pop.new.self.items = search rules in
    ap (λ n. areas_then (set c.loop-area.areas.items n c.in-Some-area.area) c.pop.new.self.items) at_is
    ∙ sym (ap (areas_then c.loop-area.areas.items) (c.in-Some.ensures.items ∙ (λ i. c.pop.new.self.items ++ c.in-Some-area.is i ∷ [])) ∙ last_some c.loop-area.areas.items c.pop.new.self.items c.in-Some-area.area)
    ∙ c.loop-area.invariant

pub loop-area-preserved-else-at-len : goal.loop-area-preserved-else-at-len
loop-area-preserved-else-at-len c =
    let beyond : length c.loop-area.areas.items ≤ length c.pop.new.self.items = search rules in
    sym (ap (areas_then c.loop-area.areas.items) c.in-Some.ensures.items ∙ last_beyond c.loop-area.areas.items c.pop.new.self.items c.in-Some.area beyond)
    ∙ c.loop-area.invariant

pub returns : goal.returns
returns c = sym (all_settled c.loop-area.areas.items c.loop-area.planned.items (search rules)) ∙ c.loop-area.invariant
