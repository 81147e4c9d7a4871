use Rattle.std.proofs.Common.{rules, ap, sym, ◌∙◌, subst, map, All, SFits, w32, negsuc, ◌-ℤ◌}
use Rattle.std.proofs.lemmas.Int.{to_z-of_z}
use Rattle.std.proofs.lemmas.List.Elements.{All-head, All-tail}
use Rattle.scan_region.specs.Turned.{turned, IsNear}
use Rattle.scan_region.proofs.Scanned.{near_v, near_side}
use Rattle.scan_region.proofs.spans_up.SpansUpIterator.next.Goals as goal

pub invariant_of-self-2 : goal.invariant_of-self-2
invariant_of-self-2 c = All-tail IsNear c.in_ok-span.span c.next.new.self (subst (All IsNear) c.in_ok-span.ensures.steps c.self.invariant)

pub returns-clause-steps : goal.returns-clause-steps
returns-clause-steps c =
    let x = c.in_ok-span.span in
    let near = All-head IsNear x c.next.new.self (subst (All IsNear) c.in_ok-span.ensures.steps c.self.invariant) in
    let fits_v : SFits w32 x.v = search rules in
    let fits_left : SFits w32 x.left = search rules in
    let fits_right : SFits w32 x.right = search rules in
    let fits_a : SFits w32 (negsuc 1 -ℤ x.v) = near_v x.v near.0.0 near.0.1 in
    let fits_b : SFits w32 (negsuc 0 -ℤ x.left) = near_side x.left near.1.0 near.1.1 in
    let fits_c : SFits w32 (negsuc 0 -ℤ x.right) = near_side x.right near.2.0 near.2.1 in
    simp to_z-of_z (sym c.self.view_is ∙ ap (map turned) c.in_ok-span.ensures.steps)
