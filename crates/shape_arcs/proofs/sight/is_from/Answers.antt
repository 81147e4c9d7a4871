use Rattle.std.proofs.Common.{◌≡◌, pos, ap, ◌∙◌, rules, SFits, w64, of_z}
use Rattle.std.specs.Prelude.{int_lt}
use Rattle.std.proofs.lemmas.Int.{ints, to_z-of_z}
use Rattle.shape_arcs.proofs.SightLemmas.{is_from_ray, is_from_side}
use Rattle.shape_arcs.proofs.sight.is_from.Goals as goal

pub returns-then-cross-eq0 : goal.returns-then-cross-eq0
returns-then-cross-eq0 c =
    let fits_c : SFits w64 c.cross-cross.result = search rules in
    let fits_d : SFits w64 c.dot.result = search rules in
    let test : c.cross-cross.result ≡ pos 0 = search (rules, ints) in
    simp to_z-of_z (ap (int_lt (pos 0)) c.dot.ensures ∙ is_from_ray c.args.direction c.args.point c.cross-cross.result c.cross-cross.ensures test)

pub returns : goal.returns
returns c =
    let fits_c : SFits w64 c.cross-cross.result = search rules in
    simp to_z-of_z (is_from_side c.args.direction c.args.point c.cross-cross.result c.cross-cross.ensures (λ e. c.if-cross-eq0.false (ap (of_z w64) e)))
