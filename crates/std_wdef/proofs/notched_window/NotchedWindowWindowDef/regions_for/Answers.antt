use Rattle.std.proofs.Common.{sym, ◌∙◌, ap}
use Rattle.std.proofs.lemmas.Bool.{and_parts}
use Rattle.tb_geom.specs.Rects.{is_in_range}
use Rattle.def_iface.specs.Sizes.{is_size}
use Rattle.looks.specs.Areas.{area_holds}
use Rattle.std_wdef.specs.Looks.{ring}
use Rattle.std_wdef.proofs.NotchFacts.{notched-exact, notched-within, structure_fits, content_fits}
use Rattle.std_wdef.proofs.notched_window.NotchedWindowWindowDef.regions_for.Goals as goal

pub area_region-requires : goal.area_region-requires
area_region-requires c =
    let both = and_parts (is_size c.args.size) (is_in_range (ring 1 c.args.size)) c.requires in
    rw c.structure_of.ensures (structure_fits c.args.size both.0 both.1)

pub area_region-requires-2 : goal.area_region-requires-2
area_region-requires-2 c =
    let both = and_parts (is_size c.args.size) (is_in_range (ring 1 c.args.size)) c.requires in
    rw c.content_of.ensures (content_fits c.args.size both.0 both.1)

pub returns-clause-within : goal.returns-clause-within
returns-clause-within c = λ p e.
    c.in_ok-structure.ensures p ∙ ap (λ xs. area_holds xs p) c.structure_of.ensures
    ∙ notched-within c.args.size p (sym (ap (λ xs. area_holds xs p) c.content_of.ensures) ∙ sym (c.in_ok-content.ensures p) ∙ e)

pub returns-clause-boxed : goal.returns-clause-boxed
returns-clause-boxed c = λ p e.
    (notched-exact c.args.size (and_parts (is_size c.args.size) (is_in_range (ring 1 c.args.size)) c.requires).0).holds p
    (sym (ap (λ xs. area_holds xs p) c.structure_of.ensures) ∙ sym (c.in_ok-structure.ensures p) ∙ e)
