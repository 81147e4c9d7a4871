use Rattle.std.proofs.Common.{sym, ◌∙◌, ap}
use Rattle.std.proofs.lemmas.Bool.{and_parts}
use Rattle.tb_geom.specs.Rects.{is_in_range}
use Rattle.def_iface.specs.Sizes.{is_size}
use Rattle.looks.specs.Areas.{area_holds}
use Rattle.std_wdef.specs.Areas.{structure_box}
use Rattle.std_wdef.proofs.AreaFacts.{exact, within}
use Rattle.std_wdef.proofs.std_window.StdWindowWindowDef.regions_for.Goals as goal

pub returns-clause-within : goal.returns-clause-within
returns-clause-within c = λ p e.
    c.in_ok-structure.ensures p ∙ ap (λ xs. area_holds xs p) c.structure_of.ensures
    ∙ within c.args.self.now.variation c.args.size p (sym (ap (λ xs. area_holds xs p) c.content_of.ensures) ∙ sym (c.in_ok-content.ensures p) ∙ e)

pub returns-clause-boxed : goal.returns-clause-boxed
returns-clause-boxed c = λ p e.
    (exact c.args.self.now.variation c.args.size (and_parts (is_size c.args.size) (is_in_range (structure_box c.args.self.now.variation c.args.size)) c.requires).0).holds p
    (sym (ap (λ xs. area_holds xs p) c.structure_of.ensures) ∙ sym (c.in_ok-structure.ensures p) ∙ e)
