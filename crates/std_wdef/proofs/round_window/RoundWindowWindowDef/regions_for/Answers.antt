use Rattle.std.proofs.Common.{◌&&◌, sym, ◌∙◌}
use Rattle.tb_geom.specs.Rects.{rect_holds}
use Rattle.shape_strips.specs.Rounds.{round_holds}
use Rattle.shape_strips.specs.Frames.{inside_holds}
use Rattle.std_wdef.specs.Looks.{document_box}
use Rattle.std_wdef.specs.Rounded.{window_corner}
use Rattle.std_wdef.proofs.RoundBoxes.{round_within}
use Rattle.std_wdef.proofs.RoundFacts.{content_within}
use Rattle.std_wdef.proofs.round_window.RoundWindowWindowDef.regions_for.Goals as goal

pub returns-clause-content : goal.returns-clause-content
returns-clause-content c = λ p.
    c.in_ok-content.ensures p
    ∙ (λ i. rect_holds ((c.inside_within.ensures.cut ∙ c.rect.ensures) i) p
    && inside_holds (c.inside_within.ensures.rect i) (c.inside_within.ensures.corner i) (c.inside_within.ensures.pen i) p)

pub returns-clause-within : goal.returns-clause-within
returns-clause-within c = λ p e.
    c.in_ok-structure.ensures p
    ∙ (λ i. round_holds (c.document_box.ensures i) window_corner p)
    ∙ content_within c.args.size p (sym (returns-clause-content c p) ∙ e)

pub returns-clause-boxed : goal.returns-clause-boxed
returns-clause-boxed c = λ p e.
    round_within (document_box c.args.size) window_corner p
    (sym (λ i. round_holds (c.document_box.ensures i) window_corner p) ∙ sym (c.in_ok-structure.ensures p) ∙ e)
