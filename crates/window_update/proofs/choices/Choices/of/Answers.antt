use Rattle.std.proofs.Common.{refl, sym, ap, ◌∙◌, ◌&&◌, not}
use Rattle.tb_geom.specs.Pixels.{Pixels, holds}
use Rattle.window_update.proofs.ChoiceLemmas.{choices_of}
use Rattle.window_update.proofs.choices.Choices.of.Goals as goal

pub returns : goal.returns
returns g c =
    choices_of c.args.window.now c.args.update.now c.requires.apart _ (
      λ p. ap (λ r. holds r p) c.in_ok-picture-2.ensures.own ∙ c.in_ok-picture.ensures p ∙ ap (λ b. holds c.args.update.now p && not b) (c.covered.ensures p),
      λ p. c.in_ok-picture-2.ensures.rest p ∙ ap (λ (r : Pixels). holds c.args.update.now p && not (holds r p)) (sym c.in_ok-picture-2.ensures.own),
    ) (
      λ p. ap (λ r. holds r p) c.in_ok-texts-2.ensures.own ∙ c.in_ok-texts.ensures p,
      λ p. c.in_ok-texts-2.ensures.rest p ∙ ap (λ (r : Pixels). holds c.args.update.now p && not (holds r p)) (sym c.in_ok-texts-2.ensures.own),
    ) (
      λ p. ap (λ r. holds r p) c.in_ok-lists-2.ensures.own ∙ c.in_ok-lists.ensures p,
      λ p. c.in_ok-lists-2.ensures.rest p ∙ ap (λ (r : Pixels). holds c.args.update.now p && not (holds r p)) (sym c.in_ok-lists-2.ensures.own),
    ) (
      λ p. ap (λ r. holds r p) c.in_ok-controls-2.ensures.own ∙ c.in_ok-controls.ensures p,
      λ p. c.in_ok-controls-2.ensures.rest p ∙ ap (λ (r : Pixels). holds c.args.update.now p && not (holds r p)) (sym c.in_ok-controls-2.ensures.own),
    )
    (c.in_ok-with_texts.ensures.own, c.in_ok-with_texts.ensures.rest)
    (c.in_ok-with_lists.ensures.own, c.in_ok-with_lists.ensures.rest)
    (c.in_ok-with_controls.ensures.own, c.in_ok-with_controls.ensures.rest)
    refl
