use Rattle.std.proofs.Common.{◌≡◌, ◌+◌, take, drop, None, Some, ap, sym, ◌∙◌}
use Rattle.line_words.specs.Words.{parts, split_at}
use Rattle.line_words.proofs.WordLemmas.{after_place, split_at-place}
use Rattle.line_words.proofs.piece.Piece.split_at.Goals as goal

pub returns-in-None : goal.returns-in-None
returns-in-None c =
    let bytes = c.self.inside.bytes.now in
    ap (parts bytes) (sym (split_at-place c.args.mark bytes None (sym c.in-None.is ∙ c.place_of.ensures))) ∙ ap (λ xs. parts xs (split_at c.args.mark xs)) c.self.view_is

pub returns-in-Some : goal.returns-in-Some
returns-in-Some c =
    let bytes = c.self.inside.bytes.now in
    let front : c.split_at_mut-before.result.0.now ≡ take c.in-Some.at bytes = c.split_at_mut-before.ensures.front in
    let after : take _ (drop 1 c.split_at_mut-before.result.1.now) ≡ drop (c.in-Some.at + 1) bytes = after_place bytes c.split_at_mut-before.result.1.now c.in-Some.at c.split_at_mut-before.ensures.back in
    (λ i. (front i, Some (after i)))
    ∙ ap (parts bytes) (sym (split_at-place c.args.mark bytes (Some c.in-Some.at) (sym c.in-Some.is ∙ c.place_of.ensures))) ∙ ap (λ xs. parts xs (split_at c.args.mark xs)) c.self.view_is
