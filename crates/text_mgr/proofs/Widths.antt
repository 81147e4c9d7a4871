-- A table of widths of which one more is set.
use Rattle.std.proofs.Common.{◌≡◌, ℕ, ◌+◌, ◌<◌, ◌==◌, Bool, true, false, List, length, set, refl, sym, ap, ◌∙◌, subst, arith, eqb-true}
use Rattle.std.proofs.lemmas.Bool.{eqb-false}
use Rattle.std.proofs.lemmas.Grind.{get_or-set_at}
use Rattle.std.proofs.lemmas.List.{get_or-set_other}
use Rattle.strike_font.specs.Text.{glyph_of}
use Rattle.text_lines.specs.Widths.{byte_width}

pub one_more : (font widths : List ℕ) (at width : ℕ) → length widths ≡ 256 → at < 256 → width ≡ (glyph_of font at).width
    → ((c : ℕ) → c < at → byte_width widths c ≡ (glyph_of font c).width) → (c : ℕ) → c < at + 1 → byte_width (set widths at width) c ≡ (glyph_of font c).width
one_more font widths at width many low is each c less = by_test (c == at) refl
  where
    by_test : (b : Bool) → (c == at) ≡ b → byte_width (set widths at width) c ≡ (glyph_of font c).width
    by_test true e =
        let same : c ≡ at = eqb-true c at e in
        get_or-set_at widths at c width 0 same (subst (λ n. at < n) (sym many) low) ∙ is ∙ ap (λ k. (glyph_of font k).width) (sym same)
    by_test false e =
        let other = eqb-false c at e in
        get_or-set_other widths at c width 0 other ∙ each c (omega (arith, less, other))
