-- The form in which bytes say a set.
use Rattle.std.proofs.Common.{◌≡◌, ℕ, ◌≤◌, List, [], ◌∷◌, length, ℤ, pos, sym, ◌∙◌, arith, All, inl, inr}
use Rattle.std.proofs.lemmas.Int.{ints}
use Rattle.std.proofs.lemmas.Bool.{true≢false}
use Rattle.std.proofs.lemmas.List.Elements.{All-weaker}
use Rattle.tb_geom.specs.declared.rect.Rect.{Rect}
use Rattle.tb_geom.specs.Pixels.{Pixels}
use Rattle.region_bytes.specs.Edges.{IsCoordinate}
use Rattle.region_bytes.specs.Points.{PointRow, IsInRange}
use Rattle.region_bytes.specs.Words.{words_in}
use Rattle.region_bytes.specs.Bytes.{IsRegionBytes, IsForm, IsWord, IsOfWords, IsWithoutEnd}
use Rattle.region_bytes.specs.Text.{IsParted, text_pixels}
use Rattle.region_bytes.specs.Forms.{IsRectOf, IsRowsOf}
use Rattle.region_bytes.proofs.Long.{text_short, text_parts}
use Rattle.region_bytes.proofs.Judged.{empty_not, long_text}
use Rattle.region_bytes.proofs.Said.{form_text, text_holds, text_in_range}

word_of : (z : ℤ) → IsCoordinate z → IsWord z
word_of z c = let l = c.0 in let h = c.1 in (omega (arith, ints), omega (arith, ints))

not_end : (z : ℤ) → IsCoordinate z → z ≡ pos 32767 → ⊥
not_end z c e = let h = c.1 in omega (arith, ints)

pub told_in_range : (rows : List PointRow) → All IsInRange rows → All IsWithoutEnd rows
told_in_range rows a = All-weaker IsInRange IsWithoutEnd (λ row i. (not_end row.0 i.0, All-weaker IsCoordinate (λ x. x ≡ pos 32767 → ⊥) not_end row.1 i.1)) rows a

-- rows in range have the form of any
pub region_form : (bytes : List ℕ) (s : Pixels) (r : IsRegionBytes bytes s) → IsForm bytes r.rows
region_form bytes s r = record {
  canonical = r.canonical;
  words = All-weaker IsInRange IsOfWords (λ row i. (word_of row.0 i.0, All-weaker IsCoordinate IsWord word_of row.1 i.1)) r.rows r.in_range;
  told = λ _. told_in_range r.rows r.in_range;
  written = r.written;
  fits = r.fits;
}

pub rect_form : (bytes : List ℕ) (s : Pixels) (box : Rect) (after : List ℕ) → IsParted bytes box after → length after ≡ 0 → IsRegionBytes bytes s → IsRectOf s box
unfolding words_in text_pixels
rect_form bytes s box [] d e r =
    let t = form_text bytes box [] r.rows d (region_form bytes s r) in
    record {
      pixels = λ p. r.pixels p ∙ sym (text_holds box [] r.rows t p);
      in_range = text_in_range box [] r.rows t r.in_range;
      none = λ f. elim (text_short box r.rows t) [ inl n ↦ n.1 | inr q ↦ absurd (true≢false (sym f ∙ empty_not box q.wide q.high)) ];
    }
rect_form bytes s box (a ∷ after) d e r = absurd (omega arith)

pub rows_form : (bytes : List ℕ) (s : Pixels) (box : Rect) (after : List ℕ) → IsParted bytes box after → (length after ≡ 0 → ⊥) → IsRegionBytes bytes s → IsRowsOf s after
rows_form bytes s box after d n r =
    let t = form_text bytes box after r.rows d (region_form bytes s r) in
    let size = d.size in
    let even = d.even in
    let two : 2 ≤ length after = omega arith in
    let long = long_text box after r.rows two t in
    record { rows = r.rows; canonical = r.canonical; in_range = r.in_range; written = (text_parts box (words_in after) r.rows long t).1; pixels = r.pixels }
