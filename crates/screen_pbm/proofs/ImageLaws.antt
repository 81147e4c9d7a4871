-- What the text of a row says, apart from how it is put together.
use Rattle.std.proofs.Common.{◌≡◌, ℕ, zero, suc, pos, ◌+◌, ◌*◌, ◌≤◌, Bool, true, false, not, eqb, List, [], ◌∷◌, ◌++◌, length, take, drop, filter, flat_map, All, refl, sym, ap, ◌∙◌, subst, arith, ◌==◌}
use Rattle.std.specs.List.{range_with_len, slice_split}
use Rattle.std.proofs.lemmas.List.{length-take, drop_all, drop-drop, take-append-drop, append_assoc}
use Rattle.std.proofs.lemmas.List.Elements.{All-cons, All-head, All-tail, All-map, All-take, All-drop}
use Rattle.std.proofs.lemmas.List.FromFn.{length-map-range_with_len}
use Rattle.std.proofs.lemmas.List.Splits.{slice_split_at}
use Rattle.tb_geom.specs.Points.{PixelSet}
use Rattle.screen_pbm.specs.Pbm.{digit_of, row_digits, line_count, line_text, row_text}

abbrev NoNewline : List ℕ → Type 0
NoNewline = All (λ b. eqb b 10 ≡ false)

abbrev IsShort : List ℕ → Type 0
IsShort line = length line ≤ 70

abbrev kept : List ℕ → List ℕ
kept = filter (λ b. not (eqb b 10))

abbrev parted : List ℕ → List (List ℕ)
parted = slice_split (λ b. eqb b 10)

digit_no_newline : (b : Bool) → eqb (digit_of b) 10 ≡ false
digit_no_newline true = refl
digit_no_newline false = refl

digits_no_newline : (width : ℕ) (black : PixelSet) (v : ℕ) → NoNewline (row_digits width black v)
unfolding row_digits
digits_no_newline width black v =
    All-map (λ b. eqb b 10 ≡ false) (λ h. digit_of (black (record { h = pos h; v = pos v }))) (range_with_len 0 width) (λ k d less. digit_no_newline _)

part_no_newline : (digits : List ℕ) (k : ℕ) → NoNewline digits → NoNewline (take 70 (drop k digits))
part_no_newline digits k h = All-take (λ b. eqb b 10 ≡ false) 70 (drop k digits) (All-drop (λ b. eqb b 10 ≡ false) k digits h)

-- ---- without its newlines a row is its characters

kept-line : (xs rest : List ℕ) → NoNewline xs → kept (xs ++ 10 ∷ rest) ≡ xs ++ kept rest
kept-line [] rest h = refl
kept-line (x ∷ xs) rest h =
    rw (All-head (λ b. eqb b 10 ≡ false) x xs h) (ap (λ l. x ∷ l) (kept-line xs rest (All-tail (λ b. eqb b 10 ≡ false) x xs h)))

kept-lines : (digits : List ℕ) → NoNewline digits → (k n : ℕ) → length digits ≤ 70 * (k + n) → kept (flat_map (line_text digits) (range_with_len k n)) ≡ drop (70 * k) digits
unfolding line_text
kept-lines digits h k zero e = sym (drop_all (70 * k) digits (omega (arith, e)))
kept-lines digits h k (suc n) e =
    let part = take 70 (drop (70 * k) digits) in
    let rest = flat_map (line_text digits) (range_with_len (k + 1) n) in
    let on : 70 * (k + 1) ≡ 70 * k + 70 = omega arith in
    ap kept (append_assoc part (10 ∷ []) rest) ∙ kept-line part rest (part_no_newline digits (70 * k) h)
    ∙ ap (λ l. part ++ l) (kept-lines digits h (k + 1) n (omega (arith, e)) ∙ ap (λ j. drop j digits) on ∙ sym (drop-drop 70 (70 * k) digits))
    ∙ take-append-drop 70 (drop (70 * k) digits)

length-row : (width : ℕ) (black : PixelSet) (v : ℕ) → length (row_digits width black v) ≡ width
unfolding row_digits
length-row width black v = length-map-range_with_len (λ h. digit_of (black (record { h = pos h; v = pos v }))) 0 width

pub row_is_its_digits : (width : ℕ) (black : PixelSet) (v : ℕ) → filter (λ b. not (b == 10)) (row_text width black v) ≡ row_digits width black v
unfolding row_text
row_is_its_digits width black v =
    kept-lines (row_digits width black v) (digits_no_newline width black v) 0 (line_count width) (omega (arith, length-row width black v))

-- ---- no line is longer than 70

short-lines : (digits : List ℕ) → NoNewline digits → (k n : ℕ) → All IsShort (parted (flat_map (line_text digits) (range_with_len k n)))
unfolding line_text
short-lines digits h k zero = All-cons IsShort [] [] (omega arith) (λ j d less. absurd (omega (arith, less)))
short-lines digits h k (suc n) =
    let part = take 70 (drop (70 * k) digits) in
    let rest = flat_map (line_text digits) (range_with_len (k + 1) n) in
    let is : parted (line_text digits k ++ rest) ≡ part ∷ parted rest =
    ap parted (append_assoc part (10 ∷ []) rest) ∙ slice_split_at (λ b. eqb b 10) part 10 rest (part_no_newline digits (70 * k) h) refl in
    subst (All IsShort) (sym is) (All-cons IsShort part (parted rest) (omega (arith, length-take 70 (drop (70 * k) digits))) (short-lines digits h (k + 1) n))

pub row_lines_are_short : (width : ℕ) (black : PixelSet) (v : ℕ) → All (λ line. length line ≤ 70) (slice_split (λ b. b == 10) (row_text width black v))
unfolding row_text
row_lines_are_short width black v = short-lines (row_digits width black v) (digits_no_newline width black v) 0 (line_count width)
