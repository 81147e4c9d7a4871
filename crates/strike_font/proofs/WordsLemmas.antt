-- Glyphs by words.
use Rattle.std.proofs.Common.{◌≡◌, ℕ, ◌+◌, ◌-◌, ◌*◌, ◌/◌, ◌%◌, ◌^◌, ◌<◌, ◌≤◌, ◌≤ℤ◌, ◌<ℤ◌, ◌+ℤ◌, ◌-ℤ◌, ℤ, pos, negsuc, nat_abs, min, Bool, true, false, ◌&&◌, List, length, get_or, nat_le, nat_lt, refl, sym, ap, ◌∙◌, arith}
use Rattle.std.specs.Int.{int_min, int_max}
use Rattle.std.proofs.lemmas.Bool.Decides.{nat_tests}
use Rattle.std.proofs.lemmas.Int.{ints, clamps}
use Rattle.bit_map.specs.Bits.{is_below}
use Rattle.bit_map.specs.Patterns.{bit_of}
use Rattle.bit_map.specs.Words.{bit_in}
use Rattle.bit_map.proofs.WordLemmas.{bit_in-left, bit_in-right, bit_in-right_out}
use Rattle.strike_font.specs.declared.glyph.Glyph.{Glyph}
use Rattle.std.proofs.Math.Nat.{mul-le-mul_right}
use Rattle.strike_font.specs.Record.{words_of_row, height, strike_words}
use Rattle.strike_font.specs.Text.{image_bit, glyph_bit}

-- a bit of the strike by the byte from which it is read
pub strike_bit : (font : List ℕ) (column row w k : ℕ) → w ≡ words_of_row font
    → bit_of (get_or font (26 + row * (2 * w) + column / 8 + (column % 8 + k) / 8) 0) ((column % 8 + k) % 8) ≡ image_bit font (column + k) row
unfolding image_bit
strike_bit font column row w k e =
    let q : column / 8 + (column % 8 + k) / 8 ≡ (column + k) / 8 = omega arith in
    let r : (column % 8 + k) % 8 ≡ (column + k) % 8 = omega arith in
    let at : 26 + row * (2 * w) + column / 8 + (column % 8 + k) / 8 ≡ 26 + row * (2 * words_of_row font) + (column + k) / 8 = ap (λ n. 26 + row * (2 * n) + column / 8 + (column % 8 + k) / 8) e ∙ (let there : 26 + row * (2 * words_of_row font) + column / 8 + (column % 8 + k) / 8 ≡ 26 + row * (2 * words_of_row font) + (column + k) / 8 = omega (arith, q) in there) in
    λ i. bit_of (get_or font (at i) 0) (r i)

-- the same where eight bytes have it
pub short_bit : (font : List ℕ) (column row w word k : ℕ) → w ≡ words_of_row font → column % 8 + k < 64
    → ((j : ℕ) → j < 64 → bit_in word j ≡ bit_of (get_or font (26 + row * (2 * w) + column / 8 + j / 8) 0) (j % 8))
    → bit_in (word * 2 ^ (column % 8) % 2 ^ 64) k ≡ image_bit font (column + k) row
short_bit font column row w word k e low read =
    let turned : k + column % 8 ≡ column % 8 + k = omega arith in
    bit_in-left word (column % 8) k (omega (arith, low)) ∙ ap (bit_in word) turned ∙ read (column % 8 + k) low ∙ strike_bit font column row w k e

pub either_bits : (font : List ℕ) (first columns row read back word k : ℕ) (start : ℤ) → pos read ≡ pos first +ℤ int_max (pos 0) start → back ≡ min (nat_abs (int_min (pos 0) start)) 63
    → ((j : ℕ) → j < 64 → j < columns → bit_in word j ≡ image_bit font (read + j) row)
    → k < 64 → pos 0 ≤ℤ (start +ℤ pos k) → (start +ℤ pos k) <ℤ pos columns → bit_in (word / 2 ^ back) k ≡ image_bit font (first + nat_abs (start +ℤ pos k)) row
either_bits font first columns row read back word k (pos n) is_read is_back bits low inside before =
    let right : int_max (pos 0) (pos n) ≡ pos n = grind (arith, ints, clamps) in
    let left : int_min (pos 0) (pos n) ≡ pos 0 = grind (arith, ints, clamps) in
    let a : read ≡ first + n = omega (arith, ints, is_read ∙ ap (λ z. pos first +ℤ z) right) in
    let b : back ≡ 0 = is_back ∙ ap (λ z. min (nat_abs z) 63) left in
    let at : read + (k - back) ≡ first + (n + k) = omega (arith, a, b) in
    bit_in-right word back k (omega (arith, b)) low ∙ bits (k - back) (omega (arith, low)) (omega (arith, ints, b, before)) ∙ ap (λ j. image_bit font j row) at
either_bits font first columns row read back word k (negsuc n) is_read is_back bits low inside before =
    let right : int_max (pos 0) (negsuc n) ≡ pos 0 = grind (arith, ints, clamps) in
    let left : int_min (pos 0) (negsuc n) ≡ negsuc n = grind (arith, ints, clamps) in
    let past : n < k = omega (arith, ints, inside) in
    let a : read ≡ first = omega (arith, ints, is_read ∙ ap (λ z. pos first +ℤ z) right) in
    let b : back ≡ n + 1 = omega (arith, is_back ∙ ap (λ z. min (nat_abs z) 63) left, past, low) in
    let there : nat_abs (negsuc n +ℤ pos k) ≡ k - (n + 1) = ap nat_abs (further n k past) in
    let at : read + (k - back) ≡ first + (k - (n + 1)) = omega (arith, a, b) in
    bit_in-right word back k (omega (arith, b, past)) low ∙ bits (k - back) (omega (arith, low)) (omega (arith, ints, b, past, before)) ∙ ap (λ j. image_bit font j row) at ∙ ap (λ j. image_bit font (first + j) row) (sym there)
  where
    further : (n k : ℕ) → n < k → (negsuc n +ℤ pos k) ≡ pos (k - (n + 1))
    further n k past = omega (arith, ints, past)

-- ---- which columns a narrow glyph has

from_first : (j : ℕ) (t : Bool) → (nat_le 0 j && t) ≡ t
from_first j t = let e : nat_le 0 j ≡ true = grind (arith, nat_tests) in ap (λ b. b && t) e

pub own_left : (columns word far k : ℕ) (start : ℤ) → word < 2 ^ 64 → start <ℤ pos 0 → far ≡ nat_abs start
    → ((j : ℕ) → j < 64 → bit_in word j ≡ (nat_le 0 j && nat_lt j columns)) → k < 64 → bit_in (word / 2 ^ far) k ≡ is_below columns (start +ℤ pos k)
own_left columns word far k (pos n) small less is bits low = absurd (omega (arith, ints))
own_left columns word far k (negsuc n) small less is bits low = by_test (nat_lt k far) refl
  where
    near : far ≡ n + 1
    near = omega (arith, is)

    by_test : (t : Bool) → nat_lt k far ≡ t → bit_in (word / 2 ^ far) k ≡ is_below columns (negsuc n +ℤ pos k)
    by_test true e =
        let before : k < far = grind (arith, nat_tests) in
        let at : (negsuc n +ℤ pos k) ≡ negsuc (n - k) = omega (arith, ints, before, near) in
        bit_in-right_out word far k small before low ∙ sym (ap (is_below columns) at)
    by_test false e =
        let after : far ≤ k = grind (arith, nat_tests) in
        let at : (negsuc n +ℤ pos k) ≡ pos (k - far) = omega (arith, ints, after, near) in
        bit_in-right word far k after low ∙ bits (k - far) (omega (arith, low)) ∙ from_first (k - far) (nat_lt (k - far) columns) ∙ sym (ap (is_below columns) at)

pub own_right : (columns word far rest k : ℕ) (start : ℤ) → pos 0 ≤ℤ start → far ≡ nat_abs start → rest ≡ columns - far
    → ((j : ℕ) → j < 64 → bit_in word j ≡ (nat_le 0 j && nat_lt j rest)) → k < 64 → bit_in word k ≡ is_below columns (start +ℤ pos k)
own_right columns word far rest k (pos n) more is is_rest bits low =
    let same : nat_lt k rest ≡ nat_lt (n + k) columns = grind (arith, nat_tests) in
    bits k low ∙ from_first k (nat_lt k rest) ∙ same
own_right columns word far rest k (negsuc n) more is is_rest bits low = absurd (omega (arith, ints))

-- a row of the strike has so many bytes where the record has them behind the strike
pub row_within : (font : List ℕ) (w row more last : ℕ) → w ≡ words_of_row font → row < height font → 2 * strike_words font + more + last ≤ length font → 26 + row * (2 * w) + more + last ≤ length font
unfolding strike_words
row_within font w row more last is_w low within =
    let rows : row * (2 * w) ≤ height font * (2 * w) = mul-le-mul_right (2 * w) (omega (arith, low)) in
    let swap : height font * (2 * w) ≡ 2 * (w * height font) = grind arith in
    let w_is : w * height font ≡ words_of_row font * height font = ap (λ n. n * height font) is_w in
    omega (arith, rows, swap, w_is, within)

-- a glyph has no bit in a row that there is not
pub row_none : (font : List ℕ) (g : Glyph) (column row : ℤ) → is_below (height font) row ≡ false → glyph_bit font g column row ≡ false
row_none font g (negsuc k) row off = refl
row_none font g (pos k) (negsuc r) off = refl
row_none font g (pos k) (pos r) off = ap (λ t. (nat_lt k g.columns && t) && image_bit font (g.first + k) r) off ∙ none (nat_lt k g.columns) (image_bit font (g.first + k) r)
  where
    none : (a b : Bool) → ((a && false) && b) ≡ false
    none true b = refl
    none false b = refl

-- and in a row that there is those of its columns that the strike has
pub row_bits : (font : List ℕ) (g : Glyph) (column row : ℤ) (r : ℕ) (bit held : Bool) → is_below (height font) row ≡ true → row ≡ pos r
    → held ≡ is_below g.columns column → (is_below g.columns column ≡ true → bit ≡ image_bit font (g.first + nat_abs column) r) → (bit && held) ≡ glyph_bit font g column row
row_bits font g (negsuc k) row r bit held on is is_held read = ap (λ t. bit && t) is_held ∙ none bit
  where
    none : (a : Bool) → (a && false) ≡ false
    none true = refl
    none false = refl
row_bits font g (pos k) row r bit held on is is_held read =
    let has : nat_lt r (height font) ≡ true = ap (is_below (height font)) (sym is) ∙ on in
    ap (λ t. bit && t) is_held ∙ turn (nat_lt k g.columns) read
    ∙ sym (ap (glyph_bit font g (pos k)) is ∙ ap (λ t. (nat_lt k g.columns && t) && image_bit font (g.first + k) r) has)
  where
    turn : (b : Bool) → (b ≡ true → bit ≡ image_bit font (g.first + k) r) → (bit && b) ≡ ((b && true) && image_bit font (g.first + k) r)
    turn true f = all bit ∙ f refl
      where
        all : (a : Bool) → (a && true) ≡ a
        all true = refl
        all false = refl
    turn false f = none bit
      where
        none : (a : Bool) → (a && false) ≡ false
        none true = refl
        none false = refl

-- ---- a column that is kept near

pub below_z : (limit : ℕ) (x : ℤ) → is_below limit x ≡ true → (pos 0 ≤ℤ x) × (x <ℤ pos limit)
below_z limit (pos n) e = let low : n < limit = grind (arith, nat_tests) in (omega (arith, ints), omega (arith, ints, low))
below_z limit (negsuc n) e = absurd (cc)

abbrev pub near_column : ℤ → ℤ
near_column x = int_max (negsuc 63) (int_min x (pos 65536))

near_is : (x : ℤ) → negsuc 63 ≤ℤ x → x ≤ℤ pos 65536 → near_column x ≡ x
near_is x a b = grind (arith, ints, clamps)

is_near : (x : ℤ) → negsuc 63 <ℤ near_column x → near_column x <ℤ pos 65536 → near_column x ≡ x
is_near x a b = grind (arith, ints, clamps)

pub column_is : (limit : ℕ) (x : ℤ) (k : ℕ) → limit ≤ 65535 → k < 64 → is_below limit (x +ℤ pos k) ≡ true → near_column x ≡ x
column_is limit x k l low e =
    let both = below_z limit (x +ℤ pos k) e in
    near_is x (omega (arith, ints, both.0, low)) (omega (arith, ints, both.1, l))

pub column_below : (limit : ℕ) (x : ℤ) (k : ℕ) → limit ≤ 65535 → k < 64 → is_below limit (near_column x +ℤ pos k) ≡ is_below limit (x +ℤ pos k)
column_below limit x k l low = by_test (is_below limit (near_column x +ℤ pos k)) (is_below limit (x +ℤ pos k)) refl refl
  where
    by_test : (a b : Bool) → is_below limit (near_column x +ℤ pos k) ≡ a → is_below limit (x +ℤ pos k) ≡ b → is_below limit (near_column x +ℤ pos k) ≡ is_below limit (x +ℤ pos k)
    by_test a true e f = ap (λ y. is_below limit (y +ℤ pos k)) (column_is limit x k l low f)
    by_test true false e f =
        let both = below_z limit (near_column x +ℤ pos k) e in
        ap (λ y. is_below limit (y +ℤ pos k)) (is_near x (omega (arith, ints, both.0, low)) (omega (arith, ints, both.1, l)))
    by_test false false e f = e ∙ sym f

pub column-turn : (x k o : ℤ) (j : ℕ) → ((x -ℤ (k +ℤ o)) +ℤ pos j) ≡ ((x +ℤ pos j) -ℤ (k +ℤ o))
column-turn x k o j = omega (arith, ints)

pub below_row : (limit : ℕ) (x : ℤ) → is_below limit x ≡ true → x ≡ pos (nat_abs x)
below_row limit (pos n) e = refl
below_row limit (negsuc n) e = absurd (cc)

pub below_zero : (limit : ℕ) (x : ℤ) → is_below limit x ≡ true → pos 0 ≤ℤ x
below_zero limit x e = (below_z limit x e).0

-- a glyph has no bit outside its columns
column_off : (font : List ℕ) (g : Glyph) (column row : ℤ) → is_below g.columns column ≡ false → glyph_bit font g column row ≡ false
column_off font g (negsuc k) row off = refl
column_off font g (pos k) (negsuc r) off = refl
column_off font g (pos k) (pos r) off = ap (λ t. (t && nat_lt r (height font)) && image_bit font (g.first + k) r) off

-- so a column may be kept near
pub near_bit : (font : List ℕ) (g : Glyph) (x row : ℤ) (k : ℕ) → g.columns ≤ 65535 → k < 64 → glyph_bit font g (near_column x +ℤ pos k) row ≡ glyph_bit font g (x +ℤ pos k) row
near_bit font g x row k few low = by_test (is_below g.columns (x +ℤ pos k)) refl
  where
    by_test : (t : Bool) → is_below g.columns (x +ℤ pos k) ≡ t → glyph_bit font g (near_column x +ℤ pos k) row ≡ glyph_bit font g (x +ℤ pos k) row
    by_test true e = ap (λ y. glyph_bit font g (y +ℤ pos k) row) (column_is g.columns x k few low e)
    by_test false e = column_off font g (near_column x +ℤ pos k) row (column_below g.columns x k few low ∙ e) ∙ sym (column_off font g (x +ℤ pos k) row e)
