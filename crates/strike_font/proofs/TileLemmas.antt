-- Tiles of texts.
use Rattle.std.proofs.Common.{◌≡◌, ◌≢◌, ℕ, ◌+◌, ◌-◌, ◌*◌, ◌/◌, ◌%◌, ◌^◌, ◌<◌, ◌≤◌, ℤ, pos, negsuc, nat_abs, ◌+ℤ◌, ◌-ℤ◌, ◌≤ℤ◌, ◌<ℤ◌, Bool, true, false, ◌&&◌, ◌||◌, nat_lt, List, length, drop, get_or, set, refl, sym, ap, ◌∙◌, arith, add-one, drop-cons}
use Rattle.std.proofs.lemmas.List.{length-set, get_or-replicate}
use Rattle.std.specs.Prelude.{bit_or, replicate, int_lt}
use Rattle.std.proofs.lemmas.Bool.{true≢false}
use Rattle.std.proofs.lemmas.Bool.Decides.{nat_tests}
use Rattle.std.proofs.lemmas.Int.{ints}
use Rattle.tb_geom.specs.declared.point.Point.{Point}
use Rattle.tb_geom.specs.Points.{minus}
use Rattle.tb_geom.specs.Rects.{rect_holds}
use Rattle.tb_geom.proofs.RectLemmas.{holds_in}
use Rattle.bit_map.specs.Bits.{is_below}
use Rattle.bit_map.specs.Words.{bit_in, place_bit}
use Rattle.bit_map.proofs.WordLemmas.{bit_in-or, bit_in-right, bit_in-right_out, bit_in-none, place_bit-in, place_bit-here, place_bit-other}
use Rattle.strike_font.specs.declared.glyph.Glyph.{Glyph}
use Rattle.strike_font.specs.Record.{height, kern, ascent}
use Rattle.strike_font.specs.Text.{glyph_of, glyph_bit, glyph_pixel, glyphs_pixel, image_bit, glyph_rect, text_holds}
use Rattle.strike_font.specs.Tiles.{tile_bit}
use Rattle.strike_font.proofs.TextLemmas.{glyph-to, glyphs-to, glyphs-next}

or_none : (a b : Bool) → b ≡ false → a ≡ (a || b)
or_none true b e = refl
or_none false b e = sym e

or_assoc : (a b c : Bool) → ((a || b) || c) ≡ (a || (b || c))
or_assoc true b c = refl
or_assoc false b c = refl

-- ---- where a glyph has no bit

pub bit_left : (font : List ℕ) (g : Glyph) (column row : ℤ) → column <ℤ pos 0 → glyph_bit font g column row ≡ false
bit_left font g (pos k) row out = absurd (omega (arith, ints))
bit_left font g (negsuc k) row out = refl

none_first : (a b : Bool) → ((false && a) && b) ≡ false
none_first a b = refl

none_second : (a b : Bool) → ((a && false) && b) ≡ false
none_second true b = refl
none_second false b = refl

pub bit_right : (font : List ℕ) (g : Glyph) (column row : ℤ) → pos g.columns ≤ℤ column → glyph_bit font g column row ≡ false
bit_right font g (negsuc k) row out = refl
bit_right font g (pos k) (negsuc r) out = refl
bit_right font g (pos k) (pos r) out =
    let past : g.columns ≤ k = omega (arith, ints, out) in
    let off : nat_lt k g.columns ≡ false = grind (arith, nat_tests) in
    ap (λ t. (t && nat_lt r (height font)) && image_bit font (g.first + k) r) off

pub bit_above : (font : List ℕ) (g : Glyph) (column row : ℤ) → row <ℤ pos 0 → glyph_bit font g column row ≡ false
bit_above font g (negsuc k) row out = refl
bit_above font g (pos k) (negsuc r) out = refl
bit_above font g (pos k) (pos r) out = absurd (omega (arith, ints))

pub bit_below : (font : List ℕ) (g : Glyph) (column row : ℤ) → pos (height font) ≤ℤ row → glyph_bit font g column row ≡ false
bit_below font g (negsuc k) row out = refl
bit_below font g (pos k) (negsuc r) out = refl
bit_below font g (pos k) (pos r) out =
    let past : height font ≤ r = omega (arith, ints, out) in
    let off : nat_lt r (height font) ≡ false = grind (arith, nat_tests) in
    ap (λ t. (nat_lt k g.columns && t) && image_bit font (g.first + k) r) off ∙ none_second (nat_lt k g.columns) (image_bit font (g.first + k) r)

-- ---- one word of a row more

-- the bit of the glyph over a place of a tile that begins in a column and a row of it
abbrev pub over_bit : List ℕ → Glyph → ℤ → ℤ → ℕ → Bool
over_bit font g column row n = glyph_bit font g (column +ℤ pos (n % 512)) (row +ℤ pos (n / 512))

-- the rows above `down` have the glyph in one word of each, and no other place changed
pub record HasRows (font : List ℕ) (g : Glyph) (column row : ℤ) (at down : ℕ) (old now : List ℕ) : Type 0 where
  pub all : length now ≡ length old
  pub done : (n : ℕ) → n < 8192 → n / 64 % 8 ≡ at → n / 512 < down → place_bit now n ≡ (place_bit old n || over_bit font g column row n)
  pub left : (n : ℕ) → down ≤ n / 512 → place_bit now n ≡ place_bit old n
  pub elsewhere : (n : ℕ) → n / 64 % 8 ≢ at → place_bit now n ≡ place_bit old n

pub rows_none : (font : List ℕ) (g : Glyph) (column row : ℤ) (at first : ℕ) (old : List ℕ)
    → ((down : ℕ) → down < first → (row +ℤ pos down) <ℤ pos 0) → HasRows font g column row at first old old
rows_none font g column row at first old above = record {
  all = refl;
  done = λ n low here less. or_none _ _ (bit_above font g (column +ℤ pos (n % 512)) (row +ℤ pos (n / 512)) (above (n / 512) less));
  left = λ n more. refl;
  elsewhere = λ n other. refl;
}

pub rows_more : (font : List ℕ) (g : Glyph) (column row start : ℤ) (at down down_row i bits : ℕ) (old now : List ℕ) → at < 8 → i ≡ 8 * down + at → i < length now
    → start ≡ column +ℤ pos (64 * at) → pos down_row ≡ row +ℤ pos down
    → ((k : ℕ) → k < 64 → bit_in bits k ≡ glyph_bit font g (start +ℤ pos k) (pos down_row))
    → HasRows font g column row at down old now → HasRows font g column row at (down + 1) old (set now i (bit_or (get_or now i 0) bits))
unfolding place_bit
rows_more font g column row start at down down_row i bits old now at_in is_i within is_start is_row fresh was = record {
  all = length-set now i _ ∙ was.all;
  done = done;
  left = λ n more. place_bit-other now i _ n (λ same. absurd (omega (arith, more, same, is_i, at_in))) ∙ was.left n (omega (arith, more));
  elsewhere = λ n other. place_bit-other now i _ n (λ same. other (omega (arith, same, is_i, at_in))) ∙ was.elsewhere n other;
}
  where
    here : (n : ℕ) → n / 64 ≡ i → n / 512 ≡ down → place_bit (set now i (bit_or (get_or now i 0) bits)) n ≡ (place_bit old n || over_bit font g column row n)
    here n same level =
        let low : n % 64 < 64 = omega arith in
        let across : (start +ℤ pos (n % 64)) ≡ (column +ℤ pos (n % 512)) = omega (arith, ints, is_start, is_i, same, at_in) in
        let down_is : pos down_row ≡ (row +ℤ pos (n / 512)) = is_row ∙ ap (λ d. row +ℤ pos d) (sym level) in
        let was_here : bit_in (get_or now i 0) (n % 64) ≡ place_bit old n = ap (λ j. bit_in (get_or now j 0) (n % 64)) (sym same) ∙ was.left n (omega (arith, level)) in
        place_bit-here now i _ n within same ∙ bit_in-or (get_or now i 0) bits (n % 64)
        ∙ (λ j. was_here j || (fresh (n % 64) low ∙ (λ m. glyph_bit font g (across m) (down_is m))) j)

    done : (n : ℕ) → n < 8192 → n / 64 % 8 ≡ at → n / 512 < down + 1 → place_bit (set now i (bit_or (get_or now i 0) bits)) n ≡ (place_bit old n || over_bit font g column row n)
    done n low is_at less = by_test (nat_lt (n / 512) down) refl
      where
        by_test : (t : Bool) → nat_lt (n / 512) down ≡ t → place_bit (set now i (bit_or (get_or now i 0) bits)) n ≡ (place_bit old n || over_bit font g column row n)
        by_test true e =
            let before : n / 512 < down = grind (arith, nat_tests) in
            place_bit-other now i _ n (λ same. absurd (omega (arith, before, same, is_i, at_in))) ∙ was.done n low is_at before
        by_test false e =
            let level : n / 512 ≡ down = grind (arith, nat_tests) in
            let same : n / 64 ≡ i = omega (arith, level, is_at, is_i) in
            here n same level

pub rows_all : (font : List ℕ) (g : Glyph) (column row : ℤ) (at down end : ℕ) (old now : List ℕ) → end ≤ down
    → ((d : ℕ) → d < 16 → end ≤ d → pos (height font) ≤ℤ (row +ℤ pos d)) → HasRows font g column row at down old now
    → (n : ℕ) → n < 8192 → n / 64 % 8 ≡ at → place_bit now n ≡ (place_bit old n || over_bit font g column row n)
rows_all font g column row at down end old now past below has n low is_at = by_test (nat_lt (n / 512) down) refl
  where
    by_test : (t : Bool) → nat_lt (n / 512) down ≡ t → place_bit now n ≡ (place_bit old n || over_bit font g column row n)
    by_test true e = has.done n low is_at (grind (arith, nat_tests))
    by_test false e =
        let after : down ≤ n / 512 = grind (arith, nat_tests) in
        has.left n after ∙ or_none _ _ (bit_below font g (column +ℤ pos (n % 512)) (row +ℤ pos (n / 512)) (below (n / 512) (omega (arith, low)) (omega (arith, after, past))))

-- ---- one column of words more

pub record HasColumnsOf (font : List ℕ) (g : Glyph) (column row : ℤ) (at : ℕ) (old now : List ℕ) : Type 0 where
  pub done : (n : ℕ) → n < 8192 → n / 64 % 8 < at → place_bit now n ≡ (place_bit old n || over_bit font g column row n)
  pub left : (n : ℕ) → at ≤ n / 64 % 8 → place_bit now n ≡ place_bit old n

pub columns_none : (font : List ℕ) (g : Glyph) (column row : ℤ) (first : ℕ) (old : List ℕ)
    → ((at : ℕ) → at < first → (column +ℤ pos (64 * at)) ≤ℤ negsuc 63) → HasColumnsOf font g column row first old old
columns_none font g column row first old before = record {
  done = λ n low less. or_none _ _ (bit_left font g (column +ℤ pos (n % 512)) (row +ℤ pos (n / 512)) (let out = before (n / 64 % 8) less in omega (arith, ints, out)));
  left = λ n more. refl;
}

pub columns_more : (font : List ℕ) (g : Glyph) (column row : ℤ) (at : ℕ) (old now next : List ℕ)
    → ((n : ℕ) → n < 8192 → n / 64 % 8 ≡ at → place_bit next n ≡ (place_bit now n || over_bit font g column row n))
    → ((n : ℕ) → n / 64 % 8 ≢ at → place_bit next n ≡ place_bit now n)
    → HasColumnsOf font g column row at old now → HasColumnsOf font g column row (at + 1) old next
columns_more font g column row at old now next here elsewhere was = record {
  done = λ n low less. by_test n low less (nat_lt (n / 64 % 8) at) refl;
  left = λ n more. elsewhere n (λ same. absurd (omega (arith, more, same))) ∙ was.left n (omega (arith, more));
}
  where
    by_test : (n : ℕ) → n < 8192 → n / 64 % 8 < at + 1 → (t : Bool) → nat_lt (n / 64 % 8) at ≡ t → place_bit next n ≡ (place_bit old n || over_bit font g column row n)
    by_test n low less true e =
        let before : n / 64 % 8 < at = grind (arith, nat_tests) in
        elsewhere n (λ same. absurd (omega (arith, before, same))) ∙ was.done n low before
    by_test n low less false e =
        let same : n / 64 % 8 ≡ at = grind (arith, nat_tests) in
        here n low same ∙ ap (λ b. b || over_bit font g column row n) (was.left n (omega (arith, same)))

pub columns_all : (font : List ℕ) (g : Glyph) (column row : ℤ) (at end : ℕ) (old now : List ℕ) → end ≤ at
    → ((j : ℕ) → j < 8 → end ≤ j → pos g.columns ≤ℤ (column +ℤ pos (64 * j))) → HasColumnsOf font g column row at old now
    → (n : ℕ) → n < 8192 → place_bit now n ≡ (place_bit old n || over_bit font g column row n)
columns_all font g column row at end old now past after has n low = by_test (nat_lt (n / 64 % 8) at) refl
  where
    by_test : (t : Bool) → nat_lt (n / 64 % 8) at ≡ t → place_bit now n ≡ (place_bit old n || over_bit font g column row n)
    by_test true e = has.done n low (grind (arith, nat_tests))
    by_test false e =
        let more : at ≤ n / 64 % 8 = grind (arith, nat_tests) in
        let out = after (n / 64 % 8) (omega arith) (omega (arith, more, past)) in
        has.left n more ∙ or_none _ _ (bit_right font g (column +ℤ pos (n % 512)) (row +ℤ pos (n / 512)) (omega (arith, ints, out)))

-- ---- one character more

pub text_more : (font text : List ℕ) (i across w n : ℕ) (x y there : ℤ) (g : Glyph) (old now next : List ℕ) (all : Bool) → i < length text → g ≡ glyph_of font (get_or text i 0) → there ≡ x -ℤ pos across → w ≡ g.width
    → place_bit next n ≡ (place_bit now n || glyph_pixel font g (there +ℤ pos (n % 512)) y)
    → (place_bit now n || glyphs_pixel font (drop i text) across (x +ℤ pos (n % 512)) y) ≡ all
    → (place_bit next n || glyphs_pixel font (drop (i + 1) text) (across + w) (x +ℤ pos (n % 512)) y) ≡ all
text_more font text i across w n x y there g old now next all i_in is_g is_x is_w put was =
    let rest = glyphs_pixel font (drop (i + 1) text) (across + w) (x +ℤ pos (n % 512)) y in
    let place : (there +ℤ pos (n % 512)) ≡ ((x +ℤ pos (n % 512)) -ℤ pos across) = omega (arith, ints, is_x) in
    let here : glyph_pixel font g (there +ℤ pos (n % 512)) y ≡ glyph_pixel font (glyph_of font (get_or text i 0)) ((x +ℤ pos (n % 512)) -ℤ pos across) y = (λ m. glyph_pixel font (is_g m) (place m) y) in
    let step : glyphs_pixel font (drop i text) across (x +ℤ pos (n % 512)) y ≡ (glyph_pixel font (glyph_of font (get_or text i 0)) ((x +ℤ pos (n % 512)) -ℤ pos across) y || rest) = rw (drop-cons text i 0 i_in, add-one, is_w, is_g) refl in
    ap (λ b. b || rest) (put ∙ ap (λ b. place_bit now n || b) here)
    ∙ or_assoc (place_bit now n) _ rest
    ∙ ap (λ b. place_bit now n || b) (sym step)
    ∙ was

-- ---- reading a tile

pub tile_above : (words : List ℕ) (x y : ℤ) → y <ℤ pos 0 → tile_bit words x y ≡ false
tile_above words (pos x) (pos y) out = absurd (omega (arith, ints))
tile_above words (pos x) (negsuc y) out = refl
tile_above words (negsuc x) y out = refl

pub tile_under : (words : List ℕ) (x y : ℤ) → pos 16 ≤ℤ y → tile_bit words x y ≡ false
tile_under words (pos x) (pos y) out =
    let past : 16 ≤ y = omega (arith, ints, out) in
    let off : nat_lt y 16 ≡ false = grind (arith, nat_tests) in
    ap (λ t. (nat_lt x 512 && t) && place_bit words (512 * y + x)) off ∙ none_second (nat_lt x 512) (place_bit words (512 * y + x))
tile_under words (pos x) (negsuc y) out = refl
tile_under words (negsuc x) y out = refl

pub tile_before : (words : List ℕ) (x y : ℤ) → x <ℤ pos 0 → tile_bit words x y ≡ false
tile_before words (pos x) y out = absurd (omega (arith, ints))
tile_before words (negsuc x) y out = refl

pub tile_after : (words : List ℕ) (x y : ℤ) → pos 512 ≤ℤ x → tile_bit words x y ≡ false
tile_after words (pos x) (pos y) out =
    let past : 512 ≤ x = omega (arith, ints, out) in
    let off : nat_lt x 512 ≡ false = grind (arith, nat_tests) in
    ap (λ t. (t && nat_lt y 16) && place_bit words (512 * y + x)) off
tile_after words (pos x) (negsuc y) out = refl
tile_after words (negsuc x) y out = refl

-- a bit of a row that the tile has, by its place
tile_in : (words : List ℕ) (x y : ℕ) → x < 512 → y < 16 → tile_bit words (pos x) (pos y) ≡ place_bit words (512 * y + x)
tile_in words x y x_in y_in =
    let has_x : nat_lt x 512 ≡ true = grind (arith, nat_tests) in
    let has_y : nat_lt y 16 ≡ true = grind (arith, nat_tests) in
    λ i. (has_x i && has_y i) && place_bit words (512 * y + x)

-- 64 bits from left of the first column on
pub tile_left : (words : List ℕ) (x y : ℤ) (far k : ℕ) → get_or words (8 * nat_abs y) 0 < 2 ^ 64 → pos 0 ≤ℤ y → y <ℤ pos 16 → negsuc 63 <ℤ x → x <ℤ pos 0 → far ≡ nat_abs x → k < 64
    → bit_in (get_or words (8 * nat_abs y) 0 / 2 ^ far) k ≡ tile_bit words (x +ℤ pos k) y
tile_left words x (negsuc v) far k small row down more less is low = absurd (omega (arith, ints))
tile_left words (pos h) (pos v) far k small row down more less is low = absurd (omega (arith, ints))
tile_left words (negsuc h) (pos v) far k small row down more less is low = by_test (nat_lt k far) refl
  where
    near : far ≡ h + 1
    near = omega (arith, is)

    by_test : (t : Bool) → nat_lt k far ≡ t → bit_in (get_or words (8 * v) 0 / 2 ^ far) k ≡ tile_bit words (negsuc h +ℤ pos k) (pos v)
    by_test true e =
        let before : k < far = grind (arith, nat_tests) in
        bit_in-right_out (get_or words (8 * v) 0) far k small before low ∙ sym (tile_before words (negsuc h +ℤ pos k) (pos v) (omega (arith, ints, before, near)))
    by_test false e =
        let after : far ≤ k = grind (arith, nat_tests) in
        let at : (negsuc h +ℤ pos k) ≡ pos (k - far) = omega (arith, ints, after, near) in
        let place : 64 * (8 * v) + (k - far) ≡ 512 * v + (k - far) = omega arith in
        bit_in-right (get_or words (8 * v) 0) far k after low
        ∙ sym (place_bit-in words (8 * v) (k - far) (omega (arith, low)))
        ∙ ap (place_bit words) place
        ∙ sym (ap (λ h. tile_bit words h (pos v)) at ∙ tile_in words (k - far) v (omega (arith, low)) (omega (arith, ints, down)))

-- and from one of its columns on
pub tile_right : (words : List ℕ) (x y : ℤ) (word mask k : ℕ) → pos 0 ≤ℤ y → y <ℤ pos 16 → pos 0 ≤ℤ x → k < 64
    → bit_in word k ≡ place_bit words (512 * nat_abs y + nat_abs x + k) → bit_in mask k ≡ is_below 512 (x +ℤ pos k)
    → (bit_in word k && bit_in mask k) ≡ tile_bit words (x +ℤ pos k) y
tile_right words x (negsuc v) word mask k row down more low is_word is_mask = absurd (omega (arith, ints))
tile_right words (negsuc h) (pos v) word mask k row down more low is_word is_mask = absurd (omega (arith, ints))
tile_right words (pos h) (pos v) word mask k row down more low is_word is_mask =
    let has_y : nat_lt v 16 ≡ true = grind (arith, ints, nat_tests) in
    let place : 512 * v + h + k ≡ 512 * v + (h + k) = omega arith in
    (λ i. (is_word ∙ ap (place_bit words) place) i && is_mask i)
    ∙ turned (place_bit words (512 * v + (h + k))) (nat_lt (h + k) 512)
    ∙ ap (λ t. (nat_lt (h + k) 512 && t) && place_bit words (512 * v + (h + k))) (sym has_y)
  where
    turned : (a b : Bool) → (a && b) ≡ ((b && true) && a)
    turned true true = refl
    turned true false = refl
    turned false true = refl
    turned false false = refl

pub abs_is : (x : ℤ) → pos 0 ≤ℤ x → pos (nat_abs x) ≡ x
abs_is (pos n) low = refl
abs_is (negsuc n) low = absurd (omega (arith, ints))

pub row-turn : (y a : ℤ) (j : ℕ) → ((y +ℤ a) +ℤ pos j) ≡ ((y +ℤ pos j) +ℤ a)
row-turn y a j = omega (arith, ints)

-- ---- a text over a tile without a pixel

white_place : (n : ℕ) → n < 8192 → place_bit (replicate 128 0) n ≡ false
unfolding place_bit
white_place n low = ap (λ w. bit_in w (n % 64)) (get_or-replicate 128 (n / 64) 0 0 (omega (arith, low))) ∙ bit_in-none (n % 64)

pub tile_text : (font text : List ℕ) (x y : ℤ) (old words : List ℕ) → old ≡ replicate 128 0
    → ((n : ℕ) → n < 8192 → place_bit words n ≡ (place_bit old n || glyphs_pixel font text 0 (x +ℤ pos (n % 512)) (y +ℤ pos (n / 512))))
    → (h v : ℕ) → h < 512 → v < 16 → tile_bit words (pos h) (pos v) ≡ glyphs_pixel font text 0 (x +ℤ pos h) (y +ℤ pos v)
tile_text font text x y old words white put h v h_in v_in =
    let low : 512 * v + h < 8192 = omega (arith, h_in, v_in) in
    let across : (512 * v + h) % 512 ≡ h = omega (arith, h_in) in
    let down : (512 * v + h) / 512 ≡ v = omega (arith, h_in) in
    tile_in words h v h_in v_in ∙ put (512 * v + h) low
    ∙ (λ i. (ap (λ l. place_bit l (512 * v + h)) white ∙ white_place (512 * v + h) low) i || glyphs_pixel font text 0 (x +ℤ pos (across i)) (y +ℤ pos (down i)))

-- ---- how far a text reaches

right_of_glyph : (font : List ℕ) (g : Glyph) (x y : ℤ) (across : ℕ) → (glyph_rect font g across).right ≤ℤ x → glyph_pixel font g (x -ℤ pos across) y ≡ false
right_of_glyph font g x y across far = by_test (glyph_pixel font g (x -ℤ pos across) y) refl
  where
    by_test : (b : Bool) → glyph_pixel font g (x -ℤ pos across) y ≡ b → b ≡ false
    by_test true held =
        let f = glyph-to font g (x -ℤ pos across) y held in
        let is_x = f.x_is in
        let column = f.column_in in
        absurd (omega (arith, ints))
    by_test false held = refl

pub reach_more : (font text : List ℕ) (i across w : ℕ) (side right next : ℤ) (g : Glyph) → i < length text → g ≡ glyph_of font (get_or text i 0) → w ≡ g.width
    → side ≡ (glyph_rect font g across).right → side ≤ℤ next → right ≤ℤ next
    → ((x y : ℤ) → right ≤ℤ x → glyphs_pixel font text 0 x y ≡ glyphs_pixel font (drop i text) across x y)
    → (x y : ℤ) → next ≤ℤ x → glyphs_pixel font text 0 x y ≡ glyphs_pixel font (drop (i + 1) text) (across + w) x y
reach_more font text i across w side right next g i_in is_g is_w is_side over more was x y far =
    was x y (omega (arith, ints, far, more))
    ∙ glyphs-next font text i across w x y (x -ℤ pos across) g i_in is_g refl (right_of_glyph font g x y across (let s = is_side in omega (arith, ints, far, over, s))) is_w

pub in_text_rect : (font text : List ℕ) (pen p : Point) (kern_is right : ℤ) (asc tall : ℕ) (top bottom : ℤ) → kern_is ≡ kern font → asc ≡ ascent font → tall ≡ height font
    → top ≡ pos 0 -ℤ pos asc → bottom ≡ top +ℤ pos tall
    → ((x y : ℤ) → right ≤ℤ x → glyphs_pixel font text 0 x y ≡ false) → text_holds font text pen p ≡ true
    → rect_holds (record { left = kern_is; top = top; right = right; bottom = bottom }) (minus p pen) ≡ true
unfolding text_holds
in_text_rect font text pen p kern_is right asc tall top bottom is_kern is_asc is_tall is_top is_bottom past held =
    let f = glyphs-to font text 0 (p.h -ℤ pen.h) (p.v -ℤ pen.v) held in
    let is_x = f.pixel.x_is in
    let is_y = f.pixel.y_is in
    let row = f.pixel.row_in in
    holds_in (record { left = kern_is; top = top; right = right; bottom = bottom }) (minus p pen)
    (omega (arith, ints, is_kern, is_x)) (before (int_lt (p.h -ℤ pen.h) right) refl) (omega (arith, ints, is_y, is_top, is_asc)) (omega (arith, ints, is_y, is_top, is_asc, is_bottom, is_tall, row))
  where
    before : (t : Bool) → int_lt (p.h -ℤ pen.h) right ≡ t → (p.h -ℤ pen.h) <ℤ right
    before true e = grind (arith, ints)
    before false e =
        let far : right ≤ℤ (p.h -ℤ pen.h) = grind (arith, ints) in
        absurd (true≢false (sym held ∙ past (p.h -ℤ pen.h) (p.v -ℤ pen.v) far))
