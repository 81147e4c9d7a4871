-- What the bytes of a row say, bit by bit.
use Rattle.std.proofs.Common.{◌≡◌, ℕ, zero, suc, pos, ◌+◌, ◌-◌, ◌*◌, ◌/◌, ◌%◌, ◌^◌, ◌<◌, ◌≤◌, Bool, true, false, ◌&&◌, nat_eq, nat_lt, if◌then◌else◌, List, ◌++◌, length, slice_index, sum_by, ℤ, negsuc, nat_abs, codes, append_assoc, length-append, refl, sym, ap, ◌∙◌, arith, inl, inr}
use Rattle.std.specs.List.{flat_map, range_with_len}
use Rattle.std.proofs.lemmas.Bool.{cases_lt, lt-ltb, le-ltb, ltb-true, and_parts, false≢true}
use Rattle.std.proofs.Math.Nat.{zero-div, zero-mul, suc-mul}
use Rattle.std.proofs.Math.Seq.{drop-append_seam}
use Rattle.std.proofs.lemmas.List.{get_or_past, get_or-append-add, get_or_append_left}
use Rattle.std.proofs.lemmas.List.FromFn.{get_or-map-range_with_len, length-map-range_with_len}
use Rattle.tb_geom.specs.Points.{PixelSet}
use Rattle.tb_geom.specs.declared.point.Point.{Point}
use Rattle.bit_map.specs.Bits.{is_below}
use Rattle.bit_map.specs.Images.{image_holds, image_bit, row_bit}
use Rattle.bit_map.specs.Patterns.{bit_of}
use Rattle.screen_pbm.specs.Pbm.{column_value, row_byte, row_bytes, head_text, p4, raster}
use Rattle.screen_pbm.proofs.Ranges.{flat_map-range_around}

-- whether the pixel of a column is black, white past the width
abbrev pub is_black : ℕ → PixelSet → ℕ → ℕ → Bool
is_black width black v h = nat_lt h width && black (record { h = pos h; v = pos v })

-- a bit as a number
abbrev pub digit : Bool → ℕ
digit b = if b then 1 else 0

digit-le : (b : Bool) → digit b ≤ 1
digit-le true = omega arith
digit-le false = omega arith

digit_is_one : (b : Bool) → nat_eq (digit b) 1 ≡ b
digit_is_one true = refl
digit_is_one false = refl

-- ---- eight binary digits

digit_at : (w : ℕ → ℕ) → ((j : ℕ) → w j ≤ 1) → (i : ℕ) → i < 8
    → (128 * w 0 + 64 * w 1 + 32 * w 2 + 16 * w 3 + 8 * w 4 + 4 * w 5 + 2 * w 6 + w 7) / 2 ^ (7 - i) % 2 ≡ w i
digit_at w le zero low = omega (arith, le 0, le 1, le 2, le 3, le 4, le 5, le 6, le 7)
digit_at w le (suc zero) low = omega (arith, le 0, le 1, le 2, le 3, le 4, le 5, le 6, le 7)
digit_at w le (suc (suc zero)) low = omega (arith, le 0, le 1, le 2, le 3, le 4, le 5, le 6, le 7)
digit_at w le (suc (suc (suc zero))) low = omega (arith, le 0, le 1, le 2, le 3, le 4, le 5, le 6, le 7)
digit_at w le (suc (suc (suc (suc zero)))) low = omega (arith, le 0, le 1, le 2, le 3, le 4, le 5, le 6, le 7)
digit_at w le (suc (suc (suc (suc (suc zero))))) low = omega (arith, le 0, le 1, le 2, le 3, le 4, le 5, le 6, le 7)
digit_at w le (suc (suc (suc (suc (suc (suc zero)))))) low = omega (arith, le 0, le 1, le 2, le 3, le 4, le 5, le 6, le 7)
digit_at w le (suc (suc (suc (suc (suc (suc (suc zero))))))) low = omega (arith, le 0, le 1, le 2, le 3, le 4, le 5, le 6, le 7)
digit_at w le (suc (suc (suc (suc (suc (suc (suc (suc i)))))))) low = absurd (omega (arith, low))

-- ---- a byte has a digit for each of its columns

worth : (b : Bool) (p n : ℕ) → p ≡ n → (if b then 2 ^ p else 0) ≡ 2 ^ n * digit b
worth true p n e = omega (arith, ap (λ k. 2 ^ k) e)
worth false p n e = omega arith

column_is : (width : ℕ) (black : PixelSet) (v k i : ℕ) → i < 8
    → column_value width black v (8 * k + i) ≡ 2 ^ (7 - i) * digit (is_black width black v (8 * k + i))
column_is width black v k i low = worth (is_black width black v (8 * k + i)) (7 - (8 * k + i) % 8) (7 - i) (omega (arith, low))

sum_of_eight : (f : ℕ → ℕ) (a : ℕ)
    → sum_by f (range_with_len a 8) ≡ f (a + 0) + f (a + 1) + f (a + 2) + f (a + 3) + f (a + 4) + f (a + 5)
    + f (a + 6) + f (a + 7)
sum_of_eight f a =
    let e0 : a + 0 ≡ a = omega arith in
    let e2 : a + 1 + 1 ≡ a + 2 = omega arith in
    let e3 : a + 2 + 1 ≡ a + 3 = omega arith in
    let e4 : a + 3 + 1 ≡ a + 4 = omega arith in
    let e5 : a + 4 + 1 ≡ a + 5 = omega arith in
    let e6 : a + 5 + 1 ≡ a + 6 = omega arith in
    let e7 : a + 6 + 1 ≡ a + 7 = omega arith in
    rw (e0, e2, e3, e4, e5, e6, e7) (omega arith)

-- a byte as a number of eight digits
pub row_byte-is : (width : ℕ) (black : PixelSet) (v k : ℕ) → let w = λ (j : ℕ). digit (is_black width black v (8 * k + j)) in
    row_byte width black v k ≡ 128 * w 0 + 64 * w 1 + 32 * w 2 + 16 * w 3 + 8 * w 4 + 4 * w 5 + 2 * w 6 + w 7
unfolding row_byte
row_byte-is width black v k =
    let is = λ (j : ℕ) (l : j < 8). column_is width black v k j l in
    sum_of_eight (column_value width black v) (8 * k)
    ∙ omega (
      arith,
      is 0 (omega arith),
      is 1 (omega arith),
      is 2 (omega arith),
      is 3 (omega arith),
      is 4 (omega arith),
      is 5 (omega arith),
      is 6 (omega arith),
      is 7 (omega arith),
    )

byte_bit : (width : ℕ) (black : PixelSet) (v k i : ℕ) → i < 8
    → bit_of (row_byte width black v k) i ≡ is_black width black v (8 * k + i)
byte_bit width black v k i low =
    let w = λ (j : ℕ). digit (is_black width black v (8 * k + j)) in
    ap (λ (n : ℕ). nat_eq (n / 2 ^ (7 - i) % 2) 1) (row_byte-is width black v k)
    ∙ ap (λ (n : ℕ). nat_eq n 1) (digit_at w (λ j. digit-le (is_black width black v (8 * k + j))) i low)
    ∙ digit_is_one (is_black width black v (8 * k + i))

-- ---- a row

row_bit_is : (width : ℕ) (black : PixelSet) (v h : ℕ) → h / 8 < (width + 7) / 8
    → bit_of (slice_index (row_bytes width black v) (h / 8)) (h % 8) ≡ is_black width black v h
unfolding row_bytes
row_bit_is width black v h low =
    let own : 8 * (h / 8) + h % 8 ≡ h = omega arith in
    let byte : slice_index (row_bytes width black v) (h / 8) ≡ row_byte width black v (h / 8) =
    get_or-map-range_with_len (row_byte width black v) 0 ((width + 7) / 8) (h / 8) (h / 8) 0 low (omega arith) in
    ap (λ (b : ℕ). bit_of b (h % 8)) byte ∙ byte_bit width black v (h / 8) (h % 8) (omega arith)
    ∙ ap (is_black width black v) own

pub row_has_each_pixel : (width : ℕ) (black : PixelSet) (v h : ℕ) → h < width
    → bit_of (slice_index (row_bytes width black v) (h / 8)) (h % 8) ≡ black (record { h = pos h; v = pos v })
row_has_each_pixel width black v h low =
    let inside : nat_lt h width ≡ true = lt-ltb h width low in
    row_bit_is width black v h (omega (arith, low)) ∙ ap (λ (b : Bool). b && black (record { h = pos h; v = pos v })) inside

length-row_bytes : (width : ℕ) (black : PixelSet) (v : ℕ) → length (row_bytes width black v) ≡ (width + 7) / 8
unfolding row_bytes
length-row_bytes width black v = length-map-range_with_len (row_byte width black v) 0 ((width + 7) / 8)

no_bit : (i : ℕ) → bit_of 0 i ≡ false
no_bit i = ap (λ (n : ℕ). nat_eq (n % 2) 1) (zero-div (2 ^ (7 - i)))

-- past a row's bytes there are none
no_byte : (width : ℕ) (black : PixelSet) (v k : ℕ) → (width + 7) / 8 ≤ k → slice_index (row_bytes width black v) k ≡ 0
no_byte width black v k past = get_or_past (row_bytes width black v) k 0 (omega (arith, past, length-row_bytes width black v))

pub row_is_white_past_the_width : (width : ℕ) (black : PixelSet) (v h : ℕ) → width ≤ h
    → bit_of (slice_index (row_bytes width black v) (h / 8)) (h % 8) ≡ false
row_is_white_past_the_width width black v h past =
    let outside : nat_lt h width ≡ false = le-ltb h width past in
    elim (cases_lt (h / 8) ((width + 7) / 8)) [
      | inl low ↦ row_bit_is width black v h low ∙ ap (λ (b : Bool). b && black (record { h = pos h; v = pos v })) outside
      | inr high ↦ ap (λ (b : ℕ). bit_of b (h % 8)) (no_byte width black v (h / 8) high) ∙ no_bit (h % 8)
    ]

-- ---- an image

length_rows : (width : ℕ) (black : PixelSet) (a n : ℕ)
    → length (flat_map (row_bytes width black) (range_with_len a n)) ≡ n * ((width + 7) / 8)
length_rows width black a zero = sym (zero-mul ((width + 7) / 8))
length_rows width black a (suc n) =
    length-append (row_bytes width black a) (flat_map (row_bytes width black) (range_with_len (a + 1) n))
    ∙ omega (arith, length-row_bytes width black a, length_rows width black (a + 1) n, suc-mul n ((width + 7) / 8))

-- the k-th byte of a row, among those of all rows
row_byte_of : (width height : ℕ) (black : PixelSet) (v k : ℕ) → v < height → k < (width + 7) / 8
    → slice_index (flat_map (row_bytes width black) (range_with_len 0 height)) (v * ((width + 7) / 8) + k)
    ≡ slice_index (row_bytes width black v) k
row_byte_of width height black v k down across =
    let rows = flat_map (row_bytes width black) (range_with_len 0 v) in
    let after = flat_map (row_bytes width black) (range_with_len (v + 1) (height - (v + 1))) in
    let before : length rows ≡ v * ((width + 7) / 8) = length_rows width black 0 v in
    let own = length-row_bytes width black v in
    ap (λ (l : List ℕ). slice_index l (v * ((width + 7) / 8) + k))
    (flat_map-range_around (row_bytes width black) height v down ∙ append_assoc rows (row_bytes width black v) after)
    ∙ ap (λ (n : ℕ). slice_index (rows ++ (row_bytes width black v ++ after)) (n + k)) (sym before)
    ∙ get_or-append-add rows (row_bytes width black v ++ after) k 0
    ∙ get_or_append_left (row_bytes width black v) after 0 k (omega (arith, across, own))

-- the bytes behind the head are the rows
rows_of_raster : (width height : ℕ) (black : PixelSet)
    → (raster width height black).rows ≡ flat_map (row_bytes width black) (range_with_len 0 height)
unfolding p4
rows_of_raster width height black =
    drop-append_seam (head_text (codes "P4") width height) (flat_map (row_bytes width black) (range_with_len 0 height))

raster_bit_at : (width height : ℕ) (black : PixelSet) (h v : ℤ) → (is_below width h ≡ true) × (is_below height v ≡ true)
    → row_bit (raster width height black) (nat_abs h) (nat_abs v) ≡ black (record { h = h; v = v })
raster_bit_at width height black (pos h) (pos v) on =
    let across : h < width = ltb-true h width on.0 in
    let down : v < height = ltb-true v height on.1 in
    let bytes = (width + 7) / 8 in
    ap (λ (l : List ℕ). bit_of (slice_index l (v * bytes + h / 8)) (h % 8)) (rows_of_raster width height black)
    ∙ ap (λ (b : ℕ). bit_of b (h % 8)) (row_byte_of width height black v (h / 8) down (omega (arith, across)))
    ∙ row_has_each_pixel width black v h across
raster_bit_at width height black (pos h) (negsuc v) on = absurd (false≢true on.1)
raster_bit_at width height black (negsuc h) v on = absurd (false≢true on.0)

pub raster_bit : (width height : ℕ) (black : PixelSet) (p : Point)
    → image_holds (raster width height black) p ≡ true → image_bit (raster width height black) p ≡ black p
unfolding image_holds image_bit
raster_bit width height black p on =
    raster_bit_at width height black p.h p.v (and_parts (is_below width p.h) (is_below height p.v) on)
