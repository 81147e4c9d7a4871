-- The numbers of lines, within their types.
use Rattle.std.proofs.Common.{◌≡◌, ℕ, ◌*◌, ◌<◌, ◌^◌, ℤ, pos, negsuc, ◌+ℤ◌, ◌-ℤ◌, ◌*ℤ◌, ◌≤ℤ◌, ◌<ℤ◌, arith, unsigned_abs, SFits, w32, w64}
use Rattle.std.specs.Int.{int_min, int_max}
use Rattle.std.proofs.lemmas.Int.{ints, clamps}
use Rattle.tb_geom.specs.declared.point.Point.{Point}
use Rattle.shape_strips.specs.Places.{IsPlace, IsWithin}
use Rattle.shape_strips.proofs.Products.{from_abs, product_within}

-- a step of a slope
pub record IsStep (d : ℤ) : Type 0 where
  pub fits : SFits w64 (pos 2 *ℤ d)
  pub rising : pos 0 <ℤ (pos 2 *ℤ d)
  pub small : unsigned_abs (pos 2 *ℤ d) < 2 ^ 32

pub is_step : (d : ℤ) → pos 0 <ℤ d → unsigned_abs d < 2 ^ 16 → IsStep d
is_step d some l =
    let is = from_abs d 65536 (omega arith) in
    let low = is.low in
    let high = is.high in
    record { fits = search (arith, ints); rising = omega (arith, ints); small = search (arith, ints) }

small_column : (z : ℤ) → negsuc 16383 ≤ℤ z → z ≤ℤ pos 16384 → unsigned_abs z < 2 ^ 16
small_column z l m = search (arith, ints)

pub small_fits : (z : ℤ) → negsuc 16383 ≤ℤ z → z ≤ℤ pos 16384 → SFits w32 z
small_fits z l m = search (arith, ints)

pub origin_small : (u : Point) → IsPlace u → unsigned_abs u.h < 2 ^ 16
origin_small u p = let low = p.h_low in let high = p.h_high in small_column u.h low (omega (arith, ints))

-- the columns of two places
pub record AreColumns (u l : Point) : Type 0 where
  pub left_in : unsigned_abs (int_min u.h l.h) < 2 ^ 16
  pub right_in : unsigned_abs (int_max u.h l.h +ℤ pos 1) < 2 ^ 16
  pub right_fits : SFits w32 (int_max u.h l.h +ℤ pos 1)
  pub order : int_min u.h l.h ≤ℤ (int_max u.h l.h +ℤ pos 1)

pub are_columns : (u l : Point) → IsPlace u → IsPlace l → AreColumns u l
are_columns u l p q =
    let u_low = p.h_low in
    let u_high = p.h_high in
    let l_low = q.h_low in
    let l_high = q.h_high in
    let least : negsuc 16383 ≤ℤ int_min u.h l.h = omega (arith, ints, clamps) in
    let not_most : int_min u.h l.h ≤ℤ pos 16384 = omega (arith, ints, clamps) in
    let not_least : negsuc 16383 ≤ℤ (int_max u.h l.h +ℤ pos 1) = omega (arith, ints, clamps) in
    let most : (int_max u.h l.h +ℤ pos 1) ≤ℤ pos 16384 = omega (arith, ints, clamps) in
    record {
      left_in = small_column (int_min u.h l.h) least not_most;
      right_in = small_column (int_max u.h l.h +ℤ pos 1) not_least most;
      right_fits = small_fits (int_max u.h l.h +ℤ pos 1) not_least most;
      order = omega (arith, ints, clamps);
    }

-- twice a product, and more
pub record AreTwice (w y m : ℤ) : Type 0 where
  pub product : SFits w64 (w *ℤ y)
  pub twice : SFits w64 (pos 2 *ℤ (w *ℤ y))
  pub sum : SFits w64 ((pos 2 *ℤ (w *ℤ y)) +ℤ m)
  pub small : unsigned_abs ((pos 2 *ℤ (w *ℤ y)) +ℤ m) < 2 ^ 62

pub are_twice : (w y m : ℤ) → unsigned_abs w < 2 ^ 16 → unsigned_abs y < 2 ^ 16 → unsigned_abs m < 2 ^ 17 → AreTwice w y m
are_twice w y m p q r =
    let product = product_within w y 65536 65536 (from_abs w 65536 (omega arith)) (from_abs y 65536 (omega arith)) in
    let rest = from_abs m 131072 (omega arith) in
    record {
      product = one (w *ℤ y) product;
      twice = two (w *ℤ y) product;
      sum = sum_of (w *ℤ y) m product rest;
      small = size_of (w *ℤ y) m product rest;
    }
  where
    one : (a : ℤ) → IsWithin a (65536 * 65536) → SFits w64 a
    one a p = let low = p.low in let high = p.high in search (arith, ints)

    two : (a : ℤ) → IsWithin a (65536 * 65536) → SFits w64 (pos 2 *ℤ a)
    two a p = let low = p.low in let high = p.high in search (arith, ints)

    sum_of : (a m : ℤ) → IsWithin a (65536 * 65536) → IsWithin m 131072 → SFits w64 ((pos 2 *ℤ a) +ℤ m)
    sum_of a m p q = let low = p.low in let high = p.high in let least = q.low in let most = q.high in search (arith, ints)

    size_of : (a m : ℤ) → IsWithin a (65536 * 65536) → IsWithin m 131072 → unsigned_abs ((pos 2 *ℤ a) +ℤ m) < 2 ^ 62
    size_of a m p q = let low = p.low in let high = p.high in let least = q.low in let most = q.high in search (arith, ints)

-- a run that a pen makes wider
pub wider_fits : (r : ℤ) (n : ℕ) → SFits w32 r → r ≤ℤ pos 65536 → 0 < n → n < 65536 → SFits w32 (r +ℤ (pos n -ℤ pos 1))
wider_fits r n fits high some few = search (arith, ints)

pub less_fits : (n : ℕ) → 0 < n → n < 65536 → SFits w32 (pos n -ℤ pos 1)
less_fits n some few = search (arith, ints)

-- the rows of a pen
pub pen_rows_fit : (v : ℤ) (n : ℕ) → negsuc 16383 ≤ℤ v → v ≤ℤ pos 16383 → n < 65536 → SFits w32 ((v -ℤ pos n) +ℤ pos 1)
pen_rows_fit v n l m few = search (arith, ints)

-- some row of a pen lies in a row of its line
pub rows_ordered : (top v low height first last : ℤ) → first ≡ int_max top ((v -ℤ height) +ℤ pos 1) → last ≡ int_min low v
    → top ≤ℤ v → top ≤ℤ low → v <ℤ (low +ℤ height) → pos 1 ≤ℤ height → first ≤ℤ last
rows_ordered top v low height first last e f k l m some = omega (arith, ints, clamps)
