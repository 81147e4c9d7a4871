-- Runs that are cut and narrowed.
use Rattle.std.proofs.Common.{◌≡◌, inl, inr, ◌&&◌, false, ℕ, ℤ, pos, negsuc, ◌-ℤ◌, ◌+ℤ◌, ◌≤ℤ◌, ◌<ℤ◌, sym, ◌∙◌, arith, w32}
use Rattle.std.specs.Prelude.{nat_le, min}
use Rattle.std.specs.Int.{int_min, int_max, saturate_signed}
use Rattle.std.proofs.lemmas.Bool.{cases_lt, cases_Bool, le-leb, lt-leb}
use Rattle.std.proofs.lemmas.Int.{ints, clamps}
use Rattle.tb_geom.specs.Rects.{between}
use Rattle.tb_geom.proofs.RectLemmas.{between-in}
use Rattle.region_rows.specs.Counts.{count_to}
use Rattle.region_rows.proofs.Counts.{count-is}
use Rattle.shape_strips.proofs.RangeLemmas.{row_of}

-- the columns of two runs
pub between-both : (a b c d x : ℤ) → between (int_max a b) x (int_min c d) ≡ (between a x c && between b x d)
between-both a b c d x = grind (arith, ints, clamps)

pub between_before : (low x high : ℤ) → x <ℤ low → between low x high ≡ false
between_before low x high l = grind (arith, ints)

pub between_past : (low x high : ℤ) → high ≤ℤ x → between low x high ≡ false
between_past low x high l = grind (arith, ints)

-- the columns that have one on either side
pub between-beside : (a b x : ℤ) → between (a +ℤ pos 1) x (b -ℤ pos 1) ≡ (between a (x -ℤ pos 1) b && between a (x +ℤ pos 1) b)
between-beside a b x = grind (arith, ints)

-- a run that lacks n columns on either side has those with at least n columns of the run on either side
narrowed : (l r h : ℤ) (n a b : ℕ) → pos a ≡ h -ℤ l → pos b ≡ r -ℤ (h +ℤ pos 1) → between (l +ℤ pos n) h (r -ℤ pos n) ≡ nat_le n (min a b)
narrowed l r h n a b p q = elim (cases_lt (min a b) n) [
  | inl s ↦ elim (cases_lt a n) [
    | inl few ↦ between_before (l +ℤ pos n) h (r -ℤ pos n) (omega (arith, ints)) ∙ sym (lt-leb n (min a b) s)
    | inr many ↦ between_past (l +ℤ pos n) h (r -ℤ pos n) (omega (arith, ints)) ∙ sym (lt-leb n (min a b) s)
  ]
  | inr s ↦ between-in (l +ℤ pos n) h (r -ℤ pos n) (omega (arith, ints)) (omega (arith, ints)) ∙ sym (le-leb n (min a b) s)
]

pub columns_in : (l r h : ℤ) (n : ℕ) → l ≤ℤ h → h <ℤ r → between (l +ℤ pos n) h (r -ℤ pos n) ≡ nat_le n (min (count_to l h) (count_to (h +ℤ pos 1) r))
columns_in l r h n low high = narrowed l r h n (count_to l h) (count_to (h +ℤ pos 1) r) (count-is l h low) (count-is (h +ℤ pos 1) r (omega (arith, ints)))

pub columns_out : (l r h : ℤ) (n : ℕ) → between l h r ≡ false → between (l +ℤ pos n) h (r -ℤ pos n) ≡ false
columns_out l r h n out = elim (cases_Bool (between (l +ℤ pos n) h (r -ℤ pos n))) [
  | inl e ↦
      let narrow = row_of (l +ℤ pos n) h (r -ℤ pos n) e in
      let low : (l +ℤ pos n) ≤ℤ h = narrow.0 in
      let high : h <ℤ (r -ℤ pos n) = narrow.1 in
      e ∙ sym (between-in l h r (omega (arith, ints)) (omega (arith, ints))) ∙ out
  | inr e ↦ e
]

-- numbers of 32 bits
pub between-saturated : (a b x : ℤ) → negsuc 2147483647 ≤ℤ a → a ≤ℤ pos 2147483647 → negsuc 2147483647 ≤ℤ b → b ≤ℤ pos 2147483647
    → between (saturate_signed w32 (a +ℤ pos 1)) x (saturate_signed w32 (b -ℤ pos 1)) ≡ between (a +ℤ pos 1) x (b -ℤ pos 1)
between-saturated a b x a_low a_high b_low b_high = grind (arith, ints, clamps)
