-- The sides of a control's rectangle, widened by a margin, as the code reckons them.
use Rattle.std.proofs.Common.{◌≡◌, ℕ, zero, suc, ◌+◌, ◌^◌, ◌<◌, ◌≤◌, true, ℤ, pos, negsuc, neg_ℤ, ◌+ℤ◌, ◌-ℤ◌, w32, to_z, of_z, refl, ap, ◌∙◌, arith}
use Rattle.std.specs.Prelude.{int_le}
use Rattle.std.proofs.Math.Path.{ap₂}
use Rattle.std.proofs.lemmas.Bool.{and_parts}
use Rattle.std.proofs.lemmas.Int.{ints, to_z-of_z}
use Rattle.def_iface.specs.declared.size.Size.{Size}
use Rattle.def_iface.specs.ControlMeaning.{is_control_extent, is_control_size}
use Rattle.control_mgr.specs.Judged.{widened}

read_back : (m : ℕ) (z : ℤ) → m < 2 ^ 8 → z ≡ pos m → to_z w32 (of_z w32 z) ≡ pos m
read_back m z small e = ap (λ x. to_z w32 (of_z w32 x)) e ∙ to_z-of_z w32 (pos m) (record { sfits = omega arith })

first_side : (m : ℕ) (z : ℤ) → m < 2 ^ 8 → z ≡ pos m → to_z w32 (of_z w32 (pos 0 -ℤ to_z w32 (of_z w32 z))) ≡ neg_ℤ (pos m)
first_side m z small e = ap (λ x. to_z w32 (of_z w32 (pos 0 -ℤ x))) (read_back m z small e) ∙ turned m small
  where
    turned : (m : ℕ) → m < 2 ^ 8 → to_z w32 (of_z w32 (pos 0 -ℤ pos m)) ≡ neg_ℤ (pos m)
    turned zero small = refl
    turned (suc m) small =
        let below : pos 0 -ℤ pos (suc m) ≡ negsuc m = omega (arith, ints) in
        ap (λ x. to_z w32 (of_z w32 x)) below ∙ to_z-of_z w32 (negsuc m) (record { sfits = omega arith })

last_side : (m : ℕ) (z n : ℤ) → m < 2 ^ 8 → is_control_extent n ≡ true → z ≡ pos m → to_z w32 (of_z w32 (to_z w32 (of_z w32 n) +ℤ to_z w32 (of_z w32 z))) ≡ n +ℤ pos m
last_side m z (pos n) small fits e =
    let high : int_le (pos n) (pos 1024) ≡ true = (and_parts (int_le (pos 1) (pos n)) (int_le (pos n) (pos 1024)) fits).1 in
    let low : n ≤ 1024 = grind (arith, ints) in
    ap₂ (λ x y. to_z w32 (of_z w32 (x +ℤ y))) (to_z-of_z w32 (pos n) (record { sfits = omega arith })) (read_back m z small e)
    ∙ to_z-of_z w32 (pos (n + m)) (record { sfits = omega arith })
last_side m z (negsuc n) small fits e = absurd (cc)

pub widened_is : (m : ℕ) (z : ℤ) (size : Size) → m < 2 ^ 8 → is_control_size size ≡ true → z ≡ pos m
    → record {
      left = to_z w32 (of_z w32 (pos 0 -ℤ to_z w32 (of_z w32 z)));
      top = to_z w32 (of_z w32 (pos 0 -ℤ to_z w32 (of_z w32 z)));
      right = to_z w32 (of_z w32 (to_z w32 (of_z w32 size.width) +ℤ to_z w32 (of_z w32 z)));
      bottom = to_z w32 (of_z w32 (to_z w32 (of_z w32 size.height) +ℤ to_z w32 (of_z w32 z)));
    } ≡ widened m size
widened_is m z size small fits e =
    let both = and_parts (is_control_extent size.width) (is_control_extent size.height) fits in
    let first = first_side m z small e in
    let right = last_side m z size.width small both.0 e in
    let bottom = last_side m z size.height small both.1 e in
    λ i. record { left = first i; top = first i; right = right i; bottom = bottom i }
