-- Structure, content and box of the notched window.
use Rattle.std.proofs.Common.{◌≡◌, Bool, true, false, ◌&&◌, ℤ, pos, negsuc, ◌+ℤ◌, ◌-ℤ◌, ◌≤ℤ◌, ◌<ℤ◌, refl, arith, All}
use Rattle.std.proofs.lemmas.Int.{ints, clamps}
use Rattle.std.specs.Int.{int_min, int_div_euclid}
use Rattle.std.proofs.lemmas.Bool.{and_parts}
use Rattle.tb_geom.specs.declared.point.Point.{Point}
use Rattle.tb_geom.specs.declared.rect.Rect.{Rect}
use Rattle.tb_geom.specs.Rects.{rect_holds, is_in_range, is_coordinate, IsBoxOf}
use Rattle.tb_geom.proofs.RectLemmas.{IsInside, sides_of, holds_in}
use Rattle.def_iface.specs.declared.size.Size.{Size}
use Rattle.def_iface.specs.Sizes.{is_size, rect_of}
use Rattle.def_iface.specs.WindowMeaning.{IsWithin}
use Rattle.looks.specs.Areas.{area_holds, piece_fits, added_rect, removed_rect}
use Rattle.looks.specs.Marks.{box, neg}
use Rattle.looks.proofs.AreaLemmas.{box-by-corners, coordinate, coordinate_high, two_fit, without, with_all}
use Rattle.std_wdef.specs.Looks.{ring}
use Rattle.std_wdef.specs.Notched.{notch, notched_structure, notched_content}
use Rattle.std_wdef.proofs.AreaFacts.{size_some, first_of, last_of}

-- half of a number
record IsHalf (n m : ℤ) : Type 0 where
  pub low : pos 0 ≤ℤ n
  pub high : (n +ℤ n) ≤ℤ m

half : (m : ℤ) → pos 0 ≤ℤ m → IsHalf (int_div_euclid m (pos 2)) m
half (pos m) e = record { low = omega (arith, ints); high = omega (arith, ints) }
half (negsuc m) e = absurd (omega (arith, ints))

pub record IsNotch (s : Size) : Type 0 where
  pub low : pos 0 ≤ℤ notch s
  pub across : (notch s +ℤ notch s) ≤ℤ s.width
  pub down : (notch s +ℤ notch s) ≤ℤ s.height

pub notch_is : (s : Size) → is_size s ≡ true → IsNotch s
unfolding notch
notch_is s e =
    let n = size_some s e in
    let h = half (int_min s.width s.height) (omega (arith, ints, clamps)) in
    record { low = h.low; across = omega (arith, ints, clamps); down = omega (arith, ints, clamps) }

-- the outer notch and the inner
abbrev pub outer : Size → Rect
outer s = box (s.width -ℤ notch s +ℤ pos 1) (neg 1) (s.width +ℤ pos 1) (notch s -ℤ pos 1)

abbrev pub inner : Size → Rect
inner s = box (s.width -ℤ notch s) (pos 0) s.width (notch s)

pub record IsLow (s : Size) : Type 0 where
  pub across : s.width ≤ℤ pos 16382
  pub down : s.height ≤ℤ pos 16382

pub low_of : (s : Size) → is_in_range (ring 1 s) ≡ true → IsLow s
low_of s e =
    let w = coordinate_high (s.width +ℤ pos 1) (and_parts (is_coordinate (s.width +ℤ pos 1)) (is_coordinate (s.height +ℤ pos 1)) e).0 in
    let h = coordinate_high (s.height +ℤ pos 1) (and_parts (is_coordinate (s.width +ℤ pos 1)) (is_coordinate (s.height +ℤ pos 1)) e).1 in
    record { across = omega (arith, ints); down = omega (arith, ints) }

module _ (s : Size) (e : is_size s ≡ true) where
  outer_fits : IsLow s → is_in_range (outer s) ≡ true
  outer_fits l =
      let n = notch_is s e in
      λ i. coordinate (outer s).left (omega (arith, ints)) (omega (arith, ints)) i && (true && (coordinate (outer s).right (omega (arith, ints)) (omega (arith, ints)) i && coordinate (outer s).bottom (omega (arith, ints)) (omega (arith, ints)) i))

  inner_fits : IsLow s → is_in_range (inner s) ≡ true
  inner_fits l =
      let n = notch_is s e in
      λ i. coordinate (inner s).left (omega (arith, ints)) (omega (arith, ints)) i && (true && (coordinate (inner s).right (omega (arith, ints)) (omega (arith, ints)) i && coordinate (inner s).bottom (omega (arith, ints)) (omega (arith, ints)) i))

  size_fits : IsLow s → is_in_range (rect_of s) ≡ true
  size_fits l =
      let n = size_some s e in
      λ i. true && (true && (coordinate s.width (omega (arith, ints)) (omega (arith, ints)) i && coordinate s.height (omega (arith, ints)) (omega (arith, ints)) i))

  pub structure_fits : is_in_range (ring 1 s) ≡ true → All (λ piece. piece_fits piece ≡ true) (notched_structure s)
  structure_fits r = two_fit (added_rect (ring 1 s)) (removed_rect (outer s)) r (outer_fits (low_of s r))

  pub content_fits : is_in_range (ring 1 s) ≡ true → All (λ piece. piece_fits piece ≡ true) (notched_content s)
  content_fits r = two_fit (added_rect (rect_of s)) (removed_rect (inner s)) (size_fits (low_of s r)) (inner_fits (low_of s r))

not-between-low : (r : Rect) (p : Point) → p.h <ℤ r.left → rect_holds r p ≡ false
not-between-low r p a = by_test (rect_holds r p) refl
  where
    by_test : (b : Bool) → rect_holds r p ≡ b → b ≡ false
    by_test false t = refl
    by_test true t = let k = sides_of r p t in absurd (omega (arith, ints))

not-between-below : (r : Rect) (p : Point) → r.bottom ≤ℤ p.v → rect_holds r p ≡ false
not-between-below r p a = by_test (rect_holds r p) refl
  where
    by_test : (b : Bool) → rect_holds r p ≡ b → b ≡ false
    by_test false t = refl
    by_test true t = let k = sides_of r p t in absurd (omega (arith, ints))

-- the box of the structure is exact
pub notched-exact : (s : Size) → is_size s ≡ true → IsBoxOf (ring 1 s) (area_holds (notched_structure s))
notched-exact s e =
    let n = notch_is s e in
    let m = size_some s e in
    let r : Rect = ring 1 s in
    box-by-corners r _
    (λ p t. (without (rect_holds (outer s) p) (rect_holds r p) t).1)
    (with_all _ _ (not-between-low (outer s) (record { h = r.left; v = r.top }) (omega (arith, ints))) (first_of r (omega (arith, ints)) (omega (arith, ints))))
    (with_all _ _ (not-between-below (outer s) (record { h = r.right -ℤ pos 1; v = r.bottom -ℤ pos 1 }) (omega (arith, ints))) (last_of r (omega (arith, ints)) (omega (arith, ints))))

-- the content lies in the structure
pub notched-within : (s : Size) → IsWithin (area_holds (notched_content s)) (area_holds (notched_structure s))
notched-within s p t =
    let both = without (rect_holds (inner s) p) (rect_holds (rect_of s) p) t in
    let k = sides_of (rect_of s) p both.1 in
    with_all _ _ (by_test k (rect_holds (outer s) p) refl both.0) (holds_in (ring 1 s) p (omega (arith, ints)) (omega (arith, ints)) (omega (arith, ints)) (omega (arith, ints)))
  where
    by_test : IsInside (rect_of s) p → (b : Bool) → rect_holds (outer s) p ≡ b → rect_holds (inner s) p ≡ false → b ≡ false
    by_test k false o f = refl
    by_test k true o f =
        let u = sides_of (outer s) p o in
        let v = holds_in (inner s) p (omega (arith, ints)) (omega (arith, ints)) (omega (arith, ints)) (omega (arith, ints)) in
        absurd (cc)
