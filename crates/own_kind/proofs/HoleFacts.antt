-- Structure, content and box of the hollow window.
use Rattle.std.proofs.Common.{◌≡◌, Bool, true, false, ◌&&◌, refl, arith, All}
use Rattle.std.proofs.Common.{ℤ, pos, negsuc, ◌+ℤ◌, ◌-ℤ◌, ◌≤ℤ◌, ◌<ℤ◌}
use Rattle.std.proofs.lemmas.Int.{ints}
use Rattle.std.specs.Int.{int_div_euclid}
use Rattle.std.proofs.lemmas.Bool.{and_parts}
use Rattle.tb_geom.specs.declared.point.Point.{Point}
use Rattle.tb_geom.specs.declared.rect.Rect.{Rect}
use Rattle.tb_geom.specs.Rects.{rect_holds, is_in_range, is_coordinate, IsBoxOf}
use Rattle.tb_geom.proofs.RectLemmas.{sides_of, holds_in}
use Rattle.def_iface.specs.declared.size.Size.{Size}
use Rattle.def_iface.specs.Sizes.{is_size, is_extent, rect_of}
use Rattle.def_iface.specs.WindowMeaning.{IsWithin}
use Rattle.looks.specs.Areas.{area_holds, piece_fits, added_rect, removed_rect}
use Rattle.looks.proofs.AreaLemmas.{box-by-corners, coordinate, coordinate_high, two_fit, without, with_all}
use Rattle.own_kind.specs.HollowWindows.{outline, third, hole, hollow_structure, hollow_content}

-- the sides of a size
record IsSome (s : Size) : Type 0 where
  pub across : pos 0 <ℤ s.width
  pub down : pos 0 <ℤ s.height

extent-some : (n : ℤ) → is_extent n ≡ true → pos 0 <ℤ n
extent-some n e = grind (arith, ints)

size_some : (s : Size) → is_size s ≡ true → IsSome s
size_some s e =
    let both = and_parts (is_extent s.width) (is_extent s.height) e in
    record { across = extent-some s.width both.0; down = extent-some s.height both.1 }

-- a third of a number
pub record IsThird (n m : ℤ) : Type 0 where
  pub low : pos 0 ≤ℤ n
  pub high : (n +ℤ n +ℤ n) ≤ℤ m

pub third_of : (m : ℤ) → pos 0 ≤ℤ m → IsThird (int_div_euclid m (pos 3)) m
third_of (pos m) e = record { low = omega (arith, ints); high = omega (arith, ints) }
third_of (negsuc m) e = absurd (omega (arith, ints))

third_is : (s : Size) → is_size s ≡ true → IsThird (third s) s.width
unfolding third
third_is s e =
    let n = size_some s e in
    third_of s.width (omega (arith, ints))

-- a window of this size is in range
record IsLow (s : Size) : Type 0 where
  pub across : s.width ≤ℤ pos 16382
  pub down : s.height ≤ℤ pos 16382

low_of : (s : Size) → is_in_range (outline s) ≡ true → IsLow s
low_of s e =
    let both = and_parts (is_coordinate (s.width +ℤ pos 1)) (is_coordinate (s.height +ℤ pos 1)) e in
    let w = coordinate_high (s.width +ℤ pos 1) both.0 in
    let h = coordinate_high (s.height +ℤ pos 1) both.1 in
    record { across = omega (arith, ints); down = omega (arith, ints) }

module _ (s : Size) (e : is_size s ≡ true) where
  hole_fits : IsLow s → is_in_range (hole s) ≡ true
  hole_fits l =
      let n = third_is s e in
      let m = size_some s e in
      let left = coordinate (hole s).left (omega (arith, ints)) (omega (arith, ints)) in
      let right = coordinate (hole s).right (omega (arith, ints)) (omega (arith, ints)) in
      let bottom = coordinate s.height (omega (arith, ints)) (omega (arith, ints)) in
      λ i. left i && (true && (right i && bottom i))

  size_fits : IsLow s → is_in_range (rect_of s) ≡ true
  size_fits l =
      let n = size_some s e in
      let right = coordinate s.width (omega (arith, ints)) (omega (arith, ints)) in
      let bottom = coordinate s.height (omega (arith, ints)) (omega (arith, ints)) in
      λ i. true && (true && (right i && bottom i))

  pub structure_fits : is_in_range (outline s) ≡ true → All (λ piece. piece_fits piece ≡ true) (hollow_structure s)
  structure_fits r = two_fit (added_rect (outline s)) (removed_rect (hole s)) r (hole_fits (low_of s r))

  pub content_fits : is_in_range (outline s) ≡ true → All (λ piece. piece_fits piece ≡ true) (hollow_content s)
  content_fits r = two_fit (added_rect (rect_of s)) (removed_rect (hole s)) (size_fits (low_of s r)) (hole_fits (low_of s r))

not-above : (r : Rect) (p : Point) → p.v <ℤ r.top → rect_holds r p ≡ false
not-above r p a = by_test (rect_holds r p) refl
  where
    by_test : (b : Bool) → rect_holds r p ≡ b → b ≡ false
    by_test false t = refl
    by_test true t = let k = sides_of r p t in absurd (omega (arith, ints))

not-below : (r : Rect) (p : Point) → r.bottom ≤ℤ p.v → rect_holds r p ≡ false
not-below r p a = by_test (rect_holds r p) refl
  where
    by_test : (b : Bool) → rect_holds r p ≡ b → b ≡ false
    by_test false t = refl
    by_test true t = let k = sides_of r p t in absurd (omega (arith, ints))

-- the box of the structure is exact: its first and its last pixel lie above and below the hole
pub exact : (s : Size) → is_size s ≡ true → IsBoxOf (outline s) (area_holds (hollow_structure s))
exact s e =
    let m = size_some s e in
    let r : Rect = outline s in
    let first : Point = record { h = r.left; v = r.top } in
    let last : Point = record { h = r.right -ℤ pos 1; v = r.bottom -ℤ pos 1 } in
    box-by-corners r _
    (λ p t. (without (rect_holds (hole s) p) (rect_holds r p) t).1)
    (with_all _ _ (not-above (hole s) first (omega (arith, ints)))
    (holds_in r first (omega (arith, ints)) (omega (arith, ints)) (omega (arith, ints)) (omega (arith, ints))))
    (with_all _ _ (not-below (hole s) last (omega (arith, ints)))
    (holds_in r last (omega (arith, ints)) (omega (arith, ints)) (omega (arith, ints)) (omega (arith, ints))))

-- the content lies in the structure: both leave out the same hole
pub within : (s : Size) → IsWithin (area_holds (hollow_content s)) (area_holds (hollow_structure s))
within s p t =
    let both = without (rect_holds (hole s) p) (rect_holds (rect_of s) p) t in
    let k = sides_of (rect_of s) p both.1 in
    with_all _ _ both.0
    (holds_in (outline s) p (omega (arith, ints)) (omega (arith, ints)) (omega (arith, ints)) (omega (arith, ints)))
