-- Region and box of the ring.
use Rattle.std.proofs.Common.{◌≡◌, Bool, true, false, ◌&&◌, refl, arith, All}
use Rattle.std.proofs.Common.{ℤ, pos, ◌-ℤ◌, ◌≤ℤ◌, ◌<ℤ◌}
use Rattle.std.proofs.lemmas.Int.{ints}
use Rattle.std.proofs.lemmas.Bool.{and_parts}
use Rattle.tb_geom.specs.declared.point.Point.{Point}
use Rattle.tb_geom.specs.declared.rect.Rect.{Rect}
use Rattle.tb_geom.specs.Rects.{rect_holds, is_in_range, IsBoxOf}
use Rattle.tb_geom.proofs.RectLemmas.{IsInside, sides_of, holds_in}
use Rattle.def_iface.specs.declared.size.Size.{Size}
use Rattle.def_iface.specs.Sizes.{rect_of}
use Rattle.def_iface.specs.ControlMeaning.{is_control_size, is_control_extent}
use Rattle.def_iface.specs.WindowMeaning.{IsWithin}
use Rattle.looks.specs.Areas.{area_holds, piece_fits, added_rect, removed_rect}
use Rattle.looks.proofs.AreaLemmas.{box-by-corners, coordinate, two_fit, without, with_all}
use Rattle.own_kind.specs.Rings.{across, down, hole, ring_region}
use Rattle.own_kind.proofs.HoleFacts.{IsThird, third_of}

-- the sides of a control's size
record IsSmall (n : ℤ) : Type 0 where
  pub some : pos 0 <ℤ n
  pub few : n ≤ℤ pos 1024

small : (n : ℤ) → is_control_extent n ≡ true → IsSmall n
small n e = record { some = grind (arith, ints); few = grind (arith, ints) }

record AreSmall (s : Size) : Type 0 where
  pub width : IsSmall s.width
  pub height : IsSmall s.height

sides_small : (s : Size) → is_control_size s ≡ true → AreSmall s
sides_small s e =
    let both = and_parts (is_control_extent s.width) (is_control_extent s.height) e in
    record { width = small s.width both.0; height = small s.height both.1 }

-- the sides of the hole
across_is : (s : Size) → IsSmall s.width → IsThird (across s) s.width
unfolding across
across_is s e = let n = e.some in third_of s.width (omega (arith, ints))

down_is : (s : Size) → IsSmall s.height → IsThird (down s) s.height
unfolding down
down_is s e = let n = e.some in third_of s.height (omega (arith, ints))

module _ (s : Size) (e : is_control_size s ≡ true) where
  hole_fits : is_in_range (hole s) ≡ true
  hole_fits =
      let n = sides_small s e in
      let a = across_is s n.width in
      let d = down_is s n.height in
      let left = coordinate (hole s).left (omega (arith, ints)) (omega (arith, ints)) in
      let top = coordinate (hole s).top (omega (arith, ints)) (omega (arith, ints)) in
      let right = coordinate (hole s).right (omega (arith, ints)) (omega (arith, ints)) in
      let bottom = coordinate (hole s).bottom (omega (arith, ints)) (omega (arith, ints)) in
      λ i. left i && (top i && (right i && bottom i))

  pub region_fits : is_in_range (rect_of s) ≡ true → All (λ piece. piece_fits piece ≡ true) (ring_region s)
  region_fits r = two_fit (added_rect (rect_of s)) (removed_rect (hole s)) r hole_fits

-- the region lies in its rectangle
within : (s : Size) → IsWithin (area_holds (ring_region s)) (rect_holds (rect_of s))
within s p t = (without (rect_holds (hole s) p) (rect_holds (rect_of s) p) t).1

-- a point that does not lie between the sides
outside : (r : Rect) (p : Point) → (IsInside r p → ⊥) → rect_holds r p ≡ false
outside r p out = by_test (rect_holds r p) refl
  where
    by_test : (b : Bool) → rect_holds r p ≡ b → b ≡ false
    by_test false t = refl
    by_test true t = absurd (out (sides_of r p t))

-- which is its exact box: its first and its last pixel are not the hole's
pub exact : (s : Size) → is_control_size s ≡ true → IsBoxOf (rect_of s) (area_holds (ring_region s))
exact s e =
    let m = sides_small s e in
    let n = across_is s m.width in
    let some = m.width.some in
    let down = m.height.some in
    let r : Rect = rect_of s in
    let first : Point = record { h = r.left; v = r.top } in
    let last : Point = record { h = r.right -ℤ pos 1; v = r.bottom -ℤ pos 1 } in
    box-by-corners r _ (within s)
    (with_all _ _ (outside (hole s) first (λ k. omega (arith, ints)))
    (holds_in r first (omega (arith, ints)) (omega (arith, ints)) (omega (arith, ints)) (omega (arith, ints))))
    (with_all _ _ (outside (hole s) last (λ k. omega (arith, ints)))
    (holds_in r last (omega (arith, ints)) (omega (arith, ints)) (omega (arith, ints)) (omega (arith, ints))))
