-- The exact box of an area, and areas of two pieces.
use Rattle.std.proofs.Common.{◌≡◌, zero, suc, [], ◌∷◌, Bool, true, false, if◌then◌else◌, ℤ, pos, negsuc, ◌-ℤ◌, ◌≤ℤ◌, refl, arith, All}
use Rattle.std.proofs.lemmas.Int.{ints}
use Rattle.tb_geom.specs.declared.point.Point.{Point}
use Rattle.tb_geom.specs.declared.rect.Rect.{Rect}
use Rattle.tb_geom.specs.Points.{PixelSet}
use Rattle.tb_geom.specs.Rects.{rect_holds, is_coordinate, IsBoxOf}
use Rattle.tb_geom.proofs.RectLemmas.{sides_of, holds_in}
use Rattle.looks.specs.declared.area.Piece.{Piece}
use Rattle.looks.specs.Areas.{piece_fits}

-- a rectangle around a set is the smallest where the set has its first and its last pixel
pub box-by-corners : (r : Rect) (s : PixelSet)
    → ((p : Point) → s p ≡ true → rect_holds r p ≡ true)
    → s (record { h = r.left; v = r.top }) ≡ true
    → s (record { h = r.right -ℤ pos 1; v = r.bottom -ℤ pos 1 }) ≡ true
    → IsBoxOf r s
box-by-corners r s within first last = record {
  holds = within;
  smallest = λ q around p e.
      let in_r = sides_of r p e in
      let a = sides_of q (record { h = r.left; v = r.top }) (around (record { h = r.left; v = r.top }) first) in
      let b = sides_of q (record { h = r.right -ℤ pos 1; v = r.bottom -ℤ pos 1 }) (around (record { h = r.right -ℤ pos 1; v = r.bottom -ℤ pos 1 }) last) in
      holds_in q p (omega (arith, ints)) (omega (arith, ints)) (omega (arith, ints)) (omega (arith, ints));
}

-- the range of coordinates, as bounds
pub coordinate : (x : ℤ) → negsuc 16383 ≤ℤ x → x ≤ℤ pos 16383 → is_coordinate x ≡ true
coordinate x a b = grind (arith, ints)

pub coordinate_high : (x : ℤ) → is_coordinate x ≡ true → x ≤ℤ pos 16383
coordinate_high x e = grind (arith, ints)

-- two pieces that fit
pub two_fit : (a b : Piece) → piece_fits a ≡ true → piece_fits b ≡ true → All (λ piece. piece_fits piece ≡ true) (a ∷ b ∷ [])
two_fit a b x y zero d l = x
two_fit a b x y (suc zero) d l = y
two_fit a b x y (suc (suc k)) d l = absurd (omega arith)

-- what a rectangle without another holds: y says that the rectangle has the point, and x that the other has it
pub without : (x y : Bool) → (if x then false else (if y then true else false)) ≡ true → (x ≡ false) × (y ≡ true)
without true y e = absurd (cc)
without false true e = (refl, refl)
without false false e = absurd (cc)

pub with_all : (x y : Bool) → x ≡ false → y ≡ true → (if x then false else (if y then true else false)) ≡ true
with_all x y a b = (λ i. if a i then false else (if b i then true else false))
