-- The sides of a rectangle in range.
use Rattle.std.proofs.Common.{◌≡◌, ℤ, pos, negsuc, true, ◌&&◌, ap, ◌∙◌, arith, w32, SFits, to_z, of_z}
use Rattle.std.proofs.lemmas.Int.{ints, to_z-of_z}
use Rattle.std.proofs.lemmas.Bool.{and_parts}
use Rattle.tb_geom.specs.declared.rect.Rect.{Rect}
use Rattle.tb_geom.specs.Rects.{is_coordinate, is_in_range}

-- its last row is a coordinate
bottom_in_range : (r : Rect) → is_in_range r ≡ true → is_coordinate r.bottom ≡ true
bottom_in_range r e =
    let top = and_parts (is_coordinate r.left) (is_coordinate r.top && (is_coordinate r.right && is_coordinate r.bottom)) e in
    let right = and_parts (is_coordinate r.top) (is_coordinate r.right && is_coordinate r.bottom) top.1 in
    (and_parts (is_coordinate r.right) (is_coordinate r.bottom) right.1).1

coordinate-fits : (x : ℤ) → is_coordinate x ≡ true → SFits w32 x
coordinate-fits (pos n) e = grind (arith, ints)
coordinate-fits (negsuc n) e = grind (arith, ints)

-- also where it is read as a number of 32 bits
pub bottom_back : (r : Rect) → is_in_range r ≡ true → is_coordinate (to_z w32 (of_z w32 r.bottom)) ≡ true
bottom_back r e = ap is_coordinate (to_z-of_z w32 r.bottom (coordinate-fits r.bottom (bottom_in_range r e))) ∙ bottom_in_range r e
