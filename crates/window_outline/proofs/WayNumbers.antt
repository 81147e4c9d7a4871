-- Coordinates that are moved by the way between two others: no such number is too large.
use Rattle.std.proofs.Common.{◌≡◌, true, ℤ, pos, negsuc, ◌+ℤ◌, ◌-ℤ◌, ◌≤ℤ◌, SFits, w32, arith}
use Rattle.std.proofs.lemmas.Bool.{and_parts}
use Rattle.std.proofs.lemmas.Int.{ints}
use Rattle.std.specs.Prelude.{int_le}
use Rattle.tb_geom.specs.declared.point.Point.{Point}
use Rattle.tb_geom.specs.Rects.{in_plane, is_coordinate}
use Rattle.def_iface.specs.declared.size.Size.{Size}
use Rattle.def_iface.specs.Sizes.{is_extent, is_size}

pub record IsSmall (z : ℤ) : Type 0 where
  pub low : negsuc 16383 ≤ℤ z
  pub high : z ≤ℤ pos 16383

pub small : (z : ℤ) → is_coordinate z ≡ true → IsSmall z
small z e =
    let both = and_parts (int_le (negsuc 16383) z) (int_le z (pos 16383)) e in
    record { low = grind (arith, ints); high = grind (arith, ints) }

-- an extent is a coordinate
pub extent_is : (z : ℤ) → is_extent z ≡ true → is_coordinate z ≡ true
extent_is z e =
    let both = and_parts (int_le (pos 1) z) (int_le z (pos 16383)) e in
    grind (arith, ints)

pub across : (p : Point) → in_plane p ≡ true → is_coordinate p.h ≡ true
across p e = (and_parts (is_coordinate p.h) (is_coordinate p.v) e).0

pub down : (p : Point) → in_plane p ≡ true → is_coordinate p.v ≡ true
down p e = (and_parts (is_coordinate p.h) (is_coordinate p.v) e).1

pub wide : (s : Size) → is_size s ≡ true → is_coordinate s.width ≡ true
wide s e = extent_is s.width (and_parts (is_extent s.width) (is_extent s.height) e).0

pub high : (s : Size) → is_size s ≡ true → is_coordinate s.height ≡ true
high s e = extent_is s.height (and_parts (is_extent s.width) (is_extent s.height) e).1

module _ (number from to : ℤ) (n : IsSmall number) (f : IsSmall from) (t : IsSmall to) where
  pub way_fits : SFits w32 (to -ℤ from)
  way_fits =
      let a = f.low in let b = f.high in let c = t.low in let d = t.high in
      record { sfits = grind (arith, ints) }

  pub sum_fits : SFits w32 (number +ℤ (to -ℤ from))
  sum_fits =
      let a = f.low in let b = f.high in let c = t.low in let d = t.high in let e = n.low in let g = n.high in
      record { sfits = grind (arith, ints) }
