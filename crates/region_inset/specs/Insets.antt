-- Insets of sets of pixels, and the frames that they leave.
use Rattle.std.specs.Prelude.{◌≡◌, Bool, true, false, not, ◌&&◌, ℕ, ℤ, pos, ◌+ℤ◌, ◌-ℤ◌, ◌≤ℤ◌}
use Rattle.tb_geom.specs.declared.point.Point.{Point}
use Rattle.tb_geom.specs.Points.{PixelSet}
use Rattle.region_rows.specs.Moves.{is_pixel_in_range}
use Rattle.shape_strips.specs.declared.pen.Pen.{Pen}
use Rattle.shape_strips.specs.Frames.{has_size}
use Rattle.pixel_rows.specs.declared.combination.Combination.{Combination}
use Rattle.pixel_rows.specs.declared.combination.Combination.TheVariants.{Union, Sect}
use Rattle.region_inset.specs.Near.{narrowed}

-- each row of a set narrowed by dh columns
abbrev pub inset_columns : PixelSet → ℤ → PixelSet
inset_columns s dh p = narrowed dh (λ h. s (record { h = h; v = p.v })) p.h

-- each column of a set narrowed by dv rows
abbrev pub inset_rows : PixelSet → ℤ → PixelSet
inset_rows s dv p = narrowed dv (λ v. s (record { h = p.h; v = v })) p.v

-- the inset of a set: columns first, then the rows of what that gave
abbrev pub inset : PixelSet → ℤ → ℤ → PixelSet
inset s dh dv = inset_rows (inset_columns s dh) dv

-- each pixel of the set has all its sides in -16384..16383
abbrev pub LiesInRange : PixelSet → Type 0
LiesInRange s = (p : Point) → s p ≡ true → is_pixel_in_range p ≡ true

-- the frame of a region: the region less its inset by the pen; a pen without width or height draws nothing
abbrev pub region_frame : PixelSet → Pen → PixelSet
region_frame s pen p = has_size pen && (s p && not (inset s (pos pen.width) (pos pen.height) p))

-- how two rows are joined, of which both have to have a pixel, or one
abbrev pub joining : Bool → Combination
joining true = Sect
joining false = Union

-- two pixels are no further apart than n columns and m rows
pub record IsNear (n m : ℕ) (p q : Point) : Type 0 where
  pub left : (p.h -ℤ pos n) ≤ℤ q.h
  pub right : q.h ≤ℤ (p.h +ℤ pos n)
  pub top : (p.v -ℤ pos m) ≤ℤ q.v
  pub bottom : q.v ≤ℤ (p.v +ℤ pos m)
