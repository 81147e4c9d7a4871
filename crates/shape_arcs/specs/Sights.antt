-- Where directions and pixels that are seen may lie.
use Rattle.std.specs.Prelude.{◌≡◌, ◌⊎◌, Bool, ℕ, ℤ, pos, negsuc, neg_ℤ, ◌+ℤ◌, ◌≤ℤ◌, ◌<ℤ◌, int_le}
use Rattle.tb_geom.specs.declared.point.Point.{Point}
use Rattle.tb_geom.specs.declared.rect.Rect.{Rect}
use Rattle.region_rows.specs.Edges.{alike}
use Rattle.shape_arcs.specs.Rays.{is_from, seen}

-- neither number is further than 65536 from 0
pub record IsNear (d : Point) : Type 0 where
  pub h_low : negsuc 65535 ≤ℤ d.h
  pub h_high : d.h ≤ℤ pos 65536
  pub v_low : negsuc 65535 ≤ℤ d.v
  pub v_high : d.v ≤ℤ pos 65536

-- it points up, or level to the right
abbrev pub PointsUp : Point → Type 0
PointsUp d = (d.v <ℤ pos 0) ⊎ ((d.v ≡ pos 0) × (pos 0 <ℤ d.h))

-- it points somewhere
abbrev pub PointsSomewhere : Point → Type 0
PointsSomewhere d = (d.h ≡ pos 0 → ⊥) ⊎ (d.v ≡ pos 0 → ⊥)

-- the direction back
abbrev pub opposite : Point → Point
opposite d = record { h = neg_ℤ d.h; v = neg_ℤ d.v }

-- whether the pixel of the row v that has i columns of the rectangle left of it is from a direction on
unfoldable pub from_at : Rect → Point → ℤ → ℕ → Bool
from_at r d v i = is_from d (seen r (record { h = r.left +ℤ pos i; v = v }))

-- from this column on the pixels of the row v are from a direction on, or left of it, by `rises`
pub record IsTurn (r : Rect) (d : Point) (v column : ℤ) (rises : Bool) : Type 0 where
  pub low : r.left ≤ℤ column
  pub high : column ≤ℤ r.right
  pub edge : (h : ℤ) → r.left ≤ℤ h → h <ℤ r.right → is_from d (seen r (record { h = h; v = v })) ≡ alike rises (int_le column h)
