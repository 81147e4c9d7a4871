-- Regions that calls ask for: their pixels, and why they are refused.
use Rattle.std.specs.Prelude.{◌≡◌, ◌⊎◌, ℕ, Bool, true, false, ◌&&◌, List}
use Rattle.tb_geom.specs.declared.point.Point.{Point}
use Rattle.tb_geom.specs.declared.refusal.Refusal.{Refusal}
use Rattle.tb_geom.specs.declared.refusal.Refusal.TheVariants.{BadSyntax, BadRegion, OutOfRange, TooLong}
use Rattle.tb_geom.specs.Points.{PixelSet}
use Rattle.tb_geom.specs.Pixels.{holds}
use Rattle.tb_geom.specs.Rects.{is_coordinate}
use Rattle.region_bytes.specs.Text.{pixels_of}
use Rattle.scan_region.specs.Moves.{StaysInRange}
use Rattle.pixel_rows.specs.Combined.{combined, moved}
use Rattle.region_inset.specs.Insets.{inset, region_frame, LiesInRange}
use Rattle.lent_ops.specs.declared.form_ref.PenRef.{PenRef}
use Rattle.lent_ops.specs.declared.region_ref.Distance.{Distance}
use Rattle.lent_ops.specs.declared.region_ref.RegionRef.{RegionRef}
use Rattle.lent_ops.specs.declared.region_ref.RegionRef.TheVariants.{Form, Rgn, Offset, Inset, FrameRgn, Combined}
use Rattle.lent_ops.specs.Forms.{form_holds, has_points, is_form_in_range, is_form_long, is_pen, pen_of}
use Rattle.lent_ops.specs.OpRefs.{HasForm, IsFormOutOfRange, IsRegion}

-- the pixels that the bytes say
abbrev pub said_holds : List ℕ → PixelSet
said_holds bytes = holds (pixels_of bytes)

-- how far a region is moved, as a point
abbrev pub way : Distance → Point
way d = record { h = d.dh; v = d.dv }

-- the pixels of a region that is asked for
abbrev pub asked_holds : RegionRef → PixelSet
asked_holds (Form f) = form_holds f
asked_holds (Rgn bytes) = said_holds bytes
asked_holds (Offset bytes d) = moved (said_holds bytes) (way d)
asked_holds (Inset bytes d) = inset (said_holds bytes) d.dh d.dv
asked_holds (FrameRgn bytes p) = region_frame (said_holds bytes) (pen_of p)
asked_holds (Combined how a b) = combined how (said_holds a) (said_holds b)

-- the bytes of each region that it is made of are as P says
abbrev pub EachMade : (List ℕ → Type 0) → RegionRef → Type 0
EachMade P (Form f) = Unit {0}
EachMade P (Rgn bytes) = P bytes
EachMade P (Offset bytes d) = P bytes
EachMade P (Inset bytes d) = P bytes
EachMade P (FrameRgn bytes p) = P bytes
EachMade P (Combined how a b) = P a × P b

-- those of one of them are
abbrev pub SomeMade : (List ℕ → Type 0) → RegionRef → Type 0
SomeMade P (Form f) = ⊥
SomeMade P (Rgn bytes) = P bytes
SomeMade P (Offset bytes d) = P bytes
SomeMade P (Inset bytes d) = P bytes
SomeMade P (FrameRgn bytes p) = P bytes
SomeMade P (Combined how a b) = P a ⊎ P b

-- both numbers lie in -16384..16383
abbrev pub is_distance : Distance → Bool
is_distance d = is_coordinate d.dh && is_coordinate d.dv

-- the region of these bytes may be moved so far, and stays in range
abbrev pub IsMoved : List ℕ → Distance → Type 0
IsMoved bytes d = (is_distance d ≡ true) × StaysInRange (pixels_of bytes) (way d)

-- the region of these bytes may be inset so far, and what that gives lies in range
abbrev pub IsInset : List ℕ → Distance → Type 0
IsInset bytes d = (is_distance d ≡ true) × LiesInRange (inset (said_holds bytes) d.dh d.dv)

-- its own numbers lie in their ranges, and so does a region that is moved or inset
abbrev pub IsNear : RegionRef → Type 0
IsNear (Form f) = is_form_in_range f ≡ true
IsNear (Rgn bytes) = Unit {0}
IsNear (Offset bytes d) = IsMoved bytes d
IsNear (Inset bytes d) = IsInset bytes d
IsNear (FrameRgn bytes p) = is_pen p ≡ true
IsNear (Combined how a b) = Unit {0}

-- they do not, or it does not
abbrev pub IsAway : RegionRef → Type 0
IsAway (Form f) = is_form_in_range f ≡ false
IsAway (Rgn bytes) = ⊥
IsAway (Offset bytes d) = IsMoved bytes d → ⊥
IsAway (Inset bytes d) = IsInset bytes d → ⊥
IsAway (FrameRgn bytes p) = is_pen p ≡ false
IsAway (Combined how a b) = ⊥

-- the bytes of a polygon are those of points
abbrev pub has_all_points : RegionRef → Bool
has_all_points (Form f) = has_points f
has_all_points _ = true

-- a polygon has more than 1024 points
abbrev pub has_many_points : RegionRef → Bool
has_many_points (Form f) = is_form_long f
has_many_points _ = false

-- nothing is wrong with it
pub record IsGoodRegion (r : RegionRef) : Type 0 where
  pub points : has_all_points r ≡ true
  pub regions : EachMade IsRegion r
  pub near : IsNear r
  pub few : has_many_points r ≡ false

-- all bytes have their form, and a number or a region of them leaves its range
pub record IsFarRegion (r : RegionRef) : Type 0 where
  pub points : has_all_points r ≡ true
  pub formed : EachMade HasForm r
  pub far : SomeMade IsFormOutOfRange r ⊎ IsAway r

-- it is a polygon of too many points; nothing else is wrong with it
pub record IsLongRegion (r : RegionRef) : Type 0 where
  pub points : has_all_points r ≡ true
  pub regions : EachMade IsRegion r
  pub near : IsNear r
  pub many : has_many_points r ≡ true

-- why it is refused, whatever its size
abbrev pub IsRegionRefused : RegionRef → Refusal → Type 0
IsRegionRefused r e =
    ((e ≡ BadSyntax) × (has_all_points r ≡ false))
    ⊎ (((e ≡ BadRegion) × SomeMade (λ bytes. HasForm bytes → ⊥) r)
    ⊎ (((e ≡ OutOfRange) × IsFarRegion r)
    ⊎ ((e ≡ TooLong) × IsLongRegion r)))
