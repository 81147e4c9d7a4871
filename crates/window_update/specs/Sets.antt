-- The pixels of an area that a call carries.
use Rattle.std.specs.Prelude.{◌≡◌, ℕ, false, Option, None, Some, if◌then◌else◌, ◌&&◌}
use Rattle.tb_geom.specs.declared.point.Point.{Point}
use Rattle.tb_geom.specs.declared.refusal.Refusal.{Refusal}
use Rattle.tb_geom.specs.declared.refusal.Refusal.TheVariants.{OutOfRange}
use Rattle.tb_geom.specs.Points.{PixelSet, minus}
use Rattle.tb_geom.specs.Pixels.{Pixels, holds}
use Rattle.tb_geom.specs.Rects.{rect_holds, is_in_range}
use Rattle.region_bytes.specs.Bytes.{IsRegionBytes, IsBad}
use Rattle.lent_ops.specs.OpRefs.{IsRegion}
use Rattle.desk_layers.specs.Owner.{Owner}
use Rattle.desk_call.specs.declared.update.AreaRef.{AreaRef}
use Rattle.desk_call.specs.declared.update.AreaRef.TheVariants.{Rect, Region}
use Rattle.vis_update.specs.Areas.{is_content_of}
use Rattle.vis_update.specs.Records.{WindowRecord}
use Rattle.window_mgr.specs.FullDesk.{FullDesk}
use Rattle.window_mgr.specs.Finding.{record_with}
use Rattle.window_update.specs.declared.areas.JudgedArea.{JudgedArea}
use Rattle.window_update.specs.declared.areas.JudgedArea.TheVariants as judged

-- the area is this set of pixels
abbrev pub IsAreaOf : AreaRef → PixelSet → Type 0
IsAreaOf (Rect r) set = (p : Point) → set p ≡ rect_holds r p
IsAreaOf (Region bytes) set = (region : Pixels) × IsRegionBytes bytes region × ((p : Point) → set p ≡ holds region p)

-- what judging the area finds: nothing, or why it is refused. Its bytes have not the form of a region's, or a coordinate lies
-- out of range
abbrev pub IsAreaJudged : AreaRef → Option Refusal → Type 0
IsAreaJudged (Rect r) found = (if is_in_range r then None else Some OutOfRange) ≡ found
IsAreaJudged (Region bytes) None = IsRegion bytes
IsAreaJudged (Region bytes) (Some e) = IsBad bytes e

-- the pixels of an area that was judged
abbrev pub judged_set : JudgedArea → PixelSet
judged_set (judged.Rect r) = rect_holds r
judged_set (judged.Region region) = holds region

-- the set, given as the window sees it, on the screen, if there is such a window
abbrev pub on_place : Option WindowRecord → PixelSet → PixelSet
on_place None set p = false
on_place (Some w) set p = set (minus p w.place)

-- the pixel's owner is a content layer of the window of this serial, and the set, as that window sees it, has the pixel
abbrev pub marked_in : ℕ → PixelSet → FullDesk → Owner → PixelSet
marked_in s set desk o p = is_content_of s o && on_place (record_with s desk.windows) set p
