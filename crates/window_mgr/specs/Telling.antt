-- The regions of a window, as they are told: in its own coordinates, as bytes.
use Rattle.std.specs.Prelude.{ℕ, false, ◌&&◌, Option, None, Some}
use Rattle.tb_geom.specs.Points.{PixelSet, plus}
use Rattle.tb_geom.specs.Pixels.{Pixels}
pub use Rattle.pixel_rows.specs.Told.{IsRegionOf, IsLong, IsMeasured, AreRegionBytes, IsNotTold}
use Rattle.desk_layers.specs.Desk.{on_screen}
use Rattle.desk_layers.specs.Owner.{owner}
use Rattle.desk_call.specs.declared.window.WindowCall.{WindowCall}
use Rattle.desk_call.specs.declared.window.WindowCall.TheVariants.{VisibleRegion, UpdateRegion}
use Rattle.desk_call.specs.declared.window.WindowReply.{WindowReply}
use Rattle.desk_call.specs.declared.window.WindowReply.TheVariants as reply
use Rattle.vis_update.specs.declared.area.Area.{Area}
use Rattle.vis_update.specs.Records.{WindowRecord}
use Rattle.vis_update.specs.Areas.{is_content_of}
use Rattle.window_mgr.specs.declared.tell.AskedRegion.{AskedRegion}
use Rattle.window_mgr.specs.declared.tell.AskedRegion.TheVariants.{Visible, Update}
use Rattle.window_mgr.specs.FullDesk.{FullState, layered_desk}
use Rattle.window_mgr.specs.Finding.{record_with}

-- the set, as the window sees it from its own 0 0, if there is one
abbrev pub seen_from : Option WindowRecord → PixelSet → PixelSet
seen_from None set p = false
seen_from (Some w) set p = set (plus p w.place)

-- what of the screen the content of the window of this serial owns, in the window's own coordinates
abbrev pub visible_of : ℕ → FullState → PixelSet
visible_of s state = seen_from (record_with s state.desk.windows)
    (λ p. on_screen (layered_desk state.desk) p && is_content_of s (owner (layered_desk state.desk) p))

-- what of that is stale
abbrev pub update_of : ℕ → FullState → PixelSet
update_of s state = seen_from (record_with s state.desk.windows)
    (λ p. (on_screen (layered_desk state.desk) p && is_content_of s (owner (layered_desk state.desk) p)) && state.stale p)

-- ---- which of both is told

abbrev pub asked_region : AskedRegion → ℕ → FullState → PixelSet
asked_region Visible = visible_of
asked_region Update = update_of

-- the call that asks for it
abbrev pub asking : AskedRegion → ℕ → WindowCall
asking Visible = VisibleRegion
asking Update = UpdateRegion

-- the region of the area that has it
abbrev pub kept_region : AskedRegion → Area → Pixels
kept_region Visible area = area.visible
kept_region Update area = area.update

-- ---- its bytes

-- the answer is the region of these pixels
abbrev pub IsRegionTold : PixelSet → WindowReply → Type 0
IsRegionTold set (reply.Region bytes) = AreRegionBytes set bytes.items
IsRegionTold set _ = ⊥
