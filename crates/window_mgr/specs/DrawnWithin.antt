-- What is written of the screen where a part of one window is drawn anew, within some pixels that are seen from the window's place.
use Rattle.std.specs.Prelude.{ℕ, not, ◌&&◌, []}
use Rattle.tb_geom.specs.declared.point.Point.{Point}
use Rattle.tb_geom.specs.Points.{PixelSet, minus}
use Rattle.bit_blit.specs.Draws.{IsWritten}
use Rattle.desk_layers.specs.declared.part.Part.{Part}
use Rattle.desk_layers.specs.Desk.{LayeredDesk}
use Rattle.desk_layers.specs.Owner.{owner, same_owner}
use Rattle.desk_layers.specs.Owner.Owner.{Frame, Content}
use Rattle.def_iface.specs.Slots.{TakenBox}
use Rattle.def_iface.specs.WindowMeaning.{WindowLoan}
use Rattle.vis_update.specs.Areas.{stale_in}
use Rattle.window_mgr.specs.declared.manager.WindowManager.{WindowManager}
use Rattle.window_mgr.specs.FullDesk.{layered_desk}
use Rattle.window_mgr.specs.Records.{desk_of}

-- the pixels that the frame of the window of this serial, at this place, has within these
abbrev pub frame_within : LayeredDesk → ℕ → Point → PixelSet → PixelSet
frame_within desk s place these p = same_owner (owner desk p) (Frame s) && these (minus p place)

-- those that this part of its content has within them, and that are not to be redrawn
abbrev pub part_within : LayeredDesk → PixelSet → ℕ → Part → Point → PixelSet → PixelSet
part_within desk stale s q place these p = (same_owner (owner desk p) (Content s q) && not (stale p)) && these (minus p place)

module _ {V : Type 0} {H : V → Type 0} (loan : TakenBox V H → WindowLoan) where
  -- of the screen no other pixels were written than those of the frame
  abbrev pub WritesFrame : ℕ → Point → PixelSet → WindowManager V H → WindowManager V H → Type 0
  WritesFrame s place these old new = IsWritten (frame_within (layered_desk (desk_of loan old [])) s place these) old.screen new.screen

  -- none but those of the part
  abbrev pub WritesPart : ℕ → Part → Point → PixelSet → WindowManager V H → WindowManager V H → Type 0
  WritesPart s q place these old new =
      IsWritten (part_within (layered_desk (desk_of loan old [])) (stale_in old.areas.items) s q place these) old.screen new.screen
