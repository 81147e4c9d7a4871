-- A plan, drawn on the screen.
use Rattle.std.specs.Prelude.{◌≡◌, ℕ, ◌+◌, Bool, true, false, ◌||◌, if◌then◌else◌, List, [], ◌∷◌, Option}
use Rattle.tb_geom.specs.declared.point.Point.{Point}
use Rattle.tb_geom.specs.Points.{PixelSet}
use Rattle.tb_geom.specs.Pixels.{Pixels, holds}
use Rattle.bit_map.specs.Bits.{Bits, on_map, bit}
use Rattle.bit_map.specs.Patterns.{pattern_bit}
use Rattle.bit_blit.specs.Draws.{Draws}
use Rattle.def_iface.specs.WindowMeaning.{WindowDefinition}
use Rattle.vis_update.specs.declared.plan.Repaint.{Repaint}
use Rattle.vis_update.specs.declared.plan.Plan.{Plan}
use Rattle.vis_update.specs.Records.{WindowRecord}
use Rattle.desk_ground.specs.Screens.{desktop}
use Rattle.window_paint.specs.Frames.{painted_bit}
use Rattle.window_paint.specs.Moves.{everywhere, moved_bit}
use Rattle.window_paint.specs.Writes.{IsWrittenBy, arrives, one}

-- what the part of a window makes of a bit
abbrev pub painted_part : List ℕ → WindowDefinition → Point → Repaint → Point → Bool → Bool
painted_part font d place part p value = painted_bit font d place part.erase part.redraw p value

-- what the parts of windows make of it, one after another
abbrev pub painted_parts : List ℕ → List WindowRecord → List Repaint → Point → Bool → Bool
painted_parts font [] parts p value = value
painted_parts font (w ∷ ws) [] p value = value
painted_parts font (w ∷ ws) (part ∷ parts) p value =
    painted_parts font ws parts p (painted_part font w.definition w.place part p value)

-- what of the desktop is new has its pattern
abbrev pub uncovered_bit : Pixels → PixelSet → PixelSet
uncovered_bit uncovered others p = if holds uncovered p then pattern_bit desktop p else others p

-- the windows' parts were painted on a map
abbrev pub ArePainted : List ℕ → List WindowRecord → List Repaint → Bits → Bits → Type 0
ArePainted font ws parts = Draws everywhere (painted_parts font ws parts)

-- how often the content that is new of windows' parts is made white at a pixel, all in all
abbrev pub erased : List Repaint → Point → ℕ
erased [] p = 0
erased (part ∷ parts) p = one (holds part.erase p) + erased parts p

-- the pixels of the parts of frames that are drawn
abbrev pub redrawn : List Repaint → PixelSet
redrawn [] p = false
redrawn (part ∷ parts) p = holds part.redraw p || redrawn parts p

-- how often a plan writes a pixel where it draws no frame
abbrev pub planned_times : Plan → Option Point → Point → ℕ
planned_times plan by p = arrives plan.copied by p + (one (holds plan.uncovered p) + erased plan.parts.items p)

-- a plan was drawn: pixels moved, the desktop that is new got its pattern, and the windows' parts were painted; each pixel was
-- written as often as the plan says, but for those of frames
pub record IsPlanDrawn (plan : Plan) (by : Option Point) (font : List ℕ) (ws : List WindowRecord) (old new : Bits) : Type 0 where
  pub pixels : (p : Point) → on_map old p ≡ true
      → bit new p ≡ painted_parts font ws plan.parts.items p (uncovered_bit plan.uncovered (moved_bit plan.copied by old) p)
  pub width : new.width ≡ old.width
  pub height : new.height ≡ old.height
  pub written : IsWrittenBy (planned_times plan by) (redrawn plan.parts.items) old new
