-- What the map in front of the windows' screen shows while a window is dragged or grown.
use Rattle.overlay.specs.declared.overlay.Overlay.{Overlay}
use Rattle.overlay.specs.Outlines.{IsOutlined}
use Rattle.desk_call.specs.declared.activity.Activity.{Activity}
use Rattle.desk_call.specs.declared.activity.Activity.TheVariants.{Dragging, Growing}
use Rattle.window_mgr.specs.declared.manager.WindowManager.{WindowManager}

module _ {V : Type 0} {H : V → Type 0} where
  -- the outline over the base image, below the menu bar
  abbrev pub IsOutlineShown : Activity → WindowManager V H → Overlay → Type 0
  IsOutlineShown (Dragging d) t front = IsOutlined t.bar.rows d.outline t.screen front.front
  IsOutlineShown (Growing g) t front = IsOutlined t.bar.rows g.outline t.screen front.front
  IsOutlineShown _ t front = Unit {0}
