-- The titled window: a frame of four pixels on top of its content, and of one elsewhere.
use Rattle.std.specs.Prelude.{pos, negsuc, true, not, ◌+ℤ◌, if◌then◌else◌}
use Rattle.std.specs.Option.{unwrap_or}
use Rattle.tb_geom.specs.declared.point.Point.{Point}
use Rattle.tb_geom.specs.declared.rect.Rect.{Rect}
use Rattle.tb_geom.specs.Rects.{rect_holds}
use Rattle.def_iface.specs.declared.size.Size.{Size}
use Rattle.def_iface.specs.declared.window_def.Hit.{Hit}
use Rattle.def_iface.specs.declared.window_def.Hit.TheVariants.{InContent, InDrag}
use Rattle.def_iface.specs.declared.window_def.Stage.{Stage}
use Rattle.def_iface.specs.Sizes.{rect_of}
use Rattle.def_iface.specs.Lines.{frame_lines}
use Rattle.def_iface.specs.WindowMeaning.{WindowDefinition}

-- the sides of the structure
abbrev pub titled_box : Size → Rect
titled_box s = record { left = negsuc 0; top = negsuc 3; right = s.width +ℤ pos 1; bottom = s.height +ℤ pos 1 }

-- content, and a frame by which the window is dragged
abbrev pub titled_hit : Size → Point → Hit
titled_hit s p = if rect_holds (rect_of s) p then InContent else InDrag

-- A titled window's definition as a value. Its picture is black wherever the content is not, in every font.
abbrev pub titled_window : Stage → Size → WindowDefinition
titled_window stage size = record {
  stage = stage;
  size = size;
  structure = λ s. rect_holds (titled_box s);
  content = λ s. rect_holds (rect_of s);
  bounds = titled_box;
  grow_lines = λ s. frame_lines (titled_box s);
  picture = λ n font p. not (rect_holds (rect_of (unwrap_or n.size size)) p);
  hit = λ n. titled_hit (unwrap_or n.size size);
  damage = λ n p. true;
}
