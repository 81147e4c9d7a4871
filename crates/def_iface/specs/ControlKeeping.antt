-- Definitions of controls that keep all that they are told.
use Rattle.std.specs.Prelude.{ℕ, ℤ, pos, Bool, true, false, List, [], Option, take}
use Rattle.std.specs.Option.{unwrap_or, option_map_or}
use Rattle.tb_geom.specs.declared.point.Point.{Point}
use Rattle.tb_geom.specs.Points.{PixelSet}
use Rattle.control_values.specs.declared.part.ControlPart.{ControlPart}
use Rattle.def_iface.specs.declared.control_def.ControlChange.{ControlChange}
use Rattle.def_iface.specs.declared.control_def.ControlChange.TheVariants.{Resized, Titled, Set, Highlighted}
use Rattle.def_iface.specs.declared.control_keeping.KeptControl.{KeptControl}
use Rattle.def_iface.specs.ControlNews.{ControlNews}

-- what is kept of a control of which nothing was told yet
abbrev pub nothing_kept : KeptControl
nothing_kept = record {
  size = record { width = pos 0; height = pos 0 };
  title = [];
  values = record { minimum = pos 0; maximum = pos 0; value = pos 0 };
  highlight = 0;
}

-- what is kept after a change: of a title at most 255 characters
abbrev pub kept_after : ControlChange → KeptControl → KeptControl
kept_after (Resized s) k = record k { size = s }
kept_after (Titled t) k = record k { title = take 255 t.now }
kept_after (Set v) k = record k { values = v }
kept_after (Highlighted h) k = record k { highlight = h }

-- the change brings no title
abbrev pub keeps_control_title : ControlChange → Bool
keeps_control_title (Titled t) = false
keeps_control_title _ = true

-- what is kept once it is told this
abbrev pub kept_in : ControlNews → KeptControl → KeptControl
kept_in n k = record {
  size = unwrap_or n.size k.size;
  title = option_map_or (λ t. take 255 t) n.title k.title;
  values = unwrap_or n.setting k.values;
  highlight = unwrap_or n.highlight k.highlight;
}

-- the picture of a definition that keeps all of this, by what it looks like with it in a font
abbrev pub kept_control_picture : (KeptControl → List ℕ → PixelSet) → KeptControl → ControlNews → List ℕ → PixelSet
kept_control_picture look k n = look (kept_in n k)

-- its parts, by those that it has with it
abbrev pub kept_control_hit : (KeptControl → Point → Option ControlPart) → KeptControl → ControlNews → Point → Option ControlPart
kept_control_hit part k n = part (kept_in n k)

-- and the value that a dragged thumb gives it
abbrev pub kept_thumb_value : (KeptControl → Point → Point → ℤ) → KeptControl → ControlNews → Point → Point → ℤ
kept_thumb_value value k n = value (kept_in n k)

-- and the pixels that the damage may have that it answers to some more, by what it keeps before and after
abbrev pub kept_control_damage : (KeptControl → KeptControl → PixelSet) → KeptControl → (told more : ControlNews) → PixelSet
kept_control_damage damage k n more = damage (kept_in n k) (kept_in more (kept_in n k))
