-- Definitions that keep all that they are told: flags, a title and a size.
use Rattle.std.specs.Prelude.{ℕ, Bool, true, false, List, take}
use Rattle.std.specs.Option.{unwrap_or, option_map_or}
use Rattle.tb_geom.specs.declared.point.Point.{Point}
use Rattle.tb_geom.specs.Points.{PixelSet}
use Rattle.def_iface.specs.declared.keeping.Flags.{Flags}
use Rattle.def_iface.specs.declared.size.Size.{Size}
use Rattle.def_iface.specs.declared.window_def.Hit.{Hit}
use Rattle.def_iface.specs.declared.window_def.WindowChange.{WindowChange}
use Rattle.def_iface.specs.declared.window_def.WindowChange.TheVariants.{Resized, Titled, Highlighted, Closable, Zoomed, Tracked}
use Rattle.def_iface.specs.WindowNews.{WindowNews}

-- the flags of a window that was told nothing yet
abbrev pub no_flags : Flags
no_flags = record { highlighted = false; go_away = false; zoomed = false; tracked = false }

-- the flags after a change
abbrev pub flags_after : WindowChange → Flags → Flags
flags_after (Highlighted b) f = record f { highlighted = b }
flags_after (Closable b) f = record f { go_away = b }
flags_after (Zoomed b) f = record f { zoomed = b }
flags_after (Tracked b) f = record f { tracked = b }
flags_after (Resized s) f = f
flags_after (Titled t) f = f

-- the title after a change: at most 255 characters are kept
abbrev pub title_after : WindowChange → List ℕ → List ℕ
title_after (Titled t) title = take 255 t.now
title_after _ title = title

-- the change brings no title
abbrev pub keeps_title : WindowChange → Bool
keeps_title (Titled t) = false
keeps_title _ = true

-- the flags once it is told this
abbrev pub flags_in : WindowNews → Flags → Flags
flags_in n f = record {
  highlighted = unwrap_or n.highlighted f.highlighted;
  go_away = unwrap_or n.closable f.go_away;
  zoomed = unwrap_or n.zoomed f.zoomed;
  tracked = unwrap_or n.tracked f.tracked;
}

-- the title then: at most 255 characters are kept
abbrev pub title_in : WindowNews → List ℕ → List ℕ
title_in n title = option_map_or (λ t. take 255 t) n.title title

-- and the size
abbrev pub size_in : WindowNews → Size → Size
size_in n size = unwrap_or n.size size

-- the picture of a definition that keeps all of this, by what it looks like with it in a font
abbrev pub kept_picture : (Flags → List ℕ → Size → List ℕ → PixelSet) → Flags → List ℕ → Size → WindowNews → List ℕ → PixelSet
kept_picture look f title size n = look (flags_in n f) (title_in n title) (size_in n size)

-- and its parts, by those that it has with it
abbrev pub kept_hit : (Flags → Size → Point → Hit) → Flags → Size → WindowNews → Point → Hit
kept_hit part f size n = part (flags_in n f) (size_in n size)
