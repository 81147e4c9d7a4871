-- The standard windows as definitions.
use Rattle.std.specs.Prelude.{ℕ, Bool, true, List, if◌then◌else◌, is_none}
use Rattle.tb_geom.specs.Points.{PixelSet}
use Rattle.tb_geom.specs.Rects.{rect_holds}
use Rattle.def_iface.specs.declared.size.Size.{Size}
use Rattle.def_iface.specs.declared.window_def.Stage.{Stage}
use Rattle.def_iface.specs.WindowMeaning.{WindowDefinition}
use Rattle.def_iface.specs.Sizes.{is_size}
use Rattle.looks.specs.Areas.{area_holds}
use Rattle.looks.specs.Damages.{look_damage}
use Rattle.looks.specs.Letters.{lettering}
use Rattle.looks.specs.Marks.{look_bit}
use Rattle.std_wdef.specs.declared.kind.Variation.{Variation}
use Rattle.std_wdef.specs.declared.kind.Shown.{Shown}
use Rattle.def_iface.specs.declared.keeping.Flags.{Flags}
use Rattle.def_iface.specs.WindowKeeping.{flags_in, title_in, size_in}
use Rattle.std_wdef.specs.Kinds.{is_titled}
use Rattle.std_wdef.specs.Looks.{look_of}
use Rattle.std_wdef.specs.Areas.{structure_of, content_of, structure_box}
use Rattle.std_wdef.specs.Lines.{grow_lines}
use Rattle.std_wdef.specs.Hits.{std_hit}

-- what a window shows with this, beside the characters of its title
abbrev pub shown : Flags → List ℕ → Size → Shown
shown f title size = record { flags = f; titled = is_titled title; size = size }

-- the pixels that the damage may have of a window that shows something else: once it has a size, those around what the steps of its
-- look can draw on that do not draw alike
abbrev pub shown_damage : Variation → (same_title : Bool) → (old new : Shown) → PixelSet
shown_damage v same_title old new p =
    if is_size old.size
    then rect_holds (look_damage same_title (look_of v old.flags old.titled old.size) (look_of v new.flags new.titled new.size)) p
    else true

-- a standard window's definition as a value
abbrev pub std_window : Variation → Stage → Flags → List ℕ → Size → WindowDefinition
std_window v stage f title size = record {
  stage = stage;
  size = size;
  structure = λ s. area_holds (structure_of v s);
  content = λ s. area_holds (content_of v s);
  bounds = structure_box v;
  grow_lines = grow_lines v;
  picture = λ n font. look_bit (lettering font (title_in n title)) (look_of v (flags_in n f) (is_titled (title_in n title)) (size_in n size));
  hit = λ n. std_hit v (flags_in n f) (size_in n size);
  damage = λ n. shown_damage v (is_none n.title) (shown f title size) (shown (flags_in n f) (title_in n title) (size_in n size));
}
