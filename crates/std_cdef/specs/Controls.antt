-- The standard controls as definitions.
use Rattle.std.specs.Prelude.{ℕ, ℤ, true, if◌then◌else◌, List, Option}
use Rattle.std.specs.Str.{bytes_eq}
use Rattle.tb_geom.specs.declared.point.Point.{Point}
use Rattle.tb_geom.specs.Points.{PixelSet}
use Rattle.tb_geom.specs.Rects.{rect_holds}
use Rattle.control_values.specs.declared.part.ControlPart.{ControlPart}
use Rattle.control_values.specs.declared.part.ControlPart.TheVariants.{Button, CheckBox}
use Rattle.def_iface.specs.declared.window_def.Stage.{Stage}
use Rattle.def_iface.specs.declared.control_keeping.KeptControl.{KeptControl}
use Rattle.def_iface.specs.Sizes.{rect_of}
use Rattle.def_iface.specs.ControlMeaning.{ControlDefinition, is_control_size}
use Rattle.def_iface.specs.ControlKeeping.{kept_control_picture, kept_control_hit, kept_thumb_value, kept_control_damage}
use Rattle.looks.specs.declared.step.Step.{Step}
use Rattle.looks.specs.Damages.{look_damage}
use Rattle.looks.specs.Letters.{lettering}
use Rattle.looks.specs.Marks.{look_bit}
use Rattle.std_cdef.specs.declared.check.Variation.{Variation}
use Rattle.std_cdef.specs.Thumbs.{thumb_value}
use Rattle.std_cdef.specs.Looks.{button_look, default_button_look, round_button_look, box_look, scroll_look}
use Rattle.std_cdef.specs.Hits.{whole_hit, inset_hit, scroll_hit}

-- a control whose region is its rectangle, by what it looks like, its parts, where a dragged thumb leads, and how much of it is drawn
-- anew
abbrev pub std_control : (KeptControl → List ℕ → PixelSet) → (KeptControl → Point → Option ControlPart) → (KeptControl → Point → Point → ℤ)
    → (KeptControl → KeptControl → PixelSet) → Stage → KeptControl → ControlDefinition
std_control look part value damaged stage k = record {
  stage = stage;
  size = k.size;
  region = λ s. rect_holds (rect_of s);
  bounds = rect_of;
  picture = kept_control_picture look k;
  hit = kept_control_hit part k;
  thumb_value = kept_thumb_value value k;
  damage = kept_control_damage damaged k;
}

-- the pixels that the damage may have of a control of this look: once it has a size, those around what the steps can draw on that do
-- not draw alike
abbrev pub looked_damaged : (KeptControl → List Step) → (old new : KeptControl) → PixelSet
looked_damaged look old new p =
    if is_control_size old.size then rect_holds (look_damage (bytes_eq old.title new.title) (look old) (look new)) p else true

-- a control without a thumb keeps its value
abbrev pub same_value : KeptControl → Point → Point → ℤ
same_value k from to = k.values.value

abbrev pub button_seen : KeptControl → List ℕ → PixelSet
button_seen k font = look_bit (lettering font k.title) (button_look k.size k.highlight)

abbrev pub button_part : KeptControl → Point → Option ControlPart
button_part k = whole_hit Button k.size

abbrev pub button_damaged : (old new : KeptControl) → PixelSet
button_damaged = looked_damaged (λ k. button_look k.size k.highlight)

abbrev pub round_button_seen : KeptControl → List ℕ → PixelSet
round_button_seen k font = look_bit (lettering font k.title) (round_button_look k.size k.highlight)

abbrev pub round_button_damaged : (old new : KeptControl) → PixelSet
round_button_damaged = looked_damaged (λ k. round_button_look k.size k.highlight)

abbrev pub default_button_seen : KeptControl → List ℕ → PixelSet
default_button_seen k font = look_bit (lettering font k.title) (default_button_look k.size k.highlight)

abbrev pub default_button_part : KeptControl → Point → Option ControlPart
default_button_part k = inset_hit 4 Button k.size

abbrev pub default_button_damaged : (old new : KeptControl) → PixelSet
default_button_damaged = looked_damaged (λ k. default_button_look k.size k.highlight)

abbrev pub box_seen : Variation → KeptControl → List ℕ → PixelSet
box_seen kind k font = look_bit (lettering font k.title) (box_look kind k.size k.values k.highlight)

abbrev pub box_part : KeptControl → Point → Option ControlPart
box_part k = whole_hit CheckBox k.size

abbrev pub box_damaged : Variation → (old new : KeptControl) → PixelSet
box_damaged kind = looked_damaged (λ k. box_look kind k.size k.values k.highlight)

-- a scroll bar shows no title
abbrev pub scroll_seen : KeptControl → List ℕ → PixelSet
scroll_seen k font = look_bit (lettering font k.title) (scroll_look k.size k.values k.highlight)

abbrev pub scroll_part : KeptControl → Point → Option ControlPart
scroll_part k = scroll_hit k.size k.values k.highlight

abbrev pub scrolled_value : KeptControl → Point → Point → ℤ
scrolled_value k = thumb_value k.size k.values k.highlight

abbrev pub scroll_damaged : (old new : KeptControl) → PixelSet
scroll_damaged = looked_damaged (λ k. scroll_look k.size k.values k.highlight)
