-- The standard controls in code: what they are, and what they keep of what they are told.
use Rattle.std.specs.Prelude.{ℕ, ℤ, List, Option}
use Rattle.tb_geom.specs.declared.point.Point.{Point}
use Rattle.tb_geom.specs.Points.{PixelSet}
use Rattle.control_values.specs.declared.part.ControlPart.{ControlPart}
use Rattle.def_iface.specs.declared.window_def.Stage.{Stage}
use Rattle.def_iface.specs.declared.window_def.Stage.TheVariants.{Fresh}
use Rattle.def_iface.specs.declared.control_def.ControlChange.{ControlChange}
use Rattle.def_iface.specs.declared.control_keeping.KeptControl.{KeptControl}
use Rattle.def_iface.specs.ControlMeaning.{ControlDefinition}
use Rattle.def_iface.specs.ControlKeeping.{nothing_kept, kept_after}
use Rattle.std_cdef.specs.declared.button.ButtonLook.{ButtonLook}
use Rattle.std_cdef.specs.declared.check.Variation.{Variation}
use Rattle.std_cdef.specs.declared.control.StdControl.{StdControl}
use Rattle.std_cdef.specs.declared.default_button.DefaultButtonLook.{DefaultButtonLook}
use Rattle.std_cdef.specs.declared.icon.IconLook.{IconLook}
use Rattle.std_cdef.specs.declared.round_button.RoundButtonLook.{RoundButtonLook}
use Rattle.std_cdef.specs.declared.scroll.ScrollLook.{ScrollLook}
use Rattle.std_cdef.specs.Controls.{std_control, same_value, button_seen, button_part, button_damaged, box_seen, box_part, box_damaged}
use Rattle.std_cdef.specs.Controls.{round_button_seen, round_button_damaged}
use Rattle.std_cdef.specs.Controls.{default_button_seen, default_button_part, default_button_damaged}
use Rattle.std_cdef.specs.Controls.{scroll_seen, scroll_part, scrolled_value, scroll_damaged}
use Rattle.std_cdef.specs.Icons.{icon_seen, icon_part, icon_damaged}

module _ {L : Type 0} where
  -- what one is, by what it looks like, its parts, where a dragged thumb leads, and how much of it is drawn anew
  abbrev pub std_meaning : (L → KeptControl → List ℕ → PixelSet) → (L → KeptControl → Point → Option ControlPart)
      → (L → KeptControl → Point → Point → ℤ) → (L → KeptControl → KeptControl → PixelSet) → StdControl L → ControlDefinition
  std_meaning seen part value damaged b = std_control (seen b.look) (part b.look) (value b.look) (damaged b.look) b.stage b.kept

  -- one that was told nothing yet
  abbrev pub fresh_std : L → StdControl L
  fresh_std look = record { look = look; stage = Fresh; kept = nothing_kept }

  -- one that was told of a change
  abbrev pub told_std : ControlChange → StdControl L → StdControl L
  told_std change b = record b { kept = kept_after change b.kept }

  -- one at another stage
  abbrev pub std_at : Stage → StdControl L → StdControl L
  std_at stage b = record b { stage = stage }

-- what buttons, those with rounded corners, default buttons, icons, check boxes and radio buttons, and scroll bars are
abbrev pub button_meaning : StdControl ButtonLook → ControlDefinition
button_meaning = std_meaning (λ _. button_seen) (λ _. button_part) (λ _. same_value) (λ _. button_damaged)

abbrev pub round_button_meaning : StdControl RoundButtonLook → ControlDefinition
round_button_meaning = std_meaning (λ _. round_button_seen) (λ _. button_part) (λ _. same_value) (λ _. round_button_damaged)

abbrev pub default_button_meaning : StdControl DefaultButtonLook → ControlDefinition
default_button_meaning = std_meaning (λ _. default_button_seen) (λ _. default_button_part) (λ _. same_value) (λ _. default_button_damaged)

abbrev pub icon_meaning : StdControl IconLook → ControlDefinition
icon_meaning = std_meaning (λ _. icon_seen) (λ _. icon_part) (λ _. same_value) (λ _. icon_damaged)

abbrev pub check_meaning : StdControl Variation → ControlDefinition
check_meaning = std_meaning box_seen (λ _. box_part) (λ _. same_value) box_damaged

abbrev pub scroll_meaning : StdControl ScrollLook → ControlDefinition
scroll_meaning = std_meaning (λ _. scroll_seen) (λ _. scroll_part) (λ _. scrolled_value) (λ _. scroll_damaged)

-- those that were told nothing yet
abbrev pub fresh_button : StdControl ButtonLook
fresh_button = record { look = record {}; stage = Fresh; kept = nothing_kept }

abbrev pub fresh_round_button : StdControl RoundButtonLook
fresh_round_button = record { look = record {}; stage = Fresh; kept = nothing_kept }

abbrev pub fresh_default_button : StdControl DefaultButtonLook
fresh_default_button = record { look = record {}; stage = Fresh; kept = nothing_kept }

abbrev pub fresh_icon : StdControl IconLook
fresh_icon = record { look = record {}; stage = Fresh; kept = nothing_kept }

abbrev pub fresh_check : Variation → StdControl Variation
fresh_check variation = fresh_std variation

abbrev pub fresh_scroll : StdControl ScrollLook
fresh_scroll = record { look = record {}; stage = Fresh; kept = nothing_kept }
