-- The controls of a desk as plain data, beside its windows, and what they show.
use Rattle.std.specs.Prelude.{◌≡◌, ℕ, false, List, Option, None, Some, slice_get}
use Rattle.std.specs.Option.{option_and_then}
use Rattle.tb_geom.specs.Points.{PixelSet, minus}
use Rattle.desk_layers.specs.declared.part.Part.{Part}
use Rattle.desk_layers.specs.declared.part.Part.TheVariants as part
use Rattle.def_iface.specs.ControlMeaning.{ControlDefinition, ControlLoan}
use Rattle.def_iface.specs.ControlNews.{AllControlNews, no_control_news}
use Rattle.def_iface.specs.Slots.{SlotOf}
use Rattle.window_items.specs.declared.item.Item.{Item}
use Rattle.control_mgr.specs.declared.control.Control.{Control}
use Rattle.window_items.specs.Items.{item_index}
use Rattle.window_items.specs.Items as items
use Rattle.desk_call.specs.declared.control.ControlOf.{ControlOf}
use Rattle.window_mgr.specs.DeskStates.{DeskState, IsDeskUnchanged}

-- ---- controls

-- a control, and its definition with the number of its slot
abbrev pub ControlRecord : Type 0
ControlRecord = Item (Control ControlLoan)

-- the slots of the controls' definitions, as the stock holds them
abbrev pub ControlSlot : Type 0
ControlSlot = SlotOf ControlDefinition

-- the controls of all windows, the oldest first; the serial of the next one, if one is left; and what the stock holds for
-- controls
pub record ControlsState : Type 0 where
  pub controls : List ControlRecord
  pub next : Option ℕ
  pub stock : List ControlSlot

-- all that a control's definition is told of it
abbrev pub news_of_control : ControlRecord → AllControlNews
news_of_control c = record { size = c.kept.size; title = c.kept.title; setting = c.kept.values; highlight = c.kept.highlight }

-- where the window's control of this serial stands, and the control
abbrev pub index_of : ControlOf → List ControlRecord → Option ℕ
index_of c cs = item_index c.window c.control cs

abbrev pub control_of : ControlOf → List ControlRecord → Option ControlRecord
control_of c cs = option_and_then (slice_get cs) (index_of c cs)

-- the control of this serial, in whichever window it is
abbrev pub with_serial : ℕ → List ControlRecord → Option ControlRecord
with_serial n cs = items.with_serial n cs

-- ---- what they show

-- the picture of a control in a font, in its window's coordinates; where there is none it is white
abbrev pub control_bit : List ℕ → Option ControlRecord → PixelSet
control_bit font None p = false
control_bit font (Some c) p = c.kept.definition.definition.picture no_control_news font (minus p c.kept.place)

-- what these controls show in a font, and other layers this
abbrev pub controls_show : (List ℕ → Part → PixelSet) → List ControlRecord → List ℕ → Part → PixelSet
controls_show others cs font (part.Control n) p = control_bit font (with_serial n cs) p
controls_show others cs font q p = others font q p

-- ---- the desk

-- a desk with its controls
pub record ControlDesk : Type 0 where
  pub desk : DeskState
  pub controls : ControlsState
  -- what layers that are no controls' show in a font
  pub others : List ℕ → Part → PixelSet

-- its windows show of controls what these show, and of other layers what is said of those
abbrev pub ShowsControls : ControlDesk → Type 0
ShowsControls d = d.desk.windows.desk.shows ≡ controls_show d.others d.controls.controls d.desk.windows.desk.font

-- nothing changed
pub record IsControlDeskUnchanged (before after : ControlDesk) : Type 0 where
  pub desk : IsDeskUnchanged before.desk after.desk
  pub controls : after.controls ≡ before.controls
  pub others : after.others ≡ before.others
