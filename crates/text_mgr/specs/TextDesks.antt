-- The text records of a desk as plain data, beside its windows, and what they show.
use Rattle.std.specs.Prelude.{◌≡◌, ℕ, false, List, Option, None, Some, slice_get}
use Rattle.std.specs.Option.{option_and_then}
use Rattle.tb_geom.specs.Points.{PixelSet}
use Rattle.desk_layers.specs.declared.part.Part.{Part}
use Rattle.desk_layers.specs.declared.part.Part.TheVariants as part
use Rattle.desk_call.specs.declared.text.TextOf.{TextOf}
use Rattle.text_record.specs.Texts.{Record}
use Rattle.text_paint.specs.Shown.{text_shown}
use Rattle.window_items.specs.declared.item.Item.{Item}
use Rattle.window_items.specs.Items.{item_index}
use Rattle.window_items.specs.Items as items
use Rattle.window_mgr.specs.DeskStates.{DeskState, IsDeskUnchanged}

-- ---- text records

-- a text record, with its serial and its window
abbrev pub KeptText : Type 0
KeptText = Item Record

-- the text records of all windows, the oldest first; the serial of the next one, if one is left; and the bytes of the scrap
pub record TextsState : Type 0 where
  pub texts : List KeptText
  pub next : Option ℕ
  pub scrap : List ℕ

-- where the window's text record of this serial stands, and the record
abbrev pub index_of : TextOf → List KeptText → Option ℕ
index_of t ts = item_index t.window t.text ts

abbrev pub text_of : TextOf → List KeptText → Option KeptText
text_of t ts = option_and_then (slice_get ts) (index_of t ts)

-- the text record of this serial, in whichever window it is
abbrev pub with_serial : ℕ → List KeptText → Option KeptText
with_serial n ts = items.with_serial n ts

-- ---- what they show

-- what a text record shows in a font, in its window's coordinates; where there is none it is white
abbrev pub text_bit : List ℕ → Option KeptText → PixelSet
text_bit font None p = false
text_bit font (Some t) p = text_shown font t.kept p

-- what these text records show in a font, and other layers this
abbrev pub texts_show : (List ℕ → Part → PixelSet) → List KeptText → List ℕ → Part → PixelSet
texts_show others ts font (part.Text n) p = text_bit font (with_serial n ts) p
texts_show others ts font q p = others font q p

-- ---- the desk

-- a desk with its text records
pub record TextDesk : Type 0 where
  pub desk : DeskState
  pub texts : TextsState
  -- what layers that are no text records' show in a font
  pub others : List ℕ → Part → PixelSet

-- its windows show of text records what these show, and of other layers what is said of those
abbrev pub ShowsTexts : TextDesk → Type 0
ShowsTexts d = d.desk.windows.desk.shows ≡ texts_show d.others d.texts.texts d.desk.windows.desk.font

-- nothing changed
pub record IsTextDeskUnchanged (before after : TextDesk) : Type 0 where
  pub desk : IsDeskUnchanged before.desk after.desk
  pub texts : after.texts ≡ before.texts
  pub others : after.others ≡ before.others
