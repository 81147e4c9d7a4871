-- What of a text record may show otherwise once it is edited, and drawing that alone.
use Rattle.std.specs.Prelude.{◌≡◌, ℕ, List, ◌<ℤ◌}
use Rattle.tb_geom.specs.declared.point.Point.{Point}
use Rattle.tb_geom.specs.Points.{PixelSet}
use Rattle.desk_layers.specs.declared.part.Part.{Part}
use Rattle.desk_layers.specs.declared.part.Part.TheVariants as part
use Rattle.def_iface.specs.Slots.{TakenBox}
use Rattle.def_iface.specs.WindowMeaning.{WindowLoan}
use Rattle.def_iface.specs.WindowSlots.{WindowSlot}
use Rattle.desk_call.specs.declared.text.TextOf.{TextOf}
use Rattle.text_record.specs.Texts.{Record}
use Rattle.text_paint.specs.Selected.{reselected}
use Rattle.text_paint.specs.Shown.{text_shown}
use Rattle.window_mgr.specs.declared.manager.WindowManager.{WindowManager}
use Rattle.window_mgr.specs.Records.{state_of, state_showing}
use Rattle.window_mgr.specs.Whole.{IsWholeManager}
use Rattle.window_paint.specs.White.{all_white}
use Rattle.text_mgr.specs.declared.changes.Change.{Change}
use Rattle.text_mgr.specs.declared.changes.Change.TheVariants.{All, From, Selected}
use Rattle.text_mgr.specs.declared.texts.Texts.{Texts}
use Rattle.text_mgr.specs.Showing.{IsDrawnAnew}
use Rattle.text_mgr.specs.TextDesks.{texts_show}

-- the record shows in the font what it showed before, but for this
unfoldable pub IsShownSo : Change → List ℕ → (before after : Record) → Type 0
IsShownSo All font r u = Unit {0}
IsShownSo (From row) font r u = (p : Point) → p.v <ℤ row → text_shown font u p ≡ text_shown font r p
IsShownSo (Selected selection) font r u = r ≡ reselected selection u

module _ {V : Type 0} {H : V → Type 0} (loan : TakenBox V H → WindowLoan) where
  -- where its window showed of the text record what this one shows, it was drawn where it is not to be redrawn
  abbrev pub DrawsChanged : TextOf → Record → WindowManager V H → WindowManager V H → Texts → Type 0
  DrawsChanged t old before after m = (was : List ℕ → Part → PixelSet) (slots : List WindowSlot) → IsWholeManager loan before slots
      → ((p : Point) → was before.font (part.Text t.text) p ≡ text_shown before.font old p)
      → IsWholeManager loan after slots
      × IsDrawnAnew t (state_showing was (state_of loan before slots)) (state_showing (texts_show (λ font. all_white) m.list.items.items) (state_of loan after slots))
