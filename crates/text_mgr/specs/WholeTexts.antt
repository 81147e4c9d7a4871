-- What holds of the text records of a desk between calls, and their state as plain data.
use Rattle.std.specs.Prelude.{◌≡◌, ◌≤◌, ℕ, true, false, List, [], length, All, Some}
use Rattle.tb_geom.specs.Points.{PixelSet}
use Rattle.tb_geom.specs.Rects.{is_in_range}
use Rattle.desk_layers.specs.declared.part.Part.{Part}
use Rattle.def_iface.specs.Slots.{TakenBox}
use Rattle.def_iface.specs.WindowMeaning.{WindowLoan}
use Rattle.def_iface.specs.WindowSlots.{WindowSlot}
use Rattle.desk_call.specs.declared.activity.Activity.{Activity}
use Rattle.desk_call.specs.declared.activity.Activity.TheVariants.{Selecting}
use Rattle.text_record.specs.Placings.{box_of}
use Rattle.window_items.specs.Items.{AreApart, are_before, count_of, items_of}
use Rattle.vis_update.specs.Records.{WindowRecord}
use Rattle.window_mgr.specs.declared.manager.WindowManager.{WindowManager}
use Rattle.window_mgr.specs.DeskStates.{Opened, desk_with}
use Rattle.window_mgr.specs.Records.{desk_of, state_of, state_showing}
use Rattle.window_mgr.specs.Refused.{is_missing}
use Rattle.window_mgr.specs.Whole.{IsWholeManager}
use Rattle.text_mgr.specs.declared.texts.Texts.{Texts}
use Rattle.text_mgr.specs.TextDesks.{KeptText, TextDesk, TextsState, text_of, texts_show}
use Rattle.text_mgr.specs.TextLayers.{AreTextLayersOf}
use Rattle.text_mgr.specs.TextRefusals.{most_texts}

-- the box of each lies in the range of coordinates
abbrev pub AreBoxesInRange : List KeptText → Type 0
AreBoxesInRange ts = All (λ t. is_in_range (box_of t.kept.framed t.kept.view) ≡ true) ts

-- the text records of these windows, between calls: each of another serial that was given before, in a window that is there, with
-- a box in the range of coordinates, and no window has more than it may have; the layers of each window that are text records'
-- are those of its own
pub record AreWholeTexts (windows : List WindowRecord) (s : TextsState) : Type 0 where
  pub boxes : AreBoxesInRange s.texts
  pub apart : AreApart s.texts
  pub given : are_before s.next s.texts ≡ true
  pub somewhere : All (λ t. is_missing t.window windows ≡ false) s.texts
  pub few : (window : ℕ) → count_of window s.texts ≤ most_texts
  pub joined : All (λ w. AreTextLayersOf (items_of w.serial s.texts) w.layers) windows

-- the text record in which the mouse selects, if it does, is there, and has the bytes that stay selected
abbrev pub IsSelectable : Activity → List KeptText → Type 0
IsSelectable (Selecting k) ts = (t : KeptText) × (text_of k.text ts ≡ Some t)
    × (k.anchor.start ≤ k.anchor.end) × (k.anchor.end ≤ length t.kept.text.bytes)
IsSelectable _ ts = Unit {0}

-- the text records as plain data
abbrev pub texts_state : Texts → TextsState
texts_state m = record { texts = m.list.items.items; next = m.list.next; scrap = m.scrap }

-- `loan` says what a window's definition that was taken means
module _ {V : Type 0} {H : V → Type 0} (loan : TakenBox V H → WindowLoan) where
  -- windows and text records with what is open, as a desk where other layers show this
  abbrev pub text_desk : (List ℕ → Part → PixelSet) → WindowManager V H → Opened → List WindowSlot → Texts → TextDesk
  text_desk others t o slots m = record {
    desk = desk_with o (state_showing (texts_show others m.list.items.items) (state_of loan t slots));
    texts = texts_state m;
    others = others;
  }

  -- the text records are whole beside these windows
  abbrev pub AreBeside : WindowManager V H → Texts → Type 0
  AreBeside t m = AreWholeTexts (desk_of loan t []).windows (texts_state m)

  -- whatever other layers show, over any slots over which the windows are whole, windows and text records are whole afterwards,
  -- and together they are one step of the desk
  abbrev pub LeavesTexts : (TextDesk → TextDesk → Type 0) → WindowManager V H → Opened → Texts → WindowManager V H → Opened → Texts → Type 0
  LeavesTexts step old before m new after n = (others : List ℕ → Part → PixelSet) (slots : List WindowSlot)
      → IsWholeManager loan old slots → AreBeside old m
      → IsWholeManager loan new slots × AreBeside new n
      × step (text_desk others old before slots m) (text_desk others new after slots n)
