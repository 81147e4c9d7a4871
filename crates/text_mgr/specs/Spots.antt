-- Where a text record stands, as the code keeps it.
use Rattle.std.specs.Prelude.{◌≡◌, ◌<◌, false, [], length, Some}
use Rattle.tb_geom.specs.Points.{PixelSet}
use Rattle.def_iface.specs.Slots.{TakenBox}
use Rattle.def_iface.specs.WindowMeaning.{WindowLoan}
use Rattle.desk_call.specs.declared.activity.Activity.{Activity}
use Rattle.desk_call.specs.declared.text.TextOf.{TextOf}
use Rattle.window_mgr.specs.declared.manager.WindowManager.{WindowManager}
use Rattle.window_mgr.specs.DeskStates.{Opened}
use Rattle.window_mgr.specs.Edits.{StandsAt}
use Rattle.window_mgr.specs.Records.{desk_of}
use Rattle.window_mgr.specs.Refused.{is_missing}
use Rattle.text_mgr.specs.declared.spots.TextAt.{TextAt}
use Rattle.text_mgr.specs.declared.texts.Texts.{Texts}
use Rattle.text_mgr.specs.TextDesks.{index_of}

-- this is open, and this was to be redrawn when it began
abbrev pub opened : Activity → PixelSet → Opened
opened activity begun = record { activity = activity; begun = begun }

module _ {V : Type 0} {H : V → Type 0} (loan : TakenBox V H → WindowLoan) where
  -- the text record stands here, and its window
  pub record IsSpotOf (x : TextOf) (t : WindowManager V H) (m : Texts) (s : TextAt) : Type 0 where
    pub window : StandsAt t.windows.records.items x.window s.window
    pub there : is_missing x.window (desk_of loan t []).windows ≡ false
    pub text : index_of x m.list.items.items ≡ Some s.text
    pub low : s.text < length m.list.items.items

  -- some text record stands here, and its window
  pub record IsSpot (t : WindowManager V H) (m : Texts) (s : TextAt) : Type 0 where
    pub of : TextOf
    pub is : IsSpotOf of t m s
