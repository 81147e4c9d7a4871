-- What holds of each control of a desk between calls.
use Rattle.std.specs.Prelude.{◌≡◌, pos, true, List, All}
use Rattle.tb_geom.specs.Rects.{in_plane, is_in_range, moved_rect}
use Rattle.control_values.specs.Highlights.{is_highlight}
use Rattle.control_values.specs.Settings as settings
use Rattle.def_iface.specs.declared.window_def.Stage.TheVariants.{Live}
use Rattle.def_iface.specs.ControlMeaning.{ControlGoesBy, is_fitting_control}
use Rattle.control_mgr.specs.ControlDesks.{ControlRecord, news_of_control}

-- a control may have this setting: its value lies between its minimum and its maximum, and these lie in -32768..32767
pub record MayHaveSetting (s : settings.Setting) : Type 0 where
  pub within : settings.IsSettled s
  pub lowest : settings.is_in_range s.minimum ≡ true
  pub highest : settings.is_in_range s.maximum ≡ true

-- the control's definition is live, and was told the control's size, which fits it; its place is a point, and its region lies in
-- the range of coordinates there; the definition goes by what the record says that it was told; and the setting
-- and the highlighting are such that a control may have
pub record IsSettledControl (c : ControlRecord) : Type 0 where
  pub placed : in_plane c.kept.place ≡ true
  pub live : c.kept.definition.definition.stage ≡ Live
  pub told : c.kept.definition.definition.size ≡ c.kept.size
  pub fits : is_fitting_control c.kept.definition.definition c.kept.size ≡ true
  pub inside : is_in_range (moved_rect (c.kept.definition.definition.bounds c.kept.size) c.kept.place.h c.kept.place.v) ≡ true
  pub goes_by : ControlGoesBy (news_of_control c) c.kept.definition.definition
  pub setting : MayHaveSetting c.kept.values
  pub highlight : is_highlight (pos c.kept.highlight) ≡ true

abbrev pub AreSettled : List ControlRecord → Type 0
AreSettled cs = All IsSettledControl cs
