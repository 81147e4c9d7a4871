-- The damage of a control that is told something, and what its window shows where no more than that is drawn.
use Rattle.std.specs.Prelude.{◌≡◌, ℕ, true, false, List, Some, IfSome, slice_get}
use Rattle.tb_geom.specs.declared.point.Point.{Point}
use Rattle.tb_geom.specs.declared.rect.Rect.{Rect}
use Rattle.tb_geom.specs.Points.{minus}
use Rattle.tb_geom.specs.Rects.{is_in_range, moved_rect, rect_holds}
use Rattle.control_values.specs.Settings.{Setting}
use Rattle.def_iface.specs.ControlMeaning.{ControlDefinition}
use Rattle.def_iface.specs.ControlNews.{AllControlNews, no_control_news, size_news, title_news, setting_news, highlight_news}
use Rattle.def_iface.specs.WindowMeaning.{IsWithin}
use Rattle.desk_call.specs.declared.control.ControlOf.{ControlOf}
use Rattle.window_mgr.specs.FullDesk.{IsRightState}
use Rattle.control_mgr.specs.ControlDesks.{ControlDesk, ControlRecord, control_bit, news_of_control}
use Rattle.control_mgr.specs.ControlSteps.{IsChangedTo, IsSettingPut, IsShownAnew}

-- of its own pixels, those outside of this rectangle of its window show what the control showed, where its region lies in the range
-- of coordinates
abbrev pub IsDamageOf : Rect → ControlRecord → ControlRecord → Type 0
IsDamageOf damage before after = is_in_range (moved_rect (before.kept.definition.definition.bounds before.kept.size) before.kept.place.h before.kept.place.v) ≡ true
    → (font : List ℕ) (p : Point)
    → before.kept.definition.definition.region before.kept.size (minus p before.kept.place) ≡ true → rect_holds damage p ≡ false
    → control_bit font (Some after) p ≡ control_bit font (Some before) p

-- so of the control at this place
abbrev pub IsDamageAt : Rect → ℕ → List ControlRecord → List ControlRecord → Type 0
IsDamageAt damage at before after = IfSome (slice_get before at) (λ c. IfSome (slice_get after at) (λ d. IsDamageOf damage c d))

-- the rectangle has each pixel that the damages may have which a definition answers that is told all of this, one thing after
-- another
pub record HoldsDamages (all : AllControlNews) (d : ControlDefinition) (r : Rect) : Type 0 where
  pub size : IsWithin (d.damage no_control_news (size_news all.size)) (rect_holds r)
  pub title : IsWithin (d.damage (size_news all.size) (title_news all.title)) (rect_holds r)
  pub setting : IsWithin (d.damage (record (size_news all.size) { title = Some all.title }) (setting_news all.setting)) (rect_holds r)
  pub highlight : IsWithin (d.damage (record (size_news all.size) { title = Some all.title; setting = Some all.setting }) (highlight_news all.highlight)) (rect_holds r)

-- each such rectangle of a control that is told all of itself has, at the control's place, all pixels of this one of its window
abbrev pub IsAnswerOf : Rect → ControlRecord → Type 0
IsAnswerOf damage c = (r : Rect) → HoldsDamages (news_of_control c) c.kept.definition.definition r
    → IsWithin (rect_holds damage) (λ p. rect_holds r (minus p c.kept.place))

-- the step was made, where the screen was right before
abbrev pub IsWhereRight : (ControlDesk → ControlDesk → Type 0) → ControlDesk → ControlDesk → Type 0
IsWhereRight step before after = IsRightState before.desk.windows → step before after

-- the windows are those that there were
abbrev pub AreSameWindows : ControlDesk → ControlDesk → Type 0
AreSameWindows before after = after.desk.windows.desk.windows ≡ before.desk.windows.desk.windows

-- the control was changed so, and shown anew where the screen was right; its window is as it was
pub record IsPut (c : ControlOf) (f : ControlRecord → ControlRecord) (before after : ControlDesk) : Type 0 where
  pub changed : IsChangedTo c f before after
  pub windows : AreSameWindows before after
  pub shown : IsWhereRight (IsShownAnew c f) before after

-- the control got this setting, if it is there; its window is as it was
pub record IsSettingGiven (c : ControlOf) (setting : Setting) (before after : ControlDesk) : Type 0 where
  pub windows : AreSameWindows before after
  pub put : IsWhereRight (IsSettingPut c setting) before after
