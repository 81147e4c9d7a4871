-- A window's definition, told of a change that leaves its size, and the window's frame, drawn where it shows.
use Rattle.std.specs.Prelude.{◌≡◌, ℕ, Some}
use Rattle.def_iface.specs.WindowNews.{WindowNews}
use Rattle.def_iface.specs.declared.window_def.WindowChange.{WindowChange}
use Rattle.def_iface.specs.declared.window_def.WindowChange.TheVariants.{Resized, Titled, Highlighted, Closable, Zoomed, Tracked}
use Rattle.def_iface.specs.WindowMeaning.{WindowDefinition}
use Rattle.desk_layers.specs.Change.{no_change, IsChanged}
use Rattle.vis_update.specs.Records.{WindowRecord}
use Rattle.window_mgr.specs.Arrange.{changed}
use Rattle.window_mgr.specs.Effects.{IsToldSize}
use Rattle.window_mgr.specs.Finding.{record_with}
use Rattle.window_mgr.specs.FullDesk.{FullState, layered_state}

-- the window's record after its definition was told so: it keeps that, and the title, the highlighting and the go-away box
-- are the window's own too
abbrev pub notified_record : WindowChange → WindowRecord → WindowRecord
notified_record (Titled t) w = record w { title = t.now }
notified_record (Highlighted b) w = record w { highlighted = b; heard = record w.heard { highlighted = b } }
notified_record (Closable b) w = record w { go_away = b }
notified_record (Zoomed b) w = record w { heard = record w.heard { zoomed = b } }
notified_record (Tracked b) w = record w { heard = record w.heard { tracked = b } }
notified_record (Resized s) w = w

-- the definition of the window of this serial was told something: it is live, and its size and its regions are as before.
-- The window's record keeps this of it. Where the window's frame shows, it is drawn as it is now; no other pixel changed.
pub record IsFrameNotified (s : ℕ) (news : WindowRecord → WindowNews → WindowNews) (kept : WindowRecord → WindowRecord) (before after : FullState) : Type 0 where
  pub window : WindowRecord
  pub definition : WindowDefinition
  pub found : record_with s before.desk.windows ≡ Some window
  pub told : IsToldSize window.size (news window) window.definition definition
  pub desk : after.desk
      ≡ record before.desk { windows = changed s (λ w. record (kept w) { definition = definition }) before.desk.windows }
  pub pixels : IsChanged no_change (layered_state before) (layered_state after)
