-- What the contracts speak of: what the screen shows while a menu is pulled down, where that menu lies, and what the screen
-- shows while an outline is shown.
pub mod Overlays
pub mod Places
pub mod Outlines
