-- What the contracts speak of: which screens there may be, and a screen without windows; then the titles in a menu bar, its
-- picture, and the title that a point is on.
pub mod Screens
pub mod Grounds
pub mod Bars
