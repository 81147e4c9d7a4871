-- Lemmas on lines that are moved, on what is read of a window, on what calls about outlines answer whatever controls and lists
-- show, and on the map in front.
pub mod LineMoves
pub mod WayNumbers
pub mod WindowsRead
pub mod OutlinesShowing
pub mod OutlinesShown
