-- How a screen without windows is painted, and lemmas on the menu bar.
pub mod GroundLemmas
pub mod BarLemmas
pub mod TitleLemmas
