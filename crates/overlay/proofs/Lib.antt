-- Lemmas on a menu that is pulled down, and on an outline that is shown.
pub mod BaseLemmas
pub mod LineLemmas
pub mod OutlineLemmas
pub mod PlaceLemmas
pub mod ShownLemmas
