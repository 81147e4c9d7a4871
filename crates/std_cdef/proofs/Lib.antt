-- Lemmas on what controls are told, on their rectangles, and on the numbers of thumbs.
pub mod Hearing
pub mod IconLemmas
pub mod RegionFacts
pub mod ThumbLemmas
pub mod DragLemmas
