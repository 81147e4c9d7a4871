-- Lemmas on the areas of a hollow window and of a ring, on what they are told, and on what a strip and a gauge show.
pub mod HoleFacts
pub mod RingFacts
pub mod Hearing
pub mod StripLemmas
pub mod GaugeLemmas
