-- Lemmas on layers that are changed.
pub mod Changed
