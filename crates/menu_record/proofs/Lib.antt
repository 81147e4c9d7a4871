-- Lemmas on what a text says, and on an item that is changed.
pub mod Pieces
pub mod Words
pub mod Edits
pub mod LawLemmas
