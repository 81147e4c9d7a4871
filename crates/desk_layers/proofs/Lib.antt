-- Lemmas on owners, on painting from nothing, and on changes.
pub mod Painting
pub mod Owning
pub mod Changing
