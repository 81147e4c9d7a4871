-- Lemmas on the items of a desk. `WindowLemmas` says what each change makes of the items of one window, `SerialLemmas` what of
-- the item that a serial names; `SeenLemmas` is for who sees what is kept of items as something else.
pub mod EditLemmas
pub mod LawLemmas
pub mod LentLemmas
pub mod ListLemmas
pub mod SeenLemmas
pub mod SerialLemmas
pub mod WindowLemmas
pub mod YoungestLemmas
