-- Lemmas on the rows of a menu and the cells of a list.
pub mod RowLemmas
pub mod BandLemmas
pub mod ChosenLemmas
pub mod IdleLemmas
pub mod CellLemmas
