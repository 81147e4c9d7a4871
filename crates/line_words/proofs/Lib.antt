mod HexLaws
mod HexLemmas
mod HexOut
pub mod Mapped
mod NumberLaws
pub mod Spelled
pub mod TableLemmas
pub mod WordLemmas
