pub mod TextVerbs
pub mod TextWords
