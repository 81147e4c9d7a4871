pub mod DialogVerbs
pub mod DialogWords
