mod NameLemmas
pub mod NamedLemmas
mod VerbLemmas
