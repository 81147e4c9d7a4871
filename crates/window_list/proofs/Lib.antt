-- Lemmas on values in an order of their own and on windows; then on layers: their parts, what each owns, what a change gives to
-- others, and where they may be moved.
pub mod RanksLemmas
pub mod ListLemmas
pub mod NumberLemmas
pub mod ChangeLemmas
pub mod ClassLemmas
pub mod Parts
pub mod Found
pub mod Owned
pub mod Gains
pub mod Moved
