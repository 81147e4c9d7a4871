-- What the contracts speak of: where a text stands, and the record of it.
pub mod Placings
pub mod Texts
pub mod Places
pub mod Changes
pub mod Showing
