-- What the contracts speak of: what a text record shows, and what another selection inverts of it.
pub mod Shown
pub mod Selected
pub mod Rows
