-- The tables of the standard windows, and the definitions that they make.
pub mod Kinds
pub mod Looks
pub mod Areas
pub mod Lines
pub mod Hits
pub mod Windows
pub mod Notched
pub mod Rounded
pub mod Told
