-- What the contracts speak of: what a drawing leaves, what is copied from, shifts.
pub mod Draws
pub mod Sources
pub mod Shifts
