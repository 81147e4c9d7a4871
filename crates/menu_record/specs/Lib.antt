-- What the contracts speak of: items and menus, what changes them, and what a text says that is appended.
pub mod Menus
pub mod Edits
pub mod Appending
pub mod Reads
