-- What the contracts speak of: which bytes a new item may have, by its kind, and which calls ask.
pub mod ItemForms
pub mod Asking
