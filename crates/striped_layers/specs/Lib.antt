-- What the contracts speak of: what the controls, lists and text records of the tests show, and what layers a window may get.
pub mod Striped
pub mod Relaying
