-- What the contracts speak of: kinds of items, the items of a window, which of them is found, and filled texts.
pub mod Kinds
pub mod Items
pub mod Finding
pub mod Filling
