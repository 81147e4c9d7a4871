-- What the contracts speak of: FONT records, and the pixels of texts.
pub mod Record
pub mod Text
pub mod Tiles
pub mod BuiltIn
