-- What the contracts speak of: how wide bytes are, where a line ends, and the lines of a text.
pub mod Widths
pub mod Ends
pub mod Lines
