-- What the contracts speak of: the bits of a map, their words, counts of writes, transfer modes, patterns, bit images, rules.
pub mod Bits
pub mod Words
pub mod Counts
pub mod Modes
pub mod Patterns
pub mod Images
pub mod Rules
