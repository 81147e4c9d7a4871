-- What the contracts speak of: what lies near a number, and insets and frames of sets of pixels.
pub mod Near
pub mod Insets
pub mod Ranges
