-- What the contracts speak of: parts of controls, how they are highlighted, and the setting of a control.
pub mod Parts
pub mod Highlights
pub mod Settings
