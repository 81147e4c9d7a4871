-- What the contracts speak of: a list in an order of its own, windows and what changes them; then which layer of a window's
-- content a pixel belongs to, where layers may lie, what a change of them does, and what the regions kept beside them have.
pub mod Ranks
pub mod Lends
pub mod Classes
pub mod Lists
pub mod Changes
pub mod Holders
pub mod LayerChanges
pub mod Owned
