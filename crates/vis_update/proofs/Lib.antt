-- Lemmas on where windows may be, on owners, on layers that a call keeps, on the sweep that makes a plan, on seats, and on
-- calls that change the layers of one window.
pub mod PlaceLemmas
pub mod Others
pub mod LayerOwners
pub mod Hands
pub mod KeptLayers
pub mod UpdateLemmas
pub mod Sweeping
pub mod Takings
pub mod Sources
pub mod Planning
pub mod SeatLemmas
pub mod Settling
pub mod ScrollLemmas
pub mod Relayed
pub mod RelaidAreas
