-- What the contracts speak of: windows' records, where windows may be, what they own of the screen, how a call touches
-- them, the plan of it, that of a scroll, and that of a call on the layers of one window.
pub mod Records
pub mod Places
pub mod Areas
pub mod Touches
pub mod Seats
pub mod Hands
pub mod Plans
pub mod Contents
pub mod Relayings
