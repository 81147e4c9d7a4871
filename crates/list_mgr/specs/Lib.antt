-- What the contracts speak of: the lists of a desk beside its windows and controls and what they show, why a call is refused, what
-- a step does, what holds between calls, where a list stands, what an end does to the stock, which serials the scroll bars have,
-- how what changes of a list is shown, what is drawn of it within a rectangle or from a line on, and how one is made.
pub mod Fields
pub mod Seen
pub mod ListDesks
pub mod ListRefusals
pub mod ListSteps
pub mod Within
pub mod WholeLists
pub mod ListClosing
pub mod GivenBars
pub mod BarEnds
pub mod Spots
pub mod Lines
pub mod LineEdits
pub mod LinesFrom
pub mod Changing
pub mod Making
pub mod NewBars
pub mod Putting
pub mod Offers
pub mod Boxed
