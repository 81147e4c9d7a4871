-- What the contracts speak of: what definitions of windows, controls, menus and lists mean, what one keeps of what it is
-- told, what a stock of them holds, their end, and the lines of outlines.
pub mod Sizes
pub mod Lines
pub mod Slots
pub mod Closing
pub mod WindowNews
pub mod WindowMeaning
pub mod WindowKeeping
pub mod ControlNews
pub mod ControlMeaning
pub mod ControlKeeping
pub mod MenuMeaning
pub mod ListMeaning
pub mod WindowSlots
pub mod Stocks
pub mod Boxed
