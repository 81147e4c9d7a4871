-- What the contracts speak of: the menus of a desk as plain data, what a call changes in them, which menu is pulled down, why
-- a call is refused, one step, and what holds of the menus and of the map in front between calls.
pub mod MenuDesks
pub mod MenuRefusals
pub mod Pulling
pub mod MenuSteps
pub mod WholeMenus
pub mod MakingSteps
pub mod Leaving
pub mod MenuClosing
pub mod Boxed
