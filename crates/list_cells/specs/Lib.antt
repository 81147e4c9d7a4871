-- What the contracts speak of: what cells hold, lists of cells, and what is added and deleted.
pub mod Blocks
pub mod Cells
pub mod Clicks
pub mod Contents
pub mod Grids
pub mod Runs
pub mod Selections
