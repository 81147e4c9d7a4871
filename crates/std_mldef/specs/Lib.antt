-- What the contracts speak of: how large a menu is, its rows, the cells of a list, and the two standard definitions.
pub mod Measures
pub mod Rows
pub mod Menus
pub mod Cells
pub mod Lists
