-- What the contracts speak of: the text of a look, its steps, where looks differ, areas, and spots.
pub mod Letters
pub mod Rounded
pub mod Marks
pub mod Diagonals
pub mod Same
pub mod Damages
pub mod Lettered
pub mod Areas
pub mod Spots
