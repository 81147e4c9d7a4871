-- What the contracts speak of: what edits make of a record and of the scrap, and selecting with the mouse.
pub mod Edits
pub mod Selecting
