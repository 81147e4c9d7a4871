-- What the contracts speak of: a view along one axis, the view with its cells, and the scroll bars beside it; then what a list
-- shows, and how its cells are drawn one after another.
pub mod Axes
pub mod Views
pub mod Bars
pub mod Shown
pub mod Walks
