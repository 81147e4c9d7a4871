-- What the contracts speak of: the menus of a desk as a list, what changes them, and what others see of them; then what a call
-- leaves of menus that changes them as data, why it is refused, and one such step.
pub mod Editing
pub mod Lists
pub mod Seen
pub mod MenuEdits
pub mod EditRefusals
pub mod EditSteps
