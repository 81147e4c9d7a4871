-- What the laws speak of: what a run does while an update is open, the regions of windows, windows of which none floats, calls
-- that ask for text records, that reasons to refuse stand in the written order, what each call changes of pixels, and the
-- headline.
pub mod OpenUpdates
pub mod Regions
pub mod Ordered
pub mod OneClass
pub mod TextsAsked
pub mod Meant
pub mod SameLists
pub mod Changes
pub mod Headline
