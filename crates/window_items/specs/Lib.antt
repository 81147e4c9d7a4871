-- What the contracts speak of: the items of a desk as a list, what others see of them, and one of them lent.
pub mod Items
pub mod Lends
pub mod Seen
