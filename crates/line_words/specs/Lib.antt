pub mod Forms
pub mod Hex
pub mod Replies
pub mod Shapes
pub mod Spelling
pub mod Tables
pub mod Words
