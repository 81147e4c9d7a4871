pub mod Commands
pub mod Held
pub mod Lines
pub mod Replies
pub mod Spelling
pub mod Versions
