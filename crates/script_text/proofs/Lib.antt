mod AllSaid
pub mod AlikeVersions
pub mod Cuts
mod Ends
pub mod FirstVersion
mod LineLaws
mod OlderVersions
mod TextLaws
pub mod Versions
