pub mod Packed
pub mod Pbm
