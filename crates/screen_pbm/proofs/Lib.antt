mod ImageLaws
mod Packed
mod PackedLaws
mod Ranges
mod Rows
mod Together
mod Words
mod Digits
