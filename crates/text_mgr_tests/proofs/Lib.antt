-- Lemmas on the desk of these tests.
pub mod FirstWindow
