-- Lemmas on the menus of a desk. `SeenLemmas` is for who sees the definitions of a list as something else. Then the menu of a
-- number, and its index; why a call on it is refused, and what it leaves; the same of what is seen.
pub mod BarLemmas
pub mod LawLemmas
pub mod ListLemmas
pub mod SeenLemmas
pub mod Indices
pub mod FoundMenus
pub mod SeenEdits
