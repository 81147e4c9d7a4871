-- What the end of a window leaves of text records.
use Rattle.std.specs.Prelude.{◌≡◌, ℕ, [], All, Contains}
use Rattle.window_items.specs.Items.{AreApart, items_of}
use Rattle.text_mgr.specs.declared.texts.Texts.{Texts}

-- the text records of a window were disposed of, and those of other windows and the scrap stay
pub record AreTextsLeft (window : ℕ) (before after : Texts) : Type 0 where
  pub gone : items_of window after.list.items.items ≡ []
  pub others : (other : ℕ) → (window ≡ other → ⊥) → items_of other after.list.items.items ≡ items_of other before.list.items.items
  -- each that stays was there
  pub within : All (Contains before.list.items.items) after.list.items.items
  pub apart : AreApart before.list.items.items → AreApart after.list.items.items
  pub next : after.list.next ≡ before.list.next
  pub scrap : after.scrap ≡ before.scrap
