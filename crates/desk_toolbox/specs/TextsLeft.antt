-- What the end of a window does to the text records of a desk.
use Rattle.std.specs.Prelude.{◌≡◌, ℕ, [], All, Contains}
use Rattle.window_items.specs.Items.{AreApart, items_of}
use Rattle.text_mgr.specs.TextDesks.{TextsState}

-- the text records of a window were disposed of, and those of other windows and the scrap stay
pub record AreTextsOfLeft (window : ℕ) (before after : TextsState) : Type 0 where
  pub gone : items_of window after.texts ≡ []
  pub others : (other : ℕ) → (window ≡ other → ⊥) → items_of other after.texts ≡ items_of other before.texts
  -- each that stays was there
  pub within : All (Contains before.texts) after.texts
  pub apart : AreApart before.texts → AreApart after.texts
  pub next : after.next ≡ before.next
  pub scrap : after.scrap ≡ before.scrap
