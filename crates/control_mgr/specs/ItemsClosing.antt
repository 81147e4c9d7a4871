-- What the end of a window or of a desk does to a stock, where the items of windows, as controls or lists, have their definitions
-- out of its slots.
use Rattle.std.specs.Prelude.{◌≡◌, ℕ, List, [], Option, All, Contains, map}
use Rattle.def_iface.specs.declared.window_def.Stage.{Stage}
use Rattle.def_iface.specs.declared.window_def.Stage.TheVariants.{Live}
use Rattle.def_iface.specs.Slots.{LoanOf, SlotOf}
use Rattle.def_iface.specs.Closing as closing
use Rattle.window_items.specs.declared.item.Item.{Item}
use Rattle.window_items.specs.Items.{AreApart, items_of}
use Rattle.control_mgr.specs.InUse.{AreStocked}

-- the items of all windows, the oldest first; the serial of the next one, if one is left; and what the stock holds for them
pub record ItemsState (D K : Type 0) : Type 0 where
  pub items : List (Item K)
  pub next : Option ℕ
  pub stock : List (SlotOf D)

-- `loan` says which definition an item has out of its slot
module _ {D K : Type 0} (loan : K → LoanOf D) where
  -- the slots of the items' definitions
  abbrev pub slots_of : List (Item K) → List ℕ
  slots_of items = map (λ item. (loan item.kept).slot) items

  -- `stage` says where a definition stands in its life
  module _ (stage : D → Stage) where
    abbrev pub AreLive : List (Item K) → Type 0
    AreLive items = All (λ item. stage (loan item.kept).definition ≡ Live) items

    -- `IsAlike` says that one answers as another did
    module _ (IsAlike : D → D → Type 0) where
      -- the item's slot is there, with its definition, which is closed
      abbrev pub IsClosedAt : List (SlotOf D) → Item K → Type 0
      IsClosedAt = closing.IsClosedAt stage IsAlike (λ (item : Item K). loan item.kept)

      -- the definitions of these items were closed and put into their slots, and every other slot that had one is as it was
      abbrev pub AreClosed : List (Item K) → List (SlotOf D) → List (SlotOf D) → Type 0
      AreClosed = closing.AreClosed stage IsAlike (λ (item : Item K). loan item.kept)

      -- all items, which are these, were disposed of: every slot has a definition that no desk uses
      abbrev pub AreAllClosed : List (Item K) → List (SlotOf D) → List (SlotOf D) → Type 0
      AreAllClosed = closing.AreAllClosed stage IsAlike (λ (item : Item K). loan item.kept)

      -- the items of a window were disposed of, and those of other windows stay
      pub record AreLeft (window : ℕ) (before after : ItemsState D K) : Type 0 where
        pub gone : items_of window after.items ≡ []
        pub others : (other : ℕ) → (window ≡ other → ⊥) → items_of other after.items ≡ items_of other before.items
        -- each that stays was there
        pub within : All (Contains before.items) after.items
        pub apart : AreApart before.items → AreApart after.items
        pub next : after.next ≡ before.next
        pub closed : AreClosed (items_of window before.items) before.stock after.stock
        pub stocked : AreStocked stage (slots_of after.items) after.stock
