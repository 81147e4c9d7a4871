-- What a list ends as, where a `&mut` to what is kept of one of its items is returned.
use Rattle.std.specs.Prelude.{ℕ, slice_get}
use Rattle.std.specs.Borrow.{Lends, Fml, RattleType, MutBor}
use Rattle.std.specs.Option.{option_map_or}
use Rattle.std.specs.Vec.{with_item}
use Rattle.window_items.specs.declared.items.Items.{Items}
use Rattle.window_items.specs.contracts.items.Items.{the_row}
use Rattle.window_items.specs.Items.{with_kept}

-- the list where this is kept of the item at this place
abbrev pub with_value : {T : Type 0} → Items T → ℕ → T → Items T
with_value s at value = record s { items = option_map_or (λ item. with_item s.items at (with_kept (λ _. value) item)) (slice_get s.items.items at) s.items }

-- once the borrow r ends, the last value written through r is kept of the item at this place
abbrev pub lends_value : (T : RattleType) → MutBor (Items T.Denot) → ℕ → MutBor T.Denot → Fml
lends_value T s at r = Lends (the_row T) T s r (with_value s.now at)
