-- What a list ends as, where a `&mut` to one of its values is returned.
use Rattle.std.specs.Prelude.{ℕ, slice_set}
use Rattle.std.specs.Borrow.{Lends, Fml, RattleType, MutBor}
use Rattle.window_list.specs.Ranks.{Ranked}
use Rattle.window_list.specs.contracts.ranks.Ranks.{the_row}

-- the list with another value at this place
abbrev pub with_value : {T : Type 0} → Ranked T → ℕ → T → Ranked T
with_value r at value = record r { items = slice_set r.items at value }

-- once the borrow r ends, the place has the last value written through r
abbrev pub lends_value : (T : RattleType) → MutBor (Ranked T.Denot) → ℕ → MutBor T.Denot → Fml
lends_value T s at r = Lends (the_row T) T s r (with_value s.now at)
