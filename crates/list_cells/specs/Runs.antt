-- Which rows or columns a call adds or deletes, and why it refuses.
use Rattle.std.specs.Prelude.{ℕ, ◌+◌, ◌*◌, ◌-◌, ℤ, pos, nat_abs, min, Bool, ◌&&◌, not, int_le, int_lt, nat_le, List, [], ◌∷◌, unwrap_or}
use Rattle.tb_geom.specs.Refusals.{first_refusal}
use Rattle.tb_geom.specs.declared.refusal.Refusal.{Refusal}
use Rattle.tb_geom.specs.declared.refusal.Refusal.TheVariants.{NoMemory, NoSuchCell, OutOfRange, TooMany}

-- how many may be added or deleted at once
abbrev pub is_count : ℤ → Bool
is_count n = int_le (pos 1) n && int_le n (pos 4096)

-- whether there may be so many lines with so many cells each
abbrev pub fits : ℕ → ℕ → Bool
fits lines across = nat_le lines 4096 && nat_le (lines * across) 4096

-- why n lines are not added before one, in the written order: to so many, each of `across` cells
unfoldable pub add_refusals : ℕ → ℕ → ℤ → ℤ → List (Bool × Refusal)
add_refusals lines across n before = (int_lt before (pos 0), NoSuchCell) ∷ (not (is_count n), OutOfRange) ∷ (not (fits (lines + nat_abs n) across), TooMany) ∷ []

-- why n lines from one on are not deleted, in the written order
unfoldable pub delete_refusals : ℕ → ℤ → ℤ → List (Bool × Refusal)
delete_refusals lines n first = (not (int_le (pos 0) first && int_lt first (pos lines)), NoSuchCell) ∷ (not (is_count n), OutOfRange) ∷ []

-- past the last line, lines are added at the end
abbrev pub place_to_add : ℕ → ℤ → ℕ
place_to_add lines before = min (nat_abs before) lines

-- a count that reaches past the end deletes to the end
abbrev pub count_to_delete : ℕ → ℤ → ℤ → ℕ
count_to_delete lines n first = min (nat_abs n) (lines - nat_abs first)

-- how many columns and rows a new list may have
abbrev pub is_side : ℤ → Bool
is_side n = int_le (pos 0) n && int_le n (pos 4096)

-- why a list of so many columns and rows is not made, in the written order
unfoldable pub new_refusals : ℤ → ℤ → List (Bool × Refusal)
new_refusals columns rows = (not (is_side columns && is_side rows), OutOfRange) ∷ (not (nat_le (nat_abs rows * nat_abs columns) 4096), TooMany) ∷ []

-- why a call is refused: by the first of the conditions that holds, and else for want of memory
abbrev pub told : List (Bool × Refusal) → Refusal
told refusals = unwrap_or (first_refusal refusals) NoMemory
