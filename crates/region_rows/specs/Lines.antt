-- The columns at which a row turns, one bit each.
use Rattle.std.specs.Prelude.{◌≡◌, Bool, true, List, ℕ, ◌+◌, ℤ, pos, ◌-ℤ◌, ◌<ℤ◌, ◌≤ℤ◌}
use Rattle.region_rows.specs.Edges.{differ}
use Rattle.region_rows.specs.Bits.{has_bit}
use Rattle.region_rows.specs.Counts.{count_to}
use Rattle.region_rows.specs.declared.line.Line.{Line}

-- the place of the bit of a column
abbrev pub place_in : Line → ℤ → ℕ
place_in l x = l.base + count_to l.left x

-- between its sides the line turns where f does, and its first pixel is that of f
pub record IsLine (words : List ℕ) (l : Line) (f : ℤ → Bool) : Type 0 where
  pub first : l.first ≡ f l.left
  pub turns : (x : ℤ) → l.left <ℤ x → x <ℤ l.right → has_bit words (place_in l x) ≡ differ (f x) (f (x -ℤ pos 1))

-- the line turns first at `to`, right of `at`, or does not turn up to the limit, where `to` is
pub record IsLineTurn (f : ℤ → Bool) (at limit to : ℤ) : Type 0 where
  pub onward : at <ℤ to
  pub within : to ≤ℤ limit
  pub steady : (x : ℤ) → at ≤ℤ x → x <ℤ to → f x ≡ f at
  pub turned : to <ℤ limit → differ (f to) (f at) ≡ true
