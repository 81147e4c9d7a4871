-- How the regions of a cut let the pixels of a row through, one by one and all together.
use Rattle.std.specs.Prelude.{◌≡◌, ◌≤◌, ◌+◌, ℕ, Bool, true, false, ◌&&◌, List, Option, Some, None, ℤ, pos, ◌<ℤ◌, ◌≤ℤ◌}
use Rattle.std.specs.Borrow.{Bor}
use Rattle.tb_geom.specs.declared.point.Point.{Point}
use Rattle.tb_geom.specs.Points.{PixelSet}
use Rattle.tb_geom.specs.Pixels.{Pixels, holds}
use Rattle.region_rows.specs.Edges.{differ}
use Rattle.region_rows.specs.Layers.{HasRows, IsLayer}
use Rattle.region_rows.specs.Seen.{seen_point}
use Rattle.region_rows.specs.Counts.{count_to}
use Rattle.scan_region.specs.Walks.{runs_on}
use Rattle.scan_region.specs.declared.part.Part.{Part}
use Rattle.scan_region.specs.declared.part.Part.TheVariants.{Open, Lined, Tested}
use Rattle.scan_region.specs.declared.part.PixelTest.{PixelTest}
use Rattle.scan_region.specs.declared.walk.Walk.{Walk}
use Rattle.scan_region.specs.declared.spans.Span.{Span}

-- what a region lets through: what it has, or what it lacks; all, where there is none
abbrev pub lets : Bool → Option (Bor Pixels) → PixelSet
lets lacks None p = true
lets lacks (Some r) p = differ lacks (holds r.now p)

-- what a test lets through
abbrev pub test_set : PixelTest → PixelSet
test_set t p = differ t.lacks (holds t.region.now (seen_point t.up p))

-- the test tells the set, and counts the pixel in the column `at` of the row v as the set does
pub record IsTest (t : PixelTest) (s : PixelSet) (v at : ℤ) : Type 0 where
  pub set : (p : Point) → s p ≡ test_set t p
  pub counts : at <ℤ t.right → t.counts ≡ s (record { h = at; v = v })

-- at the column `at` of the row v the part lets the set through
abbrev pub IsPart : List ℕ → Part → PixelSet → ℤ → ℤ → Type 0
IsPart words Open s v at = (p : Point) → s p ≡ true
IsPart words (Lined l) s v at = IsLayer words l s v at
IsPart words (Tested t) s v at = IsTest t s v at

-- the part has these sides, and its line the places from `low` on, up to `high`
abbrev pub IsFit : ℤ → ℤ → ℕ → ℕ → Part → Type 0
IsFit left right low high Open = low ≤ high
IsFit left right low high (Lined l) = (l.line.left ≡ left) × (l.line.right ≡ right) × (low ≤ l.line.base) × (l.line.base + count_to left right ≤ high) × HasRows l
IsFit left right low high (Tested t) = (t.right ≡ right) × (low ≤ high)

-- the columns from the one on, up to the other, lie between the sides of the part's line
abbrev pub IsAcross : Part → ℤ → ℤ → Type 0
IsAcross Open at limit = Unit
IsAcross (Lined l) at limit = (l.line.left ≤ℤ at) × (limit ≤ℤ l.line.right)
IsAcross (Tested t) at limit = limit ≤ℤ t.right

-- whether the part lets the pixel at hand through
abbrev pub part_counts : Part → Bool
part_counts Open = true
part_counts (Lined l) = l.counts
part_counts (Tested t) = t.counts

-- what the part lets through is the same from the column `at` up to the column `to`, in the row v
abbrev pub IsSteady : List ℕ → Part → ℤ → ℤ → ℤ → Type 0
IsSteady words part v at to = (s : PixelSet) → IsPart words part s v at → (x : ℤ) → at ≤ℤ x → x <ℤ to → s (record { h = x; v = v }) ≡ s (record { h = at; v = v })

-- the parts of a walk together are the set
pub record IsWalk (w : Walk) (s : PixelSet) : Type 0 where
  pub first_set : PixelSet
  pub second_set : PixelSet
  pub third_set : PixelSet
  pub hole_set : PixelSet
  pub all : (h v : ℤ) → s (record { h = h; v = v }) ≡ (first_set (record { h = h; v = v }) && (second_set (record { h = h; v = v }) && (third_set (record { h = h; v = v }) && hole_set (record { h = h; v = v }))))
  pub first : IsPart w.words w.first first_set w.v w.at
  pub second : IsPart w.words w.second second_set w.v w.at
  pub third : IsPart w.words w.third third_set w.v w.at
  pub hole : IsPart w.words w.hole hole_set w.v w.at

-- the sides of a walk and of its parts, whose lines lie one after another, and its row, which is not the last number
pub record HasSides (w : Walk) (left right : ℤ) : Type 0 where
  pub end : w.right ≡ right
  pub begun : left ≤ℤ w.at
  pub row : w.v <ℤ pos 2147483647
  pub after_first : ℕ
  pub after_second : ℕ
  pub after_third : ℕ
  pub first : IsFit left right 0 after_first w.first
  pub second : IsFit left right after_first after_second w.second
  pub third : IsFit left right after_second after_third w.third
  pub hole : IsFit left right after_third 8192 w.hole

-- the runs that are left of the row at hand
abbrev pub runs_left : Walk → PixelSet → List Span
runs_left w s = runs_on (λ h. s (record { h = h; v = w.v })) w.v None w.at (count_to w.at w.right)

-- whether all parts let the pixel at hand through
abbrev pub all_count : Walk → Bool
all_count w = part_counts w.first && (part_counts w.second && (part_counts w.third && part_counts w.hole))

-- no part turns right of the pixel at hand before the column `to`, and one does there, or the row ends
pub record IsWalkTurn (w : Walk) (to : ℤ) : Type 0 where
  pub onward : w.at <ℤ to
  pub within : to ≤ℤ w.right
  pub first : IsSteady w.words w.first w.v w.at to
  pub second : IsSteady w.words w.second w.v w.at to
  pub third : IsSteady w.words w.third w.v w.at to
  pub hole : IsSteady w.words w.hole w.v w.at to
  pub turned : (s : PixelSet) → IsWalk w s → to <ℤ w.right → all_count w ≡ true → s (record { h = to; v = w.v }) ≡ false
