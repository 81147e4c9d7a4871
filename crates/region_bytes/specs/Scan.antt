-- How rows of inversion points are read from words, one after another.
use Rattle.std.specs.Prelude.{◌≡◌, Bool, true, false, not, ◌&&◌, cond, List, [], ◌∷◌, ℤ, pos, negsuc, int_lt, All}
use Rattle.std.specs.Ordering.{int_eq}
use Rattle.tb_geom.specs.declared.point.Point.{Point}
use Rattle.region_bytes.specs.Edges.{differ}
use Rattle.region_bytes.specs.Points.{PointRow, IsCanonical}
use Rattle.region_bytes.specs.Words.{data_words}
use Rattle.region_bytes.specs.Bytes.{IsOfWords, IsWithoutEnd}
use Rattle.region_bytes.specs.declared.judge.Place.{Place}
use Rattle.region_bytes.specs.declared.judge.Step.{Step}
use Rattle.region_bytes.specs.declared.judge.Step.TheVariants.{Go, Stop}

-- the words are the data of rows in canonical form, and none of their numbers is that of an end
pub record IsData (ws : List ℤ) : Type 0 where
  pub rows : List PointRow
  pub canonical : IsCanonical rows
  pub words : All IsOfWords rows
  pub told : All IsWithoutEnd rows
  pub same : data_words rows ≡ ws

-- whether there is no word
abbrev pub is_nil : List ℤ → Bool
is_nil [] = true
is_nil (w ∷ ws) = false

-- whether words are rows that lie below v, or the rest of a row, right of h, and rows below it
unfoldable pub are_rows : (v h : ℤ) (within odd : Bool) → List ℤ → Bool
are_rows v h within odd [] = false
are_rows v h false odd (w ∷ ws) = cond (int_eq w (pos 32767)) (is_nil ws) (int_lt v w && are_rows w (negsuc 32768) true false ws)
are_rows v h true odd (w ∷ ws) = cond (int_eq w (pos 32767)) ((not odd && int_lt (negsuc 32768) h) && are_rows v h false odd ws) (int_lt h w && are_rows v w true (not odd) ws)

-- whether they are, from a place in the rows on
abbrev pub from_place : Place → List ℤ → Bool
from_place p ws = are_rows p.v p.h p.within p.odd ws

-- whether they are, after a step
abbrev pub outcome : Step → List ℤ → Bool
outcome (Go p) ws = from_place p ws
outcome (Stop b) ws = b

-- the columns of rows: each word within a row, up to its end
unfoldable pub columns_in : Bool → List ℤ → List ℤ
columns_in within [] = []
columns_in within (w ∷ ws) =
    cond (within && not (int_eq w (pos 32767)))
    (w ∷ columns_in (not (within && int_eq w (pos 32767))) ws)
    (columns_in (not (within && int_eq w (pos 32767))) ws)

-- whether a column stands an odd number of times
unfoldable pub odd_at : ℤ → List ℤ → Bool
odd_at x [] = false
odd_at x (c ∷ cs) = differ (int_eq c x) (odd_at x cs)

-- the points of rows: each word within a row, with the row's v
unfoldable pub points_in : Bool → ℤ → List ℤ → List Point
points_in within v [] = []
points_in false v (w ∷ ws) = points_in true w ws
points_in true v (w ∷ ws) = cond (int_eq w (pos 32767)) (points_in false v ws) ((record { h = w; v = v }) ∷ points_in true v ws)
