-- What cells hold, and rows of it that are widened and narrowed.
use Rattle.std.specs.Prelude.{ℕ, zero, suc, ◌+◌, Bool, false, List, [], ◌++◌, take, drop, replicate, length, sum_by, map}

-- the data of a cell, and whether it is selected
pub record Content : Type 0 where
  pub bytes : List ℕ
  pub selected : Bool

-- an empty cell that is not selected
abbrev pub empty_content : Content
empty_content = record { bytes = []; selected = false }

-- cells with n empty ones before the one at a place
unfoldable pub opened : ℕ → ℕ → List Content → List Content
opened at n cells = take at cells ++ (replicate n empty_content ++ drop at cells)

-- cells without the n from a place on
unfoldable pub closed : ℕ → ℕ → List Content → List Content
closed at n cells = take at cells ++ drop (at + n) cells

-- the first cells of a width changed and moved behind the others
unfoldable pub passed : ℕ → (List Content → List Content) → List Content → List Content
passed width change cells = drop width cells ++ change (take width cells)

-- each of so many rows of a width changed
unfoldable pub in_rows : ℕ → (List Content → List Content) → ℕ → List Content → List Content
in_rows width change zero cells = []
in_rows width change (suc rows) cells = change (take width cells) ++ in_rows width change rows (drop width cells)

-- how many bytes the cells hold together
abbrev pub bytes_held : List Content → ℕ
bytes_held cells = sum_by (λ c. length c.bytes) cells

-- a cell that is not selected
abbrev pub deselected_content : Content → Content
deselected_content c = record c { selected = false }

-- none of the cells selected
abbrev pub deselected_contents : List Content → List Content
deselected_contents cells = map deselected_content cells
