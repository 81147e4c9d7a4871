-- A column of pixels as it is seen.
use Rattle.std.specs.Prelude.{Bool, true, false, ℤ, negsuc, ◌-ℤ◌}

-- the column of pixels that is seen at a column
abbrev pub seen_column : Bool → ℤ → ℤ
seen_column false h = h
seen_column true h = negsuc 1 -ℤ h
