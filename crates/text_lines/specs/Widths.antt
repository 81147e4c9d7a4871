-- How wide bytes are, by a table of the widths of all 256.
use Rattle.std.specs.Prelude.{ℕ, ◌+◌, Bool, true, List, [], ◌∷◌, Option, Some, None, nat_le, slice_index}

-- how wide a byte is
abbrev pub byte_width : List ℕ → ℕ → ℕ
byte_width widths c = slice_index widths c

-- how wide bytes are together
abbrev pub bytes_width : List ℕ → List ℕ → ℕ
bytes_width widths [] = 0
bytes_width widths (c ∷ cs) = byte_width widths c + bytes_width widths cs

-- whether bytes that are so wide together have room in a line; without wrap any have
abbrev pub fits : Option ℕ → ℕ → Bool
fits None wide = true
fits (Some room) wide = nat_le wide room
