-- Where a line of text ends, as a walk over the bytes from its beginning.
use Rattle.std.specs.Prelude.{ℕ, ◌+◌, Bool, ◌==◌, ◌||◌, if◌then◌else◌, List, [], ◌∷◌, Option, nat_le}
use Rattle.text_lines.specs.Widths.{byte_width, fits}

-- the byte that ends a line for good
abbrev pub is_return : ℕ → Bool
is_return c = c == 13

-- a byte that is no part of a word; asked of bytes that are no return
abbrev pub is_blank : ℕ → Bool
is_blank c = nat_le c 32

-- how many bytes the blanks have that a text begins with, with a return behind them
abbrev pub hang_length : List ℕ → ℕ
hang_length [] = 0
hang_length (c ∷ cs) = if is_return c then 1 else (if is_blank c then 1 + hang_length cs else 0)

-- how many bytes a line has, of which `done` have room so far and are so wide together, where the last blank among
-- these ends at `last`, or 0: a return ends it; the first byte has room always; at the byte that has none the line
-- ends behind the blanks there, or else behind the last blank, or else there
abbrev pub line_walk : List ℕ → Option ℕ → ℕ → ℕ → ℕ → List ℕ → ℕ
line_walk widths room wide done last [] = done
line_walk widths room wide done last (c ∷ cs) =
    if is_return c then done + 1
    else (if fits room (wide + byte_width widths c) || done == 0
    then line_walk widths room (wide + byte_width widths c) (done + 1) (if is_blank c then done + 1 else last) cs
    else (if is_blank c then done + hang_length (c ∷ cs) else (if last == 0 then done else last)))

-- how many bytes the first line of a text has
unfoldable pub line_length : List ℕ → Option ℕ → List ℕ → ℕ
line_length widths room text = line_walk widths room 0 0 0 text
