-- Which screens there may be, and the pattern of the desktop.
use Rattle.std.specs.Prelude.{Bool, ◌&&◌, ◌||◌, ℤ, pos, int_le, int_lt}
use Rattle.std.specs.Ordering.{int_eq}
use Rattle.bit_map.specs.declared.pattern.Pattern.{Pattern}
use Rattle.bit_map.specs.Patterns.{gray}

-- whether a screen may be so wide or so high
abbrev pub is_screen_side : ℤ → Bool
is_screen_side n = int_le (pos 8) n && int_le n (pos 1024)

-- whether a menu bar may have so many rows
abbrev pub is_bar : ℤ → Bool
is_bar bar = int_eq bar (pos 0) || int_eq bar (pos 20)

-- whether a screen may have this size and this many rows of menu bar
abbrev pub is_screen : ℤ → ℤ → ℤ → Bool
is_screen width height bar =
    is_screen_side width && (is_screen_side height && (is_bar bar && int_lt bar height))

-- the pattern of the desktop
abbrev pub desktop : Pattern
desktop = gray
