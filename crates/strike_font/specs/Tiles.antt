-- The pixels of tiles.
use Rattle.std.specs.Prelude.{◌≡◌, ℕ, ◌+◌, ◌*◌, ◌<◌, ℤ, pos, negsuc, ◌+ℤ◌, Bool, false, ◌&&◌, nat_lt, List}
use Rattle.bit_map.specs.Words.{place_bit}
use Rattle.strike_font.specs.Text.{glyphs_pixel}

-- the bit of a tile in a column and a row, of which it has 512 and 16; a row takes eight words
abbrev pub tile_bit : List ℕ → ℤ → ℤ → Bool
tile_bit words (pos x) (pos y) = (nat_lt x 512 && nat_lt y 16) && place_bit words (512 * y + x)
tile_bit words (negsuc x) y = false
tile_bit words (pos x) (negsuc y) = false

-- each bit of the tile is the text's pixel so many columns right of the first one and rows below it
abbrev pub IsTile : List ℕ → List ℕ → ℤ → ℤ → List ℕ → Type 0
IsTile font text x y words = (h v : ℕ) → h < 512 → v < 16 → tile_bit words (pos h) (pos v) ≡ glyphs_pixel font text 0 (x +ℤ pos h) (y +ℤ pos v)
