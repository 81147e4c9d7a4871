-- How often the pixels of a map were written.
use Rattle.std.specs.Prelude.{ℕ, suc, ◌*◌, ◌/◌, ◌%◌, pos, List, map, slice_index_or, if◌then◌else◌}
use Rattle.std.specs.List.{range_with_len}
use Rattle.tb_geom.specs.Points.{PixelSet}

-- a number for each pixel of a map row by row, 0 where the list has none
unfoldable pub counts_of : ℕ → ℕ → List ℕ → List ℕ
counts_of width height numbers = map (λ i. slice_index_or numbers i 0) (range_with_len 0 (height * width))

-- the same, and one more at the pixels of a set
unfoldable pub raised : ℕ → ℕ → PixelSet → List ℕ → List ℕ
raised width height holds numbers = map (λ i. let n = slice_index_or numbers i 0 in if holds (record { h = pos (i % width); v = pos (i / width) }) then suc n else n) (range_with_len 0 (height * width))
