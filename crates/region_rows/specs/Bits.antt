-- Bits in words.
use Rattle.std.specs.Prelude.{ℕ, ◌/◌, ◌%◌, Bool, ◌==◌, List, slice_index}
use Rattle.std.specs.Int.{bit_at}

-- whether the bit in the place k is set
unfoldable pub has_bit : List ℕ → ℕ → Bool
has_bit words k = bit_at (slice_index words (k / 64)) (k % 64) == 1
