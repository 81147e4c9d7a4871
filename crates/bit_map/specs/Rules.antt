-- What a rule makes of a run of pixels, and of old bits.
use Rattle.std.specs.Prelude.{◌≡◌, ℕ, ◌+◌, ◌*◌, ◌%◌, ◌<◌, ◌≤◌, ◌≤ℤ◌, pos, ◌+ℤ◌, Bool, ◌&&◌, List, length}
use Rattle.tb_geom.specs.declared.point.Point.{Point}
use Rattle.bit_map.specs.Modes.{xor_bit}
use Rattle.bit_map.specs.Words.{bit_in, place_bit}
use Rattle.bit_map.specs.declared.effect.Effect.{Effect}
use Rattle.bit_map.specs.declared.effect.Effects.{Effects}

-- the point k columns to the right
abbrev pub right_of : Point → ℕ → Point
right_of p k = record { h = p.h +ℤ pos k; v = p.v }

-- each of the first `count` bits of the word, whose first pixel lies at `start`, got the value made of its point and its old bit
abbrev pub IsRuledWord : (Point → Bool → Bool) → Point → ℕ → ℕ → ℕ → Type 0
IsRuledWord value start count old new = (k : ℕ) → k < count → bit_in new k ≡ value (right_of start k) (bit_in old k)

-- so did all bits of the words of a run, whose first pixel lies at `start`
pub record IsRuled (value : Point → Bool → Bool) (start : Point) (old new : List ℕ) : Type 0 where
  pub all : length new ≡ length old
  pub each : (k : ℕ) → k < 64 * length old → place_bit new k ≡ value (right_of start k) (place_bit old k)

-- so did the bits of a part, `count` of them from `place` on, and no other changed
pub record IsPartRuled (value : Point → Bool → Bool) (start : Point) (place count : ℕ) (old new : List ℕ) : Type 0 where
  pub all : length new ≡ length old
  pub run : (k : ℕ) → k < count → place_bit new (place + k) ≡ value (right_of start k) (place_bit old (place + k))
  pub before : (i : ℕ) → i < place → place_bit new i ≡ place_bit old i
  pub after : (i : ℕ) → place + count ≤ i → place_bit new i ≡ place_bit old i

-- the columns of so many pixels from `start` on are numbers of 32 bits, and so is the one past the last
pub record HasColumns (start : Point) (count : ℕ) : Type 0 where
  pub short : count ≤ 2147483647
  pub near : (start.h +ℤ pos count) ≤ℤ pos 2147483647

-- what an effect makes of an old bit
abbrev pub effect_bit : Effect → Bool → Bool
effect_bit e old = xor_bit e.turns (old && e.keeps)

-- what the effects of a word make of the old bit at a place
abbrev pub effects_bit : Effects → ℕ → Bool → Bool
effects_bit e place old = xor_bit (bit_in e.turns place) (old && bit_in e.keeps place)

-- the bits from one place up to another got what effects make of them, and no other changed
pub record IsLaid (effects : Effects) (from to : ℕ) (old new : List ℕ) : Type 0 where
  pub all : length new ≡ length old
  pub run : (n : ℕ) → from ≤ n → n < to → place_bit new n ≡ effects_bit effects (n % 64) (place_bit old n)
  pub before : (n : ℕ) → n < from → place_bit new n ≡ place_bit old n
  pub after : (n : ℕ) → to ≤ n → place_bit new n ≡ place_bit old n
