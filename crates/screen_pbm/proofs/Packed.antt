-- The pixels of a row, eight to a byte.
use Rattle.std.proofs.Common.{◌≡◌, ℕ, pos, ◌+◌, ◌-◌, ◌*◌, ◌%◌, ◌^◌, ◌<◌, ◌≤◌, Bool, true, false, ◌&&◌, nat_lt, if◌then◌else◌, ap, ◌∙◌, arith}
use Rattle.std.proofs.lemmas.Grind.{pow_more}
use Rattle.std.proofs.lemmas.Nat.{pow_pos}
use Rattle.tb_geom.specs.Points.{PixelSet}
use Rattle.screen_pbm.specs.Pbm.{column_value}

-- ---- a byte has room for its eight columns

at_most : (b : Bool) (n : ℕ) → (if b then n else 0) ≤ n
at_most true n = omega arith
at_most false n = omega arith

column_fits : (width : ℕ) (black : PixelSet) (v h : ℕ) → column_value width black v h ≤ 2 ^ (7 - h % 8)
column_fits width black v h = at_most (nat_lt h width && black (record { h = pos h; v = pos v })) (2 ^ (7 - h % 8))

-- beside the columns to the left of the k-th and its own value there is room for those to its right
pub room_beside : (width : ℕ) (black : PixelSet) (v place k byte : ℕ) → k < 8 → byte + 2 ^ (8 - k) ≤ 256
    → byte + column_value width black v (8 * place + k) + 2 ^ (8 - (k + 1)) ≤ 256
room_beside width black v place k byte low room =
    let own : 7 - (8 * place + k) % 8 ≡ 7 - k = omega (arith, low) in
    let right : 8 - (k + 1) ≡ 7 - k = omega (arith, low) in
    let both : 8 - k ≡ (7 - k) + 1 = omega (arith, low) in
    let twice : 2 ^ (8 - k) ≡ 2 ^ (7 - k) * 2 = ap (λ n. 2 ^ n) both ∙ pow_more 2 (7 - k) in
    let value = column_fits width black v (8 * place + k) in
    rw right (omega (arith, value, ap (λ n. 2 ^ n) own, twice, room))

pub sum_fits : (width : ℕ) (black : PixelSet) (v place k byte : ℕ) → k < 8 → byte + 2 ^ (8 - k) ≤ 256
    → byte + column_value width black v (8 * place + k) < 256
sum_fits width black v place k byte low room =
    omega (arith, room_beside width black v place k byte low room, pow_pos (8 - (k + 1)))
