use Rattle.std.proofs.Common.{◌≡◌, ◌≤◌, ◌+◌, ◌-◌, ◌%◌, ℕ, refl, arith}
use Rattle.bit_map.proofs.MoveLemmas.{moved_down, moved_up}
use Rattle.bit_map.proofs.moves.move_parts.Goals as goal

-- head, middle and tail are the whole
whole : (place head count : ℕ) → head ≤ count → place + (count - (count - head) % 64) ≡ place + head + (count - (count - head) % 64 - head)
whole place head count low = omega (arith, low)

rest : (head count : ℕ) → head ≤ count → count - head ≡ count - (count - head) % 64 - head + (count - head) % 64
rest head count low = omega (arith, low)

pub returns-then-source-place : goal.returns-then-source-place
returns-then-source-place c =
    let p = c.args.place in
    let s = c.args.source in
    let head = c.head_of-head.result in
    let n = c.args.count in
    let low = c.head_of-head.ensures.within in
    let ahead : s ≤ p = omega (arith, c.if-source-place.true) in
    moved_up p s (p + head) (s + head) head (n - head) n _ _ _ ahead refl refl (omega (arith, low))
    (moved_up (p + head) (s + head) (p + (n - (n - head) % 64)) (s + (n - (n - head) % 64)) (n - (n - head) % 64 - head) ((n - head) % 64) (n - head) _ _ _ (omega (arith, ahead)) (whole p head n low) (whole s head n low) (rest head n low) c.move_part.ensures c.move_whole.ensures)
    c.move_part-then-source-place.ensures

pub returns-else-source-place : goal.returns-else-source-place
returns-else-source-place c =
    let p = c.args.place in
    let s = c.args.source in
    let head = c.head_of-head.result in
    let n = c.args.count in
    let low = c.head_of-head.ensures.within in
    let back : p ≤ s = c.if-source-place.false in
    moved_down p s (p + head) (s + head) head (n - head) n _ _ _ back refl refl (omega (arith, low)) c.move_part-else-source-place.ensures
    (moved_down (p + head) (s + head) (p + (n - (n - head) % 64)) (s + (n - (n - head) % 64)) (n - (n - head) % 64 - head) ((n - head) % 64) (n - head) _ _ _ (omega (arith, back)) (whole p head n low) (whole s head n low) (rest head n low) c.move_whole-else-source-place.ensures c.move_part-else-source-place-2.ensures)
