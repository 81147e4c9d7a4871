-- The offset at the place of an offset is that offset.
use Rattle.std.specs.Prelude.{slice_range, nat_lt, int_le}
use Rattle.std.proofs.Common.{◌≡◌, ℕ, zero, suc, ◌+◌, ◌-◌, ◌<◌, ◌≤◌, Bool, true, false, cond, List, [], ◌∷◌, length, take, drop, ℤ, pos, ◌+ℤ◌, ◌-ℤ◌, refl, sym, ap, ◌∙◌, arith, length-drop}
use Rattle.std.proofs.lemmas.Bool.{and_parts, ltb-true, ltb-false}
use Rattle.std.proofs.lemmas.Bool.Decides.{nat_tests}
use Rattle.std.proofs.lemmas.Int.{ints}
use Rattle.text_lines.specs.Widths.{byte_width, bytes_width}
use Rattle.text_lines.specs.Lines.{line_at, LiesOn}
use Rattle.text_lines.proofs.FollowLemmas.{lies_found, lines_follow}
use Rattle.text_record.specs.Texts.{Record, lines_of, room_of}
use Rattle.text_record.specs.Places.{have_widths, passed_bytes, line_in, row_of, pen_of, column_of, last_offset, offset_on}
use Rattle.text_record.proofs.PlaceLemmas.{row_lies}

pub lies : (r : Record) (o : ℕ) → LiesOn (lines_of r.text) o (row_of r o)
lies r o = row_lies r.text o

pub lies_alone : (r : Record) (o j : ℕ) → LiesOn (lines_of r.text) o j → j ≡ row_of r o
lies_alone r o j on = lies_found r.text.widths (room_of r.text.wrap r.text.width) r.text.bytes o j on

not_passed : (w : ℕ) → 0 < w → int_le (pos w) (pos 0 +ℤ pos 0) ≡ false
not_passed w p = grind (arith, ints)

is_passed : (w more : ℕ) → int_le (pos w) (pos (w + more) +ℤ pos (w + more)) ≡ true
is_passed w more = grind (arith, ints)

left_over : (w more : ℕ) → (pos (w + more) -ℤ pos w) ≡ pos more
left_over w more = omega (arith, ints)

some_wide : (w : ℕ) → nat_lt 0 w ≡ true → 0 < w
some_wide w e = grind (arith, nat_tests)

-- from where so many bytes reach, just these are passed
finds : (widths xs : List ℕ) (k m : ℕ) → k ≤ m → k ≤ length xs → have_widths widths (take (suc k) xs) ≡ true → passed_bytes widths (pos (bytes_width widths (take k xs))) (take m xs) ≡ k
finds widths [] zero zero p q e = refl
finds widths [] zero (suc m) p q e = refl
finds widths [] (suc k) m p q e = absurd (omega arith)
finds widths (c ∷ cs) zero zero p q e = refl
finds widths (c ∷ cs) zero (suc m) p q e =
    let parts = and_parts (nat_lt 0 (byte_width widths c)) true e in
    rw (not_passed (byte_width widths c) (some_wide (byte_width widths c) parts.0)) refl
finds widths (c ∷ cs) (suc k) zero p q e = absurd (omega arith)
finds widths (c ∷ cs) (suc k) (suc m) p q e =
    let w = byte_width widths c in
    let more = bytes_width widths (take k cs) in
    let parts = and_parts (nat_lt 0 w) (have_widths widths (take (suc k) cs)) e in
    rw (is_passed w more, left_over w more) (omega (arith, finds widths cs k m (omega arith) (omega arith) parts.1))

come_back : (pen : ℤ) (wide : ℕ) → ((pen +ℤ pos wide) -ℤ pen) ≡ pos wide
come_back pen wide = omega (arith, ints)

limit_of : (b : Bool) (e o : ℕ) → (b ≡ true → o < e) → (b ≡ false → o ≤ e) → o ≤ cond b (e - 1) e
limit_of true e o before behind = omega (arith, before refl)
limit_of false e o before behind = behind refl

-- an offset lies where offsets on its line go at most, or before
not_beyond : (r : Record) (o : ℕ) → o ≤ length r.text.bytes → o ≤ last_offset r (row_of r o)
not_beyond r o p =
    let lines = lines_of r.text in
    let j = row_of r o in
    let on = row_lies r.text o in
    let there : j < length lines = on.there in
    let follow = lines_follow r.text.widths (room_of r.text.wrap r.text.width) r.text.bytes in
    limit_of (nat_lt (j + 1) (length lines)) (line_at lines j).end o
    (λ e. on.ahead (ltb-true (j + 1) (length lines) e))
    (λ e. let last : length lines - 1 ≡ j = omega (arith, ltb-false (j + 1) (length lines) e) in omega (arith, follow.last, ap (λ n. (line_at lines n).end) last))

pub found_at_place : (r : Record) (o : ℕ) → o ≤ length r.text.bytes → have_widths r.text.widths (slice_range r.text.bytes (line_in r (row_of r o)).start (o + 1)) ≡ true → offset_on r (row_of r o) (column_of r o) ≡ o
found_at_place r o p e =
    let j = row_of r o in
    let l = line_in r j in
    let on = row_lies r.text o in
    let begun : l.start ≤ o = on.begun in
    let xs = drop l.start r.text.bytes in
    let one_more : (o + 1) - l.start ≡ suc (o - l.start) = omega arith in
    let wide = ap (λ n. have_widths r.text.widths (take n xs)) (sym one_more) ∙ e in
    let found = finds r.text.widths xs (o - l.start) (last_offset r j - l.start) (omega (arith, not_beyond r o p)) (omega (arith, length-drop l.start r.text.bytes)) wide in
    ap (λ z. l.start + passed_bytes r.text.widths z (take (last_offset r j - l.start) xs)) (come_back (pen_of r l) (bytes_width r.text.widths (take (o - l.start) xs))) ∙ omega (arith, found)
