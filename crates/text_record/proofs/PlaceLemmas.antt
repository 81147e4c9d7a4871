-- Where lines lie.
use Rattle.std.specs.Prelude.{slice_range}
use Rattle.std.proofs.Common.{◌≡◌, ℕ, ◌+◌, ◌*◌, ◌<◌, ◌≤◌, List, length, ℤ, pos, ◌+ℤ◌, ◌-ℤ◌, ap, ◌∙◌, arith, mul-le-mul}
use Rattle.std.proofs.lemmas.Int.{ints}
use Rattle.text_lines.specs.declared.line.TextLine.{TextLine}
use Rattle.text_lines.specs.Lines.{line_at, line_of, LiesOn}
use Rattle.text_lines.proofs.FollowLemmas.{line_bounds, lines_few, lines_follow, found_lies}
use Rattle.text_record.specs.Texts.{Lined, lines_of, room_of, Record}
use Rattle.text_record.specs.declared.placing.Justification.{Justification}
use Rattle.text_lines.specs.Widths.{bytes_width}
use Rattle.text_record.specs.Places.{spare_of, pen_of, indent, line_in, row_of, column_of, last_offset, offset_on, passed_bytes}

pub some_line : (t : Lined) → 1 ≤ length (lines_of t)
some_line t = (lines_follow t.widths (room_of t.wrap t.width) t.bytes).some

pub few_lines : (t : Lined) → length (lines_of t) ≤ length t.bytes + 1
few_lines t = lines_few t.widths (room_of t.wrap t.width) t.bytes

pub line_rises : (t : Lined) (j : ℕ) → j < length (lines_of t) → (line_at (lines_of t) j).start ≤ (line_at (lines_of t) j).end
line_rises t j p = (line_bounds t.widths (room_of t.wrap t.width) t.bytes j p).0

pub line_in_text : (t : Lined) (j : ℕ) → j < length (lines_of t) → (line_at (lines_of t) j).end ≤ length t.bytes
line_in_text t j p = (line_bounds t.widths (room_of t.wrap t.width) t.bytes j p).1

-- an offset lies on one of the lines
pub row_lies : (t : Lined) (o : ℕ) → LiesOn (lines_of t) o (line_of (lines_of t) o)
row_lies t o = found_lies t.widths (room_of t.wrap t.width) t.bytes o

-- all lines are not too high together
pub rows_small : (j height : ℕ) → j ≤ 32000 → height ≤ 381 → j * height ≤ 12192000
rows_small j height p q = mul-le-mul p q

beside_one : (left by : ℤ) → (left +ℤ (pos 1 +ℤ by)) ≡ ((left +ℤ pos 1) +ℤ by)
beside_one left by = omega (arith, ints)

-- where a line begins, step by step
pub pen_is : (by spare : ℤ) (j : Justification) (r : Record) (number : ℕ) → j ≡ r.justification → by ≡ indent j spare → spare ≡ spare_of r.text (line_in r number)
    → (r.left +ℤ (pos 1 +ℤ by)) ≡ pen_of r (line_in r number)
pen_is by spare j r number b c d = beside_one r.left by ∙ (λ i. (r.left +ℤ pos 1) +ℤ (c ∙ (λ k. indent (b k) (d k))) i)

-- a line that another follows has a byte
pub line_filled : (t : Lined) (j : ℕ) → j + 1 < length (lines_of t) → (line_at (lines_of t) j).start < (line_at (lines_of t) j).end
line_filled t j p = (lines_follow t.widths (room_of t.wrap t.width) t.bytes).filled j p

beside_both : (left pen wide : ℤ) → (left +ℤ (pen +ℤ wide)) ≡ ((left +ℤ pen) +ℤ wide)
beside_both left pen wide = omega (arith, ints)

-- the column of an offset, step by step
pub column_is : (r : Record) (o number start wide : ℕ) (pen : ℤ) (l : TextLine) (widths bytes before : List ℕ) → number ≡ row_of r o → l ≡ line_in r number → start ≡ l.start → (r.left +ℤ pen) ≡ pen_of r (line_in r number)
    → widths ≡ r.text.widths → bytes ≡ r.text.bytes → before ≡ slice_range bytes start o → wide ≡ bytes_width widths before → (r.left +ℤ (pen +ℤ pos wide)) ≡ column_of r o
column_is r o number start wide pen l widths bytes before n e s p w b f g =
    let start_is : start ≡ (line_in r (row_of r o)).start = s ∙ ap (λ (x : TextLine). x.start) e ∙ ap (λ k. (line_in r k).start) n in
    let before_is : before ≡ slice_range r.text.bytes (line_in r (row_of r o)).start o = f ∙ (λ i. slice_range (b i) (start_is i) o) in
    beside_both r.left pen (pos wide) ∙ (λ i. (p ∙ ap (λ k. pen_of r (line_in r k)) n) i +ℤ pos ((g ∙ (λ k. bytes_width (w k) (before_is k))) i))

-- the offset on a line, step by step
pub offset_is : (r : Record) (number start last passed : ℕ) (h pen : ℤ) (l : TextLine) (widths bytes : List ℕ) → l ≡ line_in r number → start ≡ l.start → pen ≡ pen_of r (line_in r number)
    → last ≡ last_offset r number → widths ≡ r.text.widths → bytes ≡ r.text.bytes → passed ≡ passed_bytes widths (h -ℤ pen) (slice_range bytes start last) → start + passed ≡ offset_on r number h
offset_is r number start last passed h pen l widths bytes e s p f w b g =
    let start_is : start ≡ (line_in r number).start = s ∙ ap (λ (x : TextLine). x.start) e in
    λ i. start_is i + (g ∙ (λ k. passed_bytes (w k) (h -ℤ p k) (slice_range (b k) (start_is k) (f k)))) i
