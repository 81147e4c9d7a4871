-- Lines follow each other, and an offset lies on one of them.
use Rattle.std.proofs.Common.{◌≡◌, ℕ, zero, suc, ◌+◌, ◌-◌, ◌<◌, ◌≤◌, Bool, true, false, cond, List, [], ◌∷◌, length, drop, Option, refl, ap, ◌∙◌, arith, inl, inr, add-one, length-drop, count_by}
use native.Mathlib.Numerals.{unary_clauses}
use Rattle.std.proofs.lemmas.Bool.Decides.{nat_tests}
use Rattle.std.proofs.lemmas.Bool.{cases_lt}
use Rattle.std.proofs.lemmas.List.Sums.{sum_by-cons}
use Rattle.text_lines.specs.declared.line.TextLine.{TextLine}
use Rattle.text_lines.specs.Ends.{line_length}
use Rattle.text_lines.specs.Lines.{goes_on, lines_from, text_lines, line_at, Follow, begins_by, line_of, LiesOn}
use Rattle.text_lines.proofs.EndLemmas.{line_within}
use Rattle.text_lines.proofs.LineLemmas.{rest_lines, going_on_some, none_goes_on, left_shorter}

-- lines that follow each other from one offset to another
abbrev pub Chain : ℕ → ℕ → List TextLine → Type 0
Chain from n [] = ⊥
Chain from n (l ∷ []) = (l.start ≡ from) × (from ≤ n) × (l.end ≡ n)
Chain from n (l ∷ (m ∷ ls)) = (l.start ≡ from) × (from < l.end) × Chain l.end n (m ∷ ls)

-- a line that no other follows takes all that is left
last_takes_all : (widths : List ℕ) (room : Option ℕ) (rest : List ℕ) → goes_on (line_length widths room rest) rest ≡ false → line_length widths room rest ≡ length rest
last_takes_all widths room rest e =
    let within = line_within widths room rest in
    grind (arith, nat_tests)

chain_from : (a : ℕ) (widths : List ℕ) (room : Option ℕ) (start : ℕ) (rest : List ℕ) → length rest ≤ a → (g : Bool) → goes_on (line_length widths room rest) rest ≡ g → Chain start (start + length rest) (record { start = start; end = start + line_length widths room rest } ∷ cond g (lines_from a widths room (start + line_length widths room rest) (drop (line_length widths room rest) rest)) [])
unfolding lines_from
chain_from a widths room start rest p false e = (refl, omega arith, ap (λ n. start + n) (last_takes_all widths room rest e))
chain_from zero widths room start rest p true e = absurd (omega (arith, none_goes_on widths room rest e p))
chain_from (suc a) widths room start rest p true e =
    let bytes = line_length widths room rest in
    let left = drop bytes rest in
    let further = chain_from a widths room (start + bytes) left (left_shorter widths room rest a e p) (goes_on (line_length widths room left) left) refl in
    let same : start + bytes + length left ≡ start + length rest = omega (arith, length-drop bytes rest, line_within widths room rest) in
    (refl, omega (arith, going_on_some widths room rest e), rw same at further)

-- the lines from a start on do
pub rest_chain : (widths : List ℕ) (room : Option ℕ) (start : ℕ) (rest : List ℕ) → Chain start (start + length rest) (rest_lines widths room start rest)
unfolding rest_lines lines_from
rest_chain widths room start rest = chain_from (length rest) widths room start rest (omega arith) (goes_on (line_length widths room rest) rest) refl

-- the lines of a text do
pub chain_lines : (widths : List ℕ) (room : Option ℕ) (text : List ℕ) → Chain 0 (length text) (text_lines widths room text)
unfolding text_lines lines_from
chain_lines widths room text =
    let made = chain_from (length text) widths room 0 text (omega arith) (goes_on (line_length widths room text) text) refl in
    let same : 0 + length text ≡ length text = omega arith in
    rw same at made

-- lines that follow each other, by their numbers
pub follow_some : (from n : ℕ) (ls : List TextLine) → Chain from n ls → 0 < length ls
follow_some from n [] h = absurd h
follow_some from n (l ∷ ls) h = omega arith

pub follow_first : (from n : ℕ) (ls : List TextLine) → Chain from n ls → (line_at ls 0).start ≡ from
follow_first from n [] h = absurd h
follow_first from n (l ∷ []) h = h.0
follow_first from n (l ∷ (m ∷ ls)) h = h.0

pub follow_last : (from n : ℕ) (ls : List TextLine) → Chain from n ls → (line_at ls (length ls - 1)).end ≡ n
follow_last from n [] h = absurd h
follow_last from n (l ∷ []) h = h.2
follow_last from n (l ∷ (m ∷ ls)) h = simp unary_clauses (simp unary_clauses at (follow_last l.end n (m ∷ ls) h.2))

pub follow_next : (from n : ℕ) (ls : List TextLine) → Chain from n ls → (j : ℕ) → j + 1 < length ls → (line_at ls (j + 1)).start ≡ (line_at ls j).end
follow_next from n [] h j p = absurd h
follow_next from n (l ∷ []) h j p = absurd (omega arith)
follow_next from n (l ∷ (m ∷ ls)) h zero p = follow_first l.end n (m ∷ ls) h.2
follow_next from n (l ∷ (m ∷ ls)) h (suc j) p = simp add-one (simp add-one at (follow_next l.end n (m ∷ ls) h.2 j (omega arith)))

pub follow_filled : (from n : ℕ) (ls : List TextLine) → Chain from n ls → (j : ℕ) → j + 1 < length ls → (line_at ls j).start < (line_at ls j).end
follow_filled from n [] h j p = absurd h
follow_filled from n (l ∷ []) h j p = absurd (omega arith)
follow_filled from n (l ∷ (m ∷ ls)) h zero p = omega (arith, h.0, h.1)
follow_filled from n (l ∷ (m ∷ ls)) h (suc j) p = follow_filled l.end n (m ∷ ls) h.2 j (omega arith)

pub lines_follow : (widths : List ℕ) (room : Option ℕ) (text : List ℕ) → Follow (length text) (text_lines widths room text)
lines_follow widths room text =
    let chain = chain_lines widths room text in
    let lines = text_lines widths room text in
    record {
      some = follow_some 0 (length text) lines chain;
      first = follow_first 0 (length text) lines chain;
      last = follow_last 0 (length text) lines chain;
      next = follow_next 0 (length text) lines chain;
      filled = follow_filled 0 (length text) lines chain;
    }

begun : (o : ℕ) (l : TextLine) → l.start ≤ o → begins_by o l ≡ true
begun o l p = grind (arith, nat_tests)

not_begun : (o : ℕ) (l : TextLine) → o < l.start → begins_by o l ≡ false
not_begun o l p = grind (arith, nat_tests)

-- how many begin, of a line and others
count_more : (o : ℕ) (l : TextLine) (ls : List TextLine) (b : Bool) → begins_by o l ≡ b → count_by (begins_by o) (l ∷ ls) ≡ cond b 1 0 + count_by (begins_by o) ls
count_more o l ls b e = sum_by-cons (λ x. cond (begins_by o x) 1 0) l ls ∙ ap (λ v. cond v 1 0 + count_by (begins_by o) ls) e

-- none of the lines from behind an offset on begins there or before
none_begun : (from n : ℕ) (ls : List TextLine) (o : ℕ) → Chain from n ls → o < from → count_by (begins_by o) ls ≡ 0
none_begun from n [] o h p = absurd h
none_begun from n (l ∷ []) o h p = rw (not_begun o l (omega (arith, h.0))) refl
none_begun from n (l ∷ (m ∷ ls)) o h p = omega (arith, count_more o l (m ∷ ls) false (not_begun o l (omega (arith, h.0))), (none_begun l.end n (m ∷ ls) o h.2 (omega (arith, h.1))))

-- no line of them begins before the first
pub begins_behind : (from n : ℕ) (ls : List TextLine) → Chain from n ls → (j : ℕ) → j < length ls → from ≤ (line_at ls j).start
begins_behind from n [] h j p = absurd h
begins_behind from n (l ∷ []) h zero p = omega (arith, h.0)
begins_behind from n (l ∷ []) h (suc j) p = absurd (omega arith)
begins_behind from n (l ∷ (m ∷ ls)) h zero p = omega (arith, h.0)
begins_behind from n (l ∷ (m ∷ ls)) h (suc j) p = omega (arith, h.1, begins_behind l.end n (m ∷ ls) h.2 j (omega arith))

-- the line that is found has the offset
found_from : (from n : ℕ) (ls : List TextLine) (o : ℕ) → Chain from n ls → from ≤ o → (k : ℕ) × (count_by (begins_by o) ls ≡ suc k) × LiesOn ls o k
found_from from n [] o h p = absurd h
found_from from n (l ∷ []) o h p =
    let here : l.start ≤ o = omega (arith, h.0) in
    (0, rw (begun o l here) refl, record { there = omega arith; begun = here; ahead = λ q. absurd (omega (arith, q)) })
found_from from n (l ∷ (m ∷ ls)) o h p =
    let here : l.start ≤ o = omega (arith, h.0) in
    elim (cases_lt o l.end) [
      | inl before ↦ (0, omega (arith, count_more o l (m ∷ ls) true (begun o l here), (none_begun l.end n (m ∷ ls) o h.2 before)), record { there = omega arith; begun = here; ahead = λ q. before })
      | inr behind ↦
          let further = found_from l.end n (m ∷ ls) o h.2 behind in
          let on = further.2 in
          (suc further.0, omega (arith, count_more o l (m ∷ ls) true (begun o l here), (further.1)), record { there = omega (arith, on.there); begun = on.begun; ahead = λ q. on.ahead (omega (arith, q)) })
    ]

-- the line that has the offset is found
alone_from : (from n : ℕ) (ls : List TextLine) (o j : ℕ) → Chain from n ls → LiesOn ls o j → count_by (begins_by o) ls ≡ suc j
alone_from from n [] o j h on = absurd h
alone_from from n (l ∷ []) o zero h on = rw (begun o l on.begun) refl
alone_from from n (l ∷ []) o (suc j) h on = absurd (omega (arith, on.there))
alone_from from n (l ∷ (m ∷ ls)) o zero h on = omega (arith, count_more o l (m ∷ ls) true (begun o l on.begun), (none_begun l.end n (m ∷ ls) o h.2 (on.ahead (omega arith))))
alone_from from n (l ∷ (m ∷ ls)) o (suc j) h on =
    let there : j < length (m ∷ ls) = omega (arith, on.there) in
    let here : l.start ≤ o = omega (arith, h.0, h.1, begins_behind l.end n (m ∷ ls) h.2 j there, on.begun) in
    let further = alone_from l.end n (m ∷ ls) o j h.2 (record { there = there; begun = on.begun; ahead = λ q. on.ahead (omega (arith, q)) }) in
    omega (arith, count_more o l (m ∷ ls) true (begun o l here), (further))

pub found_lies : (widths : List ℕ) (room : Option ℕ) (text : List ℕ) (o : ℕ) → LiesOn (text_lines widths room text) o (line_of (text_lines widths room text) o)
unfolding line_of
found_lies widths room text o =
    let found = found_from 0 (length text) (text_lines widths room text) o (chain_lines widths room text) (omega arith) in
    let is : count_by (begins_by o) (text_lines widths room text) - 1 ≡ found.0 = omega (arith, found.1) in
    rw is found.2

pub lies_found : (widths : List ℕ) (room : Option ℕ) (text : List ℕ) (o j : ℕ) → LiesOn (text_lines widths room text) o j → j ≡ line_of (text_lines widths room text) o
unfolding line_of
lies_found widths room text o j on = omega (arith, alone_from 0 (length text) (text_lines widths room text) o j (chain_lines widths room text) on)

chain_order : (from n : ℕ) (ls : List TextLine) → Chain from n ls → from ≤ n
chain_order from n [] h = absurd h
chain_order from n (l ∷ []) h = h.1
chain_order from n (l ∷ (m ∷ ls)) h = omega (arith, h.1, chain_order l.end n (m ∷ ls) h.2)

chain_bounds : (from n : ℕ) (ls : List TextLine) → Chain from n ls → (j : ℕ) → j < length ls → ((line_at ls j).start ≤ (line_at ls j).end) × ((line_at ls j).end ≤ n)
chain_bounds from n [] h j p = absurd h
chain_bounds from n (l ∷ []) h zero p = (omega (arith, h.0, h.1, h.2), omega (arith, h.2))
chain_bounds from n (l ∷ []) h (suc j) p = absurd (omega arith)
chain_bounds from n (l ∷ (m ∷ ls)) h zero p = (omega (arith, h.0, h.1), chain_order l.end n (m ∷ ls) h.2)
chain_bounds from n (l ∷ (m ∷ ls)) h (suc j) p = chain_bounds l.end n (m ∷ ls) h.2 j (omega arith)

chain_few : (from n : ℕ) (ls : List TextLine) → Chain from n ls → length ls + from ≤ n + 1
chain_few from n [] h = absurd h
chain_few from n (l ∷ []) h = omega (arith, h.1)
chain_few from n (l ∷ (m ∷ ls)) h = omega (arith, h.1, chain_few l.end n (m ∷ ls) h.2)

-- a line lies within its text
pub line_bounds : (widths : List ℕ) (room : Option ℕ) (text : List ℕ) (j : ℕ) → j < length (text_lines widths room text) → ((line_at (text_lines widths room text) j).start ≤ (line_at (text_lines widths room text) j).end) × ((line_at (text_lines widths room text) j).end ≤ length text)
line_bounds widths room text j p = chain_bounds 0 (length text) (text_lines widths room text) (chain_lines widths room text) j p

-- there are no more lines than bytes, and one
pub lines_few : (widths : List ℕ) (room : Option ℕ) (text : List ℕ) → length (text_lines widths room text) ≤ length text + 1
lines_few widths room text = omega (arith, chain_few 0 (length text) (text_lines widths room text) (chain_lines widths room text))

-- a line that another follows has a byte
pub line_filled : (widths : List ℕ) (room : Option ℕ) (text : List ℕ) (j : ℕ) → j + 1 < length (text_lines widths room text) → (line_at (text_lines widths room text) j).start < (line_at (text_lines widths room text) j).end
line_filled widths room text j p = follow_filled 0 (length text) (text_lines widths room text) (chain_lines widths room text) j p

-- there is a line
pub lines_some : (widths : List ℕ) (room : Option ℕ) (text : List ℕ) → 0 < length (text_lines widths room text)
lines_some widths room text = follow_some 0 (length text) (text_lines widths room text) (chain_lines widths room text)
