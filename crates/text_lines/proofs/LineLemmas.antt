-- The lines of a text, one after another.
use Rattle.std.proofs.Common.{◌≡◌, ℕ, zero, suc, ◌+◌, ◌-◌, ◌<◌, ◌≤◌, Bool, true, false, cond, List, [], ◌∷◌, ◌++◌, length, take, drop, drop-drop, append_assoc, Option, refl, ap, ◌∙◌, arith, length-drop}
use Rattle.std.proofs.lemmas.Bool.Decides.{nat_tests}
use Rattle.std.proofs.lemmas.List.{take_rest}
use Rattle.text_lines.specs.declared.line.TextLine.{TextLine}
use Rattle.text_lines.specs.Ends.{line_length}
use Rattle.text_lines.specs.Lines.{goes_on, lines_from, text_lines}
use Rattle.text_lines.proofs.EndLemmas.{line_some, line_within}

-- a line that another follows has a byte
pub going_on_some : (widths : List ℕ) (room : Option ℕ) (rest : List ℕ) → goes_on (line_length widths room rest) rest ≡ true → 0 < line_length widths room rest
going_on_some widths room rest h = grind (arith, nat_tests, line_some widths room rest)

-- what is left behind a line that another follows is shorter
pub left_shorter : (widths : List ℕ) (room : Option ℕ) (rest : List ℕ) (a : ℕ) → goes_on (line_length widths room rest) rest ≡ true → length rest ≤ suc a → length (drop (line_length widths room rest) rest) ≤ a
left_shorter widths room rest a h p = omega (arith, length-drop (line_length widths room rest) rest, going_on_some widths room rest h)

-- a text without bytes has one line
pub none_goes_on : (widths : List ℕ) (room : Option ℕ) (rest : List ℕ) → goes_on (line_length widths room rest) rest ≡ true → length rest ≤ 0 → 0 < 0
none_goes_on widths room rest h p = omega (arith, going_on_some widths room rest h, line_within widths room rest)

-- that there is room for more lines than bytes are left makes no other lines
tails : (a b : ℕ) (widths : List ℕ) (room : Option ℕ) (start : ℕ) (rest : List ℕ) → length rest ≤ a → length rest ≤ b → (g : Bool) → goes_on (line_length widths room rest) rest ≡ g → cond g (lines_from a widths room (start + line_length widths room rest) (drop (line_length widths room rest) rest)) [] ≡ cond g (lines_from b widths room (start + line_length widths room rest) (drop (line_length widths room rest) rest)) []
unfolding lines_from
tails a b widths room start rest p q false e = refl
tails zero b widths room start rest p q true e = absurd (omega (arith, none_goes_on widths room rest e p))
tails (suc a) zero widths room start rest p q true e = absurd (omega (arith, none_goes_on widths room rest e q))
tails (suc a) (suc b) widths room start rest p q true e =
    let bytes = line_length widths room rest in
    let left = drop bytes rest in
    let from = start + bytes in
    ap (λ (ls : List TextLine). record { start = from; end = from + line_length widths room left } ∷ ls) (tails a b widths room from left (left_shorter widths room rest a e p) (left_shorter widths room rest b e q) (goes_on (line_length widths room left) left) refl)

enough : (a b : ℕ) (widths : List ℕ) (room : Option ℕ) (start : ℕ) (rest : List ℕ) → length rest ≤ a → length rest ≤ b → lines_from (suc a) widths room start rest ≡ lines_from (suc b) widths room start rest
unfolding lines_from
enough a b widths room start rest p q =
    ap (λ (ls : List TextLine). record { start = start; end = start + line_length widths room rest } ∷ ls) (tails a b widths room start rest p q (goes_on (line_length widths room rest) rest) refl)

-- the lines from a start on
unfoldable pub rest_lines : List ℕ → Option ℕ → ℕ → List ℕ → List TextLine
rest_lines widths room start rest = lines_from (suc (length rest)) widths room start rest

following : (widths : List ℕ) (room : Option ℕ) (start : ℕ) (rest : List ℕ) (g : Bool) → goes_on (line_length widths room rest) rest ≡ g → cond g (lines_from (length rest) widths room (start + line_length widths room rest) (drop (line_length widths room rest) rest)) [] ≡ cond g (rest_lines widths room (start + line_length widths room rest) (drop (line_length widths room rest) rest)) []
unfolding rest_lines
following widths room start rest false e = refl
following widths room start [] true e = absurd (omega (arith, none_goes_on widths room [] e (omega arith)))
following widths room start (c ∷ cs) true e =
    let bytes = line_length widths room (c ∷ cs) in
    let left = drop bytes (c ∷ cs) in
    enough (length cs) (length left) widths room (start + bytes) left (left_shorter widths room (c ∷ cs) (length cs) e (omega arith)) (omega arith)

-- the first of them, and the others
pub rest_step : (widths : List ℕ) (room : Option ℕ) (start : ℕ) (rest : List ℕ) → rest_lines widths room start rest ≡ record { start = start; end = start + line_length widths room rest } ∷ cond (goes_on (line_length widths room rest) rest) (rest_lines widths room (start + line_length widths room rest) (drop (line_length widths room rest) rest)) []
unfolding rest_lines lines_from
rest_step widths room start rest =
    ap (λ (ls : List TextLine). record { start = start; end = start + line_length widths room rest } ∷ ls) (following widths room start rest (goes_on (line_length widths room rest) rest) refl)

-- all lines of a text
pub rest_all : (widths : List ℕ) (room : Option ℕ) (text : List ℕ) → rest_lines widths room 0 text ≡ text_lines widths room text
unfolding rest_lines text_lines
rest_all widths room text = refl

-- one line more: those before it with it, and those behind it, are all
pub one_more : (widths : List ℕ) (room : Option ℕ) (start bytes : ℕ) (text rest : List ℕ) (g : Bool) (items pushed whole : List TextLine) → rest ≡ take (length text - start) (drop start text) → bytes ≡ line_length widths room rest → g ≡ goes_on bytes rest → pushed ≡ items ++ record { start = start; end = start + bytes } ∷ [] → items ++ rest_lines widths room start (drop start text) ≡ whole → pushed ++ cond g (rest_lines widths room (start + bytes) (drop (start + bytes) text)) [] ≡ whole
one_more widths room start bytes text rest g items pushed whole is_rest is_bytes is_g is_pushed is_whole =
    let left : rest ≡ drop start text = is_rest ∙ take_rest text start in
    let step = rest_step widths room start (drop start text) in
    let further = drop-drop bytes start text in
    rw (is_pushed, append_assoc, is_g, is_bytes, left, ← drop-drop, ← step) is_whole
