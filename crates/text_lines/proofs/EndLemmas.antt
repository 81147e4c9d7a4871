-- A line has a byte where there is one, and no more than there are.
use Rattle.std.proofs.Common.{ℕ, ◌+◌, ◌<◌, ◌≤◌, Bool, cond, eqb, ◌||◌, List, [], ◌∷◌, length, Option, arith}
use Rattle.std.proofs.lemmas.Bool.Decides.{nat_tests}
use Rattle.text_lines.specs.Widths.{byte_width, fits}
use Rattle.text_lines.specs.Ends.{is_return, is_blank, hang_length, line_walk, line_length}

hang_step : (n h : ℕ) (r b : Bool) → h ≤ n → cond r 1 (cond b (1 + h) 0) ≤ n + 1
hang_step n h r b p = grind (arith, nat_tests)

hang_within : (text : List ℕ) → hang_length text ≤ length text
hang_within [] = omega arith
hang_within (c ∷ cs) = omega (arith, hang_step (length cs) (hang_length cs) (is_return c) (is_blank c) (hang_within cs))

some_step : (done last x h : ℕ) (r f b : Bool) → 0 < x → 0 < cond r (done + 1) (cond (f || eqb done 0) x (cond b (done + h) (cond (eqb last 0) done last)))
some_step done last x h r f b p = grind (arith, nat_tests)

walk_some : (widths : List ℕ) (room : Option ℕ) (wide done last : ℕ) (text : List ℕ) → 0 < done + length text → 0 < line_walk widths room wide done last text
walk_some widths room wide done last [] p = omega arith
walk_some widths room wide done last (c ∷ cs) p =
    some_step done last _ (hang_length (c ∷ cs)) (is_return c) (fits room (wide + byte_width widths c)) (is_blank c) (walk_some widths room (wide + byte_width widths c) (done + 1) (cond (is_blank c) (done + 1) last) cs (omega arith))

within_step : (n done last x h : ℕ) (r f b : Bool) → last ≤ done → x ≤ done + 1 + n → h ≤ n + 1 → cond r (done + 1) (cond (f || eqb done 0) x (cond b (done + h) (cond (eqb last 0) done last))) ≤ done + (n + 1)
within_step n done last x h r f b p q s = grind (arith, nat_tests)

last_step : (done last : ℕ) (b : Bool) → last ≤ done → cond b (done + 1) last ≤ done + 1
last_step done last b p = grind (arith, nat_tests)

walk_within : (widths : List ℕ) (room : Option ℕ) (wide done last : ℕ) (text : List ℕ) → last ≤ done → line_walk widths room wide done last text ≤ done + length text
walk_within widths room wide done last [] p = omega arith
walk_within widths room wide done last (c ∷ cs) p =
    let rest = walk_within widths room (wide + byte_width widths c) (done + 1) (cond (is_blank c) (done + 1) last) cs (last_step done last (is_blank c) p) in
    let hang : hang_length (c ∷ cs) ≤ length cs + 1 = omega (arith, hang_within (c ∷ cs)) in
    omega (arith, within_step (length cs) done last _ (hang_length (c ∷ cs)) (is_return c) (fits room (wide + byte_width widths c)) (is_blank c) p rest hang)

-- a text with a byte has one in its first line
pub line_some : (widths : List ℕ) (room : Option ℕ) (text : List ℕ) → 0 < length text → 0 < line_length widths room text
unfolding line_length
line_some widths room text p = walk_some widths room 0 0 0 text (omega arith)

-- the first line has no byte that the text has not
pub line_within : (widths : List ℕ) (room : Option ℕ) (text : List ℕ) → line_length widths room text ≤ length text
unfolding line_length
line_within widths room text = omega (arith, walk_within widths room 0 0 0 text (omega arith))
