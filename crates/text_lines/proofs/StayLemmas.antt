-- Texts that begin with the same bytes have the same lines, up to and without the line before that of the last of them.
use Rattle.std.proofs.Common.{◌≡◌, ℕ, zero, suc, ◌+◌, ◌-◌, ◌<◌, ◌≤◌, Bool, true, false, cond, eqb, ◌||◌, List, [], ◌∷◌, length, get_or, take, drop, Option, Some, None, refl, ap, sym, ◌∙◌, arith, add-one, length-drop, length-take, drop-drop}
use Rattle.std.proofs.lemmas.Bool.Decides.{nat_tests}
use Rattle.std.proofs.lemmas.List.{drop-take}
use Rattle.text_lines.specs.declared.line.TextLine.{TextLine}
use Rattle.text_lines.specs.Widths.{byte_width, fits}
use Rattle.text_lines.specs.Ends.{is_return, is_blank, hang_length, line_walk, line_length}
use Rattle.text_lines.specs.Lines.{goes_on, text_lines, line_at, line_of}
use Rattle.text_lines.proofs.LineLemmas.{rest_lines, rest_step, rest_all}
use Rattle.text_lines.proofs.FollowLemmas.{Chain, rest_chain, chain_lines, begins_behind, follow_some, follow_next, follow_filled, found_lies}

-- how many bytes are looked at to find how long blanks are, where the text's end counts as a byte
abbrev hang_reads : List ℕ → ℕ
hang_reads [] = 1
hang_reads (c ∷ cs) = cond (is_return c) 1 (cond (is_blank c) (1 + hang_reads cs) 1)

-- how many bytes a walk further looks at, where the text's end counts as a byte
abbrev walk_reads : List ℕ → Option ℕ → ℕ → ℕ → List ℕ → ℕ
walk_reads widths room wide done [] = 1
walk_reads widths room wide done (c ∷ cs) = cond (is_return c) 1 (cond (fits room (wide + byte_width widths c) || eqb done 0) (1 + walk_reads widths room (wide + byte_width widths c) (done + 1) cs) (cond (is_blank c) (hang_reads (c ∷ cs)) 1))

hang_some_step : (r b : Bool) (x : ℕ) → 1 ≤ cond r 1 (cond b (1 + x) 1)
hang_some_step true b x = omega arith
hang_some_step false true x = omega arith
hang_some_step false false x = omega arith

hang_some : (cs : List ℕ) → 1 ≤ hang_reads cs
hang_some [] = omega arith
hang_some (c ∷ cs) = hang_some_step (is_return c) (is_blank c) (hang_reads cs)

walk_some_step : (r f b : Bool) (x h : ℕ) → 1 ≤ h → 1 ≤ cond r 1 (cond f (1 + x) (cond b h 1))
walk_some_step true f b x h p = omega arith
walk_some_step false true b x h p = omega arith
walk_some_step false false true x h p = p
walk_some_step false false false x h p = omega arith

walk_some : (widths : List ℕ) (room : Option ℕ) (wide done : ℕ) (cs : List ℕ) → 1 ≤ walk_reads widths room wide done cs
walk_some widths room wide done [] = omega arith
walk_some widths room wide done (c ∷ cs) = walk_some_step (is_return c) (fits room (wide + byte_width widths c) || eqb done 0) (is_blank c) _ (hang_reads (c ∷ cs)) (hang_some (c ∷ cs))

-- texts that begin with the same bytes have the same first byte, and go on with the same bytes
same_first : (n c d : ℕ) (cs ds : List ℕ) → take (suc n) (c ∷ cs) ≡ take (suc n) (d ∷ ds) → c ≡ d
same_first n c d cs ds e = ap (λ (xs : List ℕ). get_or xs 0 0) e

same_others : (n c d : ℕ) (cs ds : List ℕ) → take (suc n) (c ∷ cs) ≡ take (suc n) (d ∷ ds) → take n cs ≡ take n ds
same_others n c d cs ds e = ap (λ (xs : List ℕ). drop 1 xs) e

hang_same_step : (r b : Bool) (n x h g : ℕ) → cond r 1 (cond b (1 + x) 1) ≤ suc n → (x ≤ n → h ≡ g) → cond r 1 (cond b (1 + h) 0) ≡ cond r 1 (cond b (1 + g) 0)
hang_same_step true b n x h g p same = refl
hang_same_step false true n x h g p same = ap (λ v. 1 + v) (same (omega (arith, p)))
hang_same_step false false n x h g p same = refl

-- the blanks that two texts begin with are as long, where as many bytes are the same as are looked at
hang_same : (cs ds : List ℕ) (n : ℕ) → hang_reads cs ≤ n → take n cs ≡ take n ds → hang_length cs ≡ hang_length ds
hang_same [] [] n p e = refl
hang_same [] (d ∷ ds) zero p e = absurd (omega (arith, p))
hang_same [] (d ∷ ds) (suc n) p e = absurd (omega (arith, ap (λ (xs : List ℕ). length xs) e))
hang_same (c ∷ cs) ds zero p e = absurd (omega (arith, p, hang_some (c ∷ cs)))
hang_same (c ∷ cs) [] (suc n) p e = absurd (omega (arith, ap (λ (xs : List ℕ). length xs) e))
hang_same (c ∷ cs) (d ∷ ds) (suc n) p e =
    let step = hang_same_step (is_return c) (is_blank c) n (hang_reads cs) (hang_length cs) (hang_length ds) p (λ q. hang_same cs ds n q (same_others n c d cs ds e)) in
    step ∙ ap (λ v. hang_length (v ∷ ds)) (same_first n c d cs ds e)

walk_same_step : (r f b : Bool) (n R H e x y h g l : ℕ) → cond r 1 (cond f (1 + R) (cond b H 1)) ≤ suc n → (R ≤ n → x ≡ y) → (H ≤ suc n → h ≡ g) → cond r e (cond f x (cond b h l)) ≡ cond r e (cond f y (cond b g l))
walk_same_step true f b n R H e x y h g l p walk hang = refl
walk_same_step false true b n R H e x y h g l p walk hang = walk (omega (arith, p))
walk_same_step false false true n R H e x y h g l p walk hang = hang p
walk_same_step false false false n R H e x y h g l p walk hang = refl

-- two walks end at the same place, where as many bytes are the same as the first looks at
walk_same : (widths : List ℕ) (room : Option ℕ) (wide done last : ℕ) (cs ds : List ℕ) (n : ℕ) → walk_reads widths room wide done cs ≤ n → take n cs ≡ take n ds → line_walk widths room wide done last cs ≡ line_walk widths room wide done last ds
walk_same widths room wide done last [] [] n p e = refl
walk_same widths room wide done last [] (d ∷ ds) zero p e = absurd (omega (arith, p))
walk_same widths room wide done last [] (d ∷ ds) (suc n) p e = absurd (omega (arith, ap (λ (xs : List ℕ). length xs) e))
walk_same widths room wide done last (c ∷ cs) ds zero p e = absurd (omega (arith, p, walk_some widths room wide done (c ∷ cs)))
walk_same widths room wide done last (c ∷ cs) [] (suc n) p e = absurd (omega (arith, ap (λ (xs : List ℕ). length xs) e))
walk_same widths room wide done last (c ∷ cs) (d ∷ ds) (suc n) p e =
    let first = same_first n c d cs ds e in
    let others = same_others n c d cs ds e in
    let next = wide + byte_width widths c in
    let blank = cond (is_blank c) (done + 1) last in
    let hang : hang_reads (c ∷ cs) ≤ suc n → done + hang_length (c ∷ cs) ≡ done + hang_length (c ∷ ds) = λ q. ap (λ v. done + v) (hang_same (c ∷ cs) (c ∷ ds) (suc n) q (ap (λ (xs : List ℕ). c ∷ xs) others)) in
    let step = walk_same_step (is_return c) (fits room next || eqb done 0) (is_blank c) n _ (hang_reads (c ∷ cs)) (done + 1) (line_walk widths room next (done + 1) blank cs) (line_walk widths room next (done + 1) blank ds) (done + hang_length (c ∷ cs)) (done + hang_length (c ∷ ds)) (cond (eqb last 0) done last) p (λ q. walk_same widths room next (done + 1) blank cs ds n q others) hang in
    step ∙ ap (λ v. line_walk widths room wide done last (v ∷ ds)) first

hang_reads_step : (r b : Bool) (x h : ℕ) → x ≤ 1 + h → cond r 1 (cond b (1 + x) 1) ≤ 1 + cond r 1 (cond b (1 + h) 0)
hang_reads_step true b x h p = omega arith
hang_reads_step false true x h p = omega (arith, p)
hang_reads_step false false x h p = omega arith

-- blanks are looked at up to the byte behind them
hang_reads_within : (cs : List ℕ) → hang_reads cs ≤ 1 + hang_length cs
hang_reads_within [] = omega arith
hang_reads_within (c ∷ cs) = hang_reads_step (is_return c) (is_blank c) (hang_reads cs) (hang_length cs) (hang_reads_within cs)

least_step : (low done x h l : ℕ) (r f b : Bool) → low ≤ done → low ≤ l → low ≤ x → low ≤ cond r (done + 1) (cond f x (cond b (done + h) l))
least_step low done x h l true f b p q s = omega (arith, p)
least_step low done x h l false true b p q s = s
least_step low done x h l false false true p q s = omega (arith, p)
least_step low done x h l false false false p q s = q

least_last : (low done last : ℕ) (b : Bool) → low ≤ done → low ≤ cond (eqb last 0) done last → low ≤ cond (eqb (cond b (done + 1) last) 0) (done + 1) (cond b (done + 1) last)
least_last low done last b p q = grind (arith, nat_tests)

-- a walk ends behind the bytes that have room so far, or behind the last blank of these, or later
walk_least : (widths : List ℕ) (room : Option ℕ) (low wide done last : ℕ) (cs : List ℕ) → low ≤ done → low ≤ cond (eqb last 0) done last → low ≤ line_walk widths room wide done last cs
walk_least widths room low wide done last [] p q = p
walk_least widths room low wide done last (c ∷ cs) p q =
    let next = wide + byte_width widths c in
    let blank = cond (is_blank c) (done + 1) last in
    least_step low done (line_walk widths room next (done + 1) blank cs) (hang_length (c ∷ cs)) (cond (eqb last 0) done last) (is_return c) (fits room next || eqb done 0) (is_blank c) p q (walk_least widths room low next (done + 1) blank cs (omega (arith, p)) (least_last low done last (is_blank c) p q))

-- bytes that have room as a part of others have room
room_less : (room : Option ℕ) (wide less done k : ℕ) → less ≤ wide → k ≤ done → (fits room wide || eqb done 0) ≡ true → (fits room less || eqb k 0) ≡ true
room_less None wide less done k p q e = refl
room_less (Some room) wide less done k p q e = grind (arith, nat_tests)

-- a walk goes on over a byte of a word that has room
word_step : (widths : List ℕ) (room : Option ℕ) (wide done c : ℕ) (cs : List ℕ) → is_return c ≡ false → (fits room (wide + byte_width widths c) || eqb done 0) ≡ true → is_blank c ≡ false → line_walk widths room wide done 0 (c ∷ cs) ≡ line_walk widths room (wide + byte_width widths c) (done + 1) 0 cs
word_step widths room wide done c cs r f b = rw (r, f, b) refl

by_blank : (G : ℕ → Type 0) (b : Bool) (done last : ℕ) → (b ≡ true → G (done + 1)) → (b ≡ false → G last) → G (cond b (done + 1) last)
by_blank G true done last blank word = blank refl
by_blank G false done last blank word = word refl

reads_step : (L : ℕ → ℕ) (r f b z : Bool) (done last k R x H h : ℕ) → last + k ≡ done → (r ≡ false → f ≡ true → done + 1 + R ≤ 1 + (x + L x)) → H ≤ 1 + h → k ≤ L last → done + cond r 1 (cond f (1 + R) (cond b H 1)) ≤ 1 + (cond r (done + 1) (cond f x (cond b (done + h) (cond z done last))) + L (cond r (done + 1) (cond f x (cond b (done + h) (cond z done last)))))
reads_step L true f b z done last k R x H h is_done further hang word = omega arith
reads_step L false true b z done last k R x H h is_done further hang word = omega (arith, further refl refl)
reads_step L false false true z done last k R x H h is_done further hang word = omega (arith, hang)
reads_step L false false false true done last k R x H h is_done further hang word = omega arith
reads_step L false false false false done last k R x H h is_done further hang word = omega (arith, word, is_done)

-- what is left behind a byte more
left_more : (text cs : List ℕ) (done c : ℕ) → drop done text ≡ c ∷ cs → drop (done + 1) text ≡ cs
left_more text cs done c e = sym (drop-drop 1 done text) ∙ ap (λ (xs : List ℕ). drop 1 xs) e

-- a walk over a text looks at no byte behind the one that follows its second line: behind the last blank it has `k`
-- bytes, `w` wide, which the second line takes if it begins there
walk_reads_within : (widths : List ℕ) (room : Option ℕ) (text : List ℕ) (wide done last w k : ℕ) (cs : List ℕ) → drop done text ≡ cs → last + k ≡ done → w ≤ wide → line_walk widths room w k 0 cs ≡ line_walk widths room 0 0 0 (drop last text) → done + walk_reads widths room wide done cs ≤ 1 + (line_walk widths room wide done last cs + line_walk widths room 0 0 0 (drop (line_walk widths room wide done last cs) text))
walk_reads_within widths room text wide done last w k [] left is_done narrow word = omega arith
walk_reads_within widths room text wide done last w k (c ∷ cs) left is_done narrow word =
    let L : ℕ → ℕ = λ v. line_walk widths room 0 0 0 (drop v text) in
    let next = wide + byte_width widths c in
    let left_next = left_more text cs done c left in
    let blank = walk_reads_within widths room text next (done + 1) (done + 1) 0 0 cs left_next (omega arith) (omega arith) (ap (λ (xs : List ℕ). line_walk widths room 0 0 0 xs) (sym left_next)) in
    let on : is_return c ≡ false → (fits room next || eqb done 0) ≡ true → is_blank c ≡ false → line_walk widths room (w + byte_width widths c) (k + 1) 0 cs ≡ L last = λ r f b. sym (word_step widths room w k c cs r (room_less room next (w + byte_width widths c) done k (omega (arith, narrow)) (omega (arith, is_done)) f) b) ∙ word in
    let further = λ (r : is_return c ≡ false) (f : (fits room next || eqb done 0) ≡ true). by_blank (λ v. done + 1 + walk_reads widths room next (done + 1) cs ≤ 1 + (line_walk widths room next (done + 1) v cs + L (line_walk widths room next (done + 1) v cs))) (is_blank c) done last (λ b. blank) (λ b. walk_reads_within widths room text next (done + 1) last (w + byte_width widths c) (k + 1) cs left_next (omega (arith, is_done)) (omega (arith, narrow)) (on r f b)) in
    let passed : k ≤ L last = rw (← word) (walk_least widths room k w k 0 (c ∷ cs) (omega arith) (omega arith)) in
    reads_step L (is_return c) (fits room next || eqb done 0) (is_blank c) (eqb last 0) done last k (walk_reads widths room next (done + 1) cs) (line_walk widths room next (done + 1) (cond (is_blank c) (done + 1) last) cs) (hang_reads (c ∷ cs)) (hang_length (c ∷ cs)) is_done further (hang_reads_within (c ∷ cs)) passed

-- texts that begin with the bytes of two lines, and one more, have the same first line
pub first_line_stays : (widths : List ℕ) (room : Option ℕ) (text other : List ℕ) (n : ℕ) → take n text ≡ take n other → line_length widths room text + line_length widths room (drop (line_length widths room text) text) < n → line_length widths room text ≡ line_length widths room other
unfolding line_length
first_line_stays widths room text other n e p =
    let reads = walk_reads_within widths room text 0 0 0 0 0 text refl (omega arith) (omega arith) refl in
    walk_same widths room 0 0 0 text other n (omega (arith, reads, p)) e

more_step : (g : Bool) (l : TextLine) (ls lines : List TextLine) → lines ≡ l ∷ cond g ls [] → 1 < length lines → lines ≡ l ∷ ls
more_step true l ls lines e p = e
more_step false l ls lines e p = absurd (omega (arith, p, ap (λ (xs : List TextLine). length xs) e))

-- where there is a second line, there are a first one and those that are left behind it
more_lines : (widths : List ℕ) (room : Option ℕ) (start : ℕ) (rest : List ℕ) → 1 < length (rest_lines widths room start rest) → rest_lines widths room start rest ≡ record { start = start; end = start + line_length widths room rest } ∷ rest_lines widths room (start + line_length widths room rest) (drop (line_length widths room rest) rest)
more_lines widths room start rest p = more_step (goes_on (line_length widths room rest) rest) (record { start = start; end = start + line_length widths room rest }) (rest_lines widths room (start + line_length widths room rest) (drop (line_length widths room rest) rest)) (rest_lines widths room start rest) (rest_step widths room start rest) p

-- likewise where there is a byte behind the first line
lines_on : (widths : List ℕ) (room : Option ℕ) (start : ℕ) (rest : List ℕ) → line_length widths room rest < length rest → rest_lines widths room start rest ≡ record { start = start; end = start + line_length widths room rest } ∷ rest_lines widths room (start + line_length widths room rest) (drop (line_length widths room rest) rest)
lines_on widths room start rest p =
    let on : goes_on (line_length widths room rest) rest ≡ true = grind (arith, nat_tests) in
    rw on at (rest_step widths room start rest)

-- lines left behind others begin there or later
begins_later : (widths : List ℕ) (room : Option ℕ) (start : ℕ) (rest : List ℕ) (j : ℕ) → j < length (rest_lines widths room start rest) → start ≤ (line_at (rest_lines widths room start rest) j).start
begins_later widths room start rest j p = begins_behind start (start + length rest) (rest_lines widths room start rest) (rest_chain widths room start rest) j p

-- the third line from a start on, and each behind it, begins behind the first two or later
behind_two : (widths : List ℕ) (room : Option ℕ) (start : ℕ) (rest : List ℕ) (j : ℕ) → suc (suc j) < length (rest_lines widths room start rest) → start + (line_length widths room rest + line_length widths room (drop (line_length widths room rest) rest)) ≤ (line_at (rest_lines widths room start rest) (suc (suc j))).start
behind_two widths room start rest j p =
    let one = line_length widths room rest in
    let left = drop one rest in
    let first = more_lines widths room start rest (omega (arith, p)) in
    let p1 = rw first at p in
    let second = more_lines widths room (start + one) left (omega (arith, p1)) in
    let p2 = rw second at p1 in
    let two = line_length widths room left in
    let later = begins_later widths room (start + one + two) (drop two left) j (omega (arith, p2)) in
    let there : (line_at (rest_lines widths room start rest) (suc (suc j))).start ≡ (line_at (rest_lines widths room (start + one + two) (drop two left)) j).start = rw (first, second) refl in
    omega (arith, later, there)

-- a text that begins with so many bytes of another has so many
same_long : (n : ℕ) (text other : List ℕ) → n ≤ length text → take n text ≡ take n other → n ≤ length other
same_long n text other p e = omega (arith, ap (λ (xs : List ℕ). length xs) e, length-take n text, length-take n other)

-- what is left behind the same bytes begins with the same bytes
same_left : (one k n : ℕ) (text other : List ℕ) → one + k ≡ n → take n text ≡ take n other → take k (drop one text) ≡ take k (drop one other)
same_left one k n text other is e =
    let cut : drop one (take (one + k) text) ≡ drop one (take (one + k) other) = rw is (ap (λ (xs : List ℕ). drop one xs) e) in
    sym (drop-take one k text) ∙ cut ∙ drop-take one k other

-- the same first line, with a byte behind it
stays_on : (widths : List ℕ) (room : Option ℕ) (start n : ℕ) (text other : List ℕ) → n ≤ length text → take n text ≡ take n other → line_length widths room text + line_length widths room (drop (line_length widths room text) text) < n → rest_lines widths room start other ≡ record { start = start; end = start + line_length widths room text } ∷ rest_lines widths room (start + line_length widths room text) (drop (line_length widths room text) other)
stays_on widths room start n text other p e q =
    let same = first_line_stays widths room text other n e q in
    let long : n ≤ length other = same_long n text other p e in
    let on = lines_on widths room start other (omega (arith, same, long, q)) in
    rw (← same) at on

-- the same line, with another behind it, where the second line behind it begins among the same bytes
line_stays : (widths : List ℕ) (room : Option ℕ) (j start n : ℕ) (text other : List ℕ) → n ≤ length text → take n text ≡ take n other → suc (suc j) < length (rest_lines widths room start text) → (line_at (rest_lines widths room start text) (suc (suc j))).start < start + n → (line_at (rest_lines widths room start other) j ≡ line_at (rest_lines widths room start text) j) × (suc j < length (rest_lines widths room start other))
line_stays widths room zero start n text other p e there begun =
    let first = more_lines widths room start text (omega (arith, there)) in
    let on = stays_on widths room start n text other p e (omega (arith, behind_two widths room start text zero there, begun)) in
    let one = line_length widths room text in
    let others = rest_lines widths room (start + one) (drop one other) in
    let some = follow_some (start + one) (start + one + length (drop one other)) others (rest_chain widths room (start + one) (drop one other)) in
    (rw (first, on) refl, rw on (omega (arith, some)))
line_stays widths room (suc j) start n text other p e there begun =
    let one = line_length widths room text in
    let left = drop one text in
    let ahead : one + line_length widths room left < n = omega (arith, behind_two widths room start text (suc j) there, begun) in
    let first = more_lines widths room start text (omega (arith, there)) in
    let on = stays_on widths room start n text other p e ahead in
    let long : n - one ≤ length left = omega (arith, p, length-drop one text) in
    let same = same_left one (n - one) n text other (omega (arith, ahead)) e in
    let there_left : suc (suc j) < length (rest_lines widths room (start + one) left) = omega (arith, rw first at there) in
    let begun_left : (line_at (rest_lines widths room (start + one) left) (suc (suc j))).start < start + one + (n - one) = omega (arith, rw first at begun, ahead) in
    let further = line_stays widths room j (start + one) (n - one) left (drop one other) long same there_left begun_left in
    (rw (first, on) further.0, rw on (omega (arith, further.1)))

-- a line that is so many lines behind another begins at least so many bytes behind it
begins_ahead : (from n : ℕ) (ls : List TextLine) → Chain from n ls → (k i j : ℕ) → i + k ≡ j → j < length ls → (line_at ls i).start + k ≤ (line_at ls j).start
begins_ahead from n ls h zero i j is p =
    let here : i ≡ j = omega (arith, is) in
    omega (arith, ap (λ v. (line_at ls v).start) here)
begins_ahead from n ls h (suc k) i zero is p = absurd (omega (arith, is))
begins_ahead from n ls h (suc k) i (suc j) is p =
    let before = begins_ahead from n ls h k i j (omega (arith, is)) (omega (arith, p)) in
    let next = simp add-one at (follow_next from n ls h j (omega (arith, p))) in
    omega (arith, before, next, follow_filled from n ls h j (omega (arith, p)))

-- texts that begin with the same bytes have the same lines, up to and without the line before that of the last of them;
-- each of these lines ends among these bytes, and another follows it
pub lines_stay : (widths : List ℕ) (room : Option ℕ) (text other : List ℕ) (m j : ℕ) → m ≤ length text → take m text ≡ take m other → j + 1 < line_of (text_lines widths room text) (m - 1) → (line_at (text_lines widths room other) j ≡ line_at (text_lines widths room text) j) × (j + 1 < length (text_lines widths room other)) × ((line_at (text_lines widths room text) j).end ≤ m)
lines_stay widths room text other m j p e q =
    let lines = text_lines widths room text in
    let chain = chain_lines widths room text in
    let on = line_of lines (m - 1) in
    let lies = found_lies widths room text (m - 1) in
    let there : suc (suc j) < length lines = omega (arith, q, lies.there) in
    let behind = begins_ahead 0 (length text) lines chain (on - suc (suc j)) (suc (suc j)) on (omega (arith, q)) lies.there in
    let above = begins_ahead 0 (length text) lines chain (suc (suc j)) 0 (suc (suc j)) (omega arith) there in
    let begun : (line_at lines (suc (suc j))).start < 0 + m = omega (arith, behind, above, lies.begun) in
    let same = line_stays widths room j 0 m text other p e (rw (rest_all widths room text) there) (rw (rest_all widths room text) begun) in
    let same_text = rw (rest_all widths room text, rest_all widths room other) at same in
    let next = simp add-one at (follow_next 0 (length text) lines chain j (omega (arith, there))) in
    let two = begins_ahead 0 (length text) lines chain 1 (suc j) (suc (suc j)) (omega arith) there in
    (same_text.0, omega (arith, same_text.1), omega (arith, next, two, begun))
