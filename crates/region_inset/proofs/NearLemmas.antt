-- What is near a number, as the numbers of a window.
use Rattle.std.proofs.Common.{◌≡◌, Bool, true, false, not, ◌&&◌, ◌||◌, ◌⊎◌, inl, inr, ℕ, zero, suc, ℤ, pos, negsuc, ◌+ℤ◌, ◌-ℤ◌, ◌≤ℤ◌, ◌<ℤ◌, refl, sym, ap, ◌∙◌, subst, arith}
use Rattle.std.proofs.lemmas.Bool.{cases_Bool, false≢true, true≢false}
use Rattle.std.proofs.lemmas.Int.{ints, by_lt_z}
use Rattle.region_inset.specs.Near.{all_within, some_within, narrowed, narrows, reach, widening, IsRun}

-- the answer for the numbers from one up to another, of which all have to pass, or one: it is that of a number that
-- decides, where there is one
pub record IsJoined (all : Bool) (test : ℤ → Bool) (from to : ℤ) (answer : Bool) : Type 0 where
  pub found : answer ≡ not all → (y : ℤ) × (from ≤ℤ y) × (y <ℤ to) × (test y ≡ not all)
  pub other : (y : ℤ) → from ≤ℤ y → y <ℤ to → test y ≡ not all → answer ≡ not all

-- ---- the answer for some numbers

-- one of three fails
one_fails : (a b c : Bool) → (a && (b && c)) ≡ false → (a ≡ false) ⊎ ((b ≡ false) ⊎ (c ≡ false))
one_fails false b c e = inl refl
one_fails true false c e = inr (inl refl)
one_fails true true c e = inr (inr e)

one_holds : (a b c : Bool) → (a || (b || c)) ≡ true → (a ≡ true) ⊎ ((b ≡ true) ⊎ (c ≡ true))
one_holds true b c e = inl refl
one_holds false true c e = inr (inl refl)
one_holds false false c e = inr (inr e)

first_fails : (a b c : Bool) → a ≡ false → (a && (b && c)) ≡ false
first_fails a b c e = ap (λ t. t && (b && c)) e

second_fails : (a b c : Bool) → b ≡ false → (a && (b && c)) ≡ false
second_fails true b c e = ap (λ t. t && c) e
second_fails false b c e = refl

third_fails : (a b c : Bool) → c ≡ false → (a && (b && c)) ≡ false
third_fails true true c e = e
third_fails true false c e = refl
third_fails false b c e = refl

first_holds : (a b c : Bool) → a ≡ true → (a || (b || c)) ≡ true
first_holds a b c e = ap (λ t. t || (b || c)) e

second_holds : (a b c : Bool) → b ≡ true → (a || (b || c)) ≡ true
second_holds true b c e = refl
second_holds false b c e = ap (λ t. t || c) e

third_holds : (a b c : Bool) → c ≡ true → (a || (b || c)) ≡ true
third_holds true b c e = refl
third_holds false true c e = refl
third_holds false false c e = e

-- all of a window
all_joined : (n : ℕ) (test : ℤ → Bool) (x : ℤ) → IsJoined true test (x -ℤ pos n) (x +ℤ pos (suc n)) (all_within n test x)
unfolding all_within
all_joined zero test x = record {
  found = λ e. (x, omega (arith, ints), omega (arith, ints), e);
  other = λ y l m e. let is : y ≡ x = omega (arith, ints) in sym (ap test is) ∙ e;
}
all_joined (suc n) test x =
    let inner = all_joined n test x in
    record {
      found = λ e. elim (one_fails (all_within n test x) (test (x -ℤ pos (suc n))) (test (x +ℤ pos (suc n))) e) [
        | inl a ↦ let y = inner.found a in let l = y.1 in let m = y.2 in (y.0, omega (arith, ints), omega (arith, ints), y.3)
        | inr (inl b) ↦ (x -ℤ pos (suc n), omega (arith, ints), omega (arith, ints), b)
        | inr (inr c) ↦ (x +ℤ pos (suc n), omega (arith, ints), omega (arith, ints), c)
      ];
      other = λ y l m e.
          by_lt_z y (x -ℤ pos n)
          (λ low. let is : y ≡ x -ℤ pos (suc n) = omega (arith, ints) in
          second_fails (all_within n test x) (test (x -ℤ pos (suc n))) (test (x +ℤ pos (suc n))) (sym (ap test is) ∙ e))
          (λ low. by_lt_z y (x +ℤ pos (suc n))
          (λ high. first_fails (all_within n test x) (test (x -ℤ pos (suc n))) (test (x +ℤ pos (suc n))) (inner.other y low high e))
          (λ high. let is : y ≡ x +ℤ pos (suc n) = omega (arith, ints) in
          third_fails (all_within n test x) (test (x -ℤ pos (suc n))) (test (x +ℤ pos (suc n))) (sym (ap test is) ∙ e)));
    }

-- or one of it
some_joined : (n : ℕ) (test : ℤ → Bool) (x : ℤ) → IsJoined false test (x -ℤ pos n) (x +ℤ pos (suc n)) (some_within n test x)
unfolding some_within
some_joined zero test x = record {
  found = λ e. (x, omega (arith, ints), omega (arith, ints), e);
  other = λ y l m e. let is : y ≡ x = omega (arith, ints) in sym (ap test is) ∙ e;
}
some_joined (suc n) test x =
    let inner = some_joined n test x in
    record {
      found = λ e. elim (one_holds (some_within n test x) (test (x -ℤ pos (suc n))) (test (x +ℤ pos (suc n))) e) [
        | inl a ↦ let y = inner.found a in let l = y.1 in let m = y.2 in (y.0, omega (arith, ints), omega (arith, ints), y.3)
        | inr (inl b) ↦ (x -ℤ pos (suc n), omega (arith, ints), omega (arith, ints), b)
        | inr (inr c) ↦ (x +ℤ pos (suc n), omega (arith, ints), omega (arith, ints), c)
      ];
      other = λ y l m e.
          by_lt_z y (x -ℤ pos n)
          (λ low. let is : y ≡ x -ℤ pos (suc n) = omega (arith, ints) in
          second_holds (some_within n test x) (test (x -ℤ pos (suc n))) (test (x +ℤ pos (suc n))) (sym (ap test is) ∙ e))
          (λ low. by_lt_z y (x +ℤ pos (suc n))
          (λ high. first_holds (some_within n test x) (test (x -ℤ pos (suc n))) (test (x +ℤ pos (suc n))) (inner.other y low high e))
          (λ high. let is : y ≡ x +ℤ pos (suc n) = omega (arith, ints) in
          third_holds (some_within n test x) (test (x -ℤ pos (suc n))) (test (x +ℤ pos (suc n))) (sym (ap test is) ∙ e)));
    }

-- a test is narrowed by the numbers of its window
pub narrowed_joined : (d : ℤ) (test : ℤ → Bool) (x : ℤ) → IsJoined (narrows d) test (x -ℤ reach d) (x +ℤ (reach d +ℤ pos 1)) (narrowed d test x)
unfolding narrowed
narrowed_joined (pos n) test x =
    let to : x +ℤ pos (suc n) ≡ x +ℤ (pos n +ℤ pos 1) = omega (arith, ints) in
    subst (λ z. IsJoined true test (x -ℤ pos n) z (all_within n test x)) to (all_joined n test x)
narrowed_joined (negsuc n) test x =
    let to : x +ℤ pos (suc (suc n)) ≡ x +ℤ (pos (suc n) +ℤ pos 1) = omega (arith, ints) in
    subst (λ z. IsJoined false test (x -ℤ pos (suc n)) z (some_within (suc n) test x)) to (some_joined (suc n) test x)

-- the answer is one alone
pub either : (all b : Bool) → (b ≡ all) ⊎ (b ≡ not all)
either true true = inl refl
either true false = inr refl
either false true = inr refl
either false false = inl refl

pub not_both : (all b : Bool) → b ≡ all → b ≡ not all → ⊥
not_both true b e f = true≢false (sym e ∙ f)
not_both false b e f = false≢true (sym e ∙ f)

pub joined_once : (all : Bool) (test : ℤ → Bool) (from to : ℤ) (a b : Bool) → IsJoined all test from to a → IsJoined all test from to b → a ≡ b
joined_once all test from to a b i j = elim (either all a) [
  | inl same ↦ elim (either all b) [
    | inl too ↦ same ∙ sym too
    | inr other ↦ let y = j.found other in absurd (not_both all a same (i.other y.0 y.1 y.2 y.3))
  ]
  | inr other ↦ let y = i.found other in other ∙ sym (j.other y.0 y.1 y.2 y.3)
]

-- ---- number by number

-- the answer for two numbers, of which both have to pass, or one
abbrev pub joined : Bool → Bool → Bool → Bool
joined true a b = a && b
joined false a b = a || b

module _ (all : Bool) (test : ℤ → Bool) where
  pub joined_first : (at : ℤ) (b : Bool) → b ≡ test at → IsJoined all test at (at +ℤ pos 1) b
  joined_first at b is = record {
    found = λ e. (at, omega (arith, ints), omega (arith, ints), sym is ∙ e);
    other = λ y l m e. let here : at ≡ y = omega (arith, ints) in is ∙ ap test here ∙ e;
  }

  decides : (every a b : Bool) → joined every a b ≡ not every → (a ≡ not every) ⊎ (b ≡ not every)
  decides true true b e = inr e
  decides true false b e = inl refl
  decides false true b e = inl refl
  decides false false b e = inr e

  decided : (every a b : Bool) → (a ≡ not every) ⊎ (b ≡ not every) → joined every a b ≡ not every
  decided true a b (inl e) = ap (λ t. t && b) e
  decided true true b (inr e) = e
  decided true false b (inr e) = refl
  decided false a b (inl e) = ap (λ t. t || b) e
  decided false true b (inr e) = refl
  decided false false b (inr e) = e

  pub joined_more : (from to : ℤ) (a b : Bool) → IsJoined all test from to a → from ≤ℤ to → b ≡ joined all a (test to) → IsJoined all test from (to +ℤ pos 1) b
  joined_more from to a b j low is = record {
    found = λ e. elim (decides all a (test to) (sym is ∙ e)) [
      | inl f ↦ let y = j.found f in let l = y.1 in let m = y.2 in (y.0, l, omega (arith, ints), y.3)
      | inr f ↦ (to, low, omega (arith, ints), f)
    ];
    other = λ y l m e. is ∙ decided all a (test to) (by_lt_z y to
        (λ n. inl (j.other y l n e))
        (λ n. let here : to ≡ y = omega (arith, ints) in inr (ap test here ∙ e)));
  }

  -- a number that gives what the one before gave changes nothing
  pub joined_steady : (from to : ℤ) (a : Bool) → IsJoined all test from to a → from <ℤ to → test to ≡ test (to -ℤ pos 1) → IsJoined all test from (to +ℤ pos 1) a
  joined_steady from to a j low same = record {
    found = λ e. let y = j.found e in let l = y.1 in let m = y.2 in (y.0, l, omega (arith, ints), y.3);
    other = λ y l m e. by_lt_z y to
        (λ n. j.other y l n e)
        (λ n. let here : to ≡ y = omega (arith, ints) in j.other (to -ℤ pos 1) (omega (arith, ints)) (omega (arith, ints)) (sym same ∙ ap test here ∙ e));
  }

  -- ---- runs

  pub run_none : (from : ℤ) → IsRun all test from from (pos 0)
  run_none from = record {
    low = omega (arith, ints);
    high = omega (arith, ints);
    alike = λ y l m. absurd (omega (arith, ints));
    ends = λ l. absurd (omega (arith, ints));
  }

  pub run_more : (from x n : ℤ) → IsRun all test from x n → test x ≡ all → IsRun all test from (x +ℤ pos 1) (n +ℤ pos 1)
  run_more from x n run here =
      let low = run.low in
      let high = run.high in
      record {
        low = omega (arith, ints);
        high = omega (arith, ints);
        alike = λ y l m. by_lt_z y x
            (λ b. run.alike y (omega (arith, ints)) b)
            (λ b. let is : x ≡ y = omega (arith, ints) in sym (ap test is) ∙ here);
        ends = λ l.
            let same : x -ℤ (n +ℤ pos 1) ≡ (x +ℤ pos 1) -ℤ ((n +ℤ pos 1) +ℤ pos 1) = omega (arith, ints) in
            sym (ap test same) ∙ run.ends (omega (arith, ints));
      }

  pub run_over : (from x n : ℤ) → from ≤ℤ x → IsRun all test from x n → test x ≡ not all → IsRun all test from (x +ℤ pos 1) (pos 0)
  run_over from x n order run here = record {
    low = omega (arith, ints);
    high = omega (arith, ints);
    alike = λ y l m. absurd (omega (arith, ints));
    ends = λ l. let same : x ≡ (x +ℤ pos 1) -ℤ (pos 0 +ℤ pos 1) = omega (arith, ints) in sym (ap test same) ∙ here;
  }

  -- whether a run is as long as the window decides for the window
  pub run_joined : (from x n r : ℤ) (b : Bool) → IsRun all test from (x +ℤ pos 1) n → from ≤ℤ (x -ℤ (r +ℤ r)) → ((r +ℤ r) <ℤ n → b ≡ all) → (n ≤ℤ (r +ℤ r) → b ≡ not all)
      → IsJoined all test (x -ℤ (r +ℤ r)) (x +ℤ pos 1) b
  run_joined from x n r b run start long short =
      let low = run.low in
      record {
        found = λ e. by_lt_z (r +ℤ r) n
            (λ l. absurd (not_both all b (long l) e))
            (λ l. ((x +ℤ pos 1) -ℤ (n +ℤ pos 1), omega (arith, ints), omega (arith, ints), run.ends (omega (arith, ints))));
        other = λ y l m e. by_lt_z (r +ℤ r) n
            (λ k. absurd (not_both all (test y) (run.alike y (omega (arith, ints)) m) e))
            short;
      }

-- ---- tests that are narrowed

pub reach_low : (d : ℤ) → pos 0 ≤ℤ reach d
reach_low (pos n) = omega (arith, ints)
reach_low (negsuc n) = omega (arith, ints)

pub widening_low : (d : ℤ) → pos 0 ≤ℤ widening d
widening_low (pos n) = omega (arith, ints)
widening_low (negsuc n) = omega (arith, ints)

pub narrowed_from : (d : ℤ) (test : ℤ → Bool) (x : ℤ) (b : Bool) → IsJoined (narrows d) test (x -ℤ reach d) (x +ℤ (reach d +ℤ pos 1)) b → b ≡ narrowed d test x
narrowed_from d test x b j = joined_once (narrows d) test (x -ℤ reach d) (x +ℤ (reach d +ℤ pos 1)) b (narrowed d test x) j (narrowed_joined d test x)

-- where what comes in at one end is like the number beside, and what goes out at the other, too, nothing changes
pub narrowed_steady : (d : ℤ) (test : ℤ → Bool) (x : ℤ) → test (x +ℤ reach d) ≡ test ((x +ℤ reach d) -ℤ pos 1) → test (x -ℤ reach d) ≡ test ((x -ℤ reach d) -ℤ pos 1)
    → narrowed d test x ≡ narrowed d test (x -ℤ pos 1)
narrowed_steady d test x last first =
    let r = reach d in
    let positive : pos 0 ≤ℤ r = reach_low d in
    let before = narrowed_joined d test (x -ℤ pos 1) in
    sym (narrowed_from d test x (narrowed d test (x -ℤ pos 1)) (record {
      found = λ e.
          let y = before.found e in
          let l = y.1 in
          let m = y.2 in
          by_lt_z y.0 (x -ℤ r)
          (λ out. let here : y.0 ≡ (x -ℤ r) -ℤ pos 1 = omega (arith, ints) in (x -ℤ r, omega (arith, ints), omega (arith, ints), first ∙ sym (ap test here) ∙ y.3))
          (λ within. (y.0, within, omega (arith, ints), y.3));
      other = λ y l m e.
          by_lt_z y (x +ℤ r)
          (λ within. before.other y (omega (arith, ints)) (omega (arith, ints)) e)
          (λ out.
          let here : x +ℤ r ≡ y = omega (arith, ints) in
          before.other ((x +ℤ r) -ℤ pos 1) (omega (arith, ints)) (omega (arith, ints)) (sym last ∙ ap test here ∙ e));
    }))

-- a number at which the test does not hold is none of a narrowed one
holds_at : (n : ℕ) (test : ℤ → Bool) (x : ℤ) → test x ≡ false → narrowed (pos n) test x ≡ false
holds_at n test x e = (narrowed_joined (pos n) test x).other x (omega (arith, ints)) (omega (arith, ints)) e

-- one for which it holds is near each of a widened one
near_one : (n : ℕ) (test : ℤ → Bool) (x : ℤ) → narrowed (negsuc n) test x ≡ true → (y : ℤ) × ((x -ℤ pos (suc n)) ≤ℤ y) × (y <ℤ (x +ℤ (pos (suc n) +ℤ pos 1))) × (test y ≡ true)
near_one n test x e = (narrowed_joined (negsuc n) test x).found e

near_it : (n : ℕ) (test : ℤ → Bool) (x y : ℤ) → (x -ℤ pos (suc n)) ≤ℤ y → y <ℤ (x +ℤ (pos (suc n) +ℤ pos 1)) → test y ≡ true → narrowed (negsuc n) test x ≡ true
near_it n test x y l m e = (narrowed_joined (negsuc n) test x).other y l m e

-- where the test holds nowhere from a number on, what is narrowed past it holds there too
pub narrowed_above : (d : ℤ) (test : ℤ → Bool) (end x : ℤ) → ((y : ℤ) → end ≤ℤ y → test y ≡ false) → end ≤ℤ x → narrowed d test x ≡ true → narrowed d test end ≡ true
narrowed_above (pos n) test end x none past e = absurd (true≢false (sym e ∙ holds_at n test x (none x past)))
narrowed_above (negsuc n) test end x none past e =
    let one = near_one n test x e in
    let low = one.1 in
    by_lt_z one.0 end
    (λ before. near_it n test end one.0 (omega (arith, ints)) (omega (arith, ints)) one.3)
    (λ after. absurd (true≢false (sym one.3 ∙ none one.0 after)))

pub narrowed_below : (d : ℤ) (test : ℤ → Bool) (end x : ℤ) → ((y : ℤ) → y ≤ℤ end → test y ≡ false) → x ≤ℤ end → narrowed d test x ≡ true → narrowed d test end ≡ true
narrowed_below (pos n) test end x none past e = absurd (true≢false (sym e ∙ holds_at n test x (none x past)))
narrowed_below (negsuc n) test end x none past e =
    let one = near_one n test x e in
    let high = one.2 in
    by_lt_z end one.0
    (λ after. near_it n test end one.0 (omega (arith, ints)) (omega (arith, ints)) one.3)
    (λ before. absurd (true≢false (sym one.3 ∙ none one.0 before)))

-- and nowhere further off than it is widened
pub narrowed_past : (d : ℤ) (test : ℤ → Bool) (end x : ℤ) → ((y : ℤ) → end ≤ℤ y → test y ≡ false) → (end +ℤ widening d) ≤ℤ x → narrowed d test x ≡ false
narrowed_past (pos n) test end x none past = holds_at n test x (none x (omega (arith, ints)))
narrowed_past (negsuc n) test end x none past = elim (cases_Bool (narrowed (negsuc n) test x)) [
  | inl e ↦ let one = near_one n test x e in let low = one.1 in absurd (true≢false (sym one.3 ∙ none one.0 (omega (arith, ints))))
  | inr e ↦ e
]

pub narrowed_before : (d : ℤ) (test : ℤ → Bool) (first x : ℤ) → ((y : ℤ) → y <ℤ first → test y ≡ false) → x <ℤ (first -ℤ widening d) → narrowed d test x ≡ false
narrowed_before (pos n) test first x none past = holds_at n test x (none x (omega (arith, ints)))
narrowed_before (negsuc n) test first x none past = elim (cases_Bool (narrowed (negsuc n) test x)) [
  | inl e ↦ let one = near_one n test x e in let high = one.2 in absurd (true≢false (sym one.3 ∙ none one.0 (omega (arith, ints))))
  | inr e ↦ e
]

-- what is narrowed by numbers within d
pub narrowed_everywhere : (n : ℕ) (test : ℤ → Bool) (x : ℤ) → (narrowed (pos n) test x ≡ true → (y : ℤ) → (x -ℤ pos n) ≤ℤ y → y ≤ℤ (x +ℤ pos n) → test y ≡ true)
    × (((y : ℤ) → (x -ℤ pos n) ≤ℤ y → y ≤ℤ (x +ℤ pos n) → test y ≡ true) → narrowed (pos n) test x ≡ true)
narrowed_everywhere n test x =
    let j = narrowed_joined (pos n) test x in (
      λ e y l m. elim (cases_Bool (test y)) [ inl t ↦ t | inr f ↦ absurd (true≢false (sym e ∙ j.other y l (omega (arith, ints)) f)) ],
      λ each. elim (cases_Bool (narrowed (pos n) test x)) [
        | inl t ↦ t
        | inr f ↦ let y = j.found f in let m = y.2 in absurd (true≢false (sym (each y.0 y.1 (omega (arith, ints))) ∙ y.3))
      ],
    )

-- and where it is widened, by one of them
pub narrowed_somewhere : (n : ℕ) (test : ℤ → Bool) (x : ℤ) → (narrowed (negsuc n) test x ≡ true → (y : ℤ) × ((x -ℤ pos (suc n)) ≤ℤ y) × (y ≤ℤ (x +ℤ pos (suc n))) × (test y ≡ true))
    × ((y : ℤ) × ((x -ℤ pos (suc n)) ≤ℤ y) × (y ≤ℤ (x +ℤ pos (suc n))) × (test y ≡ true) → narrowed (negsuc n) test x ≡ true)
narrowed_somewhere n test x = (
  λ e. let one = near_one n test x e in let m = one.2 in (one.0, one.1, omega (arith, ints), one.3),
  λ one. let m = one.2 in near_it n test x one.0 one.1 (omega (arith, ints)) one.3,
)

-- a run up to the end of the window of h decides for h
pub run_narrowed : (d : ℤ) (test : ℤ → Bool) (from h n r : ℤ) (all b : Bool) → r ≡ reach d → all ≡ narrows d → IsRun all test from ((h +ℤ r) +ℤ pos 1) n → from ≤ℤ (h -ℤ r)
    → ((r +ℤ r) <ℤ n → b ≡ all) → (n ≤ℤ (r +ℤ r) → b ≡ not all) → b ≡ narrowed d test h
run_narrowed d test from h n r all b is_reach is_all run start long short =
    let first : (h +ℤ r) -ℤ (r +ℤ r) ≡ h -ℤ r = omega (arith, ints) in
    let last : (h +ℤ r) +ℤ pos 1 ≡ h +ℤ (r +ℤ pos 1) = omega (arith, ints) in
    let window = run_joined all test from (h +ℤ r) n r b run (omega (arith, ints)) long short in
    let placed = subst (λ z. IsJoined all test (h -ℤ r) z b) last (subst (λ z. IsJoined all test z ((h +ℤ r) +ℤ pos 1) b) first window) in
    narrowed_from d test h b (subst (λ a. IsJoined a test (h -ℤ reach d) (h +ℤ (reach d +ℤ pos 1)) b) is_all (subst (λ z. IsJoined all test (h -ℤ z) (h +ℤ (z +ℤ pos 1)) b) is_reach placed))
