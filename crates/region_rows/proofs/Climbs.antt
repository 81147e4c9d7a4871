-- Numbers that rise from one bound to another.
use Rattle.std.proofs.Common.{◌≡◌, ℕ, zero, suc, ◌<◌, ◌≤◌, Bool, true, false, List, [], ◌∷◌, ◌++◌, length, get_or, take, drop, ℤ, pos, negsuc, ◌<ℤ◌, ◌≤ℤ◌, refl, sym, ap, ◌∙◌, arith, SFits, w32}
use Rattle.std.proofs.lemmas.Int.{ints}
use Rattle.region_rows.specs.Edges.{differ, inside, is_odd, IsRising, IsRow, IsClimb, IsEdges}
use Rattle.region_bytes.proofs.Edges.{inside_left, inside_right, rising_head, rising_tail}

-- ---- bounds

-- all lie above the lower bound
pub above_low : (low : ℤ) (xs : List ℤ) (high : ℤ) (k : ℕ) → IsClimb low xs high → k < length xs → low <ℤ get_or xs k (pos 0)
above_low low [] high k c l = absurd (omega arith)
above_low low (x ∷ xs) high zero c l = c.0
above_low low (x ∷ xs) high (suc k) c l = let first = c.0 in let up = above_low x xs high k c.1 (omega arith) in omega (arith, ints)

-- the lower bound is none above the upper one
pub low_high : (low : ℤ) (xs : List ℤ) (high : ℤ) → IsClimb low xs high → low ≤ℤ high
low_high low [] high c = c
low_high low (x ∷ xs) high c = let first = c.0 in let up = low_high x xs high c.1 in omega (arith, ints)

-- and none lies above the upper one
pub below_high : (low : ℤ) (xs : List ℤ) (high : ℤ) (k : ℕ) → IsClimb low xs high → k < length xs → get_or xs k (pos 0) ≤ℤ high
below_high low [] high k c l = absurd (omega arith)
below_high low (x ∷ xs) high zero c l = low_high x xs high c.1
below_high low (x ∷ xs) high (suc k) c l = below_high x xs high k c.1 (omega arith)

-- wider bounds
pub lower : (low low2 : ℤ) (xs : List ℤ) (high : ℤ) → low2 ≤ℤ low → IsClimb low xs high → IsClimb low2 xs high
lower low low2 [] high l c = omega (arith, ints)
lower low low2 (x ∷ xs) high l c = (let first = c.0 in omega (arith, ints), c.1)

pub higher : (low : ℤ) (xs : List ℤ) (high high2 : ℤ) → high ≤ℤ high2 → IsClimb low xs high → IsClimb low xs high2
higher low [] high high2 l c = omega (arith, ints)
higher low (x ∷ xs) high high2 l c = (c.0, higher x xs high high2 l c.1)

-- one after the other
pub climb_append : (low : ℤ) (xs : List ℤ) (mid : ℤ) (ys : List ℤ) (high : ℤ) → IsClimb low xs mid → IsClimb mid ys high → IsClimb low (xs ++ ys) high
climb_append low [] mid ys high c d = lower mid low ys high c d
climb_append low (x ∷ xs) mid ys high c d = (c.0, climb_append x xs mid ys high c.1 d)

-- ---- rising lists

-- what climbs rises
pub rising_from : (low : ℤ) (xs : List ℤ) (high : ℤ) → IsClimb low xs high → IsRising xs
rising_from low [] high c = record { rises = λ i j m n. absurd (omega arith) }
rising_from low (x ∷ xs) high c = record { rises = up x xs high c.1 (rising_from x xs high c.1) }
  where
    up : (x : ℤ) (xs : List ℤ) (high : ℤ) → IsClimb x xs high → IsRising xs → (i j : ℕ) → i < j → j < length (x ∷ xs) → get_or (x ∷ xs) i (pos 0) <ℤ get_or (x ∷ xs) j (pos 0)
    up x xs high c r zero zero m n = absurd (omega arith)
    up x xs high c r zero (suc j) m n = above_low x xs high j c (omega arith)
    up x xs high c r (suc i) zero m n = absurd (omega arith)
    up x xs high c r (suc i) (suc j) m n = r.rises i j (omega arith) (omega arith)

-- what rises climbs between its bounds
pub climb_from : (low : ℤ) (xs : List ℤ) (high : ℤ) → low ≤ℤ high → IsRising xs → ((k : ℕ) → k < length xs → low <ℤ get_or xs k (pos 0)) → ((k : ℕ) → k < length xs → get_or xs k (pos 0) ≤ℤ high) → IsClimb low xs high
climb_from low [] high l r a b = l
climb_from low (x ∷ xs) high l r a b =
    (a zero (omega arith), climb_from x xs high (b zero (omega arith)) (rising_tail x xs r) (rising_head x xs r) (λ k m. b (suc k) (omega arith)))

-- a row is edges
pub edges_of : (xs : List ℤ) → IsRow xs → IsEdges xs
edges_of xs r = climb_from (negsuc 16384) xs (pos 16383) (omega (arith, ints)) r.rising (λ k l. let c = (r.in_range k l).0 in omega (arith, ints)) (λ k l. (r.in_range k l).1)

-- and edges in even number are a row
pub row_of : (xs : List ℤ) → IsEdges xs → is_odd (length xs) ≡ false → IsRow xs
row_of xs c even = record {
  rising = rising_from (negsuc 16384) xs (pos 16383) c;
  even = even;
  in_range = λ k l. let a = above_low (negsuc 16384) xs (pos 16383) k c l in (omega (arith, ints), below_high (negsuc 16384) xs (pos 16383) k c l);
}

-- ---- the pixels

pub inside_below : (low : ℤ) (xs : List ℤ) (high h : ℤ) → IsClimb low xs high → h ≤ℤ low → inside xs h ≡ false
inside_below low xs high h c l = inside_left xs h (λ k m. let a = above_low low xs high k c m in omega (arith, ints))

pub inside_above : (low : ℤ) (xs : List ℤ) (high h : ℤ) → IsClimb low xs high → high ≤ℤ h → inside xs h ≡ is_odd (length xs)
inside_above low xs high h c l = inside_right xs h (λ k m. let b = below_high low xs high k c m in omega (arith, ints))

pub differ_of : (a b c : Bool) → differ (differ a b) c ≡ differ a (differ b c)
differ_of true true true = refl
differ_of true true false = refl
differ_of true false c = refl
differ_of false b c = refl

-- edges after edges turn twice
pub inside-append : (xs ys : List ℤ) (h : ℤ) → inside (xs ++ ys) h ≡ differ (inside xs h) (inside ys h)
unfolding inside
inside-append [] ys h = refl
inside-append (x ∷ xs) ys h = ap (differ _) (inside-append xs ys h) ∙ sym (differ_of _ (inside xs h) (inside ys h))

-- ---- parts

-- the first n, up to a number that they do not exceed
pub climb_take : (low : ℤ) (xs : List ℤ) (high : ℤ) (n : ℕ) (t : ℤ) → IsClimb low xs high → low ≤ℤ t → ((k : ℕ) → k < n → get_or xs k (pos 0) ≤ℤ t) → n ≤ length xs → IsClimb low (take n xs) t
climb_take low xs high zero t c l b w = l
climb_take low [] high (suc n) t c l b w = absurd (omega arith)
climb_take low (x ∷ xs) high (suc n) t c l b w = (c.0, climb_take x xs high n t c.1 (b zero (omega arith)) (λ k m. b (suc k) (omega arith)) (omega arith))

-- the others, from a number that the first of them exceeds
pub climb_drop : (low : ℤ) (xs : List ℤ) (high : ℤ) (n : ℕ) (t : ℤ) → IsClimb low xs high → t ≤ℤ high → (n < length xs → t <ℤ get_or xs n (pos 0)) → IsClimb t (drop n xs) high
climb_drop low [] high zero t c l a = l
climb_drop low (x ∷ xs) high zero t c l a = (a (omega arith), c.1)
climb_drop low [] high (suc n) t c l a = l
climb_drop low (x ∷ xs) high (suc n) t c l a = climb_drop x xs high n t c.1 l (λ m. a (omega arith))

-- a row of two edges and more climbs from its first
pub first_of : (low x : ℤ) (xs : List ℤ) (high : ℤ) → IsClimb low (x ∷ xs) high → IsClimb x xs high
first_of low x xs high c = c.1

-- ---- numbers of 32 bits

pub coordinate_fits : (x : ℤ) → negsuc 16384 ≤ℤ x → x ≤ℤ pos 16383 → SFits w32 x
coordinate_fits x low high = search (arith, ints)
