-- The value once a thumb was dragged.
use Rattle.std.proofs.Common.{◌≡◌, ℕ, zero, suc, ◌+◌, ◌*◌, ◌/◌, ◌-◌, ◌<◌, ◌≤◌, ℤ, pos, negsuc, ◌+ℤ◌, ◌≤ℤ◌, ◌<ℤ◌, Bool, true, false, not, ◌&&◌, cond, refl, ap, ◌∙◌, arith}
use Rattle.std.specs.Prelude.{min, nat_eq, nat_lt}
use Rattle.std.specs.Ordering.{int_eq}
use Rattle.std.proofs.lemmas.Int.{ints}
use Rattle.std.proofs.lemmas.Bool.Decides.{nat_tests, Decides-int_eq}
use Rattle.std.proofs.Math.Nat.{div-le_of_le-mul}
use Rattle.tb_geom.specs.declared.point.Point.{Point}
use Rattle.control_values.specs.Settings.{Setting, IsSettled}
use Rattle.def_iface.specs.declared.size.Size.{Size}
use Rattle.std_cdef.specs.Axes.{room}
use Rattle.std_cdef.specs.Thumbs.{rise, reach, thumb_step, way, has_thumb, dragged_step, value_at, dragged_value, thumb_value}
use Rattle.std_cdef.proofs.ThumbLemmas.{share-le, share-more, share-all, share-back, share-on, rise-le, value-is, maximum-is, step-some, step-le}

-- ---- places

-- the thumb stays within its room
pub dragged-le : (s : Size) (v : Setting) (m : ℤ) → IsSettled v → dragged_step s v m ≤ room s
unfolding dragged_step
dragged-le s v (pos m) i = omega arith
dragged-le s v (negsuc m) i = omega (arith, step-le s v i)

-- further on is no less far
dragged-more : (s : Size) (v : Setting) (m n : ℤ) → IsSettled v → m ≤ℤ n → dragged_step s v m ≤ dragged_step s v n
unfolding dragged_step
dragged-more s v (pos m) (pos n) i l = let h : m ≤ n = omega (arith, ints) in omega arith
dragged-more s v (negsuc m) (pos n) i l = omega (arith, step-le s v i)
dragged-more s v (negsuc m) (negsuc n) i l = let h : n ≤ m = omega (arith, ints) in omega arith
dragged-more s v (pos m) (negsuc n) i l = absurd (omega (arith, ints))

-- ---- values

-- the minimum is at most the maximum
ordered : (v : Setting) → IsSettled v → v.minimum ≤ℤ v.maximum
ordered v i = let a = i.above in let b = i.below in omega (arith, ints)

-- the value of a place lies between the two
value-within : (s : Size) (v : Setting) (k : ℕ) → IsSettled v → k ≤ room s → (v.minimum ≤ℤ value_at s v k) × (value_at s v k ≤ℤ v.maximum)
unfolding value_at
value-within s v k i h =
    let part = share-le k (room s) (reach v) h in
    let top = maximum-is v (ordered v i) in
    (omega (arith, ints), omega (arith, ints))

-- a place further on has no smaller value
value-more : (s : Size) (v : Setting) (k l : ℕ) → 0 < room s → k ≤ l → value_at s v k ≤ℤ value_at s v l
unfolding value_at
value-more s v k l g h = let more = share-more k l (room s) (reach v) g h in omega (arith, ints)

-- dragged to an end
value-first : (s : Size) (v : Setting) → 0 < room s → value_at s v 0 ≡ v.minimum
unfolding value_at
value-first s v g =
    let none : 0 * reach v / room s ≤ 0 = div-le_of_le-mul (room s) (omega arith) in
    let zero : 0 * reach v / room s ≡ 0 = omega arith in
    ap (λ n. v.minimum +ℤ pos n) zero ∙ plus-none v.minimum
  where
    plus-none : (x : ℤ) → (x +ℤ pos 0) ≡ x
    plus-none x = omega (arith, ints)

value-last : (s : Size) (v : Setting) → IsSettled v → 0 < room s → value_at s v (room s) ≡ v.maximum
unfolding value_at
value-last s v i g = ap (λ n. v.minimum +ℤ pos n) (share-all (room s) (reach v) g) ∙ maximum-is v (ordered v i)

-- ---- drags

-- a drag keeps the setting in order
dragged-settled : (s : Size) (v : Setting) (m : ℤ) → IsSettled v → IsSettled (record v { value = dragged_value s v m })
unfolding dragged_value
dragged-settled s v m i = by_test (not (int_eq m (pos 0)) && nat_lt 0 (room s))
  where
    by_test : (t : Bool) → IsSettled (record v { value = cond t (value_at s v (dragged_step s v m)) v.value })
    by_test true = let w = value-within s v (dragged_step s v m) i (dragged-le s v m i) in record { above = w.0; below = w.1 }
    by_test false = i

pub dragged_within : (s : Size) (v : Setting) (highlight : ℕ) (from to : Point) → IsSettled v → IsSettled (record v { value = thumb_value s v highlight from to })
dragged_within s v highlight from to i = by_test (has_thumb s v highlight)
  where
    by_test : (t : Bool) → IsSettled (record v { value = cond t (dragged_value s v (way s from to)) v.value })
    by_test true = dragged-settled s v (way s from to) i
    by_test false = i

-- the thumb's place by shares: no more than this, and just this where the value can change
step-under : (s : Size) (v : Setting) → thumb_step s v ≤ rise v * room s / reach v
unfolding thumb_step
step-under s v = by_test (nat_eq (reach v) 0)
  where
    by_test : (t : Bool) → cond t 0 (rise v * room s / reach v) ≤ rise v * room s / reach v
    by_test true = omega arith
    by_test false = omega arith

-- any place but the thumb's own, and none before it but the last, has the value at least
on-at-least : (a d r here k : ℕ) → a ≤ d → 0 < r → (0 < d → here ≡ a * r / d) → (k ≤ here → k ≡ r) → a ≤ k * d / r
on-at-least a zero r here k h g is end = omega arith
on-at-least a (suc d) r here k h g is end = by_test (nat_lt here k) refl
  where
    by_test : (t : Bool) → nat_lt here k ≡ t → a ≤ k * suc d / r
    by_test true e =
        let past : here < k = grind (arith, nat_tests) in
        let same = is (omega arith) in
        share-on a (suc d) r k (omega arith) g (omega arith)
    by_test false e =
        let back : k ≤ here = grind (arith, nat_tests) in
        omega (arith, ap (λ n. n * suc d / r) (end back), share-all r (suc d) g)

-- dragged on the value does not fall, and dragged back it does not rise
on-value : (s : Size) (v : Setting) (m : ℤ) → IsSettled v → 0 < room s → pos 0 <ℤ m → v.value ≤ℤ value_at s v (dragged_step s v m)
unfolding dragged_step value_at
on-value s v (pos m) i g h =
    let some : 0 < m = omega (arith, ints) in
    let is = value-is v i in
    let far = on-at-least (rise v) (reach v) (room s) (thumb_step s v) (min (thumb_step s v + m) (room s)) (rise-le v i) g (step-some s v) (λ e. omega arith) in
    omega (arith, ints)
on-value s v (negsuc m) i g h = absurd (omega (arith, ints))

back-value : (s : Size) (v : Setting) (m : ℤ) → IsSettled v → 0 < room s → m <ℤ pos 0 → value_at s v (dragged_step s v m) ≤ℤ v.value
unfolding dragged_step value_at
back-value s v (pos m) i g h = absurd (omega (arith, ints))
back-value s v (negsuc m) i g h =
    let under = step-under s v in
    let is = value-is v i in
    let far = share-back (rise v) (reach v) (room s) (thumb_step s v - suc m) (omega arith) in
    omega (arith, ints)

-- further on the value is no smaller
pub drag_more : (s : Size) (v : Setting) (m n : ℤ) → IsSettled v → m ≤ℤ n → dragged_value s v m ≤ℤ dragged_value s v n
unfolding dragged_value
drag_more s v m n i l = by_tests (int_eq m (pos 0)) (int_eq n (pos 0)) (nat_lt 0 (room s)) refl refl refl
  where
    by_tests : (x y g : Bool) → int_eq m (pos 0) ≡ x → int_eq n (pos 0) ≡ y → nat_lt 0 (room s) ≡ g
        → cond (not x && g) (value_at s v (dragged_step s v m)) v.value ≤ℤ cond (not y && g) (value_at s v (dragged_step s v n)) v.value
    by_tests true true true a b c = omega (arith, ints)
    by_tests true true false a b c = omega (arith, ints)
    by_tests true false false a b c = omega (arith, ints)
    by_tests false true false a b c = omega (arith, ints)
    by_tests false false false a b c = omega (arith, ints)
    by_tests false false true a b c = value-more s v (dragged_step s v m) (dragged_step s v n) (grind (arith, nat_tests)) (dragged-more s v m n i l)
    by_tests true false true a b c =
        let here = (Decides-int_eq m (pos 0)).0 a in
        on-value s v n i (grind (arith, nat_tests)) (grind (arith, ints))
    by_tests false true true a b c =
        let here = (Decides-int_eq n (pos 0)).0 b in
        back-value s v m i (grind (arith, nat_tests)) (grind (arith, ints))

-- no way keeps the value
pub drag_none : (s : Size) (v : Setting) → dragged_value s v (pos 0) ≡ v.value
unfolding dragged_value
drag_none s v = refl

-- the value of a place that the thumb is dragged to
drag-some : (s : Size) (v : Setting) (m : ℤ) (k : ℕ) → 0 < room s → (m ≡ pos 0 → ⊥) → dragged_step s v m ≡ k → dragged_value s v m ≡ value_at s v k
unfolding dragged_value
drag-some s v m k g moves is = by_tests (int_eq m (pos 0)) (nat_lt 0 (room s)) refl refl
  where
    by_tests : (x h : Bool) → int_eq m (pos 0) ≡ x → nat_lt 0 (room s) ≡ h → cond (not x && h) (value_at s v (dragged_step s v m)) v.value ≡ value_at s v k
    by_tests true h a c = absurd (moves ((Decides-int_eq m (pos 0)).0 a))
    by_tests false true a c = ap (value_at s v) is
    by_tests false false a c = absurd (grind (arith, nat_tests))

-- to the start and past it, and to the end and past it
first-step : (s : Size) (v : Setting) (m : ℤ) → (m ≡ pos 0 → ⊥) → (pos (thumb_step s v) +ℤ m) ≤ℤ pos 0 → dragged_step s v m ≡ 0
unfolding dragged_step
first-step s v (pos m) moves h = absurd (moves (ap pos (omega (arith, ints))))
first-step s v (negsuc m) moves h = let past : thumb_step s v ≤ suc m = omega (arith, ints) in omega arith

last-step : (s : Size) (v : Setting) (m : ℤ) → IsSettled v → pos (room s) ≤ℤ (pos (thumb_step s v) +ℤ m) → dragged_step s v m ≡ room s
unfolding dragged_step
last-step s v (pos m) i h = let past : room s ≤ thumb_step s v + m = omega (arith, ints) in omega arith
last-step s v (negsuc m) i h = absurd (omega (arith, ints, step-le s v i))

pub drag_first : (s : Size) (v : Setting) (m : ℤ) → 0 < room s → (m ≡ pos 0 → ⊥) → (pos (thumb_step s v) +ℤ m) ≤ℤ pos 0 → dragged_value s v m ≡ v.minimum
drag_first s v m g moves h = drag-some s v m 0 g moves (first-step s v m moves h) ∙ value-first s v g

pub drag_last : (s : Size) (v : Setting) (m : ℤ) → IsSettled v → 0 < room s → (m ≡ pos 0 → ⊥) → pos (room s) ≤ℤ (pos (thumb_step s v) +ℤ m) → dragged_value s v m ≡ v.maximum
drag_last s v m i g moves h = drag-some s v m (room s) g moves (last-step s v m i h) ∙ value-last s v i g
