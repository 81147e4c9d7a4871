-- The numbers of a thumb: a is how far the value lies above the minimum, d how far the maximum does, and r the room.
use Rattle.std.proofs.Common.{◌≡◌, ℕ, ◌+◌, ◌*◌, ◌/◌, ◌-◌, ◌<◌, ◌≤◌, ℤ, pos, ◌+ℤ◌, ◌-ℤ◌, ◌≤ℤ◌, ◌<ℤ◌, Bool, true, false, cond, refl, ap, ◌∙◌, arith}
use Rattle.std.specs.Prelude.{nat_abs, nat_eq}
use Rattle.std.proofs.lemmas.Int.{ints}
use Rattle.std.proofs.lemmas.Nat.{le-div}
use Rattle.std.proofs.lemmas.Bool.Decides.{nat_tests}
use Rattle.std.proofs.Math.Nat.{div-le_of_le-mul, mul-le-mul_right, mul-div_cancel_left, div-mul-le_self, lt-div-mul-add}
use Rattle.control_values.specs.Settings.{Setting, IsSettled}
use Rattle.def_iface.specs.declared.size.Size.{Size}
use Rattle.std_cdef.specs.Axes.{axis, is_long, room}
use Rattle.std_cdef.specs.Thumbs.{rise, reach, thumb_step}

-- ---- shares

-- a share of a room is at most that
pub share-le : (a d r : ℕ) → a ≤ d → a * r / d ≤ r
share-le a d r h = div-le_of_le-mul d (mul-le-mul_right r h)

-- a greater share is no smaller
pub share-more : (a b d r : ℕ) → 0 < d → a ≤ b → a * r / d ≤ b * r / d
share-more a b d r g h = le-div (a * r / d) (b * r) d g (omega (arith, div-mul-le_self (a * r) d, mul-le-mul_right {m = a} {n = b} r h))

-- all of it
pub share-all : (d r : ℕ) → 0 < d → d * r / d ≡ r
share-all d r h = mul-div_cancel_left r h

-- the way there and back again, rounded down both times, ends no further than where it began
pub share-back : (a d r k : ℕ) → k ≤ a * r / d → k * d / r ≤ a
share-back a d r k l = div-le_of_le-mul r (omega (arith, div-mul-le_self (a * r) d, mul-le-mul_right {m = k} {n = a * r / d} d l))

-- and with one place more it ends as far at least
pub share-on : (a d r k : ℕ) → 0 < d → 0 < r → a * r / d < k → a ≤ k * d / r
share-on a d r k h g l = le-div a (k * d) r g (omega (arith, lt-div-mul-add {a = a * r} {b = d} h, mul-le-mul_right {m = a * r / d + 1} {n = k} d (omega arith)))

-- ---- settings

-- the value lies no higher than the maximum
pub rise-le : (v : Setting) → IsSettled v → rise v ≤ reach v
rise-le v i = apart v.minimum v.value v.maximum i.above i.below
  where
    apart : (x y z : ℤ) → x ≤ℤ y → y ≤ℤ z → nat_abs (y -ℤ x) ≤ nat_abs (z -ℤ x)
    apart x y z a b = omega (arith, ints)

above-by : (x y : ℤ) → x ≤ℤ y → (x +ℤ pos (nat_abs (y -ℤ x))) ≡ y
above-by x y a = omega (arith, ints)

-- the value and the maximum, by how far they lie above the minimum
pub value-is : (v : Setting) → IsSettled v → (v.minimum +ℤ pos (rise v)) ≡ v.value
value-is v i = above-by v.minimum v.value i.above

pub maximum-is : (v : Setting) → v.minimum ≤ℤ v.maximum → (v.minimum +ℤ pos (reach v)) ≡ v.maximum
maximum-is v i = above-by v.minimum v.maximum i

-- ---- the thumb

-- the thumb's place, where the value can change and where it cannot
pub step-some : (s : Size) (v : Setting) → 0 < reach v → thumb_step s v ≡ rise v * room s / reach v
unfolding thumb_step
step-some s v h = by_test (nat_eq (reach v) 0) refl
  where
    by_test : (t : Bool) → nat_eq (reach v) 0 ≡ t → cond t 0 (rise v * room s / reach v) ≡ rise v * room s / reach v
    by_test false e = refl
    by_test true e = absurd (grind (arith, nat_tests))

pub step-none : (s : Size) (v : Setting) → reach v ≡ 0 → thumb_step s v ≡ 0
unfolding thumb_step
step-none s v h = ap (λ n. cond (nat_eq n 0) 0 (rise v * room s / reach v)) h

-- no more than its room
pub step-le : (s : Size) (v : Setting) → IsSettled v → thumb_step s v ≤ room s
unfolding thumb_step
step-le s v i = by_test (nat_eq (reach v) 0)
  where
    by_test : (t : Bool) → cond t 0 (rise v * room s / reach v) ≤ room s
    by_test true = omega arith
    by_test false = share-le (rise v) (reach v) (room s) (rise-le v i)

-- so it lies on the track
pub on_track : (s : Size) (v : Setting) → IsSettled v → is_long s ≡ true → 32 + thumb_step s v ≤ axis s - 16
on_track s v i long = let h = step-le s v i in grind (arith, nat_tests)

-- a greater value has no smaller place
pub steps_rise : (s : Size) (low high y z : ℤ) → low ≤ℤ y → y ≤ℤ z → z ≤ℤ high
    → thumb_step s (record { minimum = low; maximum = high; value = y }) ≤ thumb_step s (record { minimum = low; maximum = high; value = z })
unfolding thumb_step
steps_rise s low high y z a b c = by_test (nat_eq (nat_abs (high -ℤ low)) 0) refl
  where
    closer : nat_abs (y -ℤ low) ≤ nat_abs (z -ℤ low)
    closer = omega (arith, ints)

    by_test : (t : Bool) → nat_eq (nat_abs (high -ℤ low)) 0 ≡ t
        → cond t 0 (nat_abs (y -ℤ low) * room s / nat_abs (high -ℤ low)) ≤ cond t 0 (nat_abs (z -ℤ low) * room s / nat_abs (high -ℤ low))
    by_test true e = omega arith
    by_test false e = share-more (nat_abs (y -ℤ low)) (nat_abs (z -ℤ low)) (nat_abs (high -ℤ low)) (room s) (grind (arith, nat_tests)) closer

-- at the minimum it is at the start, and at the maximum at the end
pub step_first : (s : Size) (v : Setting) → v.value ≡ v.minimum → thumb_step s v ≡ 0
unfolding thumb_step
step_first s v e = by_test (nat_eq (reach v) 0) (rise v) (reach v) (omega (arith, ints))
  where
    by_test : (t : Bool) (a d : ℕ) → a ≡ 0 → cond t 0 (a * room s / d) ≡ 0
    by_test true a d h = refl
    by_test false a d h =
        let none : a * room s / d ≤ 0 = div-le_of_le-mul d (omega (arith, ap (λ n. n * room s) h)) in
        omega arith

pub step_last : (s : Size) (v : Setting) → v.value ≡ v.maximum → v.minimum <ℤ v.maximum → thumb_step s v ≡ room s
step_last s v e l =
    let some : 0 < reach v = omega (arith, ints) in
    let same : rise v ≡ reach v = ap (λ x. nat_abs (x -ℤ v.minimum)) e in
    step-some s v some ∙ ap (λ a. a * room s / reach v) same ∙ share-all (reach v) (room s) some
