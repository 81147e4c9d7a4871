-- Which numbers are the sum of a list's flags, why the numbers of a new list are refused, and whether there is room for its bars.
use Rattle.std.proofs.Common.{◌≡◌, ℕ, zero, suc, ◌+◌, ◌-◌, ◌<◌, ℤ, Bool, true, false, not, ◌&&◌, ◌||◌, cond, List, [], ◌∷◌, Some, refl, ap, ◌∙◌, subst, arith}
use Rattle.std.specs.List.{list_any}
use Rattle.std.specs.Prelude.{nat_lt}
use Rattle.std.specs.Ordering.{int_eq}
use Rattle.std.proofs.lemmas.Bool.Decides.{Decides-int_eq}
use Rattle.tb_geom.specs.declared.refusal.Refusal.TheVariants.{OutOfRange}
use Rattle.tb_geom.specs.Refusals.{first_refusal}
use Rattle.window_items.specs.Items as controls
use Rattle.list_cells.specs.declared.click.SelectionFlags.{SelectionFlags}
use Rattle.list_cells.specs.Clicks.{flags_number}
use Rattle.list_cells.specs.Runs.{new_refusals}
use Rattle.desk_call.specs.declared.list.NewList.{NewList}
use Rattle.list_mgr.specs.ListRefusals.{all_flags, have_room, is_sum_of_flags}
use Rattle.list_mgr.specs.Making.{number_refusals}

-- ---- flags

sum_of : (a b c d : Bool) → is_sum_of_flags (flags_number (record { only_one = a; no_extend = b; use_sense = c; no_nil_hilite = d })) ≡ true
sum_of true true true true = refl
sum_of true true true false = refl
sum_of true true false true = refl
sum_of true true false false = refl
sum_of true false true true = refl
sum_of true false true false = refl
sum_of true false false true = refl
sum_of true false false false = refl
sum_of false true true true = refl
sum_of false true true false = refl
sum_of false true false true = refl
sum_of false true false false = refl
sum_of false false true true = refl
sum_of false false true false = refl
sum_of false false false true = refl
sum_of false false false false = refl

-- the number of flags is the sum of some
pub is_sum : (f : SelectionFlags) (n : ℤ) → flags_number f ≡ n → is_sum_of_flags n ≡ true
is_sum f n e = subst (λ m. is_sum_of_flags m ≡ true) e (sum_of f.only_one f.no_extend f.use_sense f.no_nil_hilite)

not_equal : (a b : ℤ) → (a ≡ b → ⊥) → int_eq a b ≡ false
not_equal a b ne = by_test (int_eq a b) refl
  where
    by_test : (t : Bool) → int_eq a b ≡ t → t ≡ false
    by_test true e = absurd (ne ((Decides-int_eq a b).0 e))
    by_test false e = refl

-- a number that no flags have is the sum of none
pub is_no_sum : (n : ℤ) → ((f : SelectionFlags) → flags_number f ≡ n → ⊥) → is_sum_of_flags n ≡ false
is_no_sum n none = among all_flags
  where
    among : (fs : List SelectionFlags) → list_any (λ f. int_eq (flags_number f) n) fs ≡ false
    among [] = refl
    among (f ∷ fs) = ap (λ b. b || list_any (λ f. int_eq (flags_number f) n) fs) (not_equal (flags_number f) n (none f)) ∙ among fs

pub bad_flags : (n : NewList) → is_sum_of_flags n.flags ≡ false → first_refusal (number_refusals n) ≡ Some OutOfRange
bad_flags n e = ap (λ b. cond (not b) (Some OutOfRange) (first_refusal (new_refusals n.columns n.rows))) e

pub good_flags : (n : NewList) → is_sum_of_flags n.flags ≡ true → first_refusal (number_refusals n) ≡ first_refusal (new_refusals n.columns n.rows)
good_flags n e = ap (λ b. cond (not b) (Some OutOfRange) (first_refusal (new_refusals n.columns n.rows))) e

-- ---- room

-- there is room for some controls where there is for one and then for the others
pub room_for_more : (k count serial : ℕ) → 0 < k → count < 64 → have_room k count (Some serial) ≡ have_room (k - 1) (count + 1) (controls.serial_after serial)
room_for_more zero count serial some few = absurd (omega arith)
room_for_more (suc k) count serial some few = by_test (nat_lt count 64) (is_few count few) ∙ ap (λ j. have_room j (count + 1) (controls.serial_after serial)) (less k)
  where
    is_few : (c : ℕ) → c < 64 → nat_lt c 64 ≡ true
    is_few c e = grind arith

    less : (k : ℕ) → k ≡ suc k - 1
    less k = omega arith

    by_test : (b : Bool) → b ≡ true → (b && have_room k (count + 1) (controls.serial_after serial)) ≡ have_room k (count + 1) (controls.serial_after serial)
    by_test true e = refl
    by_test false e = absurd (cc)
