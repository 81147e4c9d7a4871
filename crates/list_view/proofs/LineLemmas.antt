-- Where lines lie along an axis, and which line lies where.
use Rattle.std.proofs.Common.{◌≡◌, ℕ, ◌≤◌, ◌+◌, ◌*◌, ℤ, pos, negsuc, ◌+ℤ◌, ◌-ℤ◌, ◌≤ℤ◌, ◌<ℤ◌, arith, refl, ap}
use borrow.Author.Differences.{up, down}
use Rattle.std.specs.Prelude.{◌*ℤ◌, int_div}
use Rattle.std.proofs.lemmas.Int.{ints, clamps, by_lt_z}
use Rattle.std.proofs.Math.Nat.{mul-le-mul_right}
use Rattle.list_view.specs.declared.axis.Axis.{Axis}
use Rattle.list_view.specs.Axes.{IsAxis, IsLine, end_of, bound, scrolled_line, line_start, line_end, line_at}
use Rattle.list_view.proofs.AxisLemmas.{IsQuotient, quotient_is, quotient_part}

-- ---- products

pub mul_le : (m n d : ℤ) → m ≤ℤ n → pos 0 ≤ℤ d → (m *ℤ d) ≤ℤ (n *ℤ d)
mul_le m n (pos d) l z = let h : (up m + down n) * d ≤ (up n + down m) * d = mul-le-mul_right d (omega (arith, ints)) in omega (arith, ints)
mul_le m n (negsuc d) l z = absurd (omega (arith, ints))

mul_next : (y z d : ℤ) → z ≡ y +ℤ pos 1 → pos 0 ≤ℤ d → (y *ℤ d) +ℤ d ≡ z *ℤ d
mul_next y z (pos d) e s = let h : (up y + down z + 1) * d ≡ (up z + down y) * d = ap (λ (k : ℕ). k * d) (omega (arith, ints)) in omega (arith, ints)
mul_next y z (negsuc d) e s = absurd (omega (arith, ints))

-- ---- quotients

-- what goes into a number that often is no more than its quotient
pub not_more : (x d q r : ℤ) → pos 1 ≤ℤ d → IsQuotient x d q → (r *ℤ d) ≤ℤ x → r ≤ℤ q
not_more x d q r s h l =
    by_lt_z q r
    (λ less.
    let some : pos 0 ≤ℤ d = omega (arith, ints) in
    let next : q *ℤ d +ℤ d ≡ (q +ℤ pos 1) *ℤ d = mul_next q (q +ℤ pos 1) d refl some in
    let grows : ((q +ℤ pos 1) *ℤ d) ≤ℤ (r *ℤ d) = mul_le (q +ℤ pos 1) r d (omega (arith, ints)) some in
    let most = h.most in
    absurd (omega (arith, ints)))
    (λ not_less. not_less)

quotient_one : (x d q r : ℤ) → pos 1 ≤ℤ d → IsQuotient x d q → IsQuotient x d r → q ≡ r
quotient_one x d q r s h k =
    let a : q ≤ℤ r = not_more x d r q s k h.least in
    let b : r ≤ℤ q = not_more x d q r s h k.least in
    omega (arith, ints)

-- ---- lines

-- a place lies in a line
pub record LiesIn (a : Axis) (first line place : ℤ) : Type 0 where
  pub after : line_start a first line ≤ℤ place
  pub before : place <ℤ line_end a first line

-- the line at a place is the one that it lies in
pub line_is : (a : Axis) (first line place : ℤ) → IsAxis a → a.start ≤ℤ place → LiesIn a first line place → line ≡ line_at a first place
line_is a first line place axis from lies =
    let quotient = quotient_is (place -ℤ a.start) a.cell (omega (arith, ints)) axis.cell_some in
    let after = lies.after in
    let before = lies.before in
    let here : IsQuotient (place -ℤ a.start) a.cell (line -ℤ first) = record { least = omega (arith, ints); most = omega (arith, ints) } in
    let same : line -ℤ first ≡ int_div (place -ℤ a.start) a.cell = quotient_one (place -ℤ a.start) a.cell (line -ℤ first) (int_div (place -ℤ a.start) a.cell) axis.cell_some here quotient in
    omega (arith, ints)

-- a place of the view lies in the line at it
pub lies_in_line : (a : Axis) (first place : ℤ) → IsAxis a → a.start ≤ℤ place → LiesIn a first (line_at a first place) place
lies_in_line a first place axis from =
    let quotient = quotient_is (place -ℤ a.start) a.cell (omega (arith, ints)) axis.cell_some in
    let least = quotient.least in
    let most = quotient.most in
    let back : int_div (place -ℤ a.start) a.cell ≡ line_at a first place -ℤ first = omega (arith, ints) in
    let product : int_div (place -ℤ a.start) a.cell *ℤ a.cell ≡ (line_at a first place -ℤ first) *ℤ a.cell = ap (λ (z : ℤ). z *ℤ a.cell) back in
    record { after = omega (arith, ints); before = omega (arith, ints) }

-- it is not below the one at the start
pub line_at_counted : (a : Axis) (first place : ℤ) → IsAxis a → a.start ≤ℤ place → IsLine first → pos 0 ≤ℤ line_at a first place
line_at_counted a first place axis from line =
    let part = quotient_part (place -ℤ a.start) a.cell (omega (arith, ints)) axis.cell_some in
    let least = part.least in
    let some = line.least in
    omega (arith, ints)

-- ---- how far a view is scrolled

pub bound_least : (a : Axis) (count : ℕ) → pos 0 ≤ℤ bound a count
bound_least a count = omega (arith, ints, clamps)

pub scrolled_least : (a : Axis) (count : ℕ) (first lines : ℤ) → pos 0 ≤ℤ scrolled_line a count first lines
scrolled_least a count first lines = omega (arith, ints, clamps)

pub scrolled_most : (a : Axis) (count : ℕ) (first lines : ℤ) → scrolled_line a count first lines ≤ℤ bound a count
scrolled_most a count first lines = let some = bound_least a count in omega (arith, ints, clamps)

pub scrolled_stays : (a : Axis) (count : ℕ) (first : ℤ) → pos 0 ≤ℤ first → first ≤ℤ bound a count → scrolled_line a count first (pos 0) ≡ first
scrolled_stays a count first l m = omega (arith, ints, clamps)

-- how far the last of some lines reaches
last_end : (a : Axis) (count : ℕ) (first : ℤ) → IsAxis a → line_end a first (pos count -ℤ pos 1) ≡ a.start +ℤ ((pos count -ℤ first) *ℤ a.cell)
last_end a count first axis =
    let some = axis.cell_some in
    let next = mul_next ((pos count -ℤ pos 1) -ℤ first) (pos count -ℤ first) a.cell (omega (arith, ints)) (omega (arith, ints)) in
    omega (arith, ints)

-- scrolled as far as it goes, a view shows the last line whole, where a cell has room in it
pub last_line_shows : (a : Axis) (count : ℕ) → IsAxis a → a.cell ≤ℤ a.length → line_end a (bound a count) (pos count -ℤ pos 1) ≤ℤ end_of a
last_line_shows a count axis room =
    let length = axis.some in
    let some = axis.cell_some in
    let quotient = quotient_is a.length a.cell (omega (arith, ints)) axis.cell_some in
    let one : pos 1 ≤ℤ int_div a.length a.cell = not_more a.length a.cell (int_div a.length a.cell) (pos 1) some quotient (omega (arith, ints)) in
    let few : (pos count -ℤ bound a count) ≤ℤ int_div a.length a.cell = omega (arith, ints, clamps) in
    let product : ((pos count -ℤ bound a count) *ℤ a.cell) ≤ℤ (int_div a.length a.cell *ℤ a.cell) = mul_le (pos count -ℤ bound a count) (int_div a.length a.cell) a.cell few (omega (arith, ints)) in
    let least = quotient.least in
    let end = last_end a count (bound a count) axis in
    omega (arith, ints)

-- and less far it does not
pub no_less_shows : (a : Axis) (count : ℕ) (first : ℤ) → IsAxis a → pos 0 ≤ℤ first → line_end a first (pos count -ℤ pos 1) ≤ℤ end_of a → bound a count ≤ℤ first
no_less_shows a count first axis from shows =
    let length = axis.some in
    let some = axis.cell_some in
    let quotient = quotient_is a.length a.cell (omega (arith, ints)) axis.cell_some in
    let end = last_end a count first axis in
    let few : (pos count -ℤ first) ≤ℤ int_div a.length a.cell = not_more a.length a.cell (int_div a.length a.cell) (pos count -ℤ first) some quotient (omega (arith, ints)) in
    omega (arith, ints, clamps)

-- where no cell has room, the last line comes to the start
pub last_line_alone : (a : Axis) (count : ℕ) → IsAxis a → a.length <ℤ a.cell → bound a (count + 1) ≡ pos count
last_line_alone a count axis small =
    let length = axis.some in
    let some = axis.cell_some in
    let quotient = quotient_is a.length a.cell (omega (arith, ints)) some in
    let least = quotient.least in
    let none : int_div a.length a.cell ≤ℤ pos 0 =
    by_lt_z (pos 0) (int_div a.length a.cell)
    (λ more.
    let product : (pos 1 *ℤ a.cell) ≤ℤ (int_div a.length a.cell *ℤ a.cell) = mul_le (pos 1) (int_div a.length a.cell) a.cell (omega (arith, ints)) (omega (arith, ints)) in
    absurd (omega (arith, ints)))
    (λ not_more. not_more) in
    omega (arith, ints, clamps)
