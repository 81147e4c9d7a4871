-- What the definitions of round shapes, insides and frames say.
use Rattle.std.proofs.Common.{◌≡◌, ◌⊎◌, inl, inr, ◌&&◌, ◌||◌, Bool, true, false, ◌+◌, ◌-◌, ◌*◌, ℕ, ℤ, pos, ◌-ℤ◌, ◌+ℤ◌, ◌≤ℤ◌, ◌<ℤ◌, refl, sym, ap, ◌∙◌, arith}
use Rattle.std.specs.Prelude.{nat_le, min, not}
use Rattle.std.specs.Int.{abs_diff}
use Rattle.std.proofs.lemmas.Bool.{and_parts, cases_Bool}
use Rattle.std.proofs.lemmas.Int.{ints}
use Rattle.std.proofs.Math.Nat.{min_comm, add_comm, zero-min}
use Rattle.tb_geom.specs.declared.point.Point.{Point}
use Rattle.tb_geom.specs.declared.rect.Rect.{Rect}
use Rattle.tb_geom.specs.Rects.{between, rect_holds}
use Rattle.tb_geom.proofs.RectLemmas.{between-in}
use Rattle.region_rows.specs.Counts.{natural, count_to}
use Rattle.region_rows.proofs.Counts.{count-is}
use Rattle.shape_strips.specs.declared.corner.Corner.{Corner}
use Rattle.shape_strips.specs.declared.pen.Pen.{Pen}
use Rattle.shape_strips.specs.Ovals.{square, in_oval, away}
use Rattle.shape_strips.specs.Rounds.{fitted, across, down, round_holds, oval_holds}
use Rattle.shape_strips.specs.Frames.{has_size, surrounds, inside_holds, frame_holds, inset_rect, inset_corner}
use Rattle.shape_strips.specs.Mirrors.{mirrored_across, mirrored_down, mirrored_diagonally}
use Rattle.shape_strips.proofs.RangeLemmas.{row_of}

-- ---- rectangles and ovals

-- an oval without width or without height has each place that is at its middle that way
no_width : (k y : ℕ) → in_oval 0 k 0 y ≡ true
unfolding in_oval
no_width k y = grind arith

no_height : (w x : ℕ) → in_oval w 0 x 0 ≡ true
unfolding in_oval
no_height w x = grind arith

with_true : (a b : Bool) → b ≡ true → (a && b) ≡ a
with_true true b e = e
with_true false b e = refl

nothing_fits : (a : ℕ) (n : ℕ) → a ≡ 0 → min a n ≡ 0
nothing_fits a n e = ap (λ m. min m n) e ∙ zero-min n

pub plain_rect : (r : Rect) (c : Corner) (p : Point) → ((c.width ≡ 0) ⊎ (c.height ≡ 0)) → round_holds r c p ≡ rect_holds r p
unfolding round_holds
plain_rect r c p (inl none) =
    let w : (fitted r c).width ≡ 0 = nothing_fits c.width _ none in
    let x : across r (fitted r c) p.h ≡ 0 = omega (arith, w) in
    with_true (rect_holds r p) _ ((λ i. in_oval (w i) (fitted r c).height (x i) (down r (fitted r c) p.v)) ∙ no_width _ _)
plain_rect r c p (inr none) =
    let k : (fitted r c).height ≡ 0 = nothing_fits c.height _ none in
    let y : down r (fitted r c) p.v ≡ 0 = omega (arith, k) in
    with_true (rect_holds r p) _ ((λ i. in_oval (fitted r c).width (k i) (across r (fitted r c) p.h) (y i)) ∙ no_height _ _)

min-same : (n : ℕ) → min n n ≡ n
min-same n = omega arith

-- the columns left of a pixel and right of it
away_of_oval : (low x high : ℤ) → low ≤ℤ x → x <ℤ high → away (min (count_to low high) (count_to low high)) (count_to low x) (count_to (x +ℤ pos 1) high) ≡ abs_diff (count_to low x) (count_to (x +ℤ pos 1) high)
away_of_oval low x high l m = from (count_to low high) (count_to low x) (count_to (x +ℤ pos 1) high) (count-is low high (omega (arith, ints))) (count-is low x l) (count-is (x +ℤ pos 1) high (omega (arith, ints)))
  where
    from : (w a b : ℕ) → pos w ≡ high -ℤ low → pos a ≡ x -ℤ low → pos b ≡ high -ℤ (x +ℤ pos 1) → away (min w w) a b ≡ abs_diff a b
    from w a b e f g = let all : w ≡ a + b + 1 = omega (arith, ints) in omega arith

when_true : (a b c : Bool) → (a ≡ true → b ≡ c) → (a && b) ≡ (a && c)
when_true true b c e = e refl
when_true false b c e = refl

pub oval_centres : (r : Rect) (p : Point) → oval_holds r p ≡ (rect_holds r p
    && in_oval (count_to r.left r.right) (count_to r.top r.bottom)
    (abs_diff (count_to r.left p.h) (count_to (p.h +ℤ pos 1) r.right))
    (abs_diff (count_to r.top p.v) (count_to (p.v +ℤ pos 1) r.bottom)))
unfolding round_holds
oval_centres r p = when_true (rect_holds r p) _ _ (λ e.
    let both = and_parts (between r.left p.h r.right) (between r.top p.v r.bottom) e in
    let columns = row_of r.left p.h r.right both.0 in
    let rows = row_of r.top p.v r.bottom both.1 in
    λ i. in_oval (min-same (count_to r.left r.right) i) (min-same (count_to r.top r.bottom) i)
    (away_of_oval r.left p.h r.right columns.0 columns.1 i) (away_of_oval r.top p.v r.bottom rows.0 rows.1 i))

-- ---- mirrors

between-mirrored : (low x high : ℤ) → between low ((low +ℤ high) -ℤ (x +ℤ pos 1)) high ≡ between low x high
between-mirrored low x high = grind (arith, ints)

before-mirrored : (low x high : ℤ) → ((low +ℤ high) -ℤ (x +ℤ pos 1)) -ℤ low ≡ high -ℤ (x +ℤ pos 1)
before-mirrored low x high = omega (arith, ints)

after-mirrored : (low x high : ℤ) → high -ℤ (((low +ℤ high) -ℤ (x +ℤ pos 1)) +ℤ pos 1) ≡ x -ℤ low
after-mirrored low x high = omega (arith, ints)

away-mirrored : (o : ℕ) (low x high : ℤ) → away o (count_to low ((low +ℤ high) -ℤ (x +ℤ pos 1))) (count_to (((low +ℤ high) -ℤ (x +ℤ pos 1)) +ℤ pos 1) high) ≡ away o (count_to low x) (count_to (x +ℤ pos 1) high)
away-mirrored o low x high =
    (λ i. o - 1 - 2 * min (natural (before-mirrored low x high i)) (natural (after-mirrored low x high i)))
    ∙ ap (λ m. o - 1 - 2 * m) (min_comm (count_to (x +ℤ pos 1) high) (count_to low x))

pub across_same : (r : Rect) (c : Corner) (p : Point) → round_holds r c (mirrored_across r p) ≡ round_holds r c p
unfolding round_holds
across_same r c p = λ i. (between-mirrored r.left p.h r.right i && between r.top p.v r.bottom)
    && in_oval (fitted r c).width (fitted r c).height (away-mirrored (fitted r c).width r.left p.h r.right i) (down r (fitted r c) p.v)

pub down_same : (r : Rect) (c : Corner) (p : Point) → round_holds r c (mirrored_down r p) ≡ round_holds r c p
unfolding round_holds
down_same r c p = λ i. (between r.left p.h r.right && between-mirrored r.top p.v r.bottom i)
    && in_oval (fitted r c).width (fitted r c).height (across r (fitted r c) p.h) (away-mirrored (fitted r c).height r.top p.v r.bottom i)

-- from one side to another, which are as long
between-turned : (l r t b v : ℤ) → r -ℤ l ≡ b -ℤ t → between l (l +ℤ (v -ℤ t)) r ≡ between t v b
between-turned l r t b v e = elim (cases_Bool (between t v b)) [
  | inl f ↦
      let rows = row_of t v b f in
      let low : t ≤ℤ v = rows.0 in
      let high : v <ℤ b = rows.1 in
      between-in l (l +ℤ (v -ℤ t)) r (omega (arith, ints)) (omega (arith, ints)) ∙ sym f
  | inr f ↦ elim (cases_Bool (between l (l +ℤ (v -ℤ t)) r)) [
    | inl g ↦
        let columns = row_of l (l +ℤ (v -ℤ t)) r g in
        let low : l ≤ℤ (l +ℤ (v -ℤ t)) = columns.0 in
        let high : (l +ℤ (v -ℤ t)) <ℤ r = columns.1 in
        g ∙ sym (between-in t v b (omega (arith, ints)) (omega (arith, ints)))
    | inr g ↦ g ∙ sym f
  ]
]

before-turned : (l t v : ℤ) → (l +ℤ (v -ℤ t)) -ℤ l ≡ v -ℤ t
before-turned l t v = omega (arith, ints)

after-turned : (l r t b v : ℤ) → r -ℤ l ≡ b -ℤ t → r -ℤ ((l +ℤ (v -ℤ t)) +ℤ pos 1) ≡ b -ℤ (v +ℤ pos 1)
after-turned l r t b v e = omega (arith, ints)

and_turned : (a b : Bool) → (a && b) ≡ (b && a)
and_turned true true = refl
and_turned true false = refl
and_turned false true = refl
and_turned false false = refl

oval-turned : (w x y : ℕ) → in_oval w w x y ≡ in_oval w w y x
unfolding in_oval
oval-turned w x y = ap (λ s. nat_le s (square (w * w))) (add_comm (square (x * w)) (square (y * w)))

turned : (w k x y : ℕ) → w ≡ k → in_oval w k x y ≡ in_oval w k y x
turned w k x y e = (λ i. in_oval w (sym e i) x y) ∙ oval-turned w x y ∙ (λ i. in_oval w (e i) y x)

pub diagonal_same : (r : Rect) (c : Corner) (p : Point) → r.right -ℤ r.left ≡ r.bottom -ℤ r.top → c.width ≡ c.height
    → round_holds r c (mirrored_diagonally r p) ≡ round_holds r c p
unfolding round_holds
diagonal_same r c p sides corners =
    let w = (fitted r c).width in
    let k = (fitted r c).height in
    let as_high : (fitted r c).width ≡ (fitted r c).height = λ i. min (corners i) (natural (sides i)) in
    (λ i. (between-turned r.left r.right r.top r.bottom p.v sides i && between-turned r.top r.bottom r.left r.right p.h (sym sides) i)
    && in_oval (fitted r c).width (fitted r c).height
    (away (as_high i) (natural (before-turned r.left r.top p.v i)) (natural (after-turned r.left r.right r.top r.bottom p.v sides i)))
    (away (sym as_high i) (natural (before-turned r.top r.left p.h i)) (natural (after-turned r.top r.bottom r.left r.right p.h (sym sides) i))))
    ∙ (λ i. and_turned (between r.top p.v r.bottom) (between r.left p.h r.right) i
    && turned (fitted r c).width (fitted r c).height (down r (fitted r c) p.v) (across r (fitted r c) p.h) as_high i)

pub other_diagonal_same : (r : Rect) (c : Corner) (p : Point) → r.right -ℤ r.left ≡ r.bottom -ℤ r.top → c.width ≡ c.height
    → round_holds r c (mirrored_across r (mirrored_down r (mirrored_diagonally r p))) ≡ round_holds r c p
other_diagonal_same r c p sides corners =
    across_same r c (mirrored_down r (mirrored_diagonally r p))
    ∙ down_same r c (mirrored_diagonally r p)
    ∙ diagonal_same r c p sides corners

-- ---- frames and insides

pub inside_is_surrounded : (r : Rect) (c : Corner) (pen : Pen) (p : Point) → inside_holds r c pen p ≡ true → surrounds (round_holds r c) p ≡ true
inside_is_surrounded r c pen p e =
    (and_parts (round_holds (inset_rect r pen) (inset_corner c pen) p) (surrounds (round_holds r c) p) e).1

parted : (a x y b : Bool) → a ≡ true → ((a && (x && not (y && (x && b)))) || (y && (x && b))) ≡ x
parted true true true true s = refl
parted true true true false s = refl
parted true true false b s = refl
parted true false true b s = refl
parted true false false b s = refl
parted false x y b s = absurd (cc)

pub frame_and_inside : (r : Rect) (c : Corner) (pen : Pen) (p : Point) → has_size pen ≡ true → (frame_holds r c pen p || inside_holds r c pen p) ≡ round_holds r c p
frame_and_inside r c pen p size = parted (has_size pen) (round_holds r c p) (round_holds (inset_rect r pen) (inset_corner c pen) p) _ size

apart : (a x i : Bool) → ((a && (x && not i)) && i) ≡ false
apart true true true = refl
apart true true false = refl
apart true false i = refl
apart false x i = refl

pub frame_apart : (r : Rect) (c : Corner) (pen : Pen) (p : Point) → (frame_holds r c pen p && inside_holds r c pen p) ≡ false
frame_apart r c pen p = apart (has_size pen) (round_holds r c p) (inside_holds r c pen p)
