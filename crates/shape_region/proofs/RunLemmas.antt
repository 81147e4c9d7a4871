-- The columns of two runs, and their edges.
use Rattle.std.proofs.Common.{◌≡◌, ◌&&◌, ◌||◌, not, Bool, true, false, ℤ, pos, ◌-ℤ◌, ◌≤ℤ◌, ◌<ℤ◌, ◌∷◌, [], refl, sym, ap, arith}
use Rattle.std.proofs.lemmas.Bool.{and_left, and_parts, and_right}
use Rattle.std.proofs.lemmas.Int.{ints}
use Rattle.tb_geom.specs.declared.point.Point.{Point}
use Rattle.tb_geom.specs.declared.rect.Rect.{Rect}
use Rattle.tb_geom.specs.Rects.{between}
use Rattle.tb_geom.proofs.RectLemmas.{between-in}
use Rattle.region_rows.specs.Edges.{inside}
use Rattle.shape_strips.specs.declared.corner.Corner.{Corner}
use Rattle.shape_strips.specs.declared.pen.Pen.{Pen}
use Rattle.shape_strips.specs.declared.run.Run.{Run}
use Rattle.shape_strips.specs.Runs.{run_holds}
use Rattle.shape_strips.specs.Rounds.{round_holds}
use Rattle.shape_strips.specs.Frames.{frame_holds, has_size, inside_holds}
use Rattle.shape_strips.proofs.LawLemmas.{inside_is_surrounded}
use Rattle.shape_strips.proofs.RangeLemmas.{row_of}
use Rattle.pixel_rows.proofs.RowLemmas.{between_same}

pub first_none : (x y h : ℤ) (b : Bool) → x ≡ y → (between x h y || b) ≡ b
first_none x y h b e = λ i. between_same x h y e i || b

pub last_none : (x y h : ℤ) (b : Bool) → x ≡ y → (b || between x h y) ≡ b
last_none x y h true e = refl
last_none x y h false e = between_same x h y e

-- what follows without a gap
pub in_one : (x y z w h : ℤ) → x ≤ℤ y → y ≡ z → z ≤ℤ w → between x h w ≡ (between x h y || between z h w)
in_one x y z w h l e m = grind (arith, ints)

pub inside_both : (x y z w h : ℤ) → x <ℤ y → y <ℤ z → z <ℤ w → inside (x ∷ y ∷ z ∷ w ∷ []) h ≡ (between x h y || between z h w)
unfolding inside
inside_both x y z w h l m n = grind (arith, ints)

-- ---- a run that another one lies in

pub record IsIn (inner outer : Run) : Type 0 where
  pub left : outer.left ≤ℤ inner.left
  pub right : inner.right ≤ℤ outer.right

-- a run with columns begins and ends within a run that has them all
pub is_in : (inner outer : Run) → inner.left <ℤ inner.right → ((h : ℤ) → run_holds inner h ≡ true → run_holds outer h ≡ true) → IsIn inner outer
is_in inner outer some within =
    let first = row_of outer.left inner.left outer.right (within inner.left (between-in inner.left inner.left inner.right (omega (arith, ints)) some)) in
    let last = row_of outer.left (inner.right -ℤ pos 1) outer.right (within (inner.right -ℤ pos 1) (between-in inner.left (inner.right -ℤ pos 1) inner.right (omega (arith, ints)) (omega (arith, ints)))) in
    let to : (inner.right -ℤ pos 1) <ℤ outer.right = last.1 in
    record { left = first.0; right = omega (arith, ints) }

-- what it leaves is two runs
pub around_in : (x y z w h : ℤ) → x ≤ℤ y → y <ℤ z → z ≤ℤ w → (between x h y || between z h w) ≡ (between x h w && not (between y h z))
around_in x y z w h l m n = grind (arith, ints)

-- and a run without columns leaves all
pub around_none : (x y h : ℤ) (b : Bool) → y ≤ℤ x → b ≡ (b && not (between x h y))
around_none x y h true l = sym (ap not (none x y h l))
  where
    none : (x y h : ℤ) → y ≤ℤ x → between x h y ≡ false
    none x y h l = grind (arith, ints)
around_none x y h false l = refl

-- ---- frames

-- a frame has no pixel out of its rectangle, nor without a pen
pub no_frame : (r : Rect) (c : Corner) (pen : Pen) (p : Point) → round_holds r c p ≡ false → frame_holds r c pen p ≡ false
no_frame r c pen p out = and_right (has_size pen) _ (and_left (round_holds r c p) _ out)

pub frame_in : (r : Rect) (c : Corner) (pen : Pen) (p : Point) → has_size pen ≡ true → (round_holds r c p && not (inside_holds r c pen p)) ≡ frame_holds r c pen p
frame_in r c pen p e = λ i. sym e i && (round_holds r c p && not (inside_holds r c pen p))

-- what an inside has the shape has
pub inside_in : (r : Rect) (c : Corner) (pen : Pen) (p : Point) → inside_holds r c pen p ≡ true → round_holds r c p ≡ true
inside_in r c pen p e = (and_parts (round_holds r c p) _ (inside_is_surrounded r c pen p e)).0
