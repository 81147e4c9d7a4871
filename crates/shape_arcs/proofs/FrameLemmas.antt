-- Frames of arcs.
use Rattle.std.proofs.Common.{◌≡◌, ◌&&◌, ◌||◌, not, Bool, true, false, ℤ, refl, arith}
use Rattle.std.proofs.lemmas.Bool.{and_left}
use Rattle.std.proofs.lemmas.Int.{ints}
use Rattle.tb_geom.specs.declared.point.Point.{Point}
use Rattle.tb_geom.specs.declared.rect.Rect.{Rect}
use Rattle.tb_geom.specs.Rects.{is_in_range}
use Rattle.shape_strips.specs.declared.pen.Pen.{Pen}
use Rattle.shape_strips.specs.Frames.{frame_holds, has_size, inside_holds}
use Rattle.shape_strips.specs.Rounds.{oval_corner, oval_holds}
use Rattle.shape_strips.proofs.RoundLemmas.{outside_rect}
use Rattle.pixel_rows.specs.Bounds.{AreBounds, IsPlaced}
use Rattle.shape_region.specs.declared.two_runs.TwoRuns.{TwoRuns}
use Rattle.shape_region.specs.Rows.{ArePlaced}
use Rattle.shape_region.proofs.RunLemmas.{no_frame}
use Rattle.shape_arcs.specs.Wedges.{arc_holds, frame_arc_holds, wedge_holds}

-- what a frame and the arc within its outer side share
pub shared_frame : (r : Rect) (start angle : ℤ) (pen : Pen) (p : Point)
    → (frame_holds r (oval_corner r) pen p && arc_holds r start angle p) ≡ frame_arc_holds r start angle pen p
shared_frame r start angle pen p = shared (has_size pen) (oval_holds r p) (not (inside_holds r (oval_corner r) pen p)) (wedge_holds r start angle p)
  where
    shared : (s o n w : Bool) → ((s && (o && n)) && (o && w)) ≡ ((s && (o && n)) && w)
    shared true true true w = refl
    shared true true false w = refl
    shared true false n w = refl
    shared false o n w = refl

pub frame_bounds : (r : Rect) (start angle : ℤ) (pen : Pen) → is_in_range r ≡ true → AreBounds (frame_arc_holds r start angle pen) r
frame_bounds r start angle pen e = record {
  in_range = e;
  around = λ p out. and_left _ _ (no_frame r (oval_corner r) pen p (outside_rect r (oval_corner r) p out));
}

-- the two runs of a row
pub first_placed : (row : TwoRuns) → ArePlaced row → IsPlaced (record { left = row.first; right = row.second })
first_placed row is =
    let first_low = is.first_in.0 in
    let last_high = is.last_in.1 in
    let left = is.left in
    let middle = is.middle in
    let right = is.right in
    record {
      left_in = is.first_in;
      right_in = (omega (arith, ints), omega (arith, ints));
      order = is.left;
    }

pub second_placed : (row : TwoRuns) → ArePlaced row → IsPlaced (record { left = row.third; right = row.last })
second_placed row is =
    let first_low = is.first_in.0 in
    let last_high = is.last_in.1 in
    let left = is.left in
    let middle = is.middle in
    let right = is.right in
    record {
      left_in = (omega (arith, ints), omega (arith, ints));
      right_in = is.last_in;
      order = is.right;
    }

pub both_runs : (a b : Bool) → (a || (b || false)) ≡ (a || b)
both_runs true b = refl
both_runs false true = refl
both_runs false false = refl
