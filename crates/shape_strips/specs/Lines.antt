-- Lines: the pixels that are nearest to the way between two points, and what a pen covers that goes along them.
use Rattle.std.specs.Prelude.{◌≡◌, Bool, true, false, ◌&&◌, ◌||◌, not, cond, ℕ, zero, suc, nat_le, ℤ, pos, neg_ℤ, ◌+ℤ◌, ◌-ℤ◌, ◌*ℤ◌, ◌≤ℤ◌, ◌<ℤ◌, int_le, int_lt, unsigned_abs}
use Rattle.tb_geom.specs.declared.point.Point.{Point}
use Rattle.tb_geom.specs.Points.{PixelSet}
use Rattle.tb_geom.specs.Rects.{between, in_plane}
use Rattle.shape_strips.specs.declared.pen.Pen.{Pen}
use Rattle.shape_strips.specs.declared.run.Run.{Run}
use Rattle.shape_strips.specs.Frames.{has_size}
use Rattle.shape_strips.specs.Runs.{run_holds}

-- how far a pixel lies below the way to the right from a to b, times the columns from a to b
abbrev pub depth : Point → Point → Point → ℤ
depth a b p = ((b.h -ℤ a.h) *ℤ (p.v -ℤ a.v)) -ℤ ((b.v -ℤ a.v) *ℤ (p.h -ℤ a.h))

-- whether that is half a pixel at most, below, or less, above
abbrev pub is_nearest : ℤ → ℤ → Bool
is_nearest columns d = int_lt (neg_ℤ columns) (pos 2 *ℤ d) && int_le (pos 2 *ℤ d) columns

-- the way to the right from a to b: the nearest pixel of each column, of two that are as near the lower one; a alone where
-- the way has no length
unfoldable pub rightward : Point → Point → PixelSet
rightward a b p = between a.h p.h (b.h +ℤ pos 1)
    && cond (int_lt a.h b.h) (is_nearest (b.h -ℤ a.h) (depth a b p)) (between a.v p.v (a.v +ℤ pos 1))

-- rows for columns
abbrev pub turned : Point → Point
turned p = record { h = p.v; v = p.h }

-- whether the way from one point to the other goes no further down or up than to the side
abbrev pub is_flat : Point → Point → Bool
is_flat a b = nat_le (unsigned_abs (b.v -ℤ a.v)) (unsigned_abs (b.h -ℤ a.h))

-- the thin line between two points: the nearest pixel of each column where the line is flat, of each row where it is
-- steep; of two that are as near the lower one, or the right one
unfoldable pub thin_holds : Point → Point → PixelSet
thin_holds a b p = cond (is_flat a b) (rightward a b p || rightward b a p)
    (rightward (turned a) (turned b) (turned p) || rightward (turned b) (turned a) (turned p))

-- whether a test holds at some number below n
unfoldable pub some_below : ℕ → (ℕ → Bool) → Bool
some_below zero test = false
some_below (suc n) test = test n || some_below n test

-- the line that a pen draws, which hangs below and right of the thin line
unfoldable pub line_holds : Point → Point → Pen → PixelSet
line_holds a b pen p = some_below pen.width (λ i. some_below pen.height
    (λ j. thin_holds a b (record { h = p.h -ℤ pos i; v = p.v -ℤ pos j })))

-- whether a point lies in -16384..16383, and all pixels of the pen there in -16384..16382
abbrev pub pen_fits : Pen → PixelSet
pen_fits pen p = in_plane p
    && (not (has_size pen) || (int_le (p.h +ℤ pos pen.width) (pos 16383) && int_le (p.v +ℤ pos pen.height) (pos 16383)))

-- a run has the columns that the set has in some row from one to another
pub record AreJoined (s : PixelSet) (first last : ℤ) (run : Run) : Type 0 where
  pub has : (h v : ℤ) → first ≤ℤ v → v ≤ℤ last → s (record { h = h; v = v }) ≡ true → run_holds run h ≡ true
  pub only : (h : ℤ) → run_holds run h ≡ true → (v : ℤ) × (first ≤ℤ v) × (v ≤ℤ last) × (s (record { h = h; v = v }) ≡ true)

-- where the pixels of a thin line's rows begin and end, past the middle of each row and in parts of a pixel. The line goes
-- w columns to the right, or as many to the left, and k rows down
pub record IsReach (w k low high : ℤ) : Type 0 where
  pub falling : k ≤ℤ w → (low ≡ neg_ℤ w) × (high ≡ w)
  pub rising : k ≤ℤ neg_ℤ w → (low ≡ w +ℤ pos 1) × (high ≡ pos 1 -ℤ w)
  pub steep : w <ℤ k → neg_ℤ w <ℤ k → (low ≡ pos 1 -ℤ k) × (high ≡ k +ℤ pos 1)
