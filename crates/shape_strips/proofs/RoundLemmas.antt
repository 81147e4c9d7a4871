-- Round shapes row by row.
use Rattle.std.proofs.Common.{◌≡◌, ◌⊎◌, inl, inr, ◌&&◌, Bool, true, false, ◌-◌, ◌*◌, ℕ, ℤ, pos, ◌-ℤ◌, ◌+ℤ◌, ◌≤ℤ◌, ◌<ℤ◌, sym, ◌∙◌}
use Rattle.std.specs.Prelude.{nat_le, min}
use Rattle.std.proofs.lemmas.Bool.{and_left, and_right, cases_Bool}
use Rattle.tb_geom.specs.declared.point.Point.{Point}
use Rattle.tb_geom.specs.declared.rect.Rect.{Rect}
use Rattle.tb_geom.specs.Rects.{between, rect_holds}
use Rattle.tb_geom.proofs.RectLemmas.{between-in}
use Rattle.region_rows.specs.Counts.{count_to}
use Rattle.shape_strips.specs.declared.corner.Corner.{Corner}
use Rattle.shape_strips.specs.Ovals.{in_oval}
use Rattle.shape_strips.specs.Rounds.{fitted, down, round_holds}
use Rattle.shape_strips.proofs.RangeLemmas.{row_of}
use Rattle.shape_strips.proofs.RunLemmas.{between_before, between_past, columns_in, columns_out}

-- a round shape has no pixel outside of its rectangle
pub outside_rect : (r : Rect) (c : Corner) (p : Point) → rect_holds r p ≡ false → round_holds r c p ≡ false
unfolding round_holds
outside_rect r c p out = and_left (rect_holds r p) _ out

pub outside_rows : (r : Rect) (c : Corner) (p : Point) → (p.v <ℤ r.top) ⊎ (r.bottom ≤ℤ p.v) → round_holds r c p ≡ false
outside_rows r c p (inl above) = outside_rect r c p (and_right (between r.left p.h r.right) _ (between_before r.top p.v r.bottom above))
outside_rows r c p (inr below) = outside_rect r c p (and_right (between r.left p.h r.right) _ (between_past r.top p.v r.bottom below))

both_true : (a b x : Bool) → a ≡ true → b ≡ true → ((a && b) && x) ≡ x
both_true a b x e f = λ i. (e i && f i) && x

first_false : (a b x : Bool) → a ≡ false → ((a && b) && x) ≡ false
first_false a b x e = λ i. (e i && b) && x

-- the edge of the oval in a row is that of the row's run
pub round_run : (r : Rect) (c : Corner) (n : ℕ) (v : ℤ) → r.top ≤ℤ v → v <ℤ r.bottom
    → ((i : ℕ) → in_oval (fitted r c).width (fitted r c).height ((fitted r c).width - 1 - 2 * i) (down r (fitted r c) v) ≡ nat_le n i)
    → (h : ℤ) → between (r.left +ℤ pos n) h (r.right -ℤ pos n) ≡ round_holds r c (record { h = h; v = v })
unfolding round_holds
round_run r c n v top bottom edge h = elim (cases_Bool (between r.left h r.right)) [
  | inl e ↦
      let columns = row_of r.left h r.right e in
      columns_in r.left r.right h n columns.0 columns.1
      ∙ sym (edge (min (count_to r.left h) (count_to (h +ℤ pos 1) r.right)))
      ∙ sym (both_true _ _ _ e (between-in r.top v r.bottom top bottom))
  | inr e ↦ columns_out r.left r.right h n e ∙ sym (first_false _ _ _ e)
]

-- an edge that is said of equal numbers
pub edge_of : (w z k l x y n : ℕ) → w ≡ z → k ≡ l → x ≡ y → ((i : ℕ) → in_oval w k (w - 1 - 2 * i) x ≡ nat_le n i) → (i : ℕ) → in_oval z l (z - 1 - 2 * i) y ≡ nat_le n i
edge_of w z k l x y n e f g edge i = sym (λ j. in_oval (e j) (f j) (e j - 1 - 2 * i) (g j)) ∙ edge i
