-- What is read of a form and of what follows it.
use Rattle.std.proofs.Common.{◌≡◌, ℕ, ℤ, Bool, true, false, List, Option, Ok, Err, refl, ◌∙◌, if◌then◌else◌}
use Rattle.tb_geom.specs.declared.refusal.Refusal.TheVariants.{BadSyntax}
use Rattle.tb_geom.specs.declared.point.Point.{Point}
use Rattle.tb_geom.specs.declared.rect.Rect.{Rect}
use Rattle.lent_ops.specs.declared.form_ref.AnglesRef.{AnglesRef}
use Rattle.lent_ops.specs.declared.form_ref.CornerRef.{CornerRef}
use Rattle.lent_ops.specs.declared.form_ref.FormRef.{FormRef}
use Rattle.lent_ops.specs.declared.form_ref.FormRef.TheVariants.{Rect as RectForm, Round, Oval, FrameRect, FrameRound, FrameOval, Arc, FrameArc, Line, Polygon, FramePolygon}
use Rattle.lent_ops.specs.declared.form_ref.PenRef.{PenRef}
use Rattle.lent_ops.specs.Points.{are_points}
use Rattle.line_words.specs.Words.{◌>>=◌, Field, hex_at, number_at, point_at, rect_at}
use Rattle.line_words.specs.Shapes.{Shape, never, number, point, rect, reading}
use Rattle.form_words.specs.declared.forms.FormWord.{FormWord}
use Rattle.form_words.specs.declared.forms.FormWord.TheVariants as words
use Rattle.form_words.specs.Forms.{angles, corner, pen, points, form_shape, angles_at, corner_at, pen_at, points_at, form_at}

-- what follows a word is read after the word and all that belongs to it, or after the word alone
field_then : {A B C : Type 0} (w : Field C) (shape : C → Shape A) (rest_at : C → Option (List ℕ) → Field B) (next : B → Shape A)
    → ((x : C) (more : Option (List ℕ)) → reading (shape x) more ≡ (rest_at x more >>= λ y. reading (next y.0) y.1))
    → (w >>= λ x. reading (shape x.0) x.1) ≡ ((w >>= λ x. rest_at x.0 x.1) >>= λ y. reading (next y.0) y.1)
field_then (Ok x) shape rest_at next same = same x.0 x.1
field_then (Err e) shape rest_at next same = refl

abbrev pair_at : {B : Type 0} → (ℤ → ℤ → B) → Option (List ℕ) → Field B
pair_at of rest = number_at rest >>= λ width. number_at width.1 >>= λ height. Ok (of width.0 height.0, height.1)

pair_then : {A B : Type 0} (of : ℤ → ℤ → B) (next : B → Shape A) (rest : Option (List ℕ))
    → reading (number (λ width. number (λ height. next (of width height)))) rest
    ≡ (pair_at of rest >>= λ x. reading (next x.0) x.1)
pair_then of next rest =
    field_then (number_at rest) (λ width. number (λ height. next (of width height)))
    (λ width more. number_at more >>= λ height. Ok (of width height.0, height.1)) next
    (λ width more. field_then (number_at more) (λ height. next (of width height)) (λ height more. Ok (of width height, more)) next (λ height more. refl))

corner_then : {A : Type 0} (next : CornerRef → Shape A) (rest : Option (List ℕ)) → reading (corner next) rest ≡ (corner_at rest >>= λ x. reading (next x.0) x.1)
corner_then next rest = pair_then {B = CornerRef} (λ width height. record { width = width; height = height }) next rest

pub pen_then : {A : Type 0} (next : PenRef → Shape A) (rest : Option (List ℕ)) → reading (pen next) rest ≡ (pen_at rest >>= λ x. reading (next x.0) x.1)
pen_then next rest = pair_then {B = PenRef} (λ width height. record { width = width; height = height }) next rest

angles_then : {A : Type 0} (next : AnglesRef → Shape A) (rest : Option (List ℕ)) → reading (angles next) rest ≡ (angles_at rest >>= λ x. reading (next x.0) x.1)
angles_then next rest = pair_then {B = AnglesRef} (λ start angle. record { start = start; angle = angle }) next rest

abbrev sides : ℤ → ℤ → ℤ → ℤ → Rect
sides left top right bottom = record { left = left; top = top; right = right; bottom = bottom }

rect_then : {A : Type 0} (next : Rect → Shape A) (rest : Option (List ℕ)) → reading (rect next) rest ≡ (rect_at rest >>= λ x. reading (next x.0) x.1)
rect_then next rest =
    field_then (number_at rest) (λ left. number (λ top. number (λ right. number (λ bottom. next (sides left top right bottom)))))
    (λ left more. number_at more >>= λ top. number_at top.1 >>= λ right. number_at right.1 >>= λ bottom. Ok (sides left top.0 right.0 bottom.0, bottom.1)) next
    (λ left more. field_then (number_at more) (λ top. number (λ right. number (λ bottom. next (sides left top right bottom))))
    (λ top more. number_at more >>= λ right. number_at right.1 >>= λ bottom. Ok (sides left top right.0 bottom.0, bottom.1)) next
    (λ top more. pair_then (sides left top) next more))

point_then : {A : Type 0} (next : Point → Shape A) (rest : Option (List ℕ)) → reading (point next) rest ≡ (point_at rest >>= λ x. reading (next x.0) x.1)
point_then next rest = pair_then {B = Point} (λ h v. record { h = h; v = v }) next rest

-- the bytes of points, if they are that
abbrev points_if : Bool → List ℕ → Option (List ℕ) → Field (List ℕ)
points_if formed bytes more = if formed then Ok (bytes, more) else Err BadSyntax

points_then : {A : Type 0} (next : List ℕ → Shape A) (rest : Option (List ℕ)) → reading (points next) rest ≡ (points_at rest >>= λ x. reading (next x.0) x.1)
points_then next rest =
    field_then (hex_at rest) (λ bytes. if are_points bytes then next bytes else never) (λ bytes more. points_if (are_points bytes) bytes more) next
    (λ bytes more. by_form (are_points bytes) bytes more)
  where
    by_form : (formed : Bool) (bytes : List ℕ) (more : Option (List ℕ))
        → reading (if formed then next bytes else never) more ≡ (points_if formed bytes more >>= λ x. reading (next x.0) x.1)
    by_form true bytes more = refl
    by_form false bytes more = refl

-- a form is read by its numbers, and then what follows it
pub form_then : {A : Type 0} (word : FormWord) (next : FormRef → Shape A) (rest : Option (List ℕ)) → reading (form_shape word next) rest ≡ (form_at word rest >>= λ x. reading (next x.0) x.1)
form_then words.Rect next rest =
    rect_then (λ r. next (RectForm r)) rest
    ∙ field_then (rect_at rest) (λ r. next (RectForm r)) (λ r more. Ok (RectForm r, more)) next (λ r more. refl)
form_then words.Oval next rest =
    rect_then (λ r. next (Oval r)) rest
    ∙ field_then (rect_at rest) (λ r. next (Oval r)) (λ r more. Ok (Oval r, more)) next (λ r more. refl)
form_then words.Round next rest =
    rect_then (λ r. corner (λ c. next (Round r c))) rest
    ∙ field_then (rect_at rest) (λ r. corner (λ c. next (Round r c))) (λ r more. corner_at more >>= λ c. Ok (Round r c.0, c.1)) next
    (λ r more. corner_then (λ c. next (Round r c)) more
    ∙ field_then (corner_at more) (λ c. next (Round r c)) (λ c more. Ok (Round r c, more)) next (λ c more. refl))
form_then words.FrameRect next rest =
    rect_then (λ r. pen (λ p. next (FrameRect r p))) rest
    ∙ field_then (rect_at rest) (λ r. pen (λ p. next (FrameRect r p))) (λ r more. pen_at more >>= λ p. Ok (FrameRect r p.0, p.1)) next
    (λ r more. pen_then (λ p. next (FrameRect r p)) more
    ∙ field_then (pen_at more) (λ p. next (FrameRect r p)) (λ p more. Ok (FrameRect r p, more)) next (λ p more. refl))
form_then words.FrameOval next rest =
    rect_then (λ r. pen (λ p. next (FrameOval r p))) rest
    ∙ field_then (rect_at rest) (λ r. pen (λ p. next (FrameOval r p))) (λ r more. pen_at more >>= λ p. Ok (FrameOval r p.0, p.1)) next
    (λ r more. pen_then (λ p. next (FrameOval r p)) more
    ∙ field_then (pen_at more) (λ p. next (FrameOval r p)) (λ p more. Ok (FrameOval r p, more)) next (λ p more. refl))
form_then words.FrameRound next rest =
    rect_then (λ r. corner (λ c. pen (λ p. next (FrameRound r c p)))) rest
    ∙ field_then (rect_at rest) (λ r. corner (λ c. pen (λ p. next (FrameRound r c p))))
    (λ r more. corner_at more >>= λ c. pen_at c.1 >>= λ p. Ok (FrameRound r c.0 p.0, p.1)) next
    (λ r more. corner_then (λ c. pen (λ p. next (FrameRound r c p))) more
    ∙ field_then (corner_at more) (λ c. pen (λ p. next (FrameRound r c p))) (λ c more. pen_at more >>= λ p. Ok (FrameRound r c p.0, p.1)) next
    (λ c more. pen_then (λ p. next (FrameRound r c p)) more
    ∙ field_then (pen_at more) (λ p. next (FrameRound r c p)) (λ p more. Ok (FrameRound r c p, more)) next (λ p more. refl)))
form_then words.Arc next rest =
    rect_then (λ r. angles (λ a. next (Arc r a))) rest
    ∙ field_then (rect_at rest) (λ r. angles (λ a. next (Arc r a))) (λ r more. angles_at more >>= λ a. Ok (Arc r a.0, a.1)) next
    (λ r more. angles_then (λ a. next (Arc r a)) more
    ∙ field_then (angles_at more) (λ a. next (Arc r a)) (λ a more. Ok (Arc r a, more)) next (λ a more. refl))
form_then words.FrameArc next rest =
    rect_then (λ r. angles (λ a. pen (λ p. next (FrameArc r a p)))) rest
    ∙ field_then (rect_at rest) (λ r. angles (λ a. pen (λ p. next (FrameArc r a p))))
    (λ r more. angles_at more >>= λ a. pen_at a.1 >>= λ p. Ok (FrameArc r a.0 p.0, p.1)) next
    (λ r more. angles_then (λ a. pen (λ p. next (FrameArc r a p))) more
    ∙ field_then (angles_at more) (λ a. pen (λ p. next (FrameArc r a p))) (λ a more. pen_at more >>= λ p. Ok (FrameArc r a p.0, p.1)) next
    (λ a more. pen_then (λ p. next (FrameArc r a p)) more
    ∙ field_then (pen_at more) (λ p. next (FrameArc r a p)) (λ p more. Ok (FrameArc r a p, more)) next (λ p more. refl)))
form_then words.Line next rest =
    point_then (λ a. point (λ b. pen (λ p. next (Line a b p)))) rest
    ∙ field_then (point_at rest) (λ a. point (λ b. pen (λ p. next (Line a b p))))
    (λ a more. point_at more >>= λ b. pen_at b.1 >>= λ p. Ok (Line a b.0 p.0, p.1)) next
    (λ a more. point_then (λ b. pen (λ p. next (Line a b p))) more
    ∙ field_then (point_at more) (λ b. pen (λ p. next (Line a b p))) (λ b more. pen_at more >>= λ p. Ok (Line a b p.0, p.1)) next
    (λ b more. pen_then (λ p. next (Line a b p)) more
    ∙ field_then (pen_at more) (λ p. next (Line a b p)) (λ p more. Ok (Line a b p, more)) next (λ p more. refl)))
form_then words.Polygon next rest =
    points_then (λ xs. next (Polygon xs)) rest
    ∙ field_then (points_at rest) (λ xs. next (Polygon xs)) (λ xs more. Ok (Polygon xs, more)) next (λ xs more. refl)
form_then words.FramePolygon next rest =
    points_then (λ xs. pen (λ p. next (FramePolygon xs p))) rest
    ∙ field_then (points_at rest) (λ xs. pen (λ p. next (FramePolygon xs p))) (λ xs more. pen_at more >>= λ p. Ok (FramePolygon xs p.0, p.1)) next
    (λ xs more. pen_then (λ p. next (FramePolygon xs p)) more
    ∙ field_then (pen_at more) (λ p. next (FramePolygon xs p)) (λ p more. Ok (FramePolygon xs p, more)) next (λ p more. refl))
