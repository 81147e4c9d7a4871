-- The words of forms, which are shapes that are painted or framed, and lines: a name, and numbers or bytes.
use Rattle.std.specs.Prelude.{ℕ, List, [], ◌∷◌, Option, Ok, Err, codes, if◌then◌else◌}
use Rattle.tb_geom.specs.declared.refusal.Refusal.TheVariants.{BadSyntax}
use Rattle.lent_ops.specs.declared.form_ref.AnglesRef.{AnglesRef}
use Rattle.lent_ops.specs.declared.form_ref.CornerRef.{CornerRef}
use Rattle.lent_ops.specs.declared.form_ref.FormRef.{FormRef}
use Rattle.lent_ops.specs.declared.form_ref.FormRef.TheVariants.{Rect, Round, Oval, FrameRect, FrameRound, FrameOval, Arc, FrameArc, Line, Polygon, FramePolygon}
use Rattle.lent_ops.specs.declared.form_ref.PenRef.{PenRef}
use Rattle.lent_ops.specs.Points.{are_points}
use Rattle.line_words.specs.Words.{◌>>=◌, Field, hex_at, number_at, point_at, rect_at}
use Rattle.line_words.specs.Shapes.{Shape, hex, never, number, point, rect}
use Rattle.form_words.specs.declared.forms.FormWord.{FormWord}
use Rattle.form_words.specs.declared.forms.FormWord.TheVariants as words

-- width height, of a corner
abbrev pub corner : {A : Type 0} → (CornerRef → Shape A) → Shape A
corner next = number (λ width. number (λ height. next (record { width = width; height = height })))

-- width height, of a pen
abbrev pub pen : {A : Type 0} → (PenRef → Shape A) → Shape A
pen next = number (λ width. number (λ height. next (record { width = width; height = height })))

-- start angle, of an arc
abbrev pub angles : {A : Type 0} → (AnglesRef → Shape A) → Shape A
angles next = number (λ start. number (λ angle. next (record { start = start; angle = angle })))

-- HEX, where the bytes are four for each point
abbrev pub points : {A : Type 0} → (List ℕ → Shape A) → Shape A
points next = hex (λ bytes. if are_points bytes then next bytes else never)

-- the numbers and bytes of a form, before what follows them
abbrev pub form_shape : {A : Type 0} → FormWord → (FormRef → Shape A) → Shape A
form_shape words.Rect next = rect (λ r. next (Rect r))
form_shape words.Round next = rect (λ r. corner (λ c. next (Round r c)))
form_shape words.Oval next = rect (λ r. next (Oval r))
form_shape words.FrameRect next = rect (λ r. pen (λ p. next (FrameRect r p)))
form_shape words.FrameRound next = rect (λ r. corner (λ c. pen (λ p. next (FrameRound r c p))))
form_shape words.FrameOval next = rect (λ r. pen (λ p. next (FrameOval r p)))
form_shape words.Arc next = rect (λ r. angles (λ a. next (Arc r a)))
form_shape words.FrameArc next = rect (λ r. angles (λ a. pen (λ p. next (FrameArc r a p))))
form_shape words.Line next = point (λ a. point (λ b. pen (λ p. next (Line a b p))))
form_shape words.Polygon next = points (λ xs. next (Polygon xs))
form_shape words.FramePolygon next = points (λ xs. pen (λ p. next (FramePolygon xs p)))

-- the names of forms in `draw`
abbrev pub drawn_forms : List (List ℕ × FormWord)
drawn_forms =
    (codes "round", words.Round)
    ∷ (codes "oval", words.Oval)
    ∷ (codes "frect", words.FrameRect)
    ∷ (codes "fround", words.FrameRound)
    ∷ (codes "foval", words.FrameOval)
    ∷ (codes "arc", words.Arc)
    ∷ (codes "farc", words.FrameArc)
    ∷ (codes "line", words.Line)
    ∷ (codes "poly", words.Polygon)
    ∷ (codes "fpoly", words.FramePolygon)
    ∷ []

-- two words that are the size of a corner
abbrev pub corner_at : Option (List ℕ) → Field CornerRef
corner_at rest = number_at rest >>= λ width. number_at width.1 >>= λ height. Ok (record { width = width.0; height = height.0 }, height.1)

-- two words that are the size of a pen
abbrev pub pen_at : Option (List ℕ) → Field PenRef
pen_at rest = number_at rest >>= λ width. number_at width.1 >>= λ height. Ok (record { width = width.0; height = height.0 }, height.1)

-- two words that are the start and the angle of an arc
abbrev pub angles_at : Option (List ℕ) → Field AnglesRef
angles_at rest = number_at rest >>= λ start. number_at start.1 >>= λ angle. Ok (record { start = start.0; angle = angle.0 }, angle.1)

-- a word that is the bytes of points
abbrev pub points_at : Option (List ℕ) → Field (List ℕ)
points_at rest = hex_at rest >>= λ bytes. if are_points bytes.0 then Ok (bytes.0, bytes.1) else Err BadSyntax

-- words that are the numbers and bytes of a form
abbrev pub form_at : FormWord → Option (List ℕ) → Field FormRef
form_at words.Rect rest = rect_at rest >>= λ r. Ok (Rect r.0, r.1)
form_at words.Round rest = rect_at rest >>= λ r. corner_at r.1 >>= λ c. Ok (Round r.0 c.0, c.1)
form_at words.Oval rest = rect_at rest >>= λ r. Ok (Oval r.0, r.1)
form_at words.FrameRect rest = rect_at rest >>= λ r. pen_at r.1 >>= λ p. Ok (FrameRect r.0 p.0, p.1)
form_at words.FrameRound rest = rect_at rest >>= λ r. corner_at r.1 >>= λ c. pen_at c.1 >>= λ p. Ok (FrameRound r.0 c.0 p.0, p.1)
form_at words.FrameOval rest = rect_at rest >>= λ r. pen_at r.1 >>= λ p. Ok (FrameOval r.0 p.0, p.1)
form_at words.Arc rest = rect_at rest >>= λ r. angles_at r.1 >>= λ a. Ok (Arc r.0 a.0, a.1)
form_at words.FrameArc rest = rect_at rest >>= λ r. angles_at r.1 >>= λ a. pen_at a.1 >>= λ p. Ok (FrameArc r.0 a.0 p.0, p.1)
form_at words.Line rest = point_at rest >>= λ a. point_at a.1 >>= λ b. pen_at b.1 >>= λ p. Ok (Line a.0 b.0 p.0, p.1)
form_at words.Polygon rest = points_at rest >>= λ xs. Ok (Polygon xs.0, xs.1)
form_at words.FramePolygon rest = points_at rest >>= λ xs. pen_at xs.1 >>= λ p. Ok (FramePolygon xs.0 p.0, p.1)
