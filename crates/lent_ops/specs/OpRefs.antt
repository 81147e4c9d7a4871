-- Operations as calls carry them: why they are refused, and what they mean.
use Rattle.std.specs.Prelude.{◌≡◌, ◌⊎◌, ℕ, Bool, true, false, ◌&&◌, nat_lt, pos, int_le, nat_abs, List, length, All, Option, Some, None, IfSome}
use Rattle.tb_geom.specs.declared.refusal.Refusal.{Refusal}
use Rattle.tb_geom.specs.declared.refusal.Refusal.TheVariants.{BadSyntax, BadRegion, OutOfRange, TooLong}
use Rattle.tb_geom.specs.Pixels.{Pixels, holds, pixels_where}
use Rattle.tb_geom.specs.Rects.{in_plane, is_in_range}
use Rattle.tb_geom.specs.LentBytes.{are_rows}
use Rattle.region_bytes.specs.Points.{PointRow, IsInRange}
use Rattle.region_bytes.specs.Bytes.{IsForm, IsRegionBytes}
use Rattle.region_bytes.specs.Text.{pixels_of}
use Rattle.region_inset.specs.Insets.{region_frame}
use Rattle.draw_port.specs.declared.shapes.Line.{Line}
use Rattle.draw_port.specs.declared.shapes.Op.{Op}
use Rattle.draw_port.specs.declared.shapes.Shape.{Shape}
use Rattle.draw_port.specs.declared.shapes.Shape.TheVariants.{Erase, Invert, Fill, Frame, HLine, VLine, Text, Bits, FillRgn}
use Rattle.lent_ops.specs.declared.form_ref.PenRef.{PenRef}
use Rattle.lent_ops.specs.declared.op_ref.LineRef.{LineRef}
use Rattle.lent_ops.specs.declared.op_ref.OpRef.{OpRef}
use Rattle.lent_ops.specs.declared.op_ref.ShapeRef.{ShapeRef}
use Rattle.lent_ops.specs.declared.op_ref.ShapeRef.TheVariants.{Erase as EraseRef, Invert as InvertRef, Fill as FillRef, Frame as FrameRef, HLine as HLineRef, VLine as VLineRef, Text as RunRef, Bits as ImageRef, FillRgn as FillRgnRef, FrameRgn as FrameRgnRef, Form as FormShapeRef}
use Rattle.lent_ops.specs.Forms.{form_pixels, has_points, is_form_in_range, is_form_long, is_pen, pen_of}

-- whether a shape has its bytes: an image has rows and columns, and its bytes are those of its rows; those of a polygon are
-- its points'
abbrev pub has_bytes : ShapeRef → Bool
has_bytes (ImageRef b) = are_rows b.width b.height b.rows
has_bytes (FormShapeRef f k) = has_points f
has_bytes s = true

-- a line begins at a coordinate, and has 0 to 1024 pixels
abbrev pub is_line : LineRef → Bool
is_line l = in_plane l.start && (int_le (pos 0) l.count && int_le l.count (pos 1024))

-- each number of a shape lies in its range: a coordinate in -16384..16383, the count of a line in 0..1024, those of a form
-- in theirs, and the sides of an image are 256 at most
abbrev pub is_shape_in_range : ShapeRef → Bool
is_shape_in_range (EraseRef r) = is_in_range r
is_shape_in_range (InvertRef r) = is_in_range r
is_shape_in_range (FillRef r k) = is_in_range r
is_shape_in_range (FrameRef r k) = is_in_range r
is_shape_in_range (HLineRef l k) = is_line l
is_shape_in_range (VLineRef l k) = is_line l
is_shape_in_range (RunRef t) = in_plane t.pen
is_shape_in_range (ImageRef b) = in_plane b.place && (int_le b.width (pos 256) && int_le b.height (pos 256))
is_shape_in_range (FillRgnRef bytes k) = true
is_shape_in_range (FrameRgnRef bytes p k) = is_pen p
is_shape_in_range (FormShapeRef f k) = is_form_in_range f

-- whether a text has more than 255 characters, or a polygon more than 1024 points
abbrev pub is_long : ShapeRef → Bool
is_long (RunRef t) = nat_lt 255 (length t.text)
is_long (FormShapeRef f k) = is_form_long f
is_long s = false

-- the bytes of the region that a shape fills or frames
abbrev pub region_of : ShapeRef → Option (List ℕ)
region_of (FillRgnRef bytes k) = Some bytes
region_of (FrameRgnRef bytes p k) = Some bytes
region_of s = None

-- the bytes have the form of a region's
abbrev pub HasForm : List ℕ → Type 0
HasForm bytes = (rows : List PointRow) × IsForm bytes rows

-- they have it, and a coordinate lies outside -16384..16383
abbrev pub IsFormOutOfRange : List ℕ → Type 0
IsFormOutOfRange bytes = (rows : List PointRow) × IsForm bytes rows × (All IsInRange rows → ⊥)

-- they are a region's
abbrev pub IsRegion : List ℕ → Type 0
IsRegion bytes = (s : Pixels) × IsRegionBytes bytes s

-- there are bytes, and they are as P says
abbrev pub HasSome : Option (List ℕ) → (List ℕ → Type 0) → Type 0
HasSome None P = ⊥
HasSome (Some bytes) P = P bytes

-- where there are bytes, they are a region's; or they are, but for a coordinate out of range
abbrev pub Stands : Option (List ℕ) → Bool → Type 0
Stands given true = IfSome given IsRegion
Stands given false = HasSome given IsFormOutOfRange

-- the bytes of each region of the operation, of its clip and of its shape, are as P says
abbrev pub EachRegion : (List ℕ → Type 0) → OpRef → Type 0
EachRegion P op = IfSome op.clip P × IfSome (region_of op.shape) P

-- those of one of them are
abbrev pub SomeRegion : (List ℕ → Type 0) → OpRef → Type 0
SomeRegion P op = HasSome op.clip P ⊎ HasSome (region_of op.shape) P

-- nothing is wrong with the operation
pub record IsGood (op : OpRef) : Type 0 where
  pub bytes : has_bytes op.shape ≡ true
  pub regions : EachRegion IsRegion op
  pub near : is_shape_in_range op.shape ≡ true
  pub short : is_long op.shape ≡ false

-- the bytes of one of its regions have not the form, and its shape has its bytes
pub record IsBadlyFormed (op : OpRef) : Type 0 where
  pub bytes : has_bytes op.shape ≡ true
  pub bad : SomeRegion (λ bytes. HasForm bytes → ⊥) op

-- a number of its shape or of one of its regions leaves its range; nothing of the above is wrong
pub record IsFarOut (op : OpRef) : Type 0 where
  pub bytes : has_bytes op.shape ≡ true
  pub formed : EachRegion HasForm op
  pub far : (is_shape_in_range op.shape ≡ false) ⊎ SomeRegion IsFormOutOfRange op

-- its text or polygon is long; nothing of the above is wrong
pub record IsOverlong (op : OpRef) : Type 0 where
  pub bytes : has_bytes op.shape ≡ true
  pub regions : EachRegion IsRegion op
  pub near : is_shape_in_range op.shape ≡ true
  pub long : is_long op.shape ≡ true

-- why an operation is refused
abbrev pub IsRefused : OpRef → Refusal → Type 0
IsRefused op e =
    ((e ≡ BadSyntax) × (has_bytes op.shape ≡ false))
    ⊎ (((e ≡ BadRegion) × IsBadlyFormed op)
    ⊎ (((e ≡ OutOfRange) × IsFarOut op)
    ⊎ ((e ≡ TooLong) × IsOverlong op)))

-- the line that a given one is
abbrev pub line_of : LineRef → Line
line_of l = record { start = l.start; count = nat_abs l.count }

-- the finite set of the pixels of the frame of the region that the bytes say
abbrev pub frame_pixels : List ℕ → PenRef → Pixels
frame_pixels bytes p = pixels_where (λ h v. region_frame (holds (pixels_of bytes)) (pen_of p) (record { h = h; v = v }))

-- the shape is what the given one means
abbrev pub MeansShape : ShapeRef → Shape → Type 0
MeansShape (EraseRef r) s = s ≡ Erase r
MeansShape (InvertRef r) s = s ≡ Invert r
MeansShape (FillRef r k) s = s ≡ Fill r k
MeansShape (FrameRef r k) s = s ≡ Frame r k
MeansShape (HLineRef l k) s = s ≡ HLine (line_of l) k
MeansShape (VLineRef l k) s = s ≡ VLine (line_of l) k
MeansShape (RunRef t) s = s ≡ Text (record { pen = t.pen; mode = t.mode; text = t.text })
MeansShape (ImageRef b) s = s ≡ Bits (record { place = b.place; width = nat_abs b.width; height = nat_abs b.height; mode = b.mode; rows = b.rows })
MeansShape (FillRgnRef bytes k) s = (g : Pixels) × IsRegionBytes bytes g × (s ≡ FillRgn g k)
MeansShape (FrameRgnRef bytes p k) s = s ≡ FillRgn (frame_pixels bytes p) k
MeansShape (FormShapeRef f k) s = s ≡ FillRgn (form_pixels f) k

-- the clip is the one whose bytes are given, where they are
abbrev pub MeansClip : Option (List ℕ) → Option Pixels → Type 0
MeansClip None c = c ≡ None
MeansClip (Some bytes) c = (g : Pixels) × IsRegionBytes bytes g × (c ≡ Some g)

-- the operation is what the given one means
pub record IsMeant (given : OpRef) (op : Op) : Type 0 where
  pub clip : MeansClip given.clip op.clip
  pub shape : MeansShape given.shape op.shape
