-- The words of `draw`: a window, perhaps a clip, and an operation with the words that follow its name.
use Rattle.std.specs.Prelude.{ℕ, ℤ, pos, int_le, List, [], ◌∷◌, ◌++◌, map, Option, Some, None, option_map, codes, if◌then◌else◌}
use Rattle.std.specs.Str.{bytes_eq}
use Rattle.tb_geom.specs.declared.rect.Rect.{Rect}
use Rattle.tb_geom.specs.LentBytes.{are_rows}
use Rattle.draw_port.specs.declared.shapes.Shade.{Shade}
use Rattle.lent_ops.specs.declared.op_ref.LineRef.{LineRef}
use Rattle.lent_ops.specs.declared.op_ref.TextRef.{TextRef}
use Rattle.lent_ops.specs.declared.op_ref.BitsRef.{BitsRef}
use Rattle.lent_ops.specs.declared.op_ref.ShapeRef.{ShapeRef}
use Rattle.lent_ops.specs.declared.op_ref.ShapeRef.TheVariants.{Erase, Invert, Fill, Frame, HLine, VLine, Text, Bits, FillRgn, FrameRgn, Form}
use Rattle.desk_call.specs.declared.window.Drawing.{Drawing}
use Rattle.line_words.specs.Shapes.{Shape, ends, says, never, number, name, text, hex, serial, point, rect, mapped}
use Rattle.line_words.specs.Tables.{named}
use Rattle.form_words.specs.declared.forms.FormWord.{FormWord}
use Rattle.command_words.specs.declared.operation.Operation.{Operation}
use Rattle.command_words.specs.declared.operation.Operation.TheVariants as words
use Rattle.form_words.specs.Forms.{drawn_forms, form_shape, pen}
use Rattle.command_words.specs.Names.{shade_of, source_mode_of, text_mode_of}

-- MODE PAT
unfoldable pub shade_shape : Shape Shade
shade_shape = name (λ mode. name (λ pattern. ends (shade_of mode pattern)))

-- l t r b MODE PAT
unfoldable pub shaded_rect_shape : Shape (Rect × Shade)
shaded_rect_shape = rect (λ sides. mapped (λ shade. (sides, shade)) shade_shape)

-- h v n MODE PAT
unfoldable pub line_shape : Shape (LineRef × Shade)
line_shape = point (λ start. number (λ count. mapped (λ shade. (record { start = start; count = count }, shade)) shade_shape))

-- h v MODE "t"
unfoldable pub run_shape : Shape TextRef
run_shape = point (λ pen. name (λ mode. text (λ t. ends (option_map (λ m. record { pen = pen; mode = m; text = t }) (text_mode_of mode)))))

-- l t w h MODE HEX, where the bytes are those of h rows of w pixels
unfoldable pub bits_shape : Shape BitsRef
bits_shape = point (λ place. number (λ width. number (λ height. name (λ mode. hex (λ rows.
    if are_rows width height rows
    then ends (option_map (λ m. record { place = place; width = width; height = height; mode = m; rows = rows }) (source_mode_of mode))
    else never)))))

-- HEX MODE PAT
unfoldable pub region_shape : Shape (List ℕ × Shade)
region_shape = hex (λ bytes. mapped (λ shade. (bytes, shade)) shade_shape)

-- HEX pw ph MODE PAT
abbrev pub framed_region_shape : Shape ShapeRef
framed_region_shape = hex (λ bytes. pen (λ p. mapped (λ shade. FrameRgn bytes p shade) shade_shape))

-- a form's numbers, MODE PAT
abbrev pub shaded_form_shape : FormWord → Shape ShapeRef
shaded_form_shape word = form_shape word (λ form. mapped (λ shade. Form form shade) shade_shape)

-- the names of operations that every version has
abbrev pub operations : List (List ℕ × Operation)
operations =
    (codes "erase", words.Erase)
    ∷ (codes "invert", words.Invert)
    ∷ (codes "fill", words.Fill)
    ∷ (codes "frame", words.Frame)
    ∷ (codes "hline", words.HLine)
    ∷ (codes "vline", words.VLine)
    ∷ (codes "text", words.Text)
    ∷ (codes "bits", words.Bits)
    ∷ (codes "rgn", words.Rgn)
    ∷ []

-- the name of the frame of a region
abbrev pub frame_operations : List (List ℕ × Operation)
frame_operations = (codes "frgn", words.FrameRgn) ∷ []

-- those of forms
abbrev pub form_operations : List (List ℕ × Operation)
form_operations = map (λ form. (form.0, words.Form form.1)) drawn_forms

-- version 3 brought these
abbrev pub later_operations : ℤ → List (List ℕ × Operation)
later_operations version = if int_le (pos 3) version then frame_operations ++ form_operations else []

-- the names of operations in a script of this version
unfoldable pub operations_of : ℤ → List (List ℕ × Operation)
operations_of version = operations ++ later_operations version

-- the words that follow a name, if an operation has it
abbrev pub operation_shape : Option Operation → Shape ShapeRef
operation_shape None = never
operation_shape (Some words.Erase) = rect (λ sides. says (Erase sides))
operation_shape (Some words.Invert) = rect (λ sides. says (Invert sides))
operation_shape (Some words.Fill) = mapped (λ p. Fill p.0 p.1) shaded_rect_shape
operation_shape (Some words.Frame) = mapped (λ p. Frame p.0 p.1) shaded_rect_shape
operation_shape (Some words.HLine) = mapped (λ p. HLine p.0 p.1) line_shape
operation_shape (Some words.VLine) = mapped (λ p. VLine p.0 p.1) line_shape
operation_shape (Some words.Text) = mapped Text run_shape
operation_shape (Some words.Bits) = mapped Bits bits_shape
operation_shape (Some words.Rgn) = mapped (λ p. FillRgn p.0 p.1) region_shape
operation_shape (Some words.FrameRgn) = framed_region_shape
operation_shape (Some (words.Form word)) = shaded_form_shape word

-- an operation with its words, in a window with this clip, in a script of this version
unfoldable pub clipped_shape : ℤ → ℕ → Option (List ℕ) → List ℕ → Shape Drawing
clipped_shape version window clip word =
    mapped (λ shape. record { window = window; operation = record { clip = clip; shape = shape } }) (operation_shape (named word (operations_of version)))

-- HEX OP
unfoldable pub clip_shape : ℤ → ℕ → Shape Drawing
clip_shape version window = hex (λ clip. name (λ word. clipped_shape version window (Some clip) word))

-- W [clip HEX] OP
unfoldable pub drawing_shape : ℤ → Shape Drawing
drawing_shape version = serial (λ window. name (λ word.
    if bytes_eq word (codes "clip") then clip_shape version window else clipped_shape version window None word))
