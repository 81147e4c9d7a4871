-- The words of regions that are asked for.
use Rattle.std.specs.Prelude.{ℕ, List, [], ◌∷◌, ◌++◌, map, Option, Some, None, codes}
use Rattle.pixel_rows.specs.declared.combination.Combination.{Combination}
use Rattle.pixel_rows.specs.declared.combination.Combination.TheVariants.{Union, Sect, Diff, Xor}
use Rattle.lent_ops.specs.declared.region_ref.RegionRef.{RegionRef}
use Rattle.lent_ops.specs.declared.region_ref.RegionRef.TheVariants.{Form, Rgn, Offset, Inset, FrameRgn, Combined}
use Rattle.line_words.specs.Shapes.{Shape, says, never, number, name, hex}
use Rattle.line_words.specs.Tables.{named}
use Rattle.command_words.specs.declared.asked.AskedWord.{AskedWord}
use Rattle.command_words.specs.declared.asked.AskedWord.TheVariants as words
use Rattle.form_words.specs.declared.forms.FormWord.TheVariants as forms
use Rattle.form_words.specs.Forms.{drawn_forms, form_shape, pen}

-- HEX
abbrev pub rgn_shape : Shape RegionRef
rgn_shape = hex (λ bytes. says (Rgn bytes))

-- HEX dh dv
abbrev pub offset_shape : Shape RegionRef
offset_shape = hex (λ bytes. number (λ dh. number (λ dv. says (Offset bytes (record { dh = dh; dv = dv })))))

-- HEX dh dv
abbrev pub inset_shape : Shape RegionRef
inset_shape = hex (λ bytes. number (λ dh. number (λ dv. says (Inset bytes (record { dh = dh; dv = dv })))))

-- HEX pw ph
abbrev pub frame_shape : Shape RegionRef
frame_shape = hex (λ bytes. pen (λ p. says (FrameRgn bytes p)))

-- HEX HEX
abbrev pub both_shape : Combination → Shape RegionRef
both_shape how = hex (λ a. hex (λ b. says (Combined how a b)))

-- the words that follow a name, and no more
abbrev pub word_shape : AskedWord → Shape RegionRef
word_shape (words.Form word) = form_shape word (λ form. says (Form form))
word_shape words.Rgn = rgn_shape
word_shape words.Offset = offset_shape
word_shape words.Inset = inset_shape
word_shape words.FrameRgn = frame_shape
word_shape (words.Combined how) = both_shape how

-- the names that `draw` has not for a form
abbrev pub own_words : List (List ℕ × AskedWord)
own_words =
    (codes "rect", words.Form forms.Rect)
    ∷ (codes "rgn", words.Rgn)
    ∷ (codes "offset", words.Offset)
    ∷ (codes "inset", words.Inset)
    ∷ (codes "frgn", words.FrameRgn)
    ∷ (codes "union", words.Combined Union)
    ∷ (codes "sect", words.Combined Sect)
    ∷ (codes "diff", words.Combined Diff)
    ∷ (codes "xor", words.Combined Xor)
    ∷ []

-- those of forms that are drawn too
abbrev pub form_words : List (List ℕ × AskedWord)
form_words = map (λ form. (form.0, words.Form form.1)) drawn_forms

-- the names of regions that are asked for
unfoldable pub asked_words : List (List ℕ × AskedWord)
asked_words = own_words ++ form_words

-- the words that follow a name, if it asks for a region
abbrev pub named_shape : Option AskedWord → Shape RegionRef
named_shape None = never
named_shape (Some word) = word_shape word

-- NAME ..
unfoldable pub asked_shape : Shape RegionRef
asked_shape = name (λ word. named_shape (named word asked_words))
