-- Selecting with the mouse.
use Rattle.std.specs.Prelude.{ℕ, min, max, nat_lt, Bool, ◌&&◌, if◌then◌else◌}
use Rattle.tb_geom.specs.declared.point.Point.{Point}
use Rattle.tb_geom.specs.Rects.{rect_holds}
use Rattle.text_record.specs.Texts.{Record}
use Rattle.text_record.specs.Places.{offset_at, word_start, word_end}
use Rattle.text_record.specs.Changes.{chosen}
use Rattle.text_edits.specs.declared.selecting.ClickMode.{ClickMode}
use Rattle.text_edits.specs.declared.selecting.ClickMode.TheVariants.{Points, Extends, Words}
use Rattle.text_edits.specs.declared.selecting.Anchor.{Anchor}

-- whether a click at a point selects
abbrev pub is_clicked : Record → Point → Bool
is_clicked r p = r.shown && rect_holds r.view p

-- a point of the text
abbrev pub anchor_at : ℕ → Anchor
anchor_at o = record { start = o; end = o }

-- the word at an offset
abbrev pub word_of : Record → ℕ → Anchor
word_of r o = record { start = word_start r.text.bytes o; end = word_end r.text.bytes o }

-- what stays selected while the mouse is held, where the click is at an offset: the point; where it extends the end of the
-- selection that is further off; or the word
abbrev pub anchor_of : ClickMode → ℕ → Record → Anchor
anchor_of Points o r = anchor_at o
anchor_of Extends o r = if nat_lt o r.start then anchor_at r.end else anchor_at r.start
anchor_of Words o r = word_of r o

-- what is selected at an offset besides: the point, or the word
abbrev pub reached : ClickMode → ℕ → Record → Anchor
reached Points o r = anchor_at o
reached Extends o r = anchor_at o
reached Words o r = word_of r o

-- the smallest part of the text with both
abbrev pub both : Anchor → Anchor → Anchor
both a b = record { start = min a.start b.start; end = max a.end b.end }

-- the selection while the mouse is held at a point
abbrev pub extended : Anchor → ClickMode → Point → Record → Anchor
extended a mode p r = both a (reached mode (offset_at r p) r)

-- the record with it
abbrev pub extended_to : Anchor → ClickMode → Point → Record → Record
extended_to a mode p r = chosen (extended a mode p r).start (extended a mode p r).end r
