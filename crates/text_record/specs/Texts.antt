-- A text record.
use Rattle.std.specs.Prelude.{ℕ, ◌-◌, ◌≤◌, Bool, true, false, if◌then◌else◌, List, [], ◌++◌, take, drop, length, Option, Some, None, ℤ}
use Rattle.tb_geom.specs.declared.rect.Rect.{Rect}
use Rattle.text_lines.specs.declared.line.TextLine.{TextLine}
use Rattle.text_lines.specs.Lines.{text_lines}
use Rattle.text_record.specs.declared.metrics.Metrics.{Metrics}
use Rattle.text_record.specs.declared.placing.Justification.{Justification}
use Rattle.text_record.specs.declared.placing.Placing.{Placing}
use Rattle.text_record.specs.Placings.{IsPlacing, line_height}

-- a text in lines: the widths of all bytes, how wide its destination is, whether lines wrap, and its bytes
pub record Lined : Type 0 where
  pub widths : List ℕ
  pub width : ℕ
  pub wrap : Bool
  pub bytes : List ℕ

-- how wide the bytes of a line may be together; without wrap as wide as they are
abbrev pub room_of : Bool → ℕ → Option ℕ
room_of wrap width = if wrap then Some (width - 1) else None

-- the lines
abbrev pub lines_of : Lined → List TextLine
lines_of t = text_lines t.widths (room_of t.wrap t.width) t.bytes

-- other bytes in the place of those from one offset up to another
abbrev pub put_bytes : ℕ → ℕ → List ℕ → List ℕ → List ℕ
put_bytes start end other bytes = take start bytes ++ other ++ drop end bytes

-- the same, of a text in lines
abbrev pub put_lined : ℕ → ℕ → List ℕ → Lined → Lined
put_lined start end other t = record t { bytes = put_bytes start end other t.bytes }

-- a text record: the text in lines; the ascent and the height of a line; left and top of the destination; the view;
-- where lines stand in the destination; the selection, from `start` up to `end`; and four flags
pub record Record : Type 0 where
  pub text : Lined
  pub ascent : ℕ
  pub height : ℕ
  pub left : ℤ
  pub top : ℤ
  pub view : Rect
  pub justification : Justification
  pub start : ℕ
  pub end : ℕ
  pub framed : Bool
  pub shown : Bool
  pub active : Bool
  pub caret : Bool

-- what is true of every record
pub record IsRecord (r : Record) : Type 0 where
  pub order : r.start ≤ r.end
  pub within : r.end ≤ length r.text.bytes
  pub short : length r.text.bytes ≤ 32000
  pub placing : IsPlacing r.left r.top r.text.width r.view
  pub ascent_to : r.ascent ≤ 127
  pub height_from : 1 ≤ r.height
  pub height_to : r.height ≤ 381

-- a new record: without text, shown, and not active
abbrev pub new_record : List ℕ → Metrics → Placing → Justification → Bool → Bool → Record
new_record widths metrics p justification wrap framed = record {
  text = record { widths = widths; width = p.width; wrap = wrap; bytes = [] };
  ascent = metrics.ascent;
  height = line_height metrics.ascent metrics.descent metrics.leading;
  left = p.left;
  top = p.top;
  view = p.view;
  justification = justification;
  start = 0;
  end = 0;
  framed = framed;
  shown = true;
  active = false;
  caret = true;
}

-- where the text stands
abbrev pub placing_of : Record → Placing
placing_of r = record { left = r.left; top = r.top; width = r.text.width; view = r.view }
