-- What changes make of a record.
use Rattle.std.specs.Prelude.{ℕ, ◌+◌, ◌-◌, Bool, true, List, length, nat_lt, if◌then◌else◌, ◌&&◌, ℤ, ◌+ℤ◌}
use Rattle.tb_geom.specs.declared.refusal.Refusal.{Refusal}
use Rattle.tb_geom.specs.declared.refusal.Refusal.TheVariants.{NoMemory, TooLong}
use Rattle.text_record.specs.declared.placing.Justification.{Justification}
use Rattle.text_record.specs.declared.placing.Placing.{Placing}
use Rattle.text_record.specs.Placings.{is_near}
use Rattle.text_record.specs.Texts.{put_lined, Record}

-- with other bytes in the place of those from one offset up to another: the selection is the point behind them, and the
-- caret is on
abbrev pub put : ℕ → ℕ → List ℕ → Record → Record
put start end other r = record r { text = put_lined start end other r.text; start = start + length other; end = start + length other; caret = true }

-- whether the text would have more than 32000 bytes
abbrev pub is_too_long : ℕ → ℕ → List ℕ → Record → Bool
is_too_long start end other r = nat_lt 32000 (length r.text.bytes - (end - start) + length other)

-- why bytes are not put
abbrev pub put_refusal : ℕ → ℕ → List ℕ → Record → Refusal
put_refusal start end other r = if is_too_long start end other r then TooLong else NoMemory

-- with another selection, and the caret on
abbrev pub chosen : ℕ → ℕ → Record → Record
chosen start end r = record r { start = start; end = end; caret = true }

-- active or not, and the caret on
abbrev pub activated : Bool → Record → Record
activated active r = record r { active = active; caret = true }

-- with the caret on or off
abbrev pub blinked : Bool → Record → Record
blinked caret r = record r { caret = caret }

-- with another justification
abbrev pub justified : Justification → Record → Record
justified justification r = record r { justification = justification }

-- shown or not
abbrev pub shown_as : Bool → Record → Record
shown_as shown r = record r { shown = shown }

-- with another destination and view
abbrev pub placed : Placing → Record → Record
placed p r = record r { text = record r.text { width = p.width }; left = p.left; top = p.top; view = p.view }

-- whether the destination may move so
abbrev pub may_scroll : ℤ → ℤ → Record → Bool
may_scroll dh dv r = is_near (r.left +ℤ dh) && is_near (r.top +ℤ dv)

-- with the destination moved
abbrev pub scrolled : ℤ → ℤ → Record → Record
scrolled dh dv r = record r { left = r.left +ℤ dh; top = r.top +ℤ dv }
