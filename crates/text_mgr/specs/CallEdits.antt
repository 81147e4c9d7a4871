-- What a call makes of the text record that it names, and of the scrap.
use Rattle.std.specs.Prelude.{ℕ, ℤ, pos, nat_abs, int_le, Bool, not, ◌&&◌, List, [], ◌∷◌, length, nat_lt, Option, None, Some, is_none}
use Rattle.std.specs.Option.{option_map_or}
use Rattle.tb_geom.specs.declared.refusal.Refusal.{Refusal}
use Rattle.tb_geom.specs.declared.refusal.Refusal.TheVariants.{OutOfRange, TooLong}
use Rattle.desk_call.specs.declared.text.TextCall.{TextCall}
use Rattle.desk_call.specs.declared.text.TextCall.TheVariants.{Set, Insert, Delete, Key, Cut, Paste, Select, Activate, Idle, Justify, Scroll, ShowSelection}
use Rattle.desk_call.specs.declared.text.TextOf.{TextOf}
use Rattle.text_record.specs.Changes.{activated, blinked, is_too_long, justified, may_scroll, scrolled}
use Rattle.text_record.specs.Showing.{selection_shown}
use Rattle.text_record.specs.Texts.{Record}
use Rattle.text_edits.specs.Edits.{deleted, inserted, is_on_at, is_selection, is_typed, keyed, pasted, selected, selected_bytes, with_text}
use Rattle.text_mgr.specs.TextPlaces.{justification_of}

-- the text record that the call edits, if it is such a call
abbrev pub text_edited : TextCall → Option TextOf
text_edited (Set b) = Some b.text
text_edited (Insert b) = Some b.text
text_edited (Delete t) = Some t
text_edited (Key n) = Some n.text
text_edited (Cut t) = Some t
text_edited (Paste t) = Some t
text_edited (Select s) = Some s.text
text_edited (Activate f) = Some f.text
text_edited (Idle n) = Some n.text
text_edited (Justify n) = Some n.text
text_edited (Scroll s) = Some s.text
text_edited (ShowSelection t) = Some t
text_edited _ = None

-- what the call makes of it, with these bytes in the scrap
abbrev pub edited : TextCall → List ℕ → Record → Record
edited (Set b) scrap r = with_text b.bytes r
edited (Insert b) scrap r = inserted b.bytes r
edited (Delete t) scrap r = deleted r
edited (Key n) scrap r = keyed (nat_abs n.number) r
edited (Cut t) scrap r = deleted r
edited (Paste t) scrap r = pasted scrap r
edited (Select s) scrap r = selected (nat_abs s.start) (nat_abs s.end) r
edited (Activate f) scrap r = activated f.flag r
edited (Idle n) scrap r = blinked (is_on_at (nat_abs n.number)) r
edited (Justify n) scrap r = option_map_or (λ j. justified j r) (justification_of n.number) r
edited (Scroll s) scrap r = scrolled s.columns s.rows r
edited (ShowSelection t) scrap r = selection_shown r
edited _ scrap r = r

-- what it leaves in the scrap
abbrev pub scrap_after : TextCall → List ℕ → Record → List ℕ
scrap_after (Cut t) scrap r = selected_bytes r
scrap_after _ scrap r = scrap

-- ---- why it may be refused

-- as many bytes as a call may bring
abbrev pub most_bytes : ℕ
most_bytes = 255

abbrev pub are_too_many : List ℕ → Bool
are_too_many bytes = nat_lt most_bytes (length bytes)

-- a number is none of a range
abbrev pub is_outside : ℤ → ℤ → ℤ → Bool
is_outside low high n = not (int_le low n && int_le n high)

-- why an edit of this record may be refused, with these bytes in the scrap
abbrev pub edit_refusals : TextCall → List ℕ → Record → List (Bool × Refusal)
edit_refusals (Set b) scrap r = (are_too_many b.bytes, TooLong) ∷ []
edit_refusals (Insert b) scrap r = (are_too_many b.bytes, TooLong) ∷ (is_too_long r.start r.start b.bytes r, TooLong) ∷ []
edit_refusals (Key n) scrap r =
    (is_outside (pos 0) (pos 255) n.number, OutOfRange)
    ∷ (is_typed (nat_abs n.number) && is_too_long r.start r.end (nat_abs n.number ∷ []) r, TooLong) ∷ []
edit_refusals (Paste t) scrap r = (is_too_long r.start r.end scrap r, TooLong) ∷ []
edit_refusals (Select s) scrap r = (not (is_selection s.start s.end), OutOfRange) ∷ []
edit_refusals (Idle n) scrap r = (is_outside (pos 0) (pos 999999999) n.number, OutOfRange) ∷ []
edit_refusals (Justify n) scrap r = (is_none (justification_of n.number), OutOfRange) ∷ []
edit_refusals (Scroll s) scrap r = (not (may_scroll s.columns s.rows r), OutOfRange) ∷ []
edit_refusals _ scrap r = []
