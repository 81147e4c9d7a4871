-- What a click on a cell does to the selection.
use Rattle.std.specs.Prelude.{ℕ, ℤ, pos, negsuc, ◌+ℤ◌, Bool, true, false, not, ◌==◌, bit_and, if◌then◌else◌}
use Rattle.list_cells.specs.declared.click.SelectionFlags.{SelectionFlags}
use Rattle.list_cells.specs.declared.click.ClickKeys.{ClickKeys}
use Rattle.list_cells.specs.declared.click.Click.{Click}
use Rattle.list_cells.specs.declared.click.Click.TheVariants.{SelectsAlone, Toggles, Deselects, Extends}

-- with the Shift key, by the flags lUseSense and lNoExtend and whether the cell is selected
abbrev pub shift_click : Bool → Bool → Bool → Click
shift_click true no_extend true = Deselects
shift_click true true false = SelectsAlone
shift_click true false false = Extends
shift_click false true selected = SelectsAlone
shift_click false false selected = Extends

-- by the flags, the keys and whether the cell is selected: the Command key goes before the Shift key, and lOnlyOne before both
abbrev pub click_of : SelectionFlags → ClickKeys → Bool → Click
click_of flags keys selected =
    if flags.only_one then SelectsAlone else if keys.command then Toggles else if keys.shift then shift_click flags.use_sense flags.no_extend selected else SelectsAlone

-- what a flag adds to a number where it is set
abbrev pub part_of_sum : Bool → ℤ → ℤ
part_of_sum true n = n
part_of_sum false n = pos 0

-- the number of flags: -128 for lOnlyOne, 16 for lNoExtend, 4 for lUseSense and 2 for lNoNilHilite, together
abbrev pub flags_number : SelectionFlags → ℤ
flags_number flags = part_of_sum flags.only_one (negsuc 127) +ℤ (part_of_sum flags.no_extend (pos 16) +ℤ (part_of_sum flags.use_sense (pos 4) +ℤ part_of_sum flags.no_nil_hilite (pos 2)))

-- whether a key is down by an event's modifiers
abbrev pub is_down : ℕ → ℕ → Bool
is_down key modifiers = not (bit_and modifiers key == 0)

-- which keys are down by an event's modifiers
abbrev pub keys_of : ℕ → ClickKeys
keys_of modifiers = record { command = is_down 0x100 modifiers; shift = is_down 0x200 modifiers }
