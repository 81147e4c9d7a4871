-- Text records, drawn: what is drawn of a part is what it shows.
use Rattle.std.proofs.Common.{◌≡◌, ℕ, ◌<◌, false, List, length, position, get_or, Some, None, refl, sym, ap, ◌∙◌}
use Rattle.std.specs.Prelude.{slice_get}
use Rattle.std.specs.Option.{option_and_then}
use Rattle.tb_geom.specs.declared.point.Point.{Point}
use Rattle.desk_layers.specs.declared.part.Part.{Part}
use Rattle.desk_layers.specs.declared.part.Part.TheVariants as part
use Rattle.text_paint.specs.Shown.{text_shown}
use Rattle.window_items.specs.Items.{has_serial}
use Rattle.control_mgr.proofs.Places.{get_is}
use Rattle.text_mgr.specs.TextDesks.{KeptText, text_bit}
use Rattle.text_mgr.proofs.Reshown.{alone}

-- a text record shows what its record says
pub found_shows : (font : List ℕ) (ts : List KeptText) (n at : ℕ) (x : KeptText) (of : Part) (p : Point) → of ≡ part.Text n → Some at ≡ position (has_serial n) ts → at < length ts → x ≡ get_or ts at x
    → text_shown font x.kept p ≡ alone ts font of p
found_shows font ts n at x of p is found low read =
    ap (λ o. text_bit font o p) (sym (get_is ts at x low read))
    ∙ sym (ap (λ o. alone ts font o p) is ∙ ap (λ o. text_bit font (option_and_then (slice_get ts) o) p) (sym found))

-- one that there is not is white
pub none_shows : (font : List ℕ) (ts : List KeptText) (n : ℕ) (of : Part) (p : Point) → of ≡ part.Text n → None ≡ position (has_serial n) ts → alone ts font of p ≡ false
none_shows font ts n of p is found = ap (λ o. alone ts font o p) is ∙ ap (λ o. text_bit font (option_and_then (slice_get ts) o) p) (sym found)

-- so is what is no text record
pub others_show : (font : List ℕ) (ts : List KeptText) (of : Part) (p : Point) → ((n : ℕ) → of ≡ part.Text n → ⊥) → alone ts font of p ≡ false
others_show font ts part.Picture p none = refl
others_show font ts (part.List n) p none = refl
others_show font ts (part.Control n) p none = refl
others_show font ts (part.Text n) p none = absurd (none n refl)
