-- Steps that have texts of their own.
use Rattle.std.specs.Prelude.{ℕ, ◌≤◌, Bool, List, length}
use Rattle.std.specs.List.{fold}
use Rattle.tb_geom.specs.declared.point.Point.{Point}
use Rattle.looks.specs.declared.lettered.Lettered.{Lettered}
use Rattle.looks.specs.Letters.{lettering}
use Rattle.looks.specs.Marks.{step_value}

-- what such a step makes of the bit d, in a font
abbrev pub one_value : List ℕ → Point → Bool → Lettered → Bool
one_value font p d s = step_value (lettering font s.text) p d s.step

-- what such steps make of it, one after another
abbrev pub lettered_value : List ℕ → List Lettered → Point → Bool → Bool
lettered_value font steps p d = fold (one_value font p) d steps

-- no text is drawn that has more than 65535 characters
abbrev pub has_short_text : Lettered → Type 0
has_short_text s = length s.text ≤ 65535
