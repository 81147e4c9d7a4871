-- Parts of controls, and their part codes.
use Rattle.std.specs.Prelude.{ℕ, nat_eq, List, [], ◌∷◌, Option}
use Rattle.std.specs.List.{find}
use Rattle.control_values.specs.declared.part.ControlPart.{ControlPart}
use Rattle.control_values.specs.declared.part.ControlPart.TheVariants.{Button, CheckBox, UpButton, DownButton, PageUp, PageDown, Thumb}

-- the part code of a part
abbrev pub number_of : ControlPart → ℕ
number_of Button = 10
number_of CheckBox = 11
number_of UpButton = 20
number_of DownButton = 21
number_of PageUp = 22
number_of PageDown = 23
number_of Thumb = 129

abbrev pub parts : List ControlPart
parts = Button ∷ CheckBox ∷ UpButton ∷ DownButton ∷ PageUp ∷ PageDown ∷ Thumb ∷ []

-- the part with this part code
abbrev pub part_of : ℕ → Option ControlPart
part_of code = find (λ p. nat_eq (number_of p) code) parts
