-- Each part has a part code of its own.
use Rattle.std.proofs.Common.{◌≡◌, Some, refl}
use Rattle.control_values.specs.declared.part.ControlPart.{ControlPart}
use Rattle.control_values.specs.declared.part.ControlPart.TheVariants.{Button, CheckBox, UpButton, DownButton, PageUp, PageDown, Thumb}
use Rattle.control_values.specs.Parts.{number_of, part_of}

pub part_of_its_number : (part : ControlPart) → part_of (number_of part) ≡ Some part
part_of_its_number Button = refl
part_of_its_number CheckBox = refl
part_of_its_number UpButton = refl
part_of_its_number DownButton = refl
part_of_its_number PageUp = refl
part_of_its_number PageDown = refl
part_of_its_number Thumb = refl
