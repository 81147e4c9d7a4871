-- What a raw run writes.
use Rattle.std.specs.Prelude.{◌≡◌, ℕ, Bool, true, false, List, length, Option, Some, Result, Ok}
use Rattle.std.specs.List.{flat_map}
use Rattle.tb_geom.specs.declared.refusal.Refusal.{Refusal}
use Rattle.desk_toolbox.specs.ToolboxStates.{ToolboxState}
use Rattle.script_text.specs.declared.command.Command.{Command}
use Rattle.script_text.specs.declared.command.Command.TheVariants.{Image}
use Rattle.script_runner.specs.Session.{image_text}

-- whether what a line says asks for an image
abbrev pub asks_image : Option (Result Command Refusal) → Bool
asks_image (Some (Ok Image)) = true
asks_image _ = false

-- the text is so many images of a desk's screen, in the format P4, one behind another, and nothing else
abbrev pub AreImages : ℕ → List ℕ → Type 0
AreImages count text = (states : List ToolboxState) × (length states ≡ count) × (text ≡ flat_map (image_text true) states)
