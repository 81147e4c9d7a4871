-- The words of the commands for what of a window is to be redrawn.
use Rattle.std.specs.Prelude.{ℕ}
use Rattle.desk_call.specs.declared.update.AreaRef.TheVariants.{Rect, Region}
use Rattle.desk_call.specs.declared.update.LayerKind.{LayerKind}
use Rattle.desk_call.specs.declared.update.LayerKind.TheVariants.{Picture, Texts, Lists, Controls}
use Rattle.desk_call.specs.declared.update.UpdateCall.{UpdateCall}
use Rattle.desk_call.specs.declared.update.UpdateCall.TheVariants as calls
use Rattle.desk_call.specs.declared.update.WindowArea.{WindowArea}
use Rattle.line_words.specs.Shapes.{Shape, says, hex, serial, rect, mapped}
use Rattle.command_words.specs.declared.updates.UpdateVerb.{UpdateVerb}
use Rattle.command_words.specs.declared.updates.UpdateVerb.TheVariants as verbs

-- W l t r b
abbrev pub rect_area_shape : Shape WindowArea
rect_area_shape = serial (λ window. rect (λ area. says (record { window = window; area = Rect area })))

-- W HEX
abbrev pub region_area_shape : Shape WindowArea
region_area_shape = serial (λ window. hex (λ bytes. says (record { window = window; area = Region bytes })))

-- some layers of a window are to be drawn
abbrev pub layer_draw : LayerKind → ℕ → UpdateCall
layer_draw layers window = calls.Draw (record { window = window; layers = layers })

-- the words that follow a first word, and what they ask
unfoldable pub update_shape : UpdateVerb → Shape UpdateCall
update_shape verbs.InvalidateRect = mapped calls.Invalidate rect_area_shape
update_shape verbs.InvalidateRegion = mapped calls.Invalidate region_area_shape
update_shape verbs.ValidateRect = mapped calls.Validate rect_area_shape
update_shape verbs.ValidateRegion = mapped calls.Validate region_area_shape
update_shape verbs.Begin = serial (λ window. says (calls.Begin window))
update_shape verbs.DrawPicture = serial (λ window. says (layer_draw Picture window))
update_shape verbs.DrawTexts = serial (λ window. says (layer_draw Texts window))
update_shape verbs.DrawLists = serial (λ window. says (layer_draw Lists window))
update_shape verbs.DrawControls = serial (λ window. says (layer_draw Controls window))
update_shape verbs.End = serial (λ window. says (calls.End window))
update_shape verbs.Serve = serial (λ window. says (calls.Serve window))
