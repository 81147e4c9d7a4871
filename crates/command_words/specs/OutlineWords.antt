-- The words of the commands for the outline of a window that is dragged or grown.
use Rattle.desk_call.specs.declared.outline.OutlineCall.{OutlineCall}
use Rattle.desk_call.specs.declared.outline.OutlineCall.TheVariants as calls
use Rattle.line_words.specs.Shapes.{Shape, says, serial, point}
use Rattle.command_words.specs.declared.outlines.OutlineVerb.{OutlineVerb}
use Rattle.command_words.specs.declared.outlines.OutlineVerb.TheVariants as verbs
use Rattle.command_words.specs.Sizes.{size}

-- W h v
abbrev pub drag_shape : Shape OutlineCall
drag_shape = serial (λ window. point (λ place. says (calls.Drag (record { window = window; point = place }))))

-- W h v, width and height of the least size, and of the most
abbrev pub grow_shape : Shape OutlineCall
grow_shape = serial (λ window. point (λ place. size (λ least. size (λ most.
    says (calls.Grow (record { window = window; point = place; limits = record { least = least; most = most } }))))))

-- the words that follow a first word, and what they ask
unfoldable pub outline_shape : OutlineVerb → Shape OutlineCall
outline_shape verbs.Drag = drag_shape
outline_shape verbs.StepDrag = point (λ place. says (calls.StepDrag place))
outline_shape verbs.EndDrag = point (λ place. says (calls.EndDrag place))
outline_shape verbs.Grow = grow_shape
outline_shape verbs.StepGrow = point (λ place. says (calls.StepGrow place))
outline_shape verbs.EndGrow = point (λ place. says (calls.EndGrow place))
