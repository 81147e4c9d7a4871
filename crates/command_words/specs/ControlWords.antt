-- The words of the commands for controls.
use Rattle.std.specs.Prelude.{ℕ, List, Option, Ok}
use Rattle.desk_call.specs.declared.control.ControlCall.{ControlCall}
use Rattle.desk_call.specs.declared.control.ControlCall.TheVariants as calls
use Rattle.desk_call.specs.declared.control.ControlNumber.{ControlNumber}
use Rattle.desk_call.specs.declared.control.ControlOf.{ControlOf}
use Rattle.desk_call.specs.declared.control.PointAtControl.{PointAtControl}
use Rattle.line_words.specs.Words.{◌>>=◌, Field, serial_at}
use Rattle.line_words.specs.Shapes.{Shape, says, number, flag, name, text, serial, point, mapped}
use Rattle.command_words.specs.declared.controls.ControlVerb.{ControlVerb}
use Rattle.command_words.specs.declared.controls.ControlVerb.TheVariants as verbs

-- two words that are a window and a control
abbrev pub control_at : Option (List ℕ) → Field ControlOf
control_at rest =
    serial_at rest >>= λ window. serial_at window.1 >>= λ control. Ok (record { window = window.0; control = control.0 }, control.1)

-- W C
abbrev pub of_control : {A : Type 0} → (ControlOf → Shape A) → Shape A
of_control next = serial (λ window. serial (λ control. next (record { window = window; control = control })))

-- W KIND left top width height SHOWN min max value "title"
abbrev pub new_shape : Shape ControlCall
new_shape = serial (λ window. name (λ kind. point (λ place. number (λ width. number (λ height. flag (λ shown.
    number (λ minimum. number (λ maximum. number (λ value. text (λ title. says (calls.New (record {
      window = window;
      kind = kind;
      place = place;
      size = record { width = width; height = height };
      shown = shown;
      minimum = minimum;
      maximum = maximum;
      value = value;
      title = title;
    }))))))))))))

-- W C, and no more
abbrev pub alone_shape : Shape ControlOf
alone_shape = of_control (λ control. says control)

-- W C h v, a new place
abbrev pub move_shape : Shape ControlCall
move_shape = of_control (λ control. point (λ place. says (calls.Move (record { control = control; place = place }))))

-- W C width height
abbrev pub size_shape : Shape ControlCall
size_shape = of_control (λ control. number (λ width. number (λ height.
    says (calls.Size (record { control = control; size = record { width = width; height = height } })))))

-- W C n
abbrev pub number_shape : Shape ControlNumber
number_shape = of_control (λ control. number (λ n. says (record { control = control; number = n })))

-- W C "title"
abbrev pub title_shape : Shape ControlCall
title_shape = of_control (λ control. text (λ title. says (calls.SetTitle (record { control = control; title = title }))))

-- W h v
abbrev pub find_shape : Shape ControlCall
find_shape = serial (λ window. point (λ place. says (calls.Find (record { window = window; point = place }))))

-- W C h v, where a control is asked for
abbrev pub at_shape : Shape PointAtControl
at_shape = of_control (λ control. point (λ place. says (record { control = control; point = place })))

-- the words that follow a first word, and what they ask
unfoldable pub control_shape : ControlVerb → Shape ControlCall
control_shape verbs.New = new_shape
control_shape verbs.Dispose = mapped calls.Dispose alone_shape
control_shape verbs.Show = mapped calls.Show alone_shape
control_shape verbs.Hide = mapped calls.Hide alone_shape
control_shape verbs.Move = move_shape
control_shape verbs.Size = size_shape
control_shape verbs.SetValue = mapped calls.SetValue number_shape
control_shape verbs.SetMinimum = mapped calls.SetMinimum number_shape
control_shape verbs.SetMaximum = mapped calls.SetMaximum number_shape
control_shape verbs.Hilite = mapped calls.Hilite number_shape
control_shape verbs.SetTitle = title_shape
control_shape verbs.Get = mapped calls.Get alone_shape
control_shape verbs.Find = find_shape
control_shape verbs.Test = mapped calls.Test at_shape
control_shape verbs.Track = mapped calls.Track at_shape
control_shape verbs.Step = point (λ place. says (calls.Step place))
control_shape verbs.End = point (λ place. says (calls.End place))
