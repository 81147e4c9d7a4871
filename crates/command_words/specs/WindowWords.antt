-- The words of the commands for windows.
use Rattle.std.specs.Prelude.{ℕ, ℤ, pos, [], Option, Some, None, if◌then◌else◌}
use Rattle.std.specs.Ordering.{int_eq}
use Rattle.desk_call.specs.declared.window.NewPicture.{NewPicture}
use Rattle.desk_call.specs.declared.window.NewWindow.{NewWindow}
use Rattle.desk_call.specs.declared.window.WindowCall.{WindowCall}
use Rattle.desk_call.specs.declared.window.WindowCall.TheVariants as calls
use Rattle.line_words.specs.Words.{serial_of}
use Rattle.line_words.specs.Shapes.{Shape, says, number, flag, name, text, serial, point, mapped}
use Rattle.command_words.specs.declared.windows.WindowVerb.{WindowVerb}
use Rattle.command_words.specs.declared.windows.WindowVerb.TheVariants as verbs
use Rattle.command_words.specs.Drawings.{drawing_shape}
use Rattle.command_words.specs.Asked.{asked_shape}

-- KIND h v width height SHOWN GOAWAY "title"
abbrev pub new_shape : Shape NewWindow
new_shape = name (λ kind. point (λ place. number (λ width. number (λ height. flag (λ shown. flag (λ go_away. text (λ title.
    says (record { kind = kind; place = place; size = record { width = width; height = height }; shown = shown; go_away = go_away; title = title }))))))))

-- W FLAG
abbrev pub show_hide_shape : Shape WindowCall
show_hide_shape = serial (λ window. flag (λ shown. says (calls.ShowHide (record { window = window; shown = shown }))))

-- the window that is to be in front of another; 0 is none, so that the other goes behind all, and a number below 0 is no
-- window's
abbrev pub other_window : ℤ → Option ℕ
other_window window = if int_eq window (pos 0) then None else Some (serial_of window)

-- W X
abbrev pub behind_shape : Shape WindowCall
behind_shape = serial (λ window. number (λ other. says (calls.SendBehind (record { window = window; behind = other_window other }))))

-- W h v SELECT
abbrev pub move_shape : Shape WindowCall
move_shape = serial (λ window. point (λ place. flag (λ select. says (calls.Move (record { window = window; place = place; select = select })))))

-- W width height
abbrev pub size_shape : Shape WindowCall
size_shape = serial (λ window. number (λ width. number (λ height.
    says (calls.Size (record { window = window; size = record { width = width; height = height } })))))

-- W PART
abbrev pub zoom_shape : Shape WindowCall
zoom_shape = serial (λ window. number (λ part. says (calls.Zoom (record { window = window; part = part }))))

-- the picture of no operation for a window, its 0 0 in the content's
abbrev pub no_picture : ℕ → NewPicture
no_picture window = record { window = window; picture = []; origin = record { h = pos 0; v = pos 0 } }

-- W dh dv
abbrev pub scroll_shape : Shape WindowCall
scroll_shape = serial (λ window. point (λ by. says (calls.Scroll (record { window = window; by = by }))))

-- the words that follow a first word in a script of this version, and what they ask
unfoldable pub window_shape : ℤ → WindowVerb → Shape WindowCall
window_shape version verbs.New = mapped calls.New new_shape
window_shape version verbs.Float = mapped calls.NewFloating new_shape
window_shape version verbs.Close = serial (λ window. says (calls.Dispose window))
window_shape version verbs.Show = serial (λ window. says (calls.Show window))
window_shape version verbs.Hide = serial (λ window. says (calls.Hide window))
window_shape version verbs.ShowHide = show_hide_shape
window_shape version verbs.Select = serial (λ window. says (calls.Select window))
window_shape version verbs.BringToFront = serial (λ window. says (calls.BringToFront window))
window_shape version verbs.SendBehind = behind_shape
window_shape version verbs.Move = move_shape
window_shape version verbs.Size = size_shape
window_shape version verbs.Zoom = zoom_shape
window_shape version verbs.Clear = serial (λ window. says (calls.SetPicture (no_picture window)))
window_shape version verbs.Draw = mapped calls.Draw (drawing_shape version)
window_shape version verbs.Scroll = scroll_shape
window_shape version verbs.Find = point (λ place. says (calls.Find place))
window_shape version verbs.Front = says calls.Front
window_shape version verbs.Info = serial (λ window. says (calls.Info window))
window_shape version verbs.UpdateRegion = serial (λ window. says (calls.UpdateRegion window))
window_shape version verbs.VisibleRegion = serial (λ window. says (calls.VisibleRegion window))
window_shape version verbs.Region = mapped calls.Region asked_shape
