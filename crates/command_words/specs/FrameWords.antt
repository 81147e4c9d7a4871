-- The words of the commands for the frame of a window.
use Rattle.desk_call.specs.declared.frame.FrameCall.{FrameCall}
use Rattle.desk_call.specs.declared.frame.FrameCall.TheVariants as calls
use Rattle.line_words.specs.Shapes.{Shape, says, flag, text, serial, point}
use Rattle.command_words.specs.declared.frames.FrameVerb.{FrameVerb}
use Rattle.command_words.specs.declared.frames.FrameVerb.TheVariants as verbs

-- W "title"
abbrev pub title_shape : Shape FrameCall
title_shape = serial (λ window. text (λ title. says (calls.SetTitle (record { window = window; title = title }))))

-- W FLAG
abbrev pub hilite_shape : Shape FrameCall
hilite_shape = serial (λ window. flag (λ highlighted. says (calls.Hilite (record { window = window; highlighted = highlighted }))))

-- W h v
abbrev pub track_shape : Shape FrameCall
track_shape = serial (λ window. point (λ place. says (calls.TrackGoAway (record { window = window; point = place }))))

-- the words that follow a first word, and what they ask
unfoldable pub frame_shape : FrameVerb → Shape FrameCall
frame_shape verbs.SetTitle = title_shape
frame_shape verbs.Hilite = hilite_shape
frame_shape verbs.TrackGoAway = track_shape
frame_shape verbs.StepGoAway = point (λ place. says (calls.StepGoAway place))
frame_shape verbs.EndGoAway = point (λ place. says (calls.EndGoAway place))
