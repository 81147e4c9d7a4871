-- The line of what is answered about windows, their frames and their outlines.
use Rattle.std.specs.Prelude.{ℕ, List, ◌++◌, codes, decimal}
use Rattle.std.specs.Fmt.{signed_decimal}
use Rattle.def_iface.specs.declared.size.Size.{Size}
use Rattle.desk_call.specs.Parts.{part_number}
use Rattle.desk_call.specs.declared.frame.FrameReply.{FrameReply}
use Rattle.desk_call.specs.declared.frame.FrameReply.TheVariants as frame_reply
use Rattle.desk_call.specs.declared.outline.OutlineReply.{OutlineReply}
use Rattle.desk_call.specs.declared.outline.OutlineReply.TheVariants as outline_reply
use Rattle.desk_call.specs.declared.window.Found.{Found}
use Rattle.desk_call.specs.declared.window.WindowInfo.{WindowInfo}
use Rattle.desk_call.specs.declared.window.WindowReply.{WindowReply}
use Rattle.desk_call.specs.declared.window.WindowReply.TheVariants as window_reply
use Rattle.line_words.specs.Replies.{done_text, number_text, number_or_none, flag_text, flag_number, region_text}

-- the part that a point lies in, and the window
abbrev pub found_text : Found → List ℕ
found_text found = codes "ok " ++ (decimal (part_number found.part) ++ (codes " " ++ (decimal (number_or_none found.window) ++ codes "\n")))

-- where a window's content lies on the screen, its width and height, and whether the window is shown and highlighted
abbrev pub info_text : WindowInfo → List ℕ
info_text info =
    codes "ok " ++ (signed_decimal info.place.h ++ (codes " " ++ (signed_decimal info.place.v
    ++ (codes " " ++ (signed_decimal info.size.width ++ (codes " " ++ (signed_decimal info.size.height
    ++ (codes " " ++ (flag_text info.shown ++ (codes " " ++ (flag_text info.highlighted ++ codes "\n")))))))))))

-- what was answered about windows
abbrev pub window_reply_text : WindowReply → List ℕ
window_reply_text window_reply.Done = done_text
window_reply_text (window_reply.Made number) = number_text number
window_reply_text (window_reply.Found found) = found_text found
window_reply_text (window_reply.Front window) = number_text (number_or_none window)
window_reply_text (window_reply.Info info) = info_text info
window_reply_text (window_reply.Region bytes) = region_text bytes.items

-- what was answered about a window's frame: 1 where the point lies in the go-away box that is tracked, and else 0
abbrev pub frame_reply_text : FrameReply → List ℕ
frame_reply_text frame_reply.Done = done_text
frame_reply_text (frame_reply.Tracked inside) = number_text (flag_number inside)

-- a width and a height
abbrev pub size_text : Size → List ℕ
size_text size = codes "ok " ++ (signed_decimal size.width ++ (codes " " ++ (signed_decimal size.height ++ codes "\n")))

-- what was answered about an outline: 1 where something begins or the mouse is in the gray region, and else 0; or the size
-- that a window is grown to
abbrev pub outline_reply_text : OutlineReply → List ℕ
outline_reply_text (outline_reply.Shown shown) = number_text (flag_number shown)
outline_reply_text (outline_reply.Sized size) = size_text size
