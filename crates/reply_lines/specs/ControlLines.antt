-- The line of what is answered about controls.
use Rattle.std.specs.Prelude.{ℕ, List, ◌++◌, Option, None, Some, codes, decimal}
use Rattle.std.specs.Fmt.{signed_decimal}
use Rattle.control_values.specs.Parts.{number_of}
use Rattle.control_values.specs.declared.part.ControlPart.{ControlPart}
use Rattle.desk_call.specs.declared.control.ControlInfo.{ControlInfo}
use Rattle.desk_call.specs.declared.control.ControlReply.{ControlReply}
use Rattle.desk_call.specs.declared.control.ControlReply.TheVariants.{Done, Made, Info, Found, Part}
use Rattle.desk_call.specs.declared.control.FoundControl.{FoundControl}
use Rattle.line_words.specs.Replies.{done_text, number_text, flag_text}

-- a control's value, its minimum and its maximum, how it is highlighted, and whether it is shown
abbrev pub info_text : ControlInfo → List ℕ
info_text info =
    codes "ok " ++ (signed_decimal info.values.value ++ (codes " " ++ (signed_decimal info.values.minimum
    ++ (codes " " ++ (signed_decimal info.values.maximum ++ (codes " " ++ (decimal info.highlight
    ++ (codes " " ++ (flag_text info.shown ++ codes "\n")))))))))

-- a part of a control, and the control
abbrev pub part_text : FoundControl → List ℕ
part_text found = codes "ok " ++ (decimal (number_of found.part) ++ (codes " " ++ (decimal found.control ++ codes "\n")))

-- what was found, and nothing by 0 0
abbrev pub found_text : Option FoundControl → List ℕ
found_text None = codes "ok 0 0\n"
found_text (Some found) = part_text found

-- a part by its part code, and none by 0
abbrev pub part_or_none : Option ControlPart → ℕ
part_or_none None = 0
part_or_none (Some part) = number_of part

-- what was answered
abbrev pub control_reply_text : ControlReply → List ℕ
control_reply_text Done = done_text
control_reply_text (Made control) = number_text control
control_reply_text (Info info) = info_text info
control_reply_text (Found found) = found_text found
control_reply_text (Part part) = number_text (part_or_none part)
