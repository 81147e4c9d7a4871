-- The line of what is answered about text records.
use Rattle.std.specs.Prelude.{ℕ, List, ◌++◌, codes, decimal}
use Rattle.std.specs.Fmt.{signed_decimal}
use Rattle.tb_geom.specs.declared.point.Point.{Point}
use Rattle.desk_call.specs.declared.text.TextInfo.{TextInfo}
use Rattle.desk_call.specs.declared.text.TextReply.{TextReply}
use Rattle.desk_call.specs.declared.text.TextReply.TheVariants as replies
use Rattle.line_words.specs.Replies.{bytes_text, done_text, flag_number, flag_text, number_text}

-- two offsets
abbrev pub offsets_text : ℕ → ℕ → List ℕ
offsets_text start end = codes "ok " ++ (decimal start ++ (codes " " ++ (decimal end ++ codes "\n")))

-- the selection, whether the record is active and shown, how many bytes and lines it has, and where its destination begins
abbrev pub info_text : TextInfo → List ℕ
info_text info =
    codes "ok " ++ (decimal info.start ++ (codes " " ++ (decimal info.end
    ++ (codes " " ++ (flag_text info.active ++ (codes " " ++ (flag_text info.shown
    ++ (codes " " ++ (decimal info.length ++ (codes " " ++ (decimal info.lines
    ++ (codes " " ++ (signed_decimal info.left ++ (codes " " ++ (signed_decimal info.top ++ codes "\n")))))))))))))))

-- a column and a row
abbrev pub place_text : Point → List ℕ
place_text place = codes "ok " ++ (signed_decimal place.h ++ (codes " " ++ (signed_decimal place.v ++ codes "\n")))

-- the ascent, the descent and the leading of a font
abbrev pub font_text : ℕ → ℕ → ℕ → List ℕ
font_text ascent descent leading =
    codes "ok " ++ (decimal ascent ++ (codes " " ++ (decimal descent ++ (codes " " ++ (decimal leading ++ codes "\n")))))

-- what was answered: 1 where a selection opened, and else 0
abbrev pub text_reply_text : TextReply → List ℕ
text_reply_text replies.Done = done_text
text_reply_text (replies.Text text) = number_text text
text_reply_text (replies.Opened opened) = number_text (flag_number opened)
text_reply_text (replies.Offsets start end) = offsets_text start end
text_reply_text (replies.Bytes bytes) = bytes_text bytes.items
text_reply_text (replies.Info info) = info_text info
text_reply_text (replies.Place place) = place_text place
text_reply_text (replies.Offset offset) = number_text offset
text_reply_text (replies.Width width) = number_text width
text_reply_text (replies.Font ascent descent leading) = font_text ascent descent leading
