-- The words of the commands for text records.
use Rattle.std.specs.Prelude.{ℕ, List, Option, Ok}
use Rattle.desk_call.specs.declared.text.TextBytes.{TextBytes}
use Rattle.desk_call.specs.declared.text.TextCall.{TextCall}
use Rattle.desk_call.specs.declared.text.TextCall.TheVariants as calls
use Rattle.desk_call.specs.declared.text.TextNumber.{TextNumber}
use Rattle.desk_call.specs.declared.text.TextOf.{TextOf}
use Rattle.desk_call.specs.declared.text.TextPlace.{TextPlace}
use Rattle.line_words.specs.Words.{◌>>=◌, Field, number_at, point_at, serial_at}
use Rattle.line_words.specs.Shapes.{Shape, says, number, flag, bytes, serial, point, mapped}
use Rattle.text_words.specs.declared.verb.TextVerb.{TextVerb}
use Rattle.text_words.specs.declared.verb.TextVerb.TheVariants as verbs

-- two words that are a window and a text record
abbrev pub record_at : Option (List ℕ) → Field TextOf
record_at rest =
    serial_at rest >>= λ window. serial_at window.1 >>= λ text. Ok (record { window = window.0; text = text.0 }, text.1)

-- seven words that are the left, the top and the width of a destination, and the place and the size of a view
abbrev pub place_at : Option (List ℕ) → Field TextPlace
place_at rest =
    number_at rest >>= λ left. number_at left.1 >>= λ top. number_at top.1 >>= λ width. point_at width.1 >>= λ view.
    number_at view.1 >>= λ wide. number_at wide.1 >>= λ high. Ok (
      record {
        left = left.0;
        top = top.0;
        width = width.0;
        view = view.0;
        view_size = record { width = wide.0; height = high.0 };
      },
      high.1,
    )

-- W X
abbrev pub of_record : {A : Type 0} → (TextOf → Shape A) → Shape A
of_record next = serial (λ window. serial (λ text. next (record { window = window; text = text })))

-- L T WIDTH l t w h
abbrev pub place : {A : Type 0} → (TextPlace → Shape A) → Shape A
place next = number (λ left. number (λ top. number (λ width. point (λ view. number (λ wide. number (λ high. next (record {
  left = left;
  top = top;
  width = width;
  view = view;
  view_size = record { width = wide; height = high };
})))))))

-- W L T WIDTH l t w h JUST WRAP
abbrev pub new_shape : Shape TextCall
new_shape = serial (λ window. place (λ stands. number (λ justification. flag (λ wraps.
    says (calls.New (record { window = window; place = stands; justification = justification; wraps = wraps }))))))

-- W X L T WIDTH l t w h
abbrev pub place_shape : Shape TextCall
place_shape = of_record (λ text. place (λ stands. says (calls.Place (record { text = text; place = stands }))))

-- W X, and no more
abbrev pub alone_shape : Shape TextOf
alone_shape = of_record (λ text. says text)

-- W X BYTES
abbrev pub bytes_shape : Shape TextBytes
bytes_shape = of_record (λ text. bytes (λ said. says (record { text = text; bytes = said })))

-- W X n
abbrev pub number_shape : Shape TextNumber
number_shape = of_record (λ text. number (λ n. says (record { text = text; number = n })))

-- W X a b
abbrev pub select_shape : Shape TextCall
select_shape = of_record (λ text. number (λ start. number (λ end.
    says (calls.Select (record { text = text; start = start; end = end })))))

-- W X dh dv
abbrev pub scroll_shape : Shape TextCall
scroll_shape = of_record (λ text. number (λ columns. number (λ rows.
    says (calls.Scroll (record { text = text; columns = columns; rows = rows })))))

-- W X FLAG
abbrev pub activate_shape : Shape TextCall
activate_shape = of_record (λ text. flag (λ active. says (calls.Activate (record { text = text; flag = active }))))

-- W X h v MODE
abbrev pub click_shape : Shape TextCall
click_shape = of_record (λ text. point (λ at. number (λ mode.
    says (calls.Click (record { text = text; point = at; mode = mode })))))

-- W X h v
abbrev pub offset_at_shape : Shape TextCall
offset_at_shape = of_record (λ text. point (λ at. says (calls.OffsetAt (record { text = text; point = at }))))

-- the words that follow a first word, and what they ask
unfoldable pub text_shape : TextVerb → Shape TextCall
text_shape verbs.New = new_shape
text_shape verbs.Place = place_shape
text_shape verbs.Dispose = mapped calls.Dispose alone_shape
text_shape verbs.Show = mapped calls.Show alone_shape
text_shape verbs.Hide = mapped calls.Hide alone_shape
text_shape verbs.Set = mapped calls.Set bytes_shape
text_shape verbs.Insert = mapped calls.Insert bytes_shape
text_shape verbs.Paste = mapped calls.Paste alone_shape
text_shape verbs.Select = select_shape
text_shape verbs.Idle = mapped calls.Idle number_shape
text_shape verbs.Justify = mapped calls.Justify number_shape
text_shape verbs.Scroll = scroll_shape
text_shape verbs.Key = mapped calls.Key number_shape
text_shape verbs.Cut = mapped calls.Cut alone_shape
text_shape verbs.Copy = mapped calls.Copy alone_shape
text_shape verbs.Delete = mapped calls.Delete alone_shape
text_shape verbs.Activate = activate_shape
text_shape verbs.ShowSelection = mapped calls.ShowSelection alone_shape
text_shape verbs.Click = click_shape
text_shape verbs.Step = point (λ place. says (calls.Step place))
text_shape verbs.End = point (λ place. says (calls.End place))
text_shape verbs.Get = mapped calls.Get alone_shape
text_shape verbs.Info = mapped calls.Info alone_shape
text_shape verbs.Line = mapped calls.Line number_shape
text_shape verbs.PlaceOf = mapped calls.PlaceOf number_shape
text_shape verbs.OffsetAt = offset_at_shape
text_shape verbs.Scrap = says calls.Scrap
text_shape verbs.SetScrap = bytes (λ said. says (calls.SetScrap said))
text_shape verbs.Width = bytes (λ said. says (calls.Width said))
text_shape verbs.FontInfo = says calls.FontInfo
