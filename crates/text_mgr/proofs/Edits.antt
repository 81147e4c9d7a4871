-- What calls make of a text record keeps its box.
use Rattle.std.proofs.Common.{ℕ, ◌==◌, Bool, true, false, cond, List, Option, Some, None, refl}
use Rattle.std.specs.Prelude.{nat_abs}
use Rattle.std.specs.Option.{option_map_or}
use Rattle.desk_call.specs.declared.text.TextCall.{TextCall}
use Rattle.desk_call.specs.declared.text.TextCall.TheVariants as call
use Rattle.text_record.specs.declared.placing.Justification.{Justification}
use Rattle.text_record.specs.Changes.{justified}
use Rattle.text_record.specs.Texts.{Record}
use Rattle.text_edits.specs.Edits.{backspaced, is_point, keyed}
use Rattle.text_mgr.specs.CallEdits.{edited}
use Rattle.text_mgr.specs.TextPlaces.{justification_of}
use Rattle.text_mgr.proofs.Whole.{SameBox}

-- of two, each of which keeps it
either : (b : Bool) (r x y : Record) → SameBox r x → SameBox r y → SameBox r (cond b x y)
either true r x y h k = h
either false r x y h k = k

backspaced_box : (r : Record) → SameBox r (backspaced r)
backspaced_box r = either (is_point r) r _ _ (record { framed = refl; view = refl; shown = refl }) (record { framed = refl; view = refl; shown = refl })

keyed_box : (key : ℕ) (r : Record) → SameBox r (keyed key r)
keyed_box key r =
    either (key == 8) r _ _ (backspaced_box r)
    (either (key == 28) r _ _ (record { framed = refl; view = refl; shown = refl })
    (either (key == 29) r _ _ (record { framed = refl; view = refl; shown = refl })
    (either (key == 30) r _ _ (record { framed = refl; view = refl; shown = refl })
    (either (key == 31) r _ _ (record { framed = refl; view = refl; shown = refl })
    (record { framed = refl; view = refl; shown = refl })))))

justified_box : (o : Option Justification) (r : Record) → SameBox r (option_map_or (λ j. justified j r) o r)
justified_box None r = record { framed = refl; view = refl; shown = refl }
justified_box (Some j) r = record { framed = refl; view = refl; shown = refl }

pub edited_box : (c : TextCall) (scrap : List ℕ) (r : Record) → SameBox r (edited c scrap r)
edited_box (call.Key n) scrap r = keyed_box (nat_abs n.number) r
edited_box (call.Justify n) scrap r = justified_box (justification_of n.number) r
edited_box (call.Set b) scrap r = record { framed = refl; view = refl; shown = refl }
edited_box (call.Insert b) scrap r = record { framed = refl; view = refl; shown = refl }
edited_box (call.Delete t) scrap r = record { framed = refl; view = refl; shown = refl }
edited_box (call.Cut t) scrap r = record { framed = refl; view = refl; shown = refl }
edited_box (call.Paste t) scrap r = record { framed = refl; view = refl; shown = refl }
edited_box (call.Select z) scrap r = record { framed = refl; view = refl; shown = refl }
edited_box (call.Activate f) scrap r = record { framed = refl; view = refl; shown = refl }
edited_box (call.Idle n) scrap r = record { framed = refl; view = refl; shown = refl }
edited_box (call.Scroll z) scrap r = record { framed = refl; view = refl; shown = refl }
edited_box (call.ShowSelection t) scrap r = record { framed = refl; view = refl; shown = refl }
edited_box (call.New n) scrap r = record { framed = refl; view = refl; shown = refl }
edited_box (call.Place p) scrap r = record { framed = refl; view = refl; shown = refl }
edited_box (call.Dispose t) scrap r = record { framed = refl; view = refl; shown = refl }
edited_box (call.Show t) scrap r = record { framed = refl; view = refl; shown = refl }
edited_box (call.Hide t) scrap r = record { framed = refl; view = refl; shown = refl }
edited_box (call.Copy t) scrap r = record { framed = refl; view = refl; shown = refl }
edited_box (call.Click c) scrap r = record { framed = refl; view = refl; shown = refl }
edited_box (call.Step p) scrap r = record { framed = refl; view = refl; shown = refl }
edited_box (call.End p) scrap r = record { framed = refl; view = refl; shown = refl }
edited_box (call.Get t) scrap r = record { framed = refl; view = refl; shown = refl }
edited_box (call.Info t) scrap r = record { framed = refl; view = refl; shown = refl }
edited_box (call.Line n) scrap r = record { framed = refl; view = refl; shown = refl }
edited_box (call.PlaceOf n) scrap r = record { framed = refl; view = refl; shown = refl }
edited_box (call.OffsetAt p) scrap r = record { framed = refl; view = refl; shown = refl }
edited_box call.Scrap scrap r = record { framed = refl; view = refl; shown = refl }
edited_box (call.SetScrap bytes) scrap r = record { framed = refl; view = refl; shown = refl }
edited_box (call.Width bytes) scrap r = record { framed = refl; view = refl; shown = refl }
edited_box call.FontInfo scrap r = record { framed = refl; view = refl; shown = refl }
