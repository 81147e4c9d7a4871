-- A text record that is shown anew, as the code does it.
use Rattle.std.specs.Prelude.{◌≡◌}
use Rattle.desk_layers.specs.declared.part.Part.TheVariants as part
use Rattle.desk_call.specs.declared.text.TextOf.{TextOf}
use Rattle.text_record.specs.Texts.{Record}
use Rattle.window_mgr.specs.FullDesk.{FullState, IsRightState}
use Rattle.window_mgr.specs.Relayered.{IsLayerRedrawn}
use Rattle.text_mgr.specs.TextDesks.{TextDesk}
use Rattle.text_mgr.specs.TextSteps.{IsTextChanged, IsTextShownAnew, IsWhereRight}

-- the text record's layer was drawn where it is not to be redrawn: where the screen was right it was shown anew. Nothing else of the
-- desk changed but what layers show
pub record IsDrawnAnew (t : TextOf) (before after : FullState) : Type 0 where
  pub desk : after.desk ≡ record before.desk { shows = after.desk.shows }
  pub shown : IsRightState before → IsLayerRedrawn t.window (part.Text t.text) before after

-- the text record was changed so, and shown anew where the screen was right
pub record IsPut (t : TextOf) (f : Record → Record) (before after : TextDesk) : Type 0 where
  pub changed : IsTextChanged t f before.texts.scrap before after
  pub shown : IsWhereRight (IsTextShownAnew t f before.texts.scrap) before after
