-- What writers of answers write, and what they stay.
use Rattle.std.specs.Prelude.{◌≡◌, ℕ, List, Result}
use Rattle.tb_geom.specs.declared.refusal.Refusal.{Refusal}
use Rattle.watched_io.specs.Writes.{Output, Sends}
use Rattle.script_runner.specs.declared.answer_writer.AnswerWriter.{AnswerWriter}

-- the writer still writes to the same sink, and is raw where it was
abbrev pub IsSameWriter : {S : Type 0} → AnswerWriter S → AnswerWriter S → Type 0
IsSameWriter old new = (new.sink.ghost_name ≡ old.sink.ghost_name) × (new.raw ≡ old.raw)

-- a text of which this holds was written, as far as writing went
abbrev pub SendsSome : {X : Type 0} → (List ℕ → Type 0) → Output → Output → Result X Refusal → Type 0
SendsSome IsText old new r = (text : List ℕ) × IsText text × Sends old new r text
