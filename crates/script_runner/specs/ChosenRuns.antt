-- How a run of what the command line chose ends: which files it reads, in which font, and with which flags.
use Rattle.std.specs.Prelude.{◌≡◌, ◌⊎◌, ℕ, false, List, take, Option, None, Some, Result, Ok, Err, option_map}
use Rattle.tb_geom.specs.declared.refusal.Refusal.{Refusal}
use Rattle.strike_font.specs.Record.{longest_record}
use Rattle.def_iface.specs.Stocks.{AllSlots}
use Rattle.watched_io.specs.Reads.{Input, IsEntire, IsNotHad}
use Rattle.watched_io.specs.Writes.{Output}
use Rattle.script_runner.specs.declared.command_line.Choices.{Choices}
use Rattle.script_runner.specs.Runs.{RunEnds}

-- `opens` says what opening the file at a path may answer, and `input` how a file that was opened is seen
module _ {File : Type 0} (opens : List ℕ → Result File Refusal → Type 0) (input : File → Input) where
  -- the file at the path was opened and read to its end, no read failed, and it has these bytes
  pub record IsReadFile (path bytes : List ℕ) : Type 0 where
    pub first : File
    pub last : File
    pub opened : opens path (Ok first)
    pub entire : IsEntire (input first) (input last) bytes
    pub quiet : (input last).has_failed ≡ false

  -- the file at the path was opened, and why its bytes are not had
  pub record IsUnreadFile (path : List ℕ) (e : Refusal) : Type 0 where
    pub first : File
    pub last : File
    pub opened : opens path (Ok first)
    pub why : IsNotHad (input first) (input last) e

  -- the bytes of the font that is asked for: the first of the file at this path, as many as a record may have, or none where
  -- no path is named
  abbrev pub AreFontBytes : Option (List ℕ) → Option (List ℕ) → Type 0
  AreFontBytes None asked = asked ≡ None
  AreFontBytes (Some path) asked = (bytes : List ℕ) × IsReadFile path bytes × (asked ≡ Some (take longest_record bytes))

  -- why the bytes of the font's file are not had
  abbrev pub IsFontLost : Option (List ℕ) → Refusal → Type 0
  IsFontLost None e = ⊥
  IsFontLost (Some path) e = opens path (Err e) ⊎ IsUnreadFile path e

  -- why the script's file is not had
  abbrev pub IsScriptLost : Option (List ℕ) → Refusal → Type 0
  IsScriptLost None e = ⊥
  IsScriptLost (Some path) e = opens path (Err e)

  -- from a stock with these slots, of which it leaves those, and from one state of standard input and of the writer to another
  module _ (chosen : Choices) (stocks left : AllSlots) (standard rest : Input) (old new : Output) where
    -- nothing was read of standard input, written, or taken out of the stock
    pub record IsUntouched : Type 0 where
      pub unread : rest ≡ standard
      pub silent : new ≡ old
      pub same : left ≡ stocks

    -- the script was the file at the path, and standard input is as it was
    pub record HasRunFile (path : List ℕ) (asked : Option (List ℕ)) {X : Type 0} (r : Result X Refusal) : Type 0 where
      pub first : File
      pub last : File
      pub opened : opens path (Ok first)
      pub ends : RunEnds asked chosen.raw chosen.check stocks left (input first) (input last) old new r
      pub unread : rest ≡ standard

    -- the script was that file, or standard input where no path is named
    abbrev pub HasRunScript : Option (List ℕ) → Option (List ℕ) → {X : Type 0} → Result X Refusal → Type 0
    HasRunScript None asked r = RunEnds asked chosen.raw chosen.check stocks left standard rest old new r
    HasRunScript (Some path) asked r = HasRunFile path asked r

    -- the script that was chosen was run, in the font that was
    pub record HasRunChosen {X : Type 0} (r : Result X Refusal) : Type 0 where
      pub asked : Option (List ℕ)
      pub font : AreFontBytes (option_map (λ s. s.now) chosen.font) asked
      pub ran : HasRunScript (option_map (λ s. s.now) chosen.script) asked r

    -- the script's file was not had, where the font's was
    pub record IsStoppedAtScript (e : Refusal) : Type 0 where
      pub asked : Option (List ℕ)
      pub font : AreFontBytes (option_map (λ s. s.now) chosen.font) asked
      pub lost : IsScriptLost (option_map (λ s. s.now) chosen.script) e
      pub untouched : IsUntouched

    -- the bytes of the font's file were not had
    pub record IsStoppedAtFont (e : Refusal) : Type 0 where
      pub lost : IsFontLost (option_map (λ s. s.now) chosen.font) e
      pub untouched : IsUntouched

    abbrev pub ChosenEnds : {X : Type 0} → Result X Refusal → Type 0
    ChosenEnds {X} (Ok x) = HasRunChosen {X = X} (Ok x)
    ChosenEnds {X} (Err e) = HasRunChosen {X = X} (Err e) ⊎ IsStoppedAtScript e ⊎ IsStoppedAtFont e
