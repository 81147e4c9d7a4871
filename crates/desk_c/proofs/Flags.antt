-- What becomes of a run with both flags, and of one that is not.
use Rattle.std.proofs.Common.{◌≡◌, ◌⊎◌, true, false, [], Some, Result, Ok, Err, codes, refl, sym, subst, inl, inr, ◌∙◌, ◌&&◌}
use Rattle.std.specs.Prelude.{Bool, ⊤, ℤ, negsuc}
use Rattle.std.proofs.lemmas.Bool.{false≢true}
use Rattle.clap.specs.Faults.{walk_fault, defaults_fault}
use Rattle.clap.specs.Walk.{walked}
use Rattle.clap.specs.Words.{IsAmong, kind_of}
use Rattle.clap.specs.declared.error.Error.{Error}
use Rattle.tb_geom.specs.declared.refusal.Refusal.{Refusal}
use Rattle.watched_io.specs.Reads.{Input}
use Rattle.watched_io.specs.Writes.{Output}
use Rattle.script_runner.specs.declared.command_line.OptionsError.{OptionsError}
use Rattle.script_runner.specs.declared.command_line.OptionsError.TheVariants as wrong
use Rattle.script_runner.specs.Choices.{faults_in, flag_in, AreWordsRefused, AreBothThere}
use Rattle.standard_run.specs.declared.program.Stopped.{Stopped}
use Rattle.standard_run.specs.declared.program.Stopped.TheVariants.{Words, Run}
use Rattle.standard_run.specs.Program.{ProgramEnds, HasRunWords}
use Rattle.desk_c.specs.Answered.{HasRun, IsRefusal, file_input, opens_none, status_of, words_of}

-- ---- what the words say

-- nothing is wrong with the words of two flags
taken : (raw check : Bool) → faults_in (words_of raw check) ≡ []
unfolding walk_fault defaults_fault walked
taken true true = refl
taken true false = refl
taken false true = refl
taken false false = refl

none_wrong : (raw check : Bool) (e : Error) → AreWordsRefused (words_of raw check) (wrong.Words e) → ⊥
none_wrong raw check e refused = subst (λ kinds. IsAmong (kind_of e) kinds) (taken raw check) refused

-- a flag is there, or is not, as it is said to be
raw_there : (check : Bool) → flag_in (codes "raw") (words_of true check) ≡ Some (codes "true")
unfolding walked
raw_there true = refl
raw_there false = refl

no_raw : (check : Bool) → flag_in (codes "raw") (words_of false check) ≡ Some (codes "false")
unfolding walked
no_raw true = refl
no_raw false = refl

check_there : (raw : Bool) → flag_in (codes "check") (words_of raw true) ≡ Some (codes "true")
unfolding walked
check_there true = refl
check_there false = refl

no_check : (raw : Bool) → flag_in (codes "check") (words_of raw false) ≡ Some (codes "false")
unfolding walked
no_check true = refl
no_check false = refl

-- ---- how a run ends

-- both flags are there where the words are refused for that
both : (raw check : Bool) → AreBothThere (words_of raw check) → (raw && check) ≡ true
both true true there = refl
both true false there = absurd (false≢true (sym (there.check.1 (no_check true))))
both false check there = absurd (false≢true (sym (there.raw.1 (no_raw check))))

-- but for want of memory they are refused for nothing else
only_both : (raw check : Bool) (e : OptionsError) → AreWordsRefused (words_of raw check) e → status_of {X = ⊤} (Err (Words e)) ≡ negsuc 0 → (raw && check) ≡ true
only_both raw check (wrong.Words e) refused is = absurd (none_wrong raw check e refused)
only_both raw check wrong.Excluded there is = both raw check there
only_both raw check (wrong.Memory e) any is = absurd cc

module _ (standard rest : Input) (old new : Output) where
  -- no run has both flags
  not_both : (raw check : Bool) (r : Result ⊤ Refusal) → HasRunWords opens_none file_input standard rest old new (words_of raw check) r → (raw && check) ≡ true → ⊥
  not_both true true r ran is =
      let raw : ran.chosen.raw ≡ true = ran.is_chosen.raw.0 (raw_there true) in
      let check : ran.chosen.check ≡ true = ran.is_chosen.check.0 (check_there true) in
      false≢true (sym ran.apart ∙ (λ i. raw i && check i))
  not_both true false r ran is = false≢true is
  not_both false check r ran is = false≢true is

  -- -1 tells that both flags are there
  excluded_by : (raw check : Bool) (status : ℤ) (outcome : Result ⊤ Stopped) → ProgramEnds opens_none file_input standard rest old new (words_of raw check) outcome
      → status ≡ status_of outcome → status ≡ negsuc 0 → (raw && check) ≡ true
  excluded_by raw check status (Ok x) ends tells is = absurd cc
  excluded_by raw check status (Err (Run e)) ends tells is = absurd cc
  excluded_by raw check status (Err (Words e)) ends tells is = only_both raw check e ends.0 (sym tells ∙ is)

  -- with both flags nothing is written, and the status is -1, or that of want of memory
  refused_by : (raw check : Bool) (status : ℤ) (outcome : Result ⊤ Stopped) → ProgramEnds opens_none file_input standard rest old new (words_of raw check) outcome
      → status ≡ status_of outcome → (raw && check) ≡ true → (new ≡ old) × IsRefusal status
  refused_by raw check status (Ok x) ends tells is = absurd (not_both raw check (Ok x) ends is)
  refused_by raw check status (Err (Run e)) ends tells is = absurd (not_both raw check (Err e) ends is)
  refused_by raw check status (Err (Words (wrong.Words e))) ends tells is = (ends.1.silent, inl tells)
  refused_by raw check status (Err (Words wrong.Excluded)) ends tells is = (ends.1.silent, inl tells)
  refused_by raw check status (Err (Words (wrong.Memory e))) ends tells is = (ends.1.silent, inr tells)

module _ (raw check : Bool) (standard : Input) (old new : Output) (status : ℤ) where
  pub excluded : HasRun raw check standard old new status → status ≡ negsuc 0 → (raw && check) ≡ true
  excluded ran is = excluded_by standard ran.rest old new raw check status ran.outcome ran.ends ran.tells is

  pub refused : HasRun raw check standard old new status → (raw && check) ≡ true → (new ≡ old) × IsRefusal status
  refused ran is = refused_by standard ran.rest old new raw check status ran.outcome ran.ends ran.tells is
