-- A run, a byte after another.
use Rattle.std.proofs.Common.{length, get_or, drop, ◌+◌, ◌<◌, ◌≡◌, ◌≢◌, ℕ, Bool, inl, inr, false, List, [], ◌∷◌, ◌++◌, Option, Some, None, Result, Ok, Err, refl, sym, ap, ◌∙◌, subst, append_assoc, append-nil}
use Rattle.std.specs.Io.KnownBytes.{Consumes, IsAtEnd}
use Rattle.std.specs.Option.{IfSome}
use Rattle.std.proofs.KnownBytes.{Consumes-nil, Consumes-trans}
use Rattle.std.proofs.lemmas.Bool.{cases_eq}
use Rattle.std.proofs.lemmas.List.{drop_more}
use Rattle.std.specs.Str.Lines.{strip_carriage_return}
use Rattle.tb_geom.specs.declared.refusal.Refusal.{Refusal}
use Rattle.tb_geom.specs.declared.refusal.Refusal.TheVariants.{ReadFault}
use Rattle.script_text.specs.declared.command.Command.{Command}
use Rattle.script_text.specs.Held.{said_held, said_last, held_of, pushed}
use Rattle.script_text.specs.Lines.{said, whole_lines, last_part, lines_of, if_any}
use Rattle.watched_io.specs.Reads.{Input, IsOpen, Gave, IsEntire, IsCutOff}
use Rattle.script_runner.specs.Script.{ScriptState, SaidAnswers, Written}
use Rattle.script_runner.specs.Endings.{LineEnds}
use Rattle.script_runner.specs.Progress.{SoFar}
use Rattle.script_runner.specs.Runs.{Stops, ScriptEnds}
use Rattle.watched_io.specs.Writes.{Output}
use Rattle.script_text.proofs.Cuts.{whole_lines-newline, last_part-newline, whole_lines-other, last_part-other, pushed-held_of, said_held-held_of, said_last-held_of}
use Rattle.watched_io.proofs.Written.{Sent-nil, Sent-trans, BrokeOff-after}

-- one more line at the end
pub written-more : (raw : Bool) (old : ScriptState) (lines : List (List ℕ)) (text : List ℕ) (middle : ScriptState) (line more : List ℕ) (new : ScriptState)
    → Written raw old lines text middle → SaidAnswers raw middle (said middle.version line) more new → Written raw old (lines ++ line ∷ []) (text ++ more) new
written-more raw old [] text middle line more new (none, same) answered =
    (new, more, [], subst (λ s. SaidAnswers raw s (said s.version line) more new) same answered, (refl, refl), ap (λ l. l ++ more) none ∙ sym (append-nil more))
written-more raw old (first ∷ lines) text middle line more new (s, front, others, one, rest, whole) answered =
    (s, front, others ++ more, one, written-more raw s lines others middle line more new rest answered, ap (λ l. l ++ more) whole ∙ append_assoc front others more)

held-newline : (seen : List ℕ) → Some [] ≡ held_of (last_part (seen ++ 10 ∷ []))
unfolding held_of
held-newline seen = ap held_of (sym (last_part-newline seen))

one_more : (input rest : Option (List ℕ)) (seen : List ℕ) (b : ℕ) (ahead : List ℕ) → Consumes input rest (seen ++ b ∷ ahead) → Consumes input rest ((seen ++ b ∷ []) ++ ahead)
one_more input rest seen b ahead read = subst (Consumes input rest) (sym (append_assoc seen (b ∷ []) ahead)) read

-- a reader at its end has given all
whole-read : (input rest : Option (List ℕ)) (script : List ℕ) → Consumes input rest script → IsAtEnd rest → IfSome input (λ whole. whole ≡ script)
whole-read None rest script read end = tt
whole-read (Some xs) None script read end = absurd read
whole-read (Some xs) (Some ys) script read end = read ∙ ap (λ l. script ++ l) end ∙ append-nil script

-- `raw` says whether the run is raw; `first` is the script at the start, `input` and `old` the reader and the writer
module _ (raw : Bool) (first : ScriptState) (input : Input) (old : Output) where
  pub start : IsOpen input → SoFar raw first input old input old first (Some []) []
  unfolding whole_lines last_part held_of
  start going = record { seen = []; text = []; going = going; read = Consumes-nil input.remaining; sent = Sent-nil old; answered = (refl, refl); held = refl }

  module _ (rest : Input) (new : Output) (state : ScriptState) (part : Option (List ℕ)) where
    -- some bytes were read
    pub read_more : (rest' : Input) (chunk : List ℕ) → SoFar raw first input old rest new state part [] → Gave rest rest' chunk → 0 < length chunk → SoFar raw first input old rest' new state part chunk
    read_more rest' chunk so_far gave some = record {
      seen = so_far.seen;
      text = so_far.text;
      going = record { unfailed = gave.quiet ∙ so_far.going.unfailed; unended = gave.some some ∙ so_far.going.unended };
      read = Consumes-trans input.remaining rest.remaining rest'.remaining so_far.seen chunk (subst (Consumes input.remaining rest.remaining) (append-nil so_far.seen) so_far.read) gave.consumed;
      sent = so_far.sent;
      answered = so_far.answered;
      held = so_far.held;
    }

    -- the next byte of what was read
    pub next : (chunk : List ℕ) (i : ℕ) → i < length chunk → SoFar raw first input old rest new state part (drop i chunk) → SoFar raw first input old rest new state part (get_or chunk i 0 ∷ drop (i + 1) chunk)
    next chunk i within so_far = subst (SoFar raw first input old rest new state part) (drop_more chunk i 0 within) so_far

    -- the line that a newline ends here was answered
    module _ (b : ℕ) (ahead : List ℕ) (so_far : SoFar raw first input old rest new state part (b ∷ ahead)) (state' : ScriptState) (new' : Output) where
      ended : (ten : b ≡ 10) (more : List ℕ) → SaidAnswers raw state (said_held state.version part) more state' → Written raw first (whole_lines (so_far.seen ++ b ∷ [])) (so_far.text ++ more) state'
      ended ten more answered =
          let line = strip_carriage_return (last_part so_far.seen) in
          let says : said_held state.version part ≡ said state.version line = ap (said_held state.version) so_far.held ∙ said_held-held_of state.version (last_part so_far.seen) in
          rw ten (subst (λ ls. Written raw first ls (so_far.text ++ more) state') (sym (whole_lines-newline so_far.seen))
          (written-more raw first (whole_lines so_far.seen) so_far.text state line more state' so_far.answered (subst (λ s. SaidAnswers raw state s more state') says answered)))

      -- the byte is taken, and the run goes on
      pub taken : {X : Type 0} (part' : Option (List ℕ)) (x : X)
          → (b ≡ 10 → LineEnds raw state (said_held state.version part) state' new new' (Ok x)) → (b ≡ 10 → part' ≡ Some [])
          → (b ≢ 10 → (part' ≡ pushed part b) × (state' ≡ state) × (new' ≡ new))
          → SoFar raw first input old rest new' state' part' ahead
      taken part' x newline cleared other =
          elim (cases_eq b 10) [
            | inl ten ↦ elim (newline ten) [
              | inl done ↦ record {
                seen = so_far.seen ++ b ∷ [];
                text = so_far.text ++ done.0;
                going = so_far.going;
                read = one_more _ _ so_far.seen b ahead so_far.read;
                sent = Sent-trans old new new' so_far.text done.0 so_far.sent done.2;
                answered = ended ten done.0 done.1;
                held = rw ten (cleared ten ∙ held-newline so_far.seen);
              }
              | inr none ↦ absurd none.2
            ]
            | inr ne ↦
                let (pushes, same, kept) = other ne in
                record {
                  seen = so_far.seen ++ b ∷ [];
                  text = so_far.text;
                  going = so_far.going;
                  read = one_more _ _ so_far.seen b ahead so_far.read;
                  sent = rw kept so_far.sent;
                  answered = rw (whole_lines-other so_far.seen b ne, same) so_far.answered;
                  held = pushes ∙ ap (λ p. pushed p b) so_far.held ∙ pushed-held_of (last_part so_far.seen) b ∙ ap held_of (sym (last_part-other so_far.seen b ne));
                }
          ]

      -- the byte is taken, and the run stops
      pub taken_last : (X : Type 0) (e : Refusal) → (b ≡ 10 → LineEnds {X = X} raw state (said_held state.version part) state' new new' (Err e)) → (b ≢ 10 → ⊥) → Stops raw first input rest old new' state' e
      taken_last X e newline other =
          elim (cases_eq b 10) [
            | inl ten ↦ elim (newline ten) [
              | inl done ↦ subst (Stops raw first input rest old new' state') (sym done.2.0) (record {
                seen = so_far.seen ++ b ∷ [];
                ahead = ahead;
                lines = whole_lines (so_far.seen ++ b ∷ []);
                text = so_far.text ++ done.0;
                read = one_more _ _ so_far.seen b ahead so_far.read;
                quiet = so_far.going.unfailed;
                taken = inl refl;
                answered = ended ten done.0 done.1;
                broken = BrokeOff-after old new new' so_far.text done.0 so_far.sent done.2.1;
              })
              | inr none ↦ subst (Stops raw first input rest old new' state') (sym none.2.memory) (record {
                seen = so_far.seen ++ b ∷ [];
                ahead = ahead;
                before = whole_lines so_far.seen;
                line = strip_carriage_return (last_part so_far.seen);
                command = none.0;
                text = so_far.text;
                read = one_more _ _ so_far.seen b ahead so_far.read;
                quiet = so_far.going.unfailed;
                taken = inl (rw ten (sym (whole_lines-newline so_far.seen)));
                says = sym (ap (said_held state.version) so_far.held ∙ said_held-held_of state.version (last_part so_far.seen)) ∙ none.1;
                middle = state;
                makes = none.2.makes;
                same = none.2.same;
                answered = so_far.answered;
                sent = rw none.2.silent so_far.sent;
              })
            ]
            | inr ne ↦ absurd (other ne)
          ]

    -- nothing is ahead: all that was read was taken
    all_taken : (rest' : Input) → Consumes rest.remaining rest'.remaining [] → (so_far : SoFar raw first input old rest new state part []) → Consumes input.remaining rest'.remaining so_far.seen
    all_taken rest' none so_far = subst (Consumes input.remaining rest'.remaining) (append-nil (so_far.seen ++ []) ∙ append-nil so_far.seen) (Consumes-trans input.remaining rest.remaining rest'.remaining (so_far.seen ++ []) [] so_far.read none)

    -- a read failed, or there were as many as there may be
    pub stops_reading : (rest' : Input) (e : Refusal) → SoFar raw first input old rest new state part [] → e ≡ ReadFault → Consumes rest.remaining rest'.remaining []
        → IsCutOff rest' → Stops raw first input rest' old new state e
    stops_reading rest' e so_far fault none why = subst (Stops raw first input rest' old new state) (sym fault) (record {
      seen = so_far.seen;
      text = so_far.text;
      read = all_taken rest' none so_far;
      answered = so_far.answered;
      sent = so_far.sent;
      why = why;
    })

    -- the script came to its end, and what was left of it was answered
    module _ (rest' : Input) (so_far : SoFar raw first input old rest new state part []) (gave : Gave rest rest' []) (state' : ScriptState) (new' : Output) where
      -- all of the input
      entire : IsEntire input rest' so_far.seen
      entire =
          let all : Consumes input.remaining rest'.remaining so_far.seen = all_taken rest' gave.consumed so_far in
          record { read = all; whole = whole-read input.remaining rest'.remaining so_far.seen all (gave.none refl).0; ended = (gave.none refl).1 }

      -- no byte is ahead of it
      none_ahead : Consumes input.remaining rest'.remaining (so_far.seen ++ [])
      none_ahead = subst (Consumes input.remaining rest'.remaining) (sym (append-nil so_far.seen)) entire.read

      unfailed : rest'.has_failed ≡ false
      unfailed = gave.quiet ∙ so_far.going.unfailed

      -- the last line, if there is one, was answered
      answered_last : (left : List ℕ) → (more : List ℕ) → SaidAnswers raw state (said_last state.version (held_of left)) more state' → Written raw first (whole_lines so_far.seen ++ if_any left) (so_far.text ++ more) state'
      unfolding held_of
      answered_last [] more (silent, same) =
          let t : so_far.text ++ more ≡ so_far.text = ap (λ l. so_far.text ++ l) silent ∙ append-nil so_far.text in
          rw (append-nil (whole_lines so_far.seen), t, same) so_far.answered
      answered_last (b ∷ bs) more answered =
          written-more raw first (whole_lines so_far.seen) so_far.text state (b ∷ bs) more state' so_far.answered (subst (λ s. SaidAnswers raw state s more state') (said_last-held_of state.version b bs) answered)

      at_last : (more : List ℕ) → SaidAnswers raw state (said_last state.version part) more state' → Written raw first (lines_of so_far.seen) (so_far.text ++ more) state'
      at_last more answered = answered_last (last_part so_far.seen) more (subst (λ p. SaidAnswers raw state (said_last state.version p) more state') so_far.held answered)

      -- the last line is a command
      last_command : (left : List ℕ) (command : Command) → said_last state.version (held_of left) ≡ Some (Ok command) → (whole_lines so_far.seen ++ if_any left ≡ whole_lines so_far.seen ++ left ∷ []) × (said state.version left ≡ Some (Ok command))
      unfolding held_of
      last_command [] command says = absurd (cc)
      last_command (b ∷ bs) command says = (refl, sym (said_last-held_of state.version b bs) ∙ says)

      finished_with : {X : Type 0} (r : Result X Refusal) → LineEnds raw state (said_last state.version part) state' new new' r → ScriptEnds raw first input rest' old new' state' r
      finished_with (Ok x) ends =
          elim ends [
            | inl done ↦ record {
              script = so_far.seen;
              text = so_far.text ++ done.0;
              entire = entire;
              quiet = unfailed;
              answered = at_last done.0 done.1;
              sent = Sent-trans old new new' so_far.text done.0 so_far.sent done.2;
            }
            | inr bad ↦ absurd bad.2
          ]
      finished_with (Err e) ends =
          elim ends [
            | inl done ↦ subst (Stops raw first input rest' old new' state') (sym done.2.0) (record {
              seen = so_far.seen;
              ahead = [];
              lines = lines_of so_far.seen;
              text = so_far.text ++ done.0;
              read = none_ahead;
              quiet = unfailed;
              taken = inr (entire, refl, refl);
              answered = at_last done.0 done.1;
              broken = BrokeOff-after old new new' so_far.text done.0 so_far.sent done.2.1;
            })
            | inr none ↦
                let left = last_part so_far.seen in
                let last = last_command left none.0 (sym (ap (said_last state.version) so_far.held) ∙ none.1) in
                subst (Stops raw first input rest' old new' state') (sym none.2.memory) (record {
                  seen = so_far.seen;
                  ahead = [];
                  before = whole_lines so_far.seen;
                  line = left;
                  command = none.0;
                  text = so_far.text;
                  read = none_ahead;
                  quiet = unfailed;
                  taken = inr (entire, refl, sym last.0);
                  says = last.1;
                  middle = state;
                  makes = none.2.makes;
                  same = none.2.same;
                  answered = so_far.answered;
                  sent = rw none.2.silent so_far.sent;
                })
          ]

      pub finished : {X : Type 0} (r : Result X Refusal) (said : Option (Result Command Refusal)) → said ≡ said_last state.version part → LineEnds raw state said state' new new' r → ScriptEnds raw first input rest' old new' state' r
      finished r said says ends = finished_with r (subst (λ s. LineEnds raw state s state' new new' r) says ends)
