-- How a script takes a command that is asked of its desk.
use Rattle.std.specs.Prelude.{is_none}
use Rattle.std.proofs.Common.{◌≡◌, ◌∙◌, ◌&&◌, ◌≢◌, ℤ, Bool, true, inl, inr, Option, None, Some, Result, Ok, Err, refl, sym, ap, subst}
use Rattle.tb_geom.specs.declared.refusal.Refusal.{Refusal}
use Rattle.script_text.specs.declared.command.Command.{Command}
use Rattle.script_text.specs.declared.command.Command.TheVariants.{Version}
use Rattle.script_runner.specs.Endings.{CommandEnds, TakeEnds}
use Rattle.script_runner.specs.Script.{ScriptState, Takes, why_unread}
use Rattle.script_runner.specs.Session.{SessionState, makes_desk}
use Rattle.watched_io.specs.Writes.{Output}

-- nothing but a refusal may be there
pub none_of : (why : Option Refusal) → ((e : Refusal) → why ≢ Some e) → why ≡ None
none_of None other = refl
none_of (Some e) other = absurd (other e refl)

-- it is asked of the desk
pub asked_so : {X : Type 0} (raw : Bool) (old : ScriptState) (command : Command) (session : SessionState) (before after : Output) (r : Result X Refusal) → ((number : ℤ) → command ≢ Version number)
    → why_unread old.is_begun old.version command ≡ None → CommandEnds raw old.session command session before after r
    → TakeEnds raw old command (record old { session = session; is_begun = true }) before after r
asked_so raw old (Version number) session before after r other none ends = absurd (other number refl)
asked_so raw old command session before after r other none (inl done) =
    inl (done.0, subst (λ w. Takes raw w old command done.0 (record old { session = session; is_begun = true })) (sym none) (session, done.1, refl), done.2)
asked_so raw old command session before after (Ok x) other none (inr bad) = absurd bad
asked_so raw old command session before after (Err e) other none (inr bad) =
    inr (record { makes = (λ i. is_none (none i) && makes_desk old.session command) ∙ bad.makes; same = ap (λ s. record old { session = s; is_begun = true }) bad.same; silent = bad.silent; memory = bad.memory })
