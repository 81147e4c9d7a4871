use Rattle.std.proofs.Common.{◌∙◌, ap, sym, SFits, w32, rules}
use Rattle.std.proofs.lemmas.Int.{to_z-of_z}
use Rattle.script_runner.specs.Script.{why_unread}
use Rattle.script_runner.proofs.script.why_unread.Goals as goal

pub returns-in-Version : goal.returns-in-Version
returns-in-Version c =
    let fits : SFits w32 c.in-Version.number = search rules in
    simp to_z-of_z at (c.why_no_version.ensures c.args.version) ∙ ap (λ k. why_unread c.args.is_begun c.args.version k) (sym c.in-Version.is)

pub returns-in-Call : goal.returns-in-Call
returns-in-Call c =
    let fits : SFits w32 c.args.version = search rules in
    simp to_z-of_z at (c.why_not_called.ensures c.args.is_begun) ∙ ap (λ k. why_unread c.args.is_begun c.args.version k) (sym c.in-Call.is)
