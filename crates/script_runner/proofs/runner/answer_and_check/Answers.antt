use Rattle.std.proofs.Common.{◌≡◌, Ok, rules}
use Rattle.script_runner.proofs.Checked.{followed_by_check, kept_desk}
use Rattle.script_runner.proofs.runner.answer_and_check.Goals as goal

pub check-requires-clause-kept : goal.check-requires-clause-kept
check-requires-clause-kept g c desk some = kept_desk _ _ _ _ _ c.answer_all.new.script.session.desk c.answer_all.new.script.session.font desk c.answer_all.ensures.ready some

pub returns-in-Ok-clause-ends : goal.returns-in-Ok-clause-ends
returns-in-Ok-clause-ends g c =
    let well : c.answer_all.result ≡ Ok c.in-Ok.field-0 = search rules in
    followed_by_check c.args.writer.now.raw c.args.check _ _ _ _ _ _ _ _ _ _ c.if-check.true well c.answer_all.ensures.ends (c.check.ensures.line _)
