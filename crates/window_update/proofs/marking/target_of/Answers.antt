use Rattle.std.proofs.Common.{Some, None}
use Rattle.window_update.proofs.AreaLemmas.{area_refused, area_accepted}
use Rattle.window_update.proofs.MarkLemmas.{not_missing}
use Rattle.window_update.proofs.marking.target_of.Goals as goal

pub returns-in-Ok-Some : goal.returns-in-Ok-Some
returns-in-Ok-Some g c =
    let judged = rw c.in-Ok-Some.is-0 at c.judge.ensures in
    let stands = rw c.in-Ok-Some.is-1 at c.find.ensures in
    (stands, judged.1, (None, judged.0, area_accepted _ (not_missing _ c.args.windows.now c.requires.kept c.in-Ok-Some.at stands.0 c.args.marking.now.window stands)))

pub returns-in-Err-Some : goal.returns-in-Err-Some
returns-in-Err-Some g c =
    let judged = rw c.in-Err-Some.is-0 at c.judge.ensures in
    let stands = rw c.in-Err-Some.is-1 at c.find.ensures in
    (Some c.in-Err-Some.refusal, judged, area_refused c.args.marking.now.area c.in-Err-Some.refusal _ (not_missing _ c.args.windows.now c.requires.kept c.in-Err-Some.field-0-1 stands.0 c.args.marking.now.window stands) judged)
