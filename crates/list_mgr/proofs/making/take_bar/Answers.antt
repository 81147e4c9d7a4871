use Rattle.std.proofs.Common.{◌≡◌, true, rules}
use Rattle.list_mgr.proofs.Offered.{bar_missing}
use Rattle.list_mgr.proofs.making.take_bar.Goals as goal

pub returns-in-Err : goal.returns-in-Err
returns-in-Err g c =
    let wanted : c.args.wanted ≡ true = search rules in
    bar_missing c.args.wanted _ _ c.in-Err.field-0 wanted c.requires c.in-Err.ensures.refused c.in-Err.ensures.kept
