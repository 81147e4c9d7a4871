use Rattle.std.proofs.Common.{sym, ◌∙◌, arith, rules}
use Rattle.window_mgr.proofs.FindLemmas as finding
use Rattle.window_mgr.proofs.manager.WindowManager.found_at.Goals as goal

pub at-requires : goal.at-requires
at-requires g c =
    let low = finding.within _ c.args.self.now c.requires.asked c.args.point c.in-Some.at (sym c.window_at.ensures ∙ c.in-Some.is) in
    omega arith

pub found-requires-clause-settled : goal.found-requires-clause-settled
found-requires-clause-settled g c =
    finding.settled_at _ c.args.self.now c.requires.asked c.args.point c.in-Some.at c.at.result.now (finding.within _ c.args.self.now c.requires.asked c.args.point c.in-Some.at (sym c.window_at.ensures ∙ c.in-Some.is)) (search rules)

pub returns-in-Some : goal.returns-in-Some
returns-in-Some g c =
    c.found.ensures ∙ sym (finding.found_window_is _ c.args.self.now c.requires.asked c.args.point c.in-Some.at c.at.result.now (search rules) (sym c.window_at.ensures ∙ c.in-Some.is) (search rules))

pub returns-in-None : goal.returns-in-None
returns-in-None g c =
    sym (finding.found_desk_is _ c.args.self.now c.requires.asked c.args.point (search rules) (search rules) (sym c.window_at.ensures ∙ c.in-None.is))
