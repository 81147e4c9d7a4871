use Rattle.std.proofs.Common.{rules, sym, ◌∙◌, SFits, w32}
use Rattle.std.proofs.lemmas.Int.{to_z-of_z}
use Rattle.text_mgr.proofs.ToldSteps.{line_tells, no_line}
use Rattle.text_mgr.proofs.texts.Texts.line.Goals as goal

pub returns-in-Some : goal.returns-in-Some
returns-in-Some g c o =
    let number : SFits w32 c.args.asked.number = search rules in
    line_tells _ c.args.windows.now c.args.self.now c.in_ok-spot.spot c.args.asked c.in_ok-spot.ensures c.index.result.now c.index.ensures c.in-Some.told (sym (simp to_z-of_z at c.line_told.ensures) ∙ c.in-Some.is) o

pub returns-in-None : goal.returns-in-None
returns-in-None g c o =
    let number : SFits w32 c.args.asked.number = search rules in
    no_line _ c.args.windows.now c.args.self.now c.in_ok-spot.spot c.args.asked c.in_ok-spot.ensures c.index.result.now c.index.ensures (sym (simp to_z-of_z at c.line_told.ensures) ∙ c.in-None.is) o
