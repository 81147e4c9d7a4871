use Rattle.std.proofs.Common.{rules, sym, ◌∙◌, SFits, w32}
use Rattle.std.proofs.lemmas.Int.{to_z-of_z}
use Rattle.text_mgr.proofs.ToldSteps.{no_offset, place_tells}
use Rattle.text_mgr.proofs.texts.Texts.place_of.Goals as goal

pub returns-in-Some : goal.returns-in-Some
returns-in-Some g c o =
    let number : SFits w32 c.args.asked.number = search rules in
    place_tells _ c.args.windows.now c.args.self.now c.in_ok-spot.spot c.args.asked c.in_ok-spot.ensures c.index.result.now c.index.ensures c.in-Some.offset c.place_told.result
    (sym (simp to_z-of_z at c.offset_named.ensures) ∙ c.in-Some.is) c.place_told.ensures o

pub returns-in-None : goal.returns-in-None
returns-in-None g c o =
    let number : SFits w32 c.args.asked.number = search rules in
    no_offset _ c.args.windows.now c.args.self.now c.in_ok-spot.spot c.args.asked c.in_ok-spot.ensures (sym (simp to_z-of_z at c.offset_named.ensures) ∙ c.in-None.is) o
