use Rattle.std.proofs.lemmas.Int.{to_z-of_z}
use Rattle.std.proofs.Common.{rules, SFits, w32}
use Rattle.region_rows.proofs.LayerSteps.{until_next, until_last}
use Rattle.region_rows.proofs.layers.Layer.until.Goals as goal

pub returns-in-Some : goal.returns-in-Some
returns-in-Some c =
    let fits : SFits w32 c.in-Some.next.v = search rules in
    simp to_z-of_z (λ words s f v t h w a b. until_next words c.args.self.now s f v c.in-Some.next.v _ _ t c.requires c.in-Some.ensures.some h w a b)

pub returns-in-None : goal.returns-in-None
returns-in-None c = λ words s f v t h w a b. until_last words c.args.self.now s f v t c.in-None.ensures.none h w a
