use Rattle.std.proofs.Common.{ap, sym}
use Rattle.std.proofs.lemmas.Int.{to_z-of_z}
use Rattle.region_rows.specs.Edges.{differ}
use Rattle.region_rows.proofs.LayerSteps.{passed}
use Rattle.region_rows.proofs.layers.Layer.pass.Goals as goal

pub returns-then-is_turn-clause-layer : goal.returns-then-is_turn-clause-layer
returns-then-is_turn-clause-layer c =
    let fits = c.ranges.to in
    λ s v at on steady r. passed _ c.args.self.now s v at c.args.to c.is_turn.result _ (sym (ap (λ t. differ t c.args.self.now.counts) c.if-is_turn.true)) (simp to_z-of_z at c.is_turn.ensures) on c.requires.right steady r

pub returns-else-is_turn-clause-layer : goal.returns-else-is_turn-clause-layer
returns-else-is_turn-clause-layer c =
    let fits = c.ranges.to in
    λ s v at on steady r. passed _ c.args.self.now s v at c.args.to c.is_turn.result _ (sym (ap (λ t. differ t c.args.self.now.counts) c.if-is_turn.false)) (simp to_z-of_z at c.is_turn.ensures) on c.requires.right steady r
