use Rattle.std.proofs.Common.{ap, ◌∙◌}
use Rattle.std.proofs.lemmas.Int.{to_z-of_z}
use Rattle.shape_strips.specs.Rounds.{round_holds}
use Rattle.shape_strips.proofs.RoundLemmas.{outside_rect}
use Rattle.shape_arcs.proofs.arc.Arc.oval_run.Goals as goal

pub placed_run-requires : goal.placed_run-requires
placed_run-requires c = record {
  in_range = c.args.self.now.in_range;
  around = λ p out. outside_rect c.args.self.now.rect c.of_oval-corner.result p out;
}

pub returns-clause-pixels : goal.returns-clause-pixels
returns-clause-pixels c =
    let fits_v = c.ranges.v in
    let oval = simp to_z-of_z at c.placed_run.ensures.pixels in
    λ h. oval h ∙ ap (λ k. round_holds c.args.self.now.rect k (record { h = h; v = c.args.v })) c.of_oval-corner.ensures
