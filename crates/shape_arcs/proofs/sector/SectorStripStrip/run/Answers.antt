use Rattle.std.proofs.Common.{◌&&◌, ap, ◌∙◌, rules, SFits, w32}
use Rattle.std.proofs.lemmas.Int.{to_z-of_z}
use Rattle.shape_strips.specs.Rounds.{round_holds}
use Rattle.shape_arcs.proofs.SectorLemmas.{shared_sector}
use Rattle.shape_arcs.proofs.sector.SectorStripStrip.run.Goals as goal

pub returns : goal.returns
returns c =
    let fits_v = c.ranges.v in
    let fits_start : SFits w32 c.args.self.now.start = search rules in
    let fits_end : SFits w32 c.args.self.now.end = search rules in
    let oval = simp to_z-of_z at c.run-oval.ensures in
    let from = simp to_z-of_z at c.half_run-from.ensures in
    let to = simp to_z-of_z at c.half_run-to.ensures in
    λ h. c.sect-2.ensures h
    ∙ (λ i. (oval h ∙ ap (λ k. round_holds c.args.self.now.rect k (record { h = h; v = c.args.v })) c.of_oval-corner.ensures) i && (c.sect.ensures h ∙ (λ j. from h j && to h j)) i)
    ∙ shared_sector c.args.self.now.rect c.args.self.now.start c.args.self.now.end c.args.self.now.narrow (record { h = h; v = c.args.v })
