use Rattle.std.proofs.Common.{rules, ◌≡◌, pos, to_z, SFits, w32, arith}
use Rattle.std.proofs.lemmas.Int.{to_z-of_z}
use Rattle.draw_port.proofs.SeenLemmas.{seen_run}
use Rattle.draw_port.proofs.rules.run_from_origin.Goals as goal

pub returns : goal.returns
returns c =
    let fits_h : SFits w32 c.in_ok-h.h = search rules in
    let fits_v : SFits w32 c.saturating_sub.result = search rules in
    let fits_sh : SFits w32 c.args.start.h = search rules in
    let fits_sv : SFits w32 c.args.start.v = search rules in
    let fits_oh : SFits w32 c.args.origin.h = search rules in
    let fits_ov : SFits w32 c.args.origin.v = search rules in
    let short = c.requires.short in
    let long : to_z w32 c.args.count ≡ pos c.args.count = search (rules, arith) in
    let first = simp to_z-of_z at c.in_ok-h.ensures in
    let last = simp (long, to_z-of_z) at c.in_ok-checked_add.ensures in
    simp to_z-of_z (seen_run c.args.origin c.args.start c.args.count c.in_ok-h.h c.saturating_sub.result short fits_h last.0 first.1 (simp to_z-of_z at c.saturating_sub.ensures))
