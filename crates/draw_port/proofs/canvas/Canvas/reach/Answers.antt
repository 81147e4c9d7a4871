use Rattle.std.proofs.Common.{pos, negsuc, ◌-ℤ◌, arith, rules, SFits, w32}
use Rattle.std.proofs.lemmas.Int.{ints}
use Rattle.std.proofs.lemmas.Bool.{and_parts}
use Rattle.tb_geom.specs.Rects.{between}
use Rattle.draw_port.proofs.ClippedLemmas.{fits_back, reach_around}
use Rattle.draw_port.proofs.canvas.Canvas.reach.Goals as goal

pub returns-clause-around : goal.returns-clause-around
returns-clause-around c =
    let canvas = c.args.self.now in
    let o = canvas.origin in
    let limits = c.bounds.ensures.limits in
    let near = and_parts (between (negsuc 999999999) o.h (pos 1000000000)) (between (negsuc 999999999) o.v (pos 1000000000)) canvas.near in
    let fits_h : SFits w32 (pos 0 -ℤ o.h) = fits_back o.h near.0 in
    let fits_v : SFits w32 (pos 0 -ℤ o.v) = fits_back o.v near.1 in
    reach_around canvas _ c.bounds.result c.sect.result c.placed.result _ limits.0 limits.1 canvas.near (search (rules, arith, ints)) (search (rules, arith, ints)) c.sect.ensures.pixels c.bounds.ensures.pixels c.placed.ensures
