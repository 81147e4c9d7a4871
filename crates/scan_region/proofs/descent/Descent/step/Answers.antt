use Rattle.std.proofs.Common.{◌<ℤ◌, ◌+ℤ◌, pos, arith, rules, SFits, w32}
use Rattle.std.proofs.lemmas.Int.{ints, to_z-of_z}
use Rattle.tb_geom.proofs.Steps.{fits_next}
use Rattle.scan_region.proofs.KeptRuns.{first_kept}
use Rattle.scan_region.proofs.descent.Descent.step.Goals as goal

pub overflow_add-self : goal.overflow_add-self
overflow_add-self c =
    let d = c.args.self.now in
    let fits : SFits w32 d.next = search rules in
    simp to_z-of_z (fits_next d.next (pos 2147483647) fits (search rules) c.requires.row)

pub returns-clause-down : goal.returns-clause-down
returns-clause-down c =
    let d = c.args.self.now in
    let fits : SFits w32 d.next = search rules in
    let fits_u : SFits w32 d.until = search rules in
    let fits_n : SFits w32 (d.next +ℤ pos 1) = fits_next d.next (pos 2147483647) fits (search rules) c.requires.row in
    let same : d.next <ℤ d.until = search (rules, ints) in
    simp to_z-of_z (λ s r none.
    let order = r.order in
    record {
      descent = record { walk = r.walk; sides = r.sides; order = omega (arith, ints); column = r.column; same = λ w a b. r.same w (omega (arith, ints)) b; whole = λ m. none };
      spans = first_kept s d.left d.walk.right d.next d.until d.bottom d.kept.items _ c.requires.below same r.same none;
    })
