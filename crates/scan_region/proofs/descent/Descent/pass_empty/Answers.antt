use Rattle.std.proofs.Common.{◌≡◌, ◌<ℤ◌, ◌≤ℤ◌, [], rules, arith, SFits, w32}
use Rattle.std.proofs.lemmas.Int.{ints, clamps, to_z-of_z}
use Rattle.std.proofs.lemmas.List.{nil_from_length}
use Rattle.scan_region.proofs.KeptRuns.{descent_past, spans_past}
use Rattle.scan_region.proofs.descent.Descent.pass_empty.Goals as goal

pub returns-then-self-2-clause-descent : goal.returns-then-self-2-clause-descent
returns-then-self-2-clause-descent c =
    let d = c.args.self.now in
    let fits_n : SFits w32 d.next = search rules in
    let fits_u : SFits w32 d.until = search rules in
    let fits_b : SFits w32 d.bottom = search rules in
    let fits_m : SFits w32 c.min-self.result = search rules in
    let until : d.next <ℤ d.until = search (rules, ints) in
    let bottom : d.next <ℤ d.bottom = search (rules, ints) in
    let least = simp to_z-of_z at c.min-self.ensures.value in
    let on : d.next ≤ℤ c.min-self.result = rw least (omega (arith, ints, clamps)) in
    simp to_z-of_z (λ s r. descent_past d s c.min-self.result on r)

pub returns-then-self-2-clause-spans : goal.returns-then-self-2-clause-spans
returns-then-self-2-clause-spans c =
    let d = c.args.self.now in
    let fits_n : SFits w32 d.next = search rules in
    let fits_u : SFits w32 d.until = search rules in
    let fits_b : SFits w32 d.bottom = search rules in
    let fits_m : SFits w32 c.min-self.result = search rules in
    let until : d.next <ℤ d.until = search (rules, ints) in
    let bottom : d.next <ℤ d.bottom = search (rules, ints) in
    let least = simp to_z-of_z at c.min-self.ensures.value in
    let on : d.next ≤ℤ c.min-self.result = rw least (omega (arith, ints, clamps)) in
    let upto : c.min-self.result ≤ℤ d.until = rw least (omega (arith, ints, clamps)) in
    let within : c.min-self.result ≤ℤ d.bottom = rw least (omega (arith, ints, clamps)) in
    let none : d.kept.items ≡ [] = nil_from_length _ (search rules) in
    simp to_z-of_z (λ s r. spans_past d s c.min-self.result none on upto within r)
