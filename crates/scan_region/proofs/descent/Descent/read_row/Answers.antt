use Rattle.std.proofs.Common.{◌<ℤ◌, ◌+ℤ◌, ◌∙◌, pos, sym, subst, arith, rules, SFits, w32}
use Rattle.std.proofs.lemmas.Int.{ints, to_z-of_z}
use Rattle.tb_geom.specs.Points.{PixelSet}
use Rattle.scan_region.specs.Descents.{IsDescent}
use Rattle.scan_region.specs.declared.descent.Descent.{Descent}
use Rattle.tb_geom.proofs.Steps.{fits_next}
use Rattle.scan_region.proofs.KeptRuns.{read_sides, read_same, read_spans}
use Rattle.scan_region.proofs.WalkSteps.{own_sides}
use Rattle.scan_region.proofs.descent.Descent.read_row.Goals as goal

pub overflow_add-self : goal.overflow_add-self
overflow_add-self c =
    let d = c.args.self.now in
    let fits : SFits w32 d.next = search rules in
    simp to_z-of_z (fits_next d.next (pos 2147483647) fits (search rules) c.requires.row)

pub down-requires-clause-row : goal.down-requires-clause-row
down-requires-clause-row c =
    let d = c.args.self.now in
    let fits : SFits w32 d.next = search rules in
    simp to_z-of_z c.requires.row

pub down-requires-clause-column : goal.down-requires-clause-column
down-requires-clause-column c =
    let d = c.args.self.now in
    let fits : SFits w32 d.left = search rules in
    simp to_z-of_z c.requires.descent.1.column

pub returns : goal.returns
returns c =
    let d = c.args.self.now in
    let fits : SFits w32 d.next = search rules in
    let fits_l : SFits w32 d.left = search rules in
    let fits_u : SFits w32 c.keep_runs-self.result = search rules in
    let fits_n : SFits w32 (d.next +ℤ pos 1) = fits_next d.next (pos 2147483647) fits (search rules) c.requires.row in
    let down = simp to_z-of_z at c.down.ensures in
    let kept = c.keep_runs-self.ensures in
    let past = simp to_z-of_z at c.pass_empty.ensures in
    let v = kept.v ∙ down.v in
    let next = past.next in
    let after = kept.sides d.left (own_sides d.walk c.down.new.self d.left down.sides) in
    let here : Descent = record {
      left = d.left;
      v = d.next;
      kept = c.keep_runs-self.new.kept;
      told = 0;
      walk = c.keep_runs-self.new.walk;
      next = d.next +ℤ pos 1;
      until = c.keep_runs-self.result;
      bottom = d.bottom;
    } in
    let read : (s : PixelSet) → IsDescent d s → IsDescent here s = λ s r. record {
      walk = kept.walk s (down.walk s r.walk);
      sides = read_sides s d c.down.new.self c.keep_runs-self.new.walk c.keep_runs-self.new.kept.items c.keep_runs-self.result down.v down.at down.sides after (kept.runs s (down.walk s r.walk)) (kept.same s (down.walk s r.walk)) c.requires.below;
      order = omega (arith, ints);
      column = r.column;
      same = read_same s d c.down.new.self c.keep_runs-self.new.walk c.keep_runs-self.new.kept.items c.keep_runs-self.result down.v down.at down.sides after (kept.runs s (down.walk s r.walk)) (kept.same s (down.walk s r.walk)) c.requires.below;
      whole = λ m. kept.whole (subst (λ z. z <ℤ c.keep_runs-self.result) (sym down.v) m) s;
    } in
    record {
      down = λ s r none. record { descent = past.descent s (read s r); spans = past.spans s (read s r) ∙ read_spans s d c.down.new.self c.keep_runs-self.new.walk c.keep_runs-self.new.kept.items c.keep_runs-self.result down.v down.at down.sides after (kept.runs s (down.walk s r.walk)) (kept.same s (down.walk s r.walk)) c.requires.below };
      next = omega (arith, ints);
      bottom = past.bottom;
    }
