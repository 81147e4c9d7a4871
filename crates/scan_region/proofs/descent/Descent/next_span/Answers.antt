use Rattle.std.proofs.Common.{◌≤◌, ◌<◌, ◌≤ℤ◌, ◌∷◌, [], length, ap, sym, ◌∙◌, subst, rules, SFits, w32}
use Rattle.std.proofs.lemmas.Int.{ints, to_z-of_z}
use Rattle.scan_region.specs.Descents.{spans_left}
use Rattle.region_rows.specs.Counts.{count_to}
use Rattle.scan_region.specs.Walks.{rows_runs}
use Rattle.scan_region.proofs.KeptRuns.{descent_told, spans_told, spans_walked, spans_ended, spans_below}
use Rattle.scan_region.proofs.descent.Descent.next_span.Goals as goal

pub returns-in-Some-clause-descent : goal.returns-in-Some-clause-descent
returns-in-Some-clause-descent c = λ s r. descent_told c.rows.self s _ (c.rows.invariant.descent s r)

pub returns-in-Some-clause-some : goal.returns-in-Some-clause-some
returns-in-Some-clause-some c =
    let d = c.rows.self in
    let fits : SFits w32 d.v = search rules in
    let fits_l : SFits w32 c.in-Some.run'.now.left = search rules in
    let fits_r : SFits w32 c.in-Some.run'.now.right = search rules in
    let within : d.told < length d.kept.items = search rules in
    simp to_z-of_z (λ s r. c.rows.invariant.spans s r ∙ spans_told d s c.in-Some.run'.now c.in-Some.run'.now within (search rules))

pub row_span-requires : goal.row_span-requires
row_span-requires c = (c.requires.0, c.rows.invariant.descent c.requires.0 c.requires.1)

pub returns-in-Some-row_span-clause-descent : goal.returns-in-Some-row_span-clause-descent
returns-in-Some-row_span-clause-descent c = λ s r. c.in-Some-row_span.ensures.descent s (c.rows.invariant.descent s r)

pub returns-in-Some-row_span-clause-some : goal.returns-in-Some-row_span-clause-some
returns-in-Some-row_span-clause-some c = λ s r.
    let d = c.rows.self in
    let i = c.rows.invariant.descent s r in
    let t = c.in-Some-row_span.ensures in
    let told : length d.kept.items ≤ d.told = search rules in
    c.rows.invariant.spans s r ∙ spans_walked d s c.row_span.new.self.walk (c.in-Some-row_span.span ∷ []) told (t.some s i) t.right
    ∙ ap (λ n. c.in-Some-row_span.span ∷ spans_left n s) (sym t.kept)

pub returns-then-self-clause-descent : goal.returns-then-self-clause-descent
returns-then-self-clause-descent c = λ s r. c.row_span.ensures.descent s (c.rows.invariant.descent s r)

pub returns-then-self-clause-none : goal.returns-then-self-clause-none
returns-then-self-clause-none c = λ s r.
    let d = c.rows.self in
    let i = c.rows.invariant.descent s r in
    let t = c.in_default-row_span.ensures in
    let told : length d.kept.items ≤ d.told = search rules in
    let fits_n : SFits w32 c.row_span.new.self.next = search rules in
    let fits_b : SFits w32 c.row_span.new.self.bottom = search rules in
    let low : c.row_span.new.self.bottom ≤ℤ c.row_span.new.self.next = search (rules, ints) in
    let low_d : d.bottom ≤ℤ d.next = subst (λ n. n.bottom ≤ℤ n.next) t.kept low in
    let none = t.none s i in
    (c.rows.invariant.spans s r ∙ spans_ended d s told none.0 low_d, ap (λ n. spans_left n s) t.kept ∙ spans_ended (record d { walk = c.row_span.new.self.walk }) s told none.1 low_d)

pub step-requires-clause-descent : goal.step-requires-clause-descent
step-requires-clause-descent c = (c.requires.0, c.row_span.ensures.descent c.requires.0 (c.rows.invariant.descent c.requires.0 c.requires.1))

pub rows-preserved : goal.rows-preserved
rows-preserved c =
    let d = c.rows.self in
    let t = c.in_default-row_span.ensures in
    let told : length d.kept.items ≤ d.told = search rules in
    record {
      descent = λ s r. let i = c.rows.invariant.descent s r in (c.step.ensures.down s (t.descent s i) (t.none s i).1).descent;
      spans = λ s r.
          let i = c.rows.invariant.descent s r in
          let none = t.none s i in
          c.rows.invariant.spans s r ∙ spans_walked d s c.row_span.new.self.walk [] told (none.0 ∙ sym none.1) t.right ∙ spans_below (record d { walk = c.row_span.new.self.walk }) s told none.1
          ∙ ap (λ n. rows_runs s n.next n.left n.walk.right (count_to n.next n.bottom)) (sym t.kept) ∙ sym (c.step.ensures.down s (t.descent s i) none.1).spans;
    }
