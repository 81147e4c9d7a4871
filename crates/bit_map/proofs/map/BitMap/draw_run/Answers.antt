use Rattle.std.proofs.Common.{◌<ℤ◌, ◌∙◌, sym, ap, SFits, w32, refl, ℕ, List, length, ◌+ℤ◌, ◌-ℤ◌, ◌≤ℤ◌, pos, ◌≡◌, rules, arith}
use Rattle.std.proofs.lemmas.Int.{ints, to_z-of_z}
use Rattle.std.proofs.lemmas.List.{with_items_is}
use Rattle.bit_map.specs.Bits.{Bits, in_row}
use Rattle.bit_map.specs.Counts.{raised}
use Rattle.bit_map.specs.Rules.{IsPartRuled}
use Rattle.bit_map.proofs.BitsLemmas.{of_words}
use Rattle.bit_map.proofs.RunLemmas.{IsRunOn, first_of, starts, fits_in, few_words, near_run, whole_after, IsPartRuled-over, bit-run}
use Rattle.bit_map.proofs.CountLemmas.{counts-of, count-run}
use Rattle.bit_map.proofs.map.BitMap.draw_run.Goals as goal

pub columns_between-count-requires-clause-low : goal.columns_between-count-requires-clause-low
columns_between-count-requires-clause-low g c =
    let rising : c.args.left <ℤ c.args.right = search (rules, ints) in
    let left : SFits w32 c.args.left = search rules in
    simp to_z-of_z (starts c.args.self.now c.args.v c.args.left c.args.right rising c.requires)

run_on : (g : _) (c : goal.After-as_mut_slice g) → IsRunOn c.args.self.now c.self.inside.words.items c.args.v c.args.left c.args.right c.place-place.result c.columns_between-count.result
run_on g c = record {
  of = of_words c.args.self.now c.self.inside.width c.self.inside.height c.self.inside.words.items c.self.view_is c.self.invariant;
  rising = search (rules, ints);
  on = c.requires;
  first = search rules;
  long = search (rules, ints);
}

pub rule_run-requires-clause-within : goal.rule_run-requires-clause-within
rule_run-requires-clause-within g c =
    let fits = fits_in c.args.self.now c.self.inside.words.items c.args.v c.args.left c.args.right c.place-place.result c.columns_between-count.result (run_on g c) in
    rw c.as_mut_slice.ensures.value fits

pub rule_run-requires-clause-near : goal.rule_run-requires-clause-near
rule_run-requires-clause-near g c =
    let fits = fits_in c.args.self.now c.self.inside.words.items c.args.v c.args.left c.args.right c.place-place.result c.columns_between-count.result (run_on g c) in
    let few = few_words c.self.inside.width c.self.inside.height c.self.inside.words.items c.self.invariant in
    omega (arith, fits, few)

pub rule_run-requires-clause-columns : goal.rule_run-requires-clause-columns
rule_run-requires-clause-columns g c =
    let near = near_run c.args.self.now c.self.inside.words.items c.args.v c.args.left c.args.right c.place-place.result c.columns_between-count.result (run_on g c) in
    let left : SFits w32 c.args.left = search rules in
    let all : (c.args.left +ℤ pos c.columns_between-count.result) ≤ℤ pos 2147483647 = omega (arith, ints, near.1) in
    record { short = omega (arith, near.0); near = simp to_z-of_z all }

pub returns-then-left-right-clause-bits : goal.returns-then-left-right-clause-bits
returns-then-left-right-clause-bits g c =
    let words = c.self.inside.words.items in
    let run : IsRunOn c.args.self.now words c.args.v c.args.left c.args.right c.place-place.result c.columns_between-count.result = record {
      of = of_words c.args.self.now c.self.inside.width c.self.inside.height words c.self.view_is c.self.invariant;
      rising = search (rules, ints);
      on = c.requires;
      first = search rules;
      long = search (rules, ints);
    } in
    let part : IsPartRuled (g.R.Rule.value c.args.rule.now) (first_of c.args.v c.args.left) c.place-place.result c.columns_between-count.result c.as_mut_slice.result.now c.rule_run.new.words = search rules in
    let long = part.all ∙ c.as_mut_slice.ensures.len in
    let new = with_items_is c.self.inside.words c.rule_run.new.words long in
    bit-run (g.R.Rule.value c.args.rule.now) c.args.self.now _ words _ c.args.v c.args.left c.args.right c.place-place.result c.columns_between-count.result run
    (record { whole = whole_after c.self.inside.width c.self.inside.height words _ (ap (λ (l : List ℕ). length l) new ∙ part.all ∙ ap (λ (l : List ℕ). length l) c.as_mut_slice.ensures.value) c.self.invariant; black = refl })
    (IsPartRuled-over c.as_mut_slice.ensures.value (sym new) part) (ap (λ (m : Bits). m.width) c.self.view_is) (ap (λ (m : Bits). m.height) c.self.view_is)

pub returns-then-left-right-clause-counts : goal.returns-then-left-right-clause-counts
returns-then-left-right-clause-counts g c =
    let width = ap (λ (m : Bits). m.width) c.self.view_is in
    let height = ap (λ (m : Bits). m.height) c.self.view_is in
    let left : SFits w32 c.args.left = search rules in
    let v : SFits w32 c.args.v = search rules in
    let long : pos c.columns_between-count.result ≡ c.args.right -ℤ c.args.left = search (rules, ints) in
    count-run c.args.self.now _ c.self.inside.writes.tag.numbers c.add.new.self.tag.numbers c.args.v c.args.left c.args.right c.columns_between-count.result
    (counts-of c.args.self.now c.self.inside.width c.self.inside.height c.self.inside.writes.tag.numbers c.self.view_is) refl
    (simp to_z-of_z at c.add.ensures ∙ (λ i. raised (width i) (height i) (in_row c.args.v c.args.left (c.args.left +ℤ pos c.columns_between-count.result)) c.self.inside.writes.tag.numbers))
    long width height c.requires
