use Rattle.std.proofs.Common.{◌≡◌, ◌*◌, ◌+◌, ◌<ℤ◌, ◌≤ℤ◌, ◌-ℤ◌, ◌+ℤ◌, pos, ◌∙◌, sym, ap, refl, ℕ, List, length, nat_abs, SFits, w32, rules, arith}
use Rattle.std.proofs.lemmas.Int.{ints, to_z-of_z}
use Rattle.std.proofs.lemmas.List.{with_items_is}
use Rattle.bit_map.specs.Bits.{Bits, in_row}
use Rattle.bit_map.specs.Counts.{raised}
use Rattle.bit_map.specs.Words.{words_across}
use Rattle.bit_map.proofs.BitsLemmas.{of_words}
use Rattle.bit_map.proofs.RunLemmas.{IsRunOn, first_of, first_in, starts, fits_in, few_words, near_number, shift-on, shift-source, source_at, source_fits, whole_after, IsMoved-over, bit-moved}
use Rattle.bit_map.proofs.CountLemmas.{counts-of, count-run, count-no_run}
use Rattle.bit_map.proofs.map.BitMap.shift_run.Goals as goal

pub place-place-requires : goal.place-place-requires
place-place-requires c =
    let rising : c.args.left <ℤ c.args.right = search (rules, ints) in
    let left : SFits w32 c.args.left = search rules in
    let v : SFits w32 c.args.v = search rules in
    simp to_z-of_z (shift-on c.args.self.now c.args.v c.args.left c.args.right c.args.distance c.requires (first_of c.args.v c.args.left) (first_in c.args.v c.args.left c.args.right rising))

pub overflow_sub-left : goal.overflow_sub-left
overflow_sub-left c =
    let rising : c.args.left <ℤ c.args.right = search (rules, ints) in
    let left : SFits w32 c.args.left = search rules in
    let dh : SFits w32 c.args.distance.h = search rules in
    let at = source_at c.args.self.now c.args.v c.args.left c.args.right c.args.distance rising c.requires in
    let fits : SFits w32 (c.args.left -ℤ c.args.distance.h) = near_number (c.args.left -ℤ c.args.distance.h) c.args.self.now.width at.right at.across c.place-place.ensures.limits.0 in
    simp to_z-of_z fits

pub overflow_sub-v : goal.overflow_sub-v
overflow_sub-v c =
    let rising : c.args.left <ℤ c.args.right = search (rules, ints) in
    let v : SFits w32 c.args.v = search rules in
    let dv : SFits w32 c.args.distance.v = search rules in
    let at = source_at c.args.self.now c.args.v c.args.left c.args.right c.args.distance rising c.requires in
    let fits : SFits w32 (c.args.v -ℤ c.args.distance.v) = near_number (c.args.v -ℤ c.args.distance.v) c.args.self.now.height at.below at.down c.place-place.ensures.limits.1 in
    simp to_z-of_z fits

pub place-source-requires : goal.place-source-requires
place-source-requires c =
    let rising : c.args.left <ℤ c.args.right = search (rules, ints) in
    let left : SFits w32 c.args.left = search rules in
    let v : SFits w32 c.args.v = search rules in
    let dh : SFits w32 c.args.distance.h = search rules in
    let dv : SFits w32 c.args.distance.v = search rules in
    let at = source_at c.args.self.now c.args.v c.args.left c.args.right c.args.distance rising c.requires in
    let fits_h : SFits w32 (c.args.left -ℤ c.args.distance.h) = near_number (c.args.left -ℤ c.args.distance.h) c.args.self.now.width at.right at.across c.place-place.ensures.limits.0 in
    let fits_v : SFits w32 (c.args.v -ℤ c.args.distance.v) = near_number (c.args.v -ℤ c.args.distance.v) c.args.self.now.height at.below at.down c.place-place.ensures.limits.1 in
    simp to_z-of_z (shift-source c.args.self.now c.args.v c.args.left c.args.right c.args.distance c.requires (first_of c.args.v c.args.left) (first_in c.args.v c.args.left c.args.right rising))

pub columns_between-count-requires-clause-low : goal.columns_between-count-requires-clause-low
columns_between-count-requires-clause-low c =
    let rising : c.args.left <ℤ c.args.right = search (rules, ints) in
    let left : SFits w32 c.args.left = search rules in
    simp to_z-of_z (starts c.args.self.now c.args.v c.args.left c.args.right rising (shift-on c.args.self.now c.args.v c.args.left c.args.right c.args.distance c.requires))

run_on : (c : goal.After-as_mut_slice) → IsRunOn c.args.self.now c.self.inside.words.items c.args.v c.args.left c.args.right c.place-place.result c.columns_between-count.result
run_on c =
    let left : SFits w32 c.args.left = search rules in
    let right : SFits w32 c.args.right = search rules in
    let v : SFits w32 c.args.v = search rules in
    record {
      of = of_words c.args.self.now c.self.inside.width c.self.inside.height c.self.inside.words.items c.self.view_is c.self.invariant;
      rising = search (rules, ints);
      on = shift-on c.args.self.now c.args.v c.args.left c.args.right c.args.distance c.requires;
      first = simp to_z-of_z at c.place-place.ensures.value;
      long = simp to_z-of_z at c.columns_between-count.ensures;
    }

source_is : (c : goal.After-as_mut_slice) → c.place-source.result ≡ nat_abs (c.args.v -ℤ c.args.distance.v) * (64 * words_across c.args.self.now.width) + nat_abs (c.args.left -ℤ c.args.distance.h)
source_is c =
    let rising : c.args.left <ℤ c.args.right = search (rules, ints) in
    let left : SFits w32 c.args.left = search rules in
    let v : SFits w32 c.args.v = search rules in
    let dh : SFits w32 c.args.distance.h = search rules in
    let dv : SFits w32 c.args.distance.v = search rules in
    let at = source_at c.args.self.now c.args.v c.args.left c.args.right c.args.distance rising c.requires in
    let fits_h : SFits w32 (c.args.left -ℤ c.args.distance.h) = near_number (c.args.left -ℤ c.args.distance.h) c.args.self.now.width at.right at.across c.place-place.ensures.limits.0 in
    let fits_v : SFits w32 (c.args.v -ℤ c.args.distance.v) = near_number (c.args.v -ℤ c.args.distance.v) c.args.self.now.height at.below at.down c.place-place.ensures.limits.1 in
    simp to_z-of_z at c.place-source.ensures.value

pub move_run-requires-clause-within : goal.move_run-requires-clause-within
move_run-requires-clause-within c =
    let fits = fits_in c.args.self.now c.self.inside.words.items c.args.v c.args.left c.args.right c.place-place.result c.columns_between-count.result (run_on c) in
    rw c.as_mut_slice.ensures.value fits

pub move_run-requires-clause-source_in : goal.move_run-requires-clause-source_in
move_run-requires-clause-source_in c =
    let from = source_fits c.args.self.now c.self.inside.words.items c.args.v c.args.left c.args.right c.args.distance c.place-place.result c.place-source.result c.columns_between-count.result (run_on c) c.requires (source_is c) in
    rw c.as_mut_slice.ensures.value from

pub move_run-requires-clause-near : goal.move_run-requires-clause-near
move_run-requires-clause-near c =
    let few = few_words c.self.inside.width c.self.inside.height c.self.inside.words.items c.self.invariant in
    rw c.as_mut_slice.ensures.value (omega (arith, few))

pub returns-then-left-right-clause-bits : goal.returns-then-left-right-clause-bits
returns-then-left-right-clause-bits c =
    let words = c.self.inside.words.items in
    let rising : c.args.left <ℤ c.args.right = search (rules, ints) in
    let left : SFits w32 c.args.left = search rules in
    let right : SFits w32 c.args.right = search rules in
    let v : SFits w32 c.args.v = search rules in
    let dh : SFits w32 c.args.distance.h = search rules in
    let dv : SFits w32 c.args.distance.v = search rules in
    let at = source_at c.args.self.now c.args.v c.args.left c.args.right c.args.distance rising c.requires in
    let fits_h : SFits w32 (c.args.left -ℤ c.args.distance.h) = near_number (c.args.left -ℤ c.args.distance.h) c.args.self.now.width at.right at.across c.place-place.ensures.limits.0 in
    let fits_v : SFits w32 (c.args.v -ℤ c.args.distance.v) = near_number (c.args.v -ℤ c.args.distance.v) c.args.self.now.height at.below at.down c.place-place.ensures.limits.1 in
    let source = simp to_z-of_z at c.place-source.ensures.value in
    let run : IsRunOn c.args.self.now words c.args.v c.args.left c.args.right c.place-place.result c.columns_between-count.result = record {
      of = of_words c.args.self.now c.self.inside.width c.self.inside.height words c.self.view_is c.self.invariant;
      rising = rising;
      on = shift-on c.args.self.now c.args.v c.args.left c.args.right c.args.distance c.requires;
      first = simp to_z-of_z at c.place-place.ensures.value;
      long = simp to_z-of_z at c.columns_between-count.ensures;
    } in
    let moved = c.move_run.ensures in
    let new = with_items_is c.self.inside.words c.move_run.new.words (moved.all ∙ c.as_mut_slice.ensures.len) in
    bit-moved c.args.self.now _ words _ c.args.v c.args.left c.args.right c.args.distance c.place-place.result c.place-source.result c.columns_between-count.result run c.requires source
    (record { whole = whole_after c.self.inside.width c.self.inside.height words _ (ap (λ (l : List ℕ). length l) new ∙ moved.all ∙ ap (λ (l : List ℕ). length l) c.as_mut_slice.ensures.value) c.self.invariant; black = refl })
    (IsMoved-over c.as_mut_slice.ensures.value (sym new) moved) (ap (λ (m : Bits). m.width) c.self.view_is) (ap (λ (m : Bits). m.height) c.self.view_is)

pub returns-then-left-right-clause-counts : goal.returns-then-left-right-clause-counts
returns-then-left-right-clause-counts c =
    let width = ap (λ (m : Bits). m.width) c.self.view_is in
    let height = ap (λ (m : Bits). m.height) c.self.view_is in
    let left : SFits w32 c.args.left = search rules in
    let right : SFits w32 c.args.right = search rules in
    let v : SFits w32 c.args.v = search rules in
    count-run c.args.self.now _ c.self.inside.writes.tag.numbers c.add.new.self.tag.numbers c.args.v c.args.left c.args.right c.columns_between-count.result
    (counts-of c.args.self.now c.self.inside.width c.self.inside.height c.self.inside.writes.tag.numbers c.self.view_is) refl
    (simp to_z-of_z at c.add.ensures ∙ (λ i. raised (width i) (height i) (in_row c.args.v c.args.left (c.args.left +ℤ pos c.columns_between-count.result)) c.self.inside.writes.tag.numbers))
    (simp to_z-of_z at c.columns_between-count.ensures) width height
    (shift-on c.args.self.now c.args.v c.args.left c.args.right c.args.distance c.requires)

pub returns-else-left-right-clause-counts : goal.returns-else-left-right-clause-counts
returns-else-left-right-clause-counts c p =
    let left : SFits w32 c.args.left = search rules in
    let right : SFits w32 c.args.right = search rules in
    let low : c.args.right ≤ℤ c.args.left = search (rules, ints) in
    count-no_run c.args.self.now c.args.v c.args.left c.args.right p low
