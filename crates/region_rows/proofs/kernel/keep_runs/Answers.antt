use Rattle.std.proofs.Common.{pos, get_or, rules, SFits, w32}
use Rattle.std.proofs.lemmas.Int.{to_z-of_z}
use Rattle.region_rows.proofs.RunEdges.{RunsTo-none, RunsTo-more, run_in, runs_pixels, runs_row, two_parts}
use Rattle.region_rows.proofs.kernel.keep_runs.Goals as goal

pub loop-rest-init : goal.loop-rest-init
loop-rest-init c = rw c.clear.ensures.items (RunsTo-none _ _ _ c.requires.row)

pub add_run-requires-clause-left_in : goal.add_run-requires-clause-left_in
add_run-requires-clause-left_in c =
    let rest = c.loop-rest.rest.now in
    let fits_l : SFits w32 (get_or rest 0 (pos 0)) = search rules in
    let fits_r : SFits w32 (get_or rest 1 (pos 0)) = search rules in
    let run = run_in _ rest _ _ _ _ _ _ (two_parts rest c.in-len2-up.len_at_least) c.loop-rest.invariant in
    simp to_z-of_z run.0

pub add_run-requires-clause-right_in : goal.add_run-requires-clause-right_in
add_run-requires-clause-right_in c =
    let rest = c.loop-rest.rest.now in
    let fits_l : SFits w32 (get_or rest 0 (pos 0)) = search rules in
    let fits_r : SFits w32 (get_or rest 1 (pos 0)) = search rules in
    let run = run_in _ rest _ _ _ _ _ _ (two_parts rest c.in-len2-up.len_at_least) c.loop-rest.invariant in
    simp to_z-of_z run.1

pub add_run-requires-clause-order : goal.add_run-requires-clause-order
add_run-requires-clause-order c =
    let rest = c.loop-rest.rest.now in
    let fits_l : SFits w32 (get_or rest 0 (pos 0)) = search rules in
    let fits_r : SFits w32 (get_or rest 1 (pos 0)) = search rules in
    let run = run_in _ rest _ _ _ _ _ _ (two_parts rest c.in-len2-up.len_at_least) c.loop-rest.invariant in
    simp to_z-of_z run.2

pub loop-rest-preserved : goal.loop-rest-preserved
loop-rest-preserved c =
    let rest = c.loop-rest.rest.now in
    let parted = two_parts rest c.in-len2-up.len_at_least in
    let fits_l : SFits w32 (get_or rest 0 (pos 0)) = search rules in
    let fits_r : SFits w32 (get_or rest 1 (pos 0)) = search rules in
    let climb = simp to_z-of_z at c.in_ok-add_run.ensures.climb in
    let pixels = simp to_z-of_z at c.in_ok-add_run.ensures.pixels in
    RunsTo-more _ rest _ _ _ _ _ _ _ parted c.loop-rest.invariant climb pixels

pub returns : goal.returns
returns c = record {
  pixels = runs_pixels _ _ _ _ _ c.loop-rest.invariant c.in_default.len_below;
  row = runs_row _ _ _ _ _ c.requires.row c.loop-rest.invariant c.in_default.len_below;
}
