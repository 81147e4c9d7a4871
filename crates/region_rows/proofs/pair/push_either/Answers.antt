use Rattle.std.proofs.Common.{rules, SFits, w32}
use Rattle.std.proofs.lemmas.Int.{to_z-of_z}
use Rattle.std.proofs.lemmas.Result.{on_ok_weaker}
use Rattle.region_rows.proofs.PairRows.{around_gap, around_run, pushed_as}
use Rattle.region_rows.proofs.pair.push_either.Goals as goal

pub push_alone-requires : goal.push_alone-requires
push_alone-requires c = around_run c.args.a c.args.b _ (record { left = c.max-2.result; right = c.min-2.result }) c.requires.a c.requires.b (search rules) (search rules)

pub returns : goal.returns
returns c =
    let fits_v = c.ranges.v in
    let fits_l : SFits w32 c.min.result = search rules in
    let fits_r : SFits w32 c.max.result = search rules in
    let fits_s : SFits w32 c.min-2.result = search rules in
    let fits_t : SFits w32 c.max-2.result = search rules in
    let pushed = simp to_z-of_z at c.push_alone.ensures in
    let named = around_gap c.args.a c.args.b (record { left = c.min.result; right = c.max.result }) (record { left = c.min-2.result; right = c.max-2.result }) c.requires.a c.requires.b (search rules) (search rules) (search rules) (search rules) in
    on_ok_weaker c.push_alone.result (λ p. pushed_as _ _ _ _ _ p named) pushed
