use Rattle.std.proofs.Common.{◌≡◌, ◌<ℤ◌, rules, SFits, w32}
use Rattle.std.proofs.lemmas.Int.{ints, to_z-of_z}
use Rattle.std.proofs.lemmas.Result.{on_ok_weaker}
use Rattle.region_rows.proofs.PairRows.{begun_apart, begun_alike, run}
use Rattle.region_rows.proofs.pair.push_tops.Goals as goal

pub returns-then-first-second : goal.returns-then-first-second
returns-then-first-second c =
    let a = c.args.first in
    let b = c.args.second in
    let fits_a : SFits w32 a.top = search rules in
    let fits_b : SFits w32 b.top = search rules in
    let order : a.top <ℤ b.top = search (rules, ints) in
    let own : c.run_of-own.result ≡ run a = search rules in
    let other : c.run_of-other.result ≡ run b = search rules in
    let one = simp to_z-of_z at c.in_ok-push_run.ensures in
    let two = simp to_z-of_z at c.push_alone.ensures in
    on_ok_weaker c.push_alone.result (begun_apart _ _ _ a b c.requires.first c.requires.second c.run_of-own.result c.run_of-other.result own other order one) two

pub returns : goal.returns
returns c =
    let a = c.args.first in
    let b = c.args.second in
    let fits_a : SFits w32 a.top = search rules in
    let fits_b : SFits w32 b.top = search rules in
    let alike : a.top ≡ b.top = search (rules, ints) in
    let own : c.run_of-own.result ≡ run a = search rules in
    let other : c.run_of-other.result ≡ run b = search rules in
    let one = simp to_z-of_z at c.push_either.ensures in
    on_ok_weaker c.push_either.result (begun_alike c.args.rows.now.items c.args.rows.now.items _ a b c.requires.first c.requires.second c.run_of-own.result c.run_of-other.result own other alike) one
