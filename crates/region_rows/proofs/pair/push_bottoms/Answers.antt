use Rattle.std.proofs.Common.{◌≡◌, ◌<ℤ◌, rules, SFits, w32}
use Rattle.std.proofs.lemmas.Int.{ints, to_z-of_z}
use Rattle.std.proofs.lemmas.Result.{on_ok_weaker}
use Rattle.region_rows.proofs.PairRows.{gone_apart, gone_alike, run}
use Rattle.region_rows.proofs.pair.push_bottoms.Goals as goal

pub returns-then-first-last : goal.returns-then-first-last
returns-then-first-last c =
    let a = c.args.first in
    let b = c.args.last in
    let fits_a : SFits w32 a.bottom = search rules in
    let fits_b : SFits w32 b.bottom = search rules in
    let order : a.bottom <ℤ b.bottom = search (rules, ints) in
    let own : c.run_of-own.result ≡ run a = search rules in
    let other : c.run_of-other.result ≡ run b = search rules in
    let one = simp to_z-of_z at c.in_ok-push_alone.ensures in
    let two = simp to_z-of_z at c.push_run.ensures in
    on_ok_weaker c.push_run.result (gone_apart _ _ _ a b c.requires.first c.requires.last c.run_of-own.result c.run_of-other.result own other order one) two

pub returns : goal.returns
returns c =
    let a = c.args.first in
    let b = c.args.last in
    let fits_a : SFits w32 a.bottom = search rules in
    let fits_b : SFits w32 b.bottom = search rules in
    let alike : a.bottom ≡ b.bottom = search (rules, ints) in
    let own : c.run_of-own.result ≡ run a = search rules in
    let other : c.run_of-other.result ≡ run b = search rules in
    let one = simp to_z-of_z at c.push_either.ensures in
    on_ok_weaker c.push_either.result (gone_alike c.args.rows.now.items c.args.rows.now.items _ a b c.requires.first c.requires.last c.run_of-own.result c.run_of-other.result own other alike) one
