use Rattle.std.proofs.Common.{subst}
use Rattle.region_rows.specs.Pairs.{begun, AreTurnedFrom}
use Rattle.region_rows.proofs.PairRows.{upper_first, lower_first, upper_rows, lower_rows}
use Rattle.region_rows.proofs.pair.pair_rows.Goals as goal

pub returns-then-lower-upper-clause-pixels : goal.returns-then-lower-upper-clause-pixels
returns-then-lower-upper-clause-pixels c = lower_first c.args.pair c.push_tops.new.rows.items _ c.requires (subst (λ rows. AreTurnedFrom rows c.push_tops.new.rows.items c.args.pair.upper.top c.args.pair.lower.top (begun c.args.pair.upper c.args.pair.lower)) c.in_ok-rows.ensures.items c.in_ok-push_tops.ensures) c.in_ok-push_bottoms.ensures

pub returns-then-lower-upper-clause-rows : goal.returns-then-lower-upper-clause-rows
returns-then-lower-upper-clause-rows c = lower_rows c.args.pair c.push_tops.new.rows.items _ c.requires (subst (λ rows. AreTurnedFrom rows c.push_tops.new.rows.items c.args.pair.upper.top c.args.pair.lower.top (begun c.args.pair.upper c.args.pair.lower)) c.in_ok-rows.ensures.items c.in_ok-push_tops.ensures) c.in_ok-push_bottoms.ensures

pub returns-clause-pixels : goal.returns-clause-pixels
returns-clause-pixels c = upper_first c.args.pair c.push_tops.new.rows.items _ c.requires (subst (λ rows. AreTurnedFrom rows c.push_tops.new.rows.items c.args.pair.upper.top c.args.pair.lower.top (begun c.args.pair.upper c.args.pair.lower)) c.in_ok-rows.ensures.items c.in_ok-push_tops.ensures) c.in_ok-push_bottoms-2.ensures

pub returns-clause-rows : goal.returns-clause-rows
returns-clause-rows c = upper_rows c.args.pair c.push_tops.new.rows.items _ c.requires (subst (λ rows. AreTurnedFrom rows c.push_tops.new.rows.items c.args.pair.upper.top c.args.pair.lower.top (begun c.args.pair.upper c.args.pair.lower)) c.in_ok-rows.ensures.items c.in_ok-push_tops.ensures) c.in_ok-push_bottoms-2.ensures
