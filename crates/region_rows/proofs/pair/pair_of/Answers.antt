use Rattle.region_rows.proofs.PairRows.{proper_rect, swapped_pair}
use Rattle.region_rows.proofs.pair.pair_of.Goals as goal

pub paired-requires-clause-upper : goal.paired-requires-clause-upper
paired-requires-clause-upper c = proper_rect _ _ c.requires.b_rows c.in_ok-second.ensures.rows

pub paired-requires-clause-lower : goal.paired-requires-clause-lower
paired-requires-clause-lower c = proper_rect _ _ c.requires.a_rows c.in_ok-first.ensures.rows

pub paired-requires-2-clause-upper : goal.paired-requires-2-clause-upper
paired-requires-2-clause-upper c = proper_rect _ _ c.requires.a_rows c.in_ok-first.ensures.rows

pub paired-requires-2-clause-lower : goal.paired-requires-2-clause-lower
paired-requires-2-clause-lower c = proper_rect _ _ c.requires.b_rows c.in_ok-second.ensures.rows

pub returns-then-second-first-clause-pixels : goal.returns-then-second-first-clause-pixels
returns-then-second-first-clause-pixels c = swapped_pair c.args.a.now c.args.b.now c.in_ok-first.first c.in_ok-second.second c.paired.result c.in_ok-first.ensures.pixels c.in_ok-second.ensures.pixels c.paired.ensures.same
