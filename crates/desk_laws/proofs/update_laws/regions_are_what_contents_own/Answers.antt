use Rattle.desk_laws.proofs.RegionLaws.{visible_where_owned, update_where_stale, updates_are_apart, stale_is_in_one}
use Rattle.desk_laws.proofs.update_laws.regions_are_what_contents_own.Goals as goal

pub returns-clause-visible : goal.returns-clause-visible
returns-clause-visible c = visible_where_owned

pub returns-clause-update : goal.returns-clause-update
returns-clause-update c = update_where_stale

pub returns-clause-apart : goal.returns-clause-apart
returns-clause-apart c = updates_are_apart

pub returns-clause-stale : goal.returns-clause-stale
returns-clause-stale c = stale_is_in_one
