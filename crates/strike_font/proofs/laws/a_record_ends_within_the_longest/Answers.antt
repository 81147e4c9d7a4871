use Rattle.strike_font.proofs.LongestRecord as longest
use Rattle.strike_font.proofs.laws.a_record_ends_within_the_longest.Goals as goal

pub returns-clause-locations : goal.returns-clause-locations
returns-clause-locations c = longest.locations_end

pub returns-clause-entries : goal.returns-clause-entries
returns-clause-entries c = longest.entries_end
