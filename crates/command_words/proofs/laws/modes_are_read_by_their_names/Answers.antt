use Rattle.command_words.proofs.NameLemmas.{pattern_mode-named, source_mode-named, source_name-apart, pattern_name-apart}
use Rattle.command_words.proofs.laws.modes_are_read_by_their_names.Goals as goal

pub returns-clause-pattern : goal.returns-clause-pattern
returns-clause-pattern c = pattern_mode-named

pub returns-clause-source : goal.returns-clause-source
returns-clause-source c = source_mode-named

pub returns-clause-no_pattern : goal.returns-clause-no_pattern
returns-clause-no_pattern c = source_name-apart

pub returns-clause-no_source : goal.returns-clause-no_source
returns-clause-no_source c = pattern_name-apart
