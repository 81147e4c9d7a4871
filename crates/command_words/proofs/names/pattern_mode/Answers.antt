use Rattle.std.proofs.Common.{ap, sym, ◌∙◌}
use Rattle.line_words.specs.Tables.{named}
use Rattle.command_words.specs.Names.{pattern_modes}
use Rattle.command_words.proofs.NameLemmas.{found_pattern_mode}
use Rattle.command_words.proofs.names.pattern_mode.Goals as goal

pub returns : goal.returns
returns c =
    sym (found_pattern_mode c.as_slice.result.now c.from_pattern_name.result c.from_pattern_name.ensures.found c.from_pattern_name.ensures.unknown)
    ∙ ap (λ name. named name pattern_modes) c.as_slice.ensures
