use Rattle.std.proofs.Common.{ap, sym, ◌∙◌}
use Rattle.line_words.specs.Tables.{named}
use Rattle.command_words.specs.Names.{source_modes, source_mode_of}
use Rattle.command_words.proofs.NameLemmas.{found_source_mode}
use Rattle.command_words.proofs.names.source_mode_of.Goals as goal

pub returns : goal.returns
unfolding source_mode_of
returns c =
    sym (found_source_mode c.as_slice.result.now c.from_source_name.result c.from_source_name.ensures.found c.from_source_name.ensures.unknown)
    ∙ ap (λ name. named name source_modes) c.as_slice.ensures
