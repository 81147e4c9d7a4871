use Rattle.std.proofs.Common.{ap, sym, ◌∙◌}
use Rattle.dialog_words.specs.DialogWords.{kind_of}
use Rattle.dialog_words.proofs.NewItems.{found_kind}
use Rattle.dialog_words.proofs.calls.kind_of.Goals as goal

pub returns : goal.returns
returns c =
    sym (found_kind c.as_slice.result.now c.of_name.result c.of_name.ensures.found c.of_name.ensures.unknown)
    ∙ ap kind_of c.as_slice.ensures
