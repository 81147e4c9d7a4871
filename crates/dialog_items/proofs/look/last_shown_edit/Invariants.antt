use Rattle.std.proofs.Common.{◌≡◌, take}
use Rattle.dialog_items.specs.Finding.{last_index}
use Rattle.dialog_items.proofs.look.last_shown_edit.Given as goal

abbrev pub invariant-loop-at : goal.invariant-loop-at
invariant-loop-at l = l.last ≡ last_index (take l.at l.looks)
