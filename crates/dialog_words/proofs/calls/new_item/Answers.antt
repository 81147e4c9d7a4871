use Rattle.std.proofs.Common.{◌∙◌, sym, rules}
use Rattle.dialog_words.proofs.NewItems.{new_read}
use Rattle.dialog_words.proofs.calls.new_item.Goals as goal

pub returns-in_err-bytes : goal.returns-in_err-bytes
returns-in_err-bytes c = search rules ∙ sym (new_read c.args.words)

pub returns : goal.returns
returns c = search rules ∙ sym (new_read c.args.words)
