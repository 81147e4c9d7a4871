use Rattle.std.proofs.Common.{◌∙◌, sym, rules}
use Rattle.text_words.proofs.TextLemmas.{new_read}
use Rattle.text_words.proofs.calls.new_text.Goals as goal

pub returns-in_err-wraps : goal.returns-in_err-wraps
returns-in_err-wraps c = search rules ∙ sym (new_read c.args.words)
