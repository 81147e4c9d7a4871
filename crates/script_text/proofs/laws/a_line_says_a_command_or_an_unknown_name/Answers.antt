use Rattle.script_text.proofs.LineLaws.{line-so}
use Rattle.script_text.proofs.laws.a_line_says_a_command_or_an_unknown_name.Goals as goal

pub returns : goal.returns
returns c = line-so
