use Rattle.script_text.proofs.Versions.{line_had}
use Rattle.script_text.proofs.laws.a_line_says_what_its_version_has.Goals as goal

pub returns : goal.returns
returns c = line_had
