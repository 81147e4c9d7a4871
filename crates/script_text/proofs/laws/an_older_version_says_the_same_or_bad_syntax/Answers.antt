use Rattle.script_text.proofs.OlderVersions.{said_older}
use Rattle.script_text.proofs.laws.an_older_version_says_the_same_or_bad_syntax.Goals as goal

pub returns : goal.returns
returns c = said_older
