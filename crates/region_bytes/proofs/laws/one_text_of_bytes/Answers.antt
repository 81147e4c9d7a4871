use Rattle.region_bytes.proofs.Decoded.{same_bytes}
use Rattle.region_bytes.proofs.laws.one_text_of_bytes.Goals as goal

pub returns : goal.returns
returns c = same_bytes
