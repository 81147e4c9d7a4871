use Rattle.region_bytes.proofs.Decoded.{same_set}
use Rattle.region_bytes.proofs.laws.one_set_of_bytes.Goals as goal

pub returns : goal.returns
returns c = same_set
