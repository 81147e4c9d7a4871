use Rattle.desk_laws.proofs.EachChange.{each_changes}
use Rattle.desk_laws.proofs.headline.each_call_changes_pixels_so.Goals as goal

pub returns : goal.returns
returns c = each_changes
