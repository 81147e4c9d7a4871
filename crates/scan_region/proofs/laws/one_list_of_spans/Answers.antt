use Rattle.scan_region.proofs.OneScan.{same_scan}
use Rattle.scan_region.proofs.laws.one_list_of_spans.Goals as goal

pub returns : goal.returns
returns c = same_scan
