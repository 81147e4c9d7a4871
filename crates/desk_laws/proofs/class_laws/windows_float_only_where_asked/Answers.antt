use Rattle.desk_laws.proofs.Floaters.{run_stays_ordinary}
use Rattle.desk_laws.proofs.class_laws.windows_float_only_where_asked.Goals as goal

pub returns : goal.returns
returns c = run_stays_ordinary
