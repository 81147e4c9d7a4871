use Rattle.desk_laws.proofs.ShownKinds.{shows_no_texts}
use Rattle.desk_laws.proofs.update_laws.a_window_without_shown_text_records_shows_none.Goals as goal

pub returns : goal.returns
returns c = shows_no_texts
