use Rattle.desk_laws.proofs.HeadlineLaws.{headline_holds}
use Rattle.desk_laws.proofs.headline.the_headline.Goals as goal

pub returns : goal.returns
returns c = headline_holds
