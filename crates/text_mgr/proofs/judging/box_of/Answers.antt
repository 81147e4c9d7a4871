use Rattle.text_record.proofs.PlacingLemmas.{placing_numbers}
use Rattle.text_mgr.proofs.judging.box_of.Goals as goal

pub widened-requires-clause-top : goal.widened-requires-clause-top
widened-requires-clause-top c = (placing_numbers c.args.framed c.args.placing c.requires).view_top_from

pub widened-requires-clause-right : goal.widened-requires-clause-right
widened-requires-clause-right c = (placing_numbers c.args.framed c.args.placing c.requires).view_right_to

pub widened-requires-clause-bottom : goal.widened-requires-clause-bottom
widened-requires-clause-bottom c = (placing_numbers c.args.framed c.args.placing c.requires).view_bottom_to
