use Rattle.std.proofs.Common.{ap}
use Rattle.window_mgr.specs.FullDesk.{FullDesk}
use Rattle.text_mgr_tests.proofs.FirstWindow.{first_is_bare, none_beside}
use Rattle.text_mgr_tests.proofs.desk.Desk.new.Goals as goal

pub perform-requires : goal.perform-requires
perform-requires g c = (c.in-Ok.ensures.begun _ c.requires).whole

pub returns-clause-beside : goal.returns-clause-beside
returns-clause-beside g c =
    let made = c.in_ok-_made.ensures.step.1 in
    none_beside _ _ c.new-5.ensures.texts
    (first_is_bare _ made.0 _ _ (ap (λ (d : FullDesk). d.windows) (c.in-Ok.ensures.begun _ c.requires).desk) made.2)
