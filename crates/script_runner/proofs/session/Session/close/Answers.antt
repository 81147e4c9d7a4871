use Rattle.script_runner.proofs.session.Session.close.Goals as goal

pub returns-in-Some-clause-full : goal.returns-in-Some-clause-full
returns-in-Some-clause-full g c = record {
  windows = c.close.ensures.windows.full;
  menus = c.close.ensures.menus.full;
  controls = c.close.ensures.controls.full;
  lists = c.close.ensures.lists.full;
}
