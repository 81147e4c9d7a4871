use Rattle.desk_toolbox.proofs.toolbox.Toolbox.is_behind_menu.Goals as goal

pub returns-in-ControlAt : goal.returns-in-ControlAt
returns-in-ControlAt g c stocks = rw c.in-ControlAt.is (c.is_under_menu.ensures stocks)
