use Rattle.def_iface.proofs.FurtherHearing.{menu_hears_then, measures_then}
use Rattle.def_iface.proofs.taken_menu.TakenMenu.begin.Goals as goal

pub returns-clause-begun : goal.returns-clause-begun
returns-clause-begun g c =
    let told = c.told-damage.ensures in
    record {
      live = told.stays;
      measures = measures_then c.wake.ensures.measures told.measures;
      heard = menu_hears_then c.wake.ensures.look told.heard;
    }
