use Rattle.std.proofs.Common.{◌∙◌}
use Rattle.def_iface.proofs.FurtherHearing.{list_hears_then}
use Rattle.def_iface.proofs.taken_list.TakenList.begin.Goals as goal

pub returns-clause-begun : goal.returns-clause-begun
returns-clause-begun g c =
    let size = c.told-damage.ensures in
    let hilited = c.told-damage-2.ensures in
    record {
      live = hilited.stays;
      told = hilited.size ∙ size.size;
      heard = list_hears_then c.wake.ensures.look (list_hears_then size.heard hilited.heard);
    }
