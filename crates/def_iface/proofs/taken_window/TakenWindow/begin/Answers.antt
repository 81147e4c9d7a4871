use Rattle.std.proofs.Common.{◌∙◌}
use Rattle.def_iface.proofs.Hearing.{hears_then, regions_then}
use Rattle.def_iface.proofs.taken_window.TakenWindow.begin.Goals as goal

pub returns-clause-begun : goal.returns-clause-begun
returns-clause-begun g c =
    let size = c.told-damage.ensures in
    let title = c.told-damage-2.ensures in
    let go_away = c.told-damage-3.ensures in
    let highlighted = c.told-damage-4.ensures in
    let zoomed = c.told-damage-5.ensures in
    let tracked = c.told-damage-6.ensures in
    record {
      live = tracked.stays;
      told = tracked.size ∙ zoomed.size ∙ highlighted.size ∙ go_away.size ∙ title.size ∙ size.size;
      regions = regions_then c.wake.ensures.regions (regions_then size.regions (regions_then title.regions
          (regions_then go_away.regions (regions_then highlighted.regions (regions_then zoomed.regions tracked.regions)))));
      heard = hears_then c.wake.ensures.look (hears_then size.heard (hears_then title.heard
          (hears_then go_away.heard (hears_then highlighted.heard (hears_then zoomed.heard tracked.heard)))));
    }
