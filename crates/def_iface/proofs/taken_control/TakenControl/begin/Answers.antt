use Rattle.std.proofs.Common.{◌∙◌}
use Rattle.def_iface.proofs.FurtherHearing.{control_hears_then, control_regions_then, new_control_hears}
use Rattle.def_iface.proofs.taken_control.TakenControl.begin.Goals as goal

pub returns-clause-begun : goal.returns-clause-begun
returns-clause-begun g c =
    let size = c.told-damage.ensures in
    let title = c.told-damage-2.ensures in
    let setting = c.told-damage-3.ensures in
    let highlight = c.told-damage-4.ensures in
    record {
      live = highlight.stays;
      told = highlight.size ∙ setting.size ∙ title.size ∙ size.size;
      regions = control_regions_then c.wake.ensures.regions (control_regions_then size.regions
          (control_regions_then title.regions (control_regions_then setting.regions highlight.regions)));
      heard = new_control_hears c.args.size c.args.title.now c.args.values c.none.result _ _ c.none.ensures
          (control_hears_then c.wake.ensures.look (control_hears_then size.heard
          (control_hears_then title.heard (control_hears_then setting.heard highlight.heard))));
    }
