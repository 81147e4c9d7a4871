use Rattle.std.proofs.lemmas.Bool.{and_parts}
use Rattle.tb_geom.specs.Rects.{is_in_range}
use Rattle.def_iface.specs.Sizes.{rect_of}
use Rattle.def_iface.specs.ControlMeaning.{is_control_size}
use Rattle.own_kind.proofs.RingFacts.{region_fits}
use Rattle.own_kind.proofs.ring_control.RingControlControlDef.regions_for.Goals as goal

pub area_region-requires : goal.area_region-requires
area_region-requires c =
    let both = and_parts (is_control_size c.args.size) (is_in_range (rect_of c.args.size)) c.requires in
    rw c.ring_region.ensures (region_fits c.args.size both.0 both.1)
