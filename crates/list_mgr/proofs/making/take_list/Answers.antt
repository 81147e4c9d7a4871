use Rattle.def_iface.specs.ListMeaning.{ListDefinition}
use Rattle.list_mgr.proofs.Offered.{none_offered}
use Rattle.list_mgr.proofs.making.take_list.Goals as goal

pub returns-in-Err : goal.returns-in-Err
returns-in-Err g c = (none_offered (λ (d : ListDefinition). d.stage) c.args.kind.now _ c.in-Err.field-0 c.requires c.in-Err.ensures.refused, c.in-Err.ensures.kept)
