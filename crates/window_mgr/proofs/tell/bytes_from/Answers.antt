use Rattle.window_mgr.proofs.TellLemmas as telling
use Rattle.window_mgr.proofs.tell.bytes_from.Goals as goal

pub move_by-requires : goal.move_by-requires
move_by-requires c = telling.stays_there c.args.region.now c.args.origin c.local.result c.local.ensures c.requires.there

pub move_by-requires-2 : goal.move_by-requires-2
move_by-requires-2 c = telling.stays_back c.args.region.now c.args.origin c.local.result c.local.ensures c.move_by.new.region c.move_by.ensures c.requires.here

pub returns-clause-same : goal.returns-clause-same
returns-clause-same c = telling.is_back c.args.region.now c.args.origin c.local.result c.local.ensures c.move_by.new.region c.move_by.ensures c.move_by-2.new.region c.move_by-2.ensures

pub returns-clause-bytes : goal.returns-clause-bytes
returns-clause-bytes c = telling.told c.args.region.now c.args.origin c.local.result c.local.ensures c.move_by.new.region c.move_by.ensures (λ b. b.items) c.to_bytes-bytes.result c.to_bytes-bytes.ensures
