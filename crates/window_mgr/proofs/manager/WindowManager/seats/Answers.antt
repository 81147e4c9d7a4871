use Rattle.std.proofs.Common.{◌≡◌, ◌<◌, length, rules, arith}
use Rattle.window_mgr.proofs.Seating as arranging
use Rattle.window_mgr.proofs.manager.WindowManager.seats.Goals as goal

pub loop-at-preserved : goal.loop-at-preserved
loop-at-preserved g c =
    let low : c.loop-at.at < length c.args.self.now.windows.records.items = search rules in
    let same = c.requires in
    let within : c.loop-at.at < length c.args.self.now.areas.items = omega arith in
    record {
      seats = arranging.seats_of_more c.args.self.now.windows.records.items c.args.self.now.areas.items c.loop-at.seats.items _ c.loop-at.at c.at.result.now c.index.result.now c.seat_of-seat.result (search rules) (search rules) (search rules) low within c.loop-at.invariant.seats c.seat_of-seat.ensures;
      made = search rules;
      room = search rules;
    }

pub returns-clause-seats : goal.returns-clause-seats
returns-clause-seats g c =
    let all : c.loop-at.at ≡ length c.args.self.now.windows.records.items = search rules in
    arranging.all_seats_of c.args.self.now.windows.records.items c.args.self.now.areas.items c.loop-at.seats.items c.loop-at.at all c.requires c.loop-at.invariant.seats
