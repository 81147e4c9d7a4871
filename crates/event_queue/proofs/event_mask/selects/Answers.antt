use Rattle.std.proofs.Common.{◌/◌, ◌%◌, ◌^◌, nat_eq, ap}
use Rattle.event_queue.specs.Events.{selects}
use Rattle.event_queue.proofs.event_mask.selects.Goals as goal

pub returns : goal.returns
unfolding selects
returns c = ap (λ n. nat_eq (c.args.mask / 2 ^ n % 2) 1) c.number.ensures.value
