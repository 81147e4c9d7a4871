use Rattle.std.proofs.Common.{◌≡◌, ◌++◌, take, drop}
use Rattle.std.specs.List.{find}
use Rattle.event_queue.specs.Events.{is_selected}
use Rattle.event_queue.specs.Queues.{without_first}
use Rattle.event_queue.proofs.queue.EventQueue.take_first.Given as goal

abbrev pub invariant-loop : goal.invariant-loop
invariant-loop l = record {
  events : l.self.events ≡ drop l.counter l.fn.self.events ++ without_first (is_selected l.mask) (take l.counter l.fn.self.events);
  found : l.found ≡ find (is_selected l.mask) (take l.counter l.fn.self.events);
  system_mask : l.self.system_mask ≡ l.fn.self.system_mask;
}
