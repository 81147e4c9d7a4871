use Rattle.std.proofs.Common.{◌≡◌, ◌++◌, take, drop}
use Rattle.std.specs.List.{list_any}
use Rattle.event_queue.specs.Events.{is_selected}
use Rattle.event_queue.specs.Queues.{flushed}
use Rattle.event_queue.proofs.queue.EventQueue.flush.Given as goal

abbrev pub invariant-loop : goal.invariant-loop
invariant-loop l = record {
  events : l.self.events ≡ drop l.counter l.fn.self.events ++ flushed (is_selected l.mask) (is_selected l.stop) (take l.counter l.fn.self.events);
  stopped : l.stopped ≡ list_any (is_selected l.stop) (take l.counter l.fn.self.events);
  system_mask : l.self.system_mask ≡ l.fn.self.system_mask;
}
