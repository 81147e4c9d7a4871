use Rattle.std.proofs.Common.{ap, ◌∙◌}
use Rattle.event_queue.specs.Queues.{Queue, added}
use Rattle.event_queue.proofs.QueueLemmas.{appended, queue_with}
use Rattle.event_queue.proofs.queue.EventQueue.append.Goals as goal

pub returns : goal.returns
returns c = appended c.push_back.new.self c.self.inside.events.items c.self.inside.events.capacity c.self.inside.system_mask c.args.event c.push_back.ensures.items c.self.invariant.room c.self.invariant.within
    ∙ ap (λ (q : Queue). queue_with q.system_mask (added q.events c.args.event)) c.self.view_is
