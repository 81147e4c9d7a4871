use Rattle.std.proofs.Common.{sym, ◌∙◌}
use Rattle.event_queue.proofs.QueueLemmas.{next_is_queued, next_is_last}
use Rattle.event_queue.proofs.queue.EventQueue.next.Goals as goal

pub returns-in-Some-take_first-clause-answer : goal.returns-in-Some-take_first-clause-answer
returns-in-Some-take_first-clause-answer c = next_is_queued c.args.mask c.args.told.now c.args.active c.args.self.now.events c.args.update c.in-Some-take_first.event
    (sym c.selected_activate_event.ensures ∙ c.in_default.is) (sym c.take_first.ensures.value ∙ c.in-Some-take_first.is)

pub returns-clause-answer : goal.returns-clause-answer
returns-clause-answer c = next_is_last c.args.mask c.args.told.now c.args.active c.args.self.now.events c.args.update c.update_or_null.result
    (sym c.selected_activate_event.ensures ∙ c.in_default.is) (sym c.take_first.ensures.value ∙ c.in_default-take_first.is) c.update_or_null.ensures
