use Rattle.std.proofs.Common.{sym, ◌∙◌}
use Rattle.event_queue.proofs.QueueLemmas.{next_is_queued, next_is_last}
use Rattle.event_queue.proofs.queue.EventQueue.avail.Goals as goal

pub returns-in-Some-first : goal.returns-in-Some-first
returns-in-Some-first c = next_is_queued c.args.mask c.args.told c.args.active c.args.self.now.events c.args.update c.in-Some-first.event
    (sym c.selected_activate_event.ensures ∙ c.in_default.is) (sym c.first.ensures ∙ c.in-Some-first.is)

pub returns : goal.returns
returns c = next_is_last c.args.mask c.args.told c.args.active c.args.self.now.events c.args.update c.update_or_null.result
    (sym c.selected_activate_event.ensures ∙ c.in_default.is) (sym c.first.ensures ∙ c.in_default-first.is) c.update_or_null.ensures
