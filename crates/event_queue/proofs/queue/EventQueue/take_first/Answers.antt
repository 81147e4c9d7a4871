use Rattle.std.proofs.Common.{◌<◌, length, take, sym, ap, ◌∙◌, subst}
use Rattle.std.specs.Option.{is_some}
use Rattle.std.proofs.lemmas.Bool.{false≢true}
use Rattle.circular_buffer.specs.Buffer.{Buffer}
use Rattle.event_queue.specs.declared.event.Event.{Event}
use Rattle.event_queue.specs.Events.{is_selected}
use Rattle.event_queue.specs.Queues.{Queue, added, without_first}
use Rattle.event_queue.proofs.QueueLemmas.{IsSearched, searched_on, searched_out, front_there}
use Rattle.event_queue.proofs.queue.EventQueue.take_first.Goals as goal
use Rattle.event_queue.proofs.queue.EventQueue.take_first.Goals.{in-Some+then-stays, in-Some+else-stays, in_default}

pub loop-preserved : goal.loop-preserved
loop-preserved c =
    let test = is_selected c.args.mask in
    let all = c.args.self.now.events in
    let at = c.loop.counter in
    let items = c.self-in-loop.inside.events.items in
    let bound = c.self-in-loop.invariant.within in
    let low : at < length all = subst (λ n. at < n) (c.len-end.ensures.len ∙ ap (λ (q : Queue). length q.events) c.self.view_is) c.loop-test.true in
    let h : IsSearched test all items c.loop.found at = record { events = ap (λ (q : Queue). q.events) c.self-in-loop.view_is ∙ c.loop.invariant.events; found_is = c.loop.invariant.found } in
    let system_mask = ap (λ (q : Queue). q.system_mask) c.self-in-loop.view_is ∙ c.loop.invariant.system_mask in
    elim c.match-pop_front.branch [
      | in-Some+then-stays w ↦
          let r = searched_on test all items c.loop.found at w.in-Some.event low bound h (sym w.in-Some.is ∙ c.pop_front.ensures.value) (sym w.stays.ensures ∙ w.if-stays.true) in
          record {
            events = ap (λ (q : Queue). q.events) (w.self-is ∙ w.append.ensures) ∙ ap (λ (b : Buffer Event). added b.items w.in-Some.event) c.pop_front.ensures.items ∙ r.events;
            found = w.found-is ∙ r.found_is;
            system_mask = ap (λ (q : Queue). q.system_mask) (w.self-is ∙ w.append.ensures) ∙ system_mask;
          }
      | in-Some+else-stays w ↦
          let r = searched_out test all items c.loop.found at w.in-Some.event low h (sym w.in-Some.is ∙ c.pop_front.ensures.value) (sym w.stays.ensures ∙ w.if-stays.false) in
          record {
            events = ap (λ (q : Queue). q.events) w.self-is ∙ ap (λ (b : Buffer Event). b.items) c.pop_front.ensures.items ∙ r.events;
            found = w.found-is ∙ r.found_is;
            system_mask = ap (λ (q : Queue). q.system_mask) w.self-is ∙ system_mask;
          }
      | in_default w ↦
          absurd (false≢true (sym (ap is_some w.in_default.is) ∙ ap is_some c.pop_front.ensures.value ∙ front_there all items (without_first test (take at all)) at low h.events))
    ]
