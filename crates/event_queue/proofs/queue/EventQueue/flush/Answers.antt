use Rattle.std.proofs.Common.{◌≡◌, ◌<◌, true, false, not, ◌||◌, if◌then◌else◌, length, drop, sym, ap, ◌∙◌, subst}
use Rattle.std.specs.Option.{is_some}
use Rattle.std.proofs.lemmas.Bool.{false≢true}
use Rattle.circular_buffer.specs.Buffer.{Buffer}
use Rattle.event_queue.specs.declared.event.Event.{Event}
use Rattle.event_queue.specs.Events.{is_selected}
use Rattle.event_queue.specs.Queues.{Queue, added, flushed}
use Rattle.std.proofs.Common.{take}
use Rattle.event_queue.proofs.QueueLemmas.{IsFlushed, flushed_on, front_there}
use Rattle.event_queue.proofs.queue.EventQueue.flush.Goals as goal
use Rattle.event_queue.proofs.queue.EventQueue.flush.Goals.{in-Some+then-survives, in-Some+else-survives, in_default}

pub loop-preserved : goal.loop-preserved
loop-preserved c =
    let test = is_selected c.args.mask in
    let stop = is_selected c.args.stop in
    let all = c.args.self.now.events in
    let at = c.loop.counter in
    let items = c.self-in-loop.inside.events.items in
    let bound = c.self-in-loop.invariant.within in
    let low : at < length all = subst (λ n. at < n) (c.len-end.ensures.len ∙ ap (λ (q : Queue). length q.events) c.self.view_is) c.loop-test.true in
    let h : IsFlushed test stop all items c.loop.stopped at = record { events = ap (λ (q : Queue). q.events) c.self-in-loop.view_is ∙ c.loop.invariant.events; stopped_is = c.loop.invariant.stopped } in
    let system_mask = ap (λ (q : Queue). q.system_mask) c.self-in-loop.view_is ∙ c.loop.invariant.system_mask in
    elim c.match-pop_front.branch [
      | in-Some+then-survives w ↦
          let e = w.in-Some.event in
          let b : ((c.loop.stopped || stop e) || not (test e)) ≡ true = sym (ap (λ s. s || not (test e)) w.stops-stopped.ensures) ∙ sym w.survives.ensures ∙ w.if-survives.true in
          let r = flushed_on test stop all items c.match-pop_front.self.events c.loop.stopped at e low bound h (sym w.in-Some.is ∙ c.pop_front.ensures.value)
          (ap (λ (q : Queue). q.events) (w.self-is ∙ w.append.ensures) ∙ ap (λ (b : Buffer Event). added b.items e) c.pop_front.ensures.items ∙ sym (ap (λ b. if b then added (drop 1 items) e else drop 1 items) b)) in
          record { events = r.events; stopped = w.stopped-is ∙ w.stops-stopped.ensures ∙ r.stopped_is; system_mask = ap (λ (q : Queue). q.system_mask) (w.self-is ∙ w.append.ensures) ∙ system_mask }
      | in-Some+else-survives w ↦
          let e = w.in-Some.event in
          let b : ((c.loop.stopped || stop e) || not (test e)) ≡ false = sym (ap (λ s. s || not (test e)) w.stops-stopped.ensures) ∙ sym w.survives.ensures ∙ w.if-survives.false in
          let r = flushed_on test stop all items c.match-pop_front.self.events c.loop.stopped at e low bound h (sym w.in-Some.is ∙ c.pop_front.ensures.value)
          (ap (λ (q : Queue). q.events) w.self-is ∙ ap (λ (b : Buffer Event). b.items) c.pop_front.ensures.items ∙ sym (ap (λ b. if b then added (drop 1 items) e else drop 1 items) b)) in
          record { events = r.events; stopped = w.stopped-is ∙ w.stops-stopped.ensures ∙ r.stopped_is; system_mask = ap (λ (q : Queue). q.system_mask) w.self-is ∙ system_mask }
      | in_default w ↦
          absurd (false≢true (sym (ap is_some w.in_default.is) ∙ ap is_some c.pop_front.ensures.value ∙ front_there all items (flushed test stop (take at all)) at low h.events))
    ]
