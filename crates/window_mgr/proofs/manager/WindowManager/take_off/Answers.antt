use Rattle.std.proofs.Common.{◌<◌, length, ap, ◌∙◌, refl, subst, arith}
use Rattle.std.specs.List.{remove}
use Rattle.vis_update.specs.Plans.{areas_then}
use Rattle.window_mgr.specs.declared.manager.WindowManager.{WindowManager}
use Rattle.window_mgr.specs.Edits.{IsWindowAt}
use Rattle.window_mgr.proofs.RestSeats as resting
use Rattle.window_mgr.proofs.manager.WindowManager.take_off.Goals as goal

pub commit-requires-clause-settled : goal.commit-requires-clause-settled
commit-requires-clause-settled g c =
    rw (c.remove-taken.ensures.items, c.activate.ensures.windows, resting.remove_lit c.args.activation c.args.self.now.windows.active c.args.self.now.windows.records.items c.args.at) c.requires.settled

pub commit-requires-clause-parts : goal.commit-requires-clause-parts
commit-requires-clause-parts g c =
    let some = c.requires.parts in
    let low : c.args.at < length c.activate.new.self.windows.records.items = rw c.activate.ensures.len c.requires.at in
    let long = c.activate.ensures.len in
    let less = resting.length-out c.activate.new.self.windows.records.items c.args.at low in
    let rest = ap length c.remove-taken.ensures.items in
    let parts = c.args.plan.parts.ok.0 in
    omega arith

pub returns : goal.returns
returns g c =
    let was = resting.was_at c.args.activation c.args.self.now.windows.active c.args.self.now.windows.records.items c.args.at c.remove-taken.result c.requires.at
    (subst (λ ws. IsWindowAt ws c.args.at c.remove-taken.result) c.activate.ensures.windows c.remove-taken.ensures.value) in
    record {
      window = was.window;
      there = was.there;
      its = was.its;
      windows =
          ap (λ t. t.windows.records.items) c.commit.ensures.others
          ∙ c.remove-taken.ensures.items
          ∙ ap (λ ws. remove ws c.args.at) c.activate.ensures.windows
          ∙ resting.remove_lit c.args.activation c.args.self.now.windows.active c.args.self.now.windows.records.items c.args.at;
      drawn =
          let screen = rw c.activate.ensures.others at c.commit.ensures.drawn in
          rw c.commit.ensures.others screen;
      areas = c.commit.ensures.areas ∙ ap (λ olds. areas_then olds c.args.plan.areas.items) (c.remove-area.ensures.items ∙ ap (λ (t : WindowManager _ _). remove t.areas.items c.args.at) c.activate.ensures.others);
      desktop = c.commit.ensures.desktop;
      bar = rw (c.commit.ensures.others, c.activate.ensures.others) refl;
      font = rw (c.commit.ensures.others, c.activate.ensures.others) refl;
      gray = rw (c.commit.ensures.others, c.activate.ensures.others) refl;
      active = ap (λ t. t.windows.active) c.commit.ensures.others ∙ ap (λ l. l.active) c.remove-taken.ensures.others ∙ c.activate.ensures.active;
      next = ap (λ t. t.windows.next) c.commit.ensures.others ∙ ap (λ l. l.next) c.remove-taken.ensures.others ∙ c.activate.ensures.next;
    }
