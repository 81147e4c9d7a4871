use Rattle.std.proofs.Common.{ap, ◌∙◌, refl}
use Rattle.vis_update.specs.Plans.{areas_then}
use Rattle.window_mgr.specs.declared.manager.WindowManager.{WindowManager}
use Rattle.window_mgr.specs.Arrange.{active_after}
use Rattle.window_mgr.specs.Edits.{relit_all}
use Rattle.window_mgr.proofs.manager.WindowManager.commit_edit.Goals as goal

pub commit-requires-clause-settled : goal.commit-requires-clause-settled
commit-requires-clause-settled g c =
    rw (c.activate.ensures.windows, c.put_anew.ensures.put.is, c.put_anew.ensures.active) (c.requires.settled c.put_anew.ensures.put.window c.put_anew.ensures.put.at)

pub returns : goal.returns
returns g c = record {
  window = c.put_anew.ensures.put.window;
  at = c.put_anew.ensures.put.at;
  windows =
      ap (λ t. t.windows.records.items) c.commit.ensures.others ∙ c.activate.ensures.windows
      ∙ (λ i. relit_all c.args.activation (c.put_anew.ensures.active i) (c.put_anew.ensures.put.is i));
  drawn =
      let screen = rw (c.activate.ensures.others, c.put_anew.ensures.others) at c.commit.ensures.drawn in
      rw c.commit.ensures.others screen;
  areas = c.commit.ensures.areas ∙ (λ i. areas_then ((ap (λ (t : WindowManager _ _). t.areas.items) c.activate.ensures.others ∙ c.put_anew.ensures.areas) i) c.args.plan.areas.items);
  desktop = c.commit.ensures.desktop;
  bar = rw (c.commit.ensures.others, c.activate.ensures.others, c.put_anew.ensures.others) refl;
  font = rw (c.commit.ensures.others, c.activate.ensures.others, c.put_anew.ensures.others) refl;
  gray = rw (c.commit.ensures.others, c.activate.ensures.others, c.put_anew.ensures.others) refl;
  active = ap (λ t. t.windows.active) c.commit.ensures.others ∙ c.activate.ensures.active ∙ ap (active_after c.args.activation) c.put_anew.ensures.active;
  next = ap (λ t. t.windows.next) c.commit.ensures.others ∙ c.activate.ensures.next ∙ c.put_anew.ensures.next;
}
