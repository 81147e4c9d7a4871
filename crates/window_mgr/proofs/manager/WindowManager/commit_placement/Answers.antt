use Rattle.std.proofs.Common.{ap, ◌∙◌, refl, arith}
use Rattle.std.proofs.lemmas.Bool.{and_parts}
use Rattle.window_mgr.proofs.EditSeats.{there_is}
use Rattle.window_mgr.proofs.PaintLemmas.{settled_in}
use Rattle.window_mgr.proofs.PlacementCalls as placing
use Rattle.vis_update.proofs.PlaceLemmas.{placed_parts}
use Rattle.window_mgr.proofs.manager.WindowManager.commit_placement.Goals as goal

pub set_placement-requires-clause-live : goal.set_placement-requires-clause-live
set_placement-requires-clause-live g c =
    let found = there_is c.args.self.now.windows.records.items c.args.at c.requires.at in
    rw (placing.read_at c.args.self.now.windows.records.items c.args.at found.0 c.requires.at found.1)
    (settled_in _ c.args.self.now.windows.records.items c.args.at found.0 c.requires.at found.1 c.requires.settled).live

pub set_placement-requires-clause-fits : goal.set_placement-requires-clause-fits
set_placement-requires-clause-fits g c =
    let found = there_is c.args.self.now.windows.records.items c.args.at c.requires.at in
    rw (placing.read_at c.args.self.now.windows.records.items c.args.at found.0 c.requires.at found.1)
    (placed_parts _ c.args.placement.place c.args.placement.size (and_parts _ _ (c.requires.placeable found.0 found.1).0).0).fits

pub set_placement-requires-clause-placed : goal.set_placement-requires-clause-placed
set_placement-requires-clause-placed g c =
    let found = there_is c.args.self.now.windows.records.items c.args.at c.requires.at in
    (placed_parts _ c.args.placement.place c.args.placement.size (and_parts _ _ (c.requires.placeable found.0 found.1).0).0).place_in

pub set_placement-requires-clause-fit : goal.set_placement-requires-clause-fit
set_placement-requires-clause-fit g c =
    let found = there_is c.args.self.now.windows.records.items c.args.at c.requires.at in
    rw (placing.read_at c.args.self.now.windows.records.items c.args.at found.0 c.requires.at found.1)
    (and_parts _ _ (c.requires.placeable found.0 found.1).0).1

pub commit-requires-clause-settled : goal.commit-requires-clause-settled
commit-requires-clause-settled g c =
    let found = there_is c.args.self.now.windows.records.items c.args.at c.requires.at in
    let lies = rw (placing.read_at c.args.self.now.windows.records.items c.args.at found.0 c.requires.at found.1) at c.set_placement.ensures.placed in
    placing.all_settled _ c.requires.at found.1 lies (c.requires.placeable found.0 found.1) c.requires.settled

pub commit-requires-clause-parts : goal.commit-requires-clause-parts
commit-requires-clause-parts g c =
    let found = there_is c.args.self.now.windows.records.items c.args.at c.requires.at in
    let lies = rw (placing.read_at c.args.self.now.windows.records.items c.args.at found.0 c.requires.at found.1) at c.set_placement.ensures.placed in
    let many = placing.as_many _ c.requires.at found.1 lies in
    let long = c.args.plan.parts.ok.0 in
    let parts = c.requires.parts in
    omega arith

pub returns : goal.returns
returns g c =
    let found = there_is c.args.self.now.windows.records.items c.args.at c.requires.at in
    let lies = rw (placing.read_at c.args.self.now.windows.records.items c.args.at found.0 c.requires.at found.1) at c.set_placement.ensures.placed in
    record {
      window = found.0;
      at = found.1;
      lies = rw c.commit.ensures.others lies;
      drawn = rw c.commit.ensures.others c.commit.ensures.drawn;
      areas = c.commit.ensures.areas;
      desktop = c.commit.ensures.desktop;
      bar = rw c.commit.ensures.others refl;
      font = rw c.commit.ensures.others refl;
      gray = rw c.commit.ensures.others refl;
      active = ap (λ t. t.windows.active) c.commit.ensures.others ∙ ap (λ l. l.active) c.set_placement.ensures.others;
      next = ap (λ t. t.windows.next) c.commit.ensures.others ∙ ap (λ l. l.next) c.set_placement.ensures.others;
    }
