use Rattle.std.proofs.Common.{◌≡◌, Some, sym, ap, ◌∙◌}
use Rattle.window_list.proofs.ChangeLemmas.{heard_placed}
use Rattle.std.specs.Prelude.{slice_get, slice_set}
use Rattle.std.proofs.lemmas.Option.{slice_get-get_or}
use Rattle.window_list.proofs.list.WindowList.set_placement.Goals as goal

pub returns-clause-placed : goal.returns-clause-placed
returns-clause-placed g c =
    let there : slice_get c.args.self.now.records.items c.args.at ≡ Some c.at_mut-window.result.now = slice_get-get_or _ _ _ c.requires.within ∙ ap Some (sym c.at_mut-window.ensures.value) in
    rw there (record {
      taken = c.told-damage-2.new.self;
      items = (λ i. slice_set c.args.self.now.records.items c.args.at (record c.at_mut-window.result.now {
        place = c.args.placement.place;
        size = c.args.placement.size;
        user_state = c.args.placement.user_state;
        heard = record c.at_mut-window.result.now.heard { zoomed = c.is_some-is_zoomed.ensures i };
        layers = c.go_to.ensures i;
        taken = c.told-damage-2.new.self;
      }));
      live = c.told-damage-2.ensures.stays;
      told = c.told-damage-2.ensures.size ∙ c.told-damage.ensures.size;
      regions = record {
        structure = c.told-damage-2.ensures.regions.structure ∙ c.told-damage.ensures.regions.structure;
        content = c.told-damage-2.ensures.regions.content ∙ c.told-damage.ensures.regions.content;
        bounds = c.told-damage-2.ensures.regions.bounds ∙ c.told-damage.ensures.regions.bounds;
        lines = c.told-damage-2.ensures.regions.lines ∙ c.told-damage.ensures.regions.lines;
      };
      heard = heard_placed c.args.placement.size _ _ c.is_some-is_zoomed.ensures c.told-damage.ensures.heard c.told-damage-2.ensures.heard;
      slot = c.told-damage-2.ensures.slot ∙ c.told-damage.ensures.slot;
    })
