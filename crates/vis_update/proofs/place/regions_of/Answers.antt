use Rattle.vis_update.proofs.PlaceLemmas.{stays_with_box, placed_parts}
use Rattle.vis_update.proofs.place.regions_of.Goals as goal

pub regions_for-requires : goal.regions_for-requires
regions_for-requires g c = (placed_parts _ _ _ c.requires).fits

pub move_by-requires : goal.move_by-requires
move_by-requires g c = stays_with_box _ _ _ c.in_ok-regions.ensures.boxed (placed_parts _ _ _ c.requires).moved

pub move_by-requires-2 : goal.move_by-requires-2
move_by-requires-2 g c = stays_with_box _ _ _ (λ p e. c.in_ok-regions.ensures.boxed p (c.in_ok-regions.ensures.within p e)) (placed_parts _ _ _ c.requires).moved
