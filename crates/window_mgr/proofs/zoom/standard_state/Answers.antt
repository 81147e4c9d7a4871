use Rattle.std.proofs.Common.{refl}
use Rattle.std.proofs.lemmas.Int.{to_z-of_z}
use Rattle.window_mgr.proofs.ZoomLemmas.{screen_fits}
use Rattle.window_mgr.proofs.zoom.standard_state.Goals as goal

pub overflow_sub-result-3 : goal.overflow_sub-result-3
overflow_sub-result-3 c =
    let fits = screen_fits c.args.bounds.right c.args.bounds.bottom c.args.bar c.requires in
    let height = fits.height in
    let bar = fits.bar in
    let below = fits.below in
    simp to_z-of_z fits.room

pub returns : goal.returns
returns c =
    let fits = screen_fits c.args.bounds.right c.args.bounds.bottom c.args.bar c.requires in
    let width = fits.width in
    let height = fits.height in
    let bar = fits.bar in
    let top = fits.top in
    let inside = fits.inside in
    let below = fits.below in
    let room = fits.room in
    simp to_z-of_z refl
