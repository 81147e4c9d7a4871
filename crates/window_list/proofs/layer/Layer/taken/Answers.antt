use Rattle.std.proofs.Common.{sym, subst}
use Rattle.scan_region.specs.Moves.{StaysInRange}
use Rattle.window_list.proofs.Moved.{stays_with_box}
use Rattle.window_list.proofs.layer.Layer.taken.Goals as goal

pub move_by-requires : goal.move_by-requires
move_by-requires c =
    subst (λ r. StaysInRange r c.args.place) (sym c.in_ok-region.ensures)
    (stays_with_box c.args.self.now.region c.args.self.now.bounds c.args.place c.requires.boxed c.requires.fits)
