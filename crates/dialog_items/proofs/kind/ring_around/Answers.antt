use Rattle.dialog_items.proofs.RectFacts.{bottom_back}
use Rattle.dialog_items.proofs.kind.ring_around.Goals as goal

pub more_ring-requires-2 : goal.more_ring-requires-2
more_ring-requires-2 c = bottom_back c.args.rect c.requires
