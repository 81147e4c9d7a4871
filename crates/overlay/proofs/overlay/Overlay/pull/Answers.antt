use Rattle.std.proofs.Common.{refl}
use Rattle.overlay.specs.Overlays.{pulled_rect}
use Rattle.overlay.proofs.ShownLemmas.{pulled_shows}
use Rattle.overlay.proofs.overlay.Overlay.pull.Goals as goal

pub returns : goal.returns
returns g c base =
    pulled_shows c.args.font.now _ (pulled_rect c.args.place c.args.size) base c.args.self.now.front c.draw_pulled.new.map refl c.draw_pulled.ensures
