use Rattle.std.proofs.Common.{[], refl, sym, ◌∙◌}
use Rattle.def_iface.specs.WindowKeeping.{no_flags}
use Rattle.def_iface.proofs.KeptLemmas.{kept_hears, size_told}
use Rattle.looks.specs.Letters.{lettering}
use Rattle.looks.specs.Marks.{look_bit}
use Rattle.own_window.specs.Banners.{banner_damage, banner_look, banner_hit, word}
use Rattle.own_window.proofs.banner.BannerWindowDef.told.Goals as goal

-- the window keeps its size, which is all that it shows
pub returns-clause-heard : goal.returns-clause-heard
returns-clause-heard c = rw c.size_after-size.ensures (
    kept_hears (λ f title size font. look_bit (lettering font word) (banner_look size)) (λ f. banner_hit) no_flags [] c.args.self.now.size c.args.change _ _ refl refl refl refl)

pub returns-clause-answered : goal.returns-clause-answered
returns-clause-answered c p e =
    (λ i. banner_damage c.args.self.now.size ((size_told c.args.change c.args.self.now.size ∙ sym c.size_after-size.ensures) i) p)
    ∙ c.damage_of-damage.ensures.small p e
