use Rattle.std.proofs.Common.{◌≡◌, ◌∙◌, inr, sym, refl, length, rules, SFits, w32}
use Rattle.std.proofs.lemmas.Int.{to_z-of_z}
use Rattle.scan_region.proofs.CutLayers.{open_cut}
use Rattle.scan_region.proofs.cut.Cut.first_asked.Goals as goal

pub returns : goal.returns
returns c =
    let fits : SFits w32 c.args.area.bottom = search rules in
    let fits_t : SFits w32 c.args.area.top = search rules in
    let long : length c.args.self.now.inside ≡ 3 = search rules in
    simp to_z-of_z (inr (
      refl,
      λ p.
          open_cut c.args.self.now c.index-parts-0.result c.index-parts-1.result c.index-parts-2.result p long c.index-parts-0.is c.index-parts-1.is c.index-parts-2.is
          (sym c.is_some.ensures ∙ c.if-is_some.false) (sym c.is_some-else-is_some.ensures ∙ c.if-is_some-2.false) (sym c.is_some-else-is_some-2.ensures ∙ c.if-is_some-3.false) (sym c.is_some-2.ensures ∙ c.if-is_some-4.false),
    ))
