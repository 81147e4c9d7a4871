use Rattle.std.proofs.Common.{◌≡◌, ◌&&◌, ◌≤ℤ◌, true, false, [], ◌∷◌, length, pos, refl, sym, ap, ◌∙◌, rules, SFits, w32}
use Rattle.std.proofs.lemmas.Int.{ints}
use Rattle.tb_geom.specs.Rects.{rect_holds}
use Rattle.scan_region.specs.Cuts.{cut_holds}
use Rattle.scan_region.specs.Parts.{lets}
use Rattle.region_rows.specs.Seen.{seen_point, seen_set}
use Rattle.scan_region.specs.declared.cut.Cut.{Cut}
use Rattle.scan_region.proofs.Boxes.{upright}
use Rattle.scan_region.proofs.CutLayers.{cut_parts, all_narrowed, both_same}
use Rattle.scan_region.proofs.WalkScan.{IsScanOf-same}
use Rattle.scan_region.proofs.cut.Cut.spans_seen.Goals as goal

pub walk_within-requires : goal.walk_within-requires
walk_within-requires c =
    let fits : SFits w32 c.sect-area.result.right = search rules in
    let small : c.sect-area.result.right ≤ℤ pos 2147483647 = search (rules, ints) in
    c.part_within-third.ensures.upright (c.part_within-second.ensures.upright (c.part_within-first.ensures.upright (upright c.sect-area.result small c.sect-area.ensures.none)))

pub returns : goal.returns
returns c =
    let cut = c.args.self.now in
    let up = c.args.up in
    let long : length c.args.self.now.inside ≡ 3 = search rules in
    let n : Cut = record { inside = c.part_within-first.result ∷ c.part_within-second.result ∷ c.part_within-third.result ∷ []; outside = c.hole_within.result } in
    IsScanOf-same c.walk_within.result (λ p. rect_holds c.part_within-third.new.area p && seen_set up (cut_holds n) p) (λ p. rect_holds c.args.area p && seen_set up (cut_holds cut) p)
    (λ p.
    let q = seen_point up p in
    (λ i. both_same (rect_holds c.args.area p) (rect_holds c.sect-area.result p) (c.sect-area.ensures.pixels p) i && cut_parts cut c.index-parts-0.result c.index-parts-1.result c.index-parts-2.result q long c.index-parts-0.is c.index-parts-1.is c.index-parts-2.is i)
    ∙ sym (all_narrowed (rect_holds c.sect-area.result p) (rect_holds c.part_within-first.new.area p) (rect_holds c.part_within-second.new.area p) (rect_holds c.part_within-third.new.area p)
    (lets false c.index-parts-0.result q) (lets false c.part_within-first.result q) (lets false c.index-parts-1.result q) (lets false c.part_within-second.result q) (lets false c.index-parts-2.result q) (lets false c.part_within-third.result q) (lets true cut.outside q) (lets true c.hole_within.result q)
    (c.part_within-first.ensures.pixels p) (c.part_within-second.ensures.pixels p) (c.part_within-third.ensures.pixels p) (c.hole_within.ensures p))
    ∙ ap (λ b. rect_holds c.part_within-third.new.area p && b) (sym (cut_parts n c.part_within-first.result c.part_within-second.result c.part_within-third.result q refl refl refl refl)))
    c.walk_within.ensures
