use Rattle.std.proofs.Common.{◌≡◌, length, negsuc, refl, arith, rules, SFits, w32}
use Rattle.std.proofs.lemmas.Int.{ints, to_z-of_z}
use Rattle.scan_region.specs.Cuts.{cut_holds}
use Rattle.region_rows.specs.Seen.{seen_set}
use Rattle.region_rows.proofs.LineTurns.{no_bit}
use Rattle.scan_region.proofs.CutLayers.{cut_walk, are_full, fit_up, seen_split, split_scan}
use Rattle.scan_region.proofs.cut.Cut.walk_within.Goals as goal

pub invariant_of-result-2 : goal.invariant_of-result-2
invariant_of-result-2 c =
    let fits_l : SFits w32 c.args.area.left = search rules in
    let fits_t : SFits w32 c.args.area.top = search rules in
    let fits_r : SFits w32 c.args.area.right = search rules in
    let fits_b : SFits w32 c.args.area.bottom = search rules in
    let fits_a : SFits w32 c.first_asked-asked.result = search rules in
    let long : length c.args.self.now.inside ≡ 3 = search rules in
    let first = simp to_z-of_z at c.new-first.ensures in
    let second = simp to_z-of_z at c.new-second.ensures in
    let third = simp to_z-of_z at c.new-third.ensures in
    let hole = simp to_z-of_z at c.new-hole.ensures in
    let split = c.first_asked-asked.ensures in
    simp to_z-of_z (
      are_full c.args.area c.first_asked-asked.result _ c.requires split,
      record {
        walk = cut_walk _ c.args.self.now c.args.up c.index-parts-0.result c.index-parts-1.result c.index-parts-2.result long c.index-parts-0.is c.index-parts-1.is c.index-parts-2.is
            (first.part _ (no_bit _ 128 refl) _) (second.part _ (no_bit _ 128 refl) _) (third.part _ (no_bit _ 128 refl) _) (hole.part _ (no_bit _ 128 refl) _);
        sides = record {
          end = refl;
          begun = c.requires.0;
          row = omega (arith, ints);
          after_first = c.new-first.new.free;
          after_second = c.new-second.new.free;
          after_third = c.new-third.new.free;
          first = first.fit;
          second = second.fit;
          third = third.fit;
          hole = fit_up _ _ _ c.new-hole.new.free 8192 _ hole.room hole.fit;
        };
        order = search (rules, ints);
        column = c.requires.1;
        same = λ w a b. absurd (omega (arith, ints));
        whole = λ m. absurd (omega (arith, ints));
      },
    )

pub returns : goal.returns
returns c =
    let fits_l : SFits w32 c.args.area.left = search rules in
    let fits_t : SFits w32 c.args.area.top = search rules in
    let fits_r : SFits w32 c.args.area.right = search rules in
    let fits_b : SFits w32 c.args.area.bottom = search rules in
    let fits_a : SFits w32 c.first_asked-asked.result = search rules in
    let split = c.first_asked-asked.ensures in
    simp to_z-of_z (split_scan (seen_set c.args.up (cut_holds c.args.self.now)) c.args.area c.first_asked-asked.result c.first_asked-asked.result (negsuc 2147483647) 0 c.new.result.items c.new.ensures (seen_split c.args.up c.args.self.now c.args.area c.first_asked-asked.result split))
