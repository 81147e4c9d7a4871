use Rattle.std.proofs.Common.{◌≡◌, ◌≤◌, refl, [], get_or, pos, rules, arith, SFits, w32, sym, length, ap}
use Rattle.std.proofs.lemmas.Int.{ints, to_z-of_z}
use Rattle.std.proofs.lemmas.List.{nil_from_length}
use Rattle.region_rows.proofs.Climbs.{edges_of}
use Rattle.region_rows.proofs.Turnings.{TurnsTo-none, TurnsTo-first, TurnsTo-second, TurnsTo-neither, one_part, TurnsTo-parts, turned_first, turned_second}
use Rattle.shape_region.proofs.TurnLemmas.{turned_row}
use Rattle.shape_region.proofs.long_turns.long_turns.Goals as goal

pub loop-xs-init : goal.loop-xs-init
loop-xs-init c =
    let none : length c.new-points.result.items ≡ 0 = ap length c.new-points.ensures in
    let few = c.requires.few in
    record {
      turned = rw c.new-points.ensures (TurnsTo-none _ _ (edges_of _ c.requires.above) (edges_of _ c.requires.row));
      few = omega (arith, none, few);
    }

pub loop-xs-preserved-then-x-y : goal.loop-xs-preserved-then-x-y
loop-xs-preserved-then-x-y c =
    let xs = c.loop-xs.xs.now in
    let ys = c.loop-xs.ys.now in
    let some = c.in-len1-up-len1-up in
    let x_some : 1 ≤ length c.loop-xs.xs.now = search rules in
    let y_some : 1 ≤ length c.loop-xs.ys.now = search rules in
    let x_part = one_part xs x_some in
    let y_part = one_part ys y_some in
    let fits_x : SFits w32 (get_or c.loop-xs.xs.now 0 (pos 0)) = search rules in
    let fits_y : SFits w32 (get_or c.loop-xs.ys.now 0 (pos 0)) = search rules in
    let s = TurnsTo-parts _ _ xs ys _ _ _ x_part y_part c.loop-xs.invariant.turned in
    let few = c.loop-xs.invariant.few in
    let whole = ap length x_part in
    let more = c.push.ensures.len in
    record {
      turned = rw c.push.ensures.items (simp to_z-of_z (TurnsTo-parts _ _ _ _ _ _ _ refl (sym y_part) (TurnsTo-first _ _ (get_or xs 0 (pos 0)) _ (get_or ys 0 (pos 0)) _ _ (search (rules, ints)) s)));
      few = omega (arith, few, whole, more);
    }

pub loop-xs-preserved-then-y-x : goal.loop-xs-preserved-then-y-x
loop-xs-preserved-then-y-x c =
    let xs = c.loop-xs.xs.now in
    let ys = c.loop-xs.ys.now in
    let some = c.in-len1-up-len1-up in
    let x_some : 1 ≤ length c.loop-xs.xs.now = search rules in
    let y_some : 1 ≤ length c.loop-xs.ys.now = search rules in
    let x_part = one_part xs x_some in
    let y_part = one_part ys y_some in
    let fits_x : SFits w32 (get_or c.loop-xs.xs.now 0 (pos 0)) = search rules in
    let fits_y : SFits w32 (get_or c.loop-xs.ys.now 0 (pos 0)) = search rules in
    let s = TurnsTo-parts _ _ xs ys _ _ _ x_part y_part c.loop-xs.invariant.turned in
    let few = c.loop-xs.invariant.few in
    let whole = ap length y_part in
    let more = c.push-then-y-x.ensures.len in
    record {
      turned = rw c.push-then-y-x.ensures.items (simp to_z-of_z (TurnsTo-parts _ _ _ _ _ _ _ (sym x_part) refl (TurnsTo-second _ _ (get_or xs 0 (pos 0)) _ (get_or ys 0 (pos 0)) _ _ (search (rules, ints)) s)));
      few = omega (arith, few, whole, more);
    }

pub loop-xs-preserved : goal.loop-xs-preserved
loop-xs-preserved c =
    let xs = c.loop-xs.xs.now in
    let ys = c.loop-xs.ys.now in
    let some = c.in-len1-up-len1-up in
    let x_some : 1 ≤ length c.loop-xs.xs.now = search rules in
    let y_some : 1 ≤ length c.loop-xs.ys.now = search rules in
    let x_part = one_part xs x_some in
    let y_part = one_part ys y_some in
    let fits_x : SFits w32 (get_or c.loop-xs.xs.now 0 (pos 0)) = search rules in
    let fits_y : SFits w32 (get_or c.loop-xs.ys.now 0 (pos 0)) = search rules in
    let s = TurnsTo-parts _ _ xs ys _ _ _ x_part y_part c.loop-xs.invariant.turned in
    let few = c.loop-xs.invariant.few in
    let whole = ap length x_part in
    let other = ap length y_part in
    record {
      turned = TurnsTo-neither _ _ _ _ _ _ _ (search (rules, ints)) (search (rules, ints)) s;
      few = omega (arith, few, whole, other);
    }

pub returns-then-is_empty-clause-pixels : goal.returns-then-is_empty-clause-pixels
returns-then-is_empty-clause-pixels c =
    let nil : c.loop-xs.xs.now ≡ [] = nil_from_length _ (search rules) in
    let t = turned_first _ _ _ _ _ nil c.loop-xs.invariant.turned in
    rw c.push_all.ensures t.pixels

pub returns-then-is_empty-clause-row : goal.returns-then-is_empty-clause-row
returns-then-is_empty-clause-row c =
    let nil : c.loop-xs.xs.now ≡ [] = nil_from_length _ (search rules) in
    let t = turned_first _ _ _ _ _ nil c.loop-xs.invariant.turned in
    rw c.push_all.ensures (turned_row _ _ _ c.requires.above c.requires.row t)

pub returns-clause-pixels : goal.returns-clause-pixels
returns-clause-pixels c =
    let own = c.if-xs-lt1.branch in
    let nil : c.loop-xs.ys.now ≡ [] = nil_from_length _ (search rules) in
    let t = turned_second _ _ _ _ _ nil c.loop-xs.invariant.turned in
    rw c.push_all-2.ensures t.pixels

pub returns-clause-row : goal.returns-clause-row
returns-clause-row c =
    let own = c.if-xs-lt1.branch in
    let nil : c.loop-xs.ys.now ≡ [] = nil_from_length _ (search rules) in
    let t = turned_second _ _ _ _ _ nil c.loop-xs.invariant.turned in
    rw c.push_all-2.ensures (turned_row _ _ _ c.requires.above c.requires.row t)
