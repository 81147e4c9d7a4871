use Rattle.std.proofs.Common.{◌≡◌, refl, ◌≤◌, [], get_or, pos, rules, SFits, w32, sym, length}
use Rattle.std.proofs.lemmas.Int.{ints, to_z-of_z}
use Rattle.std.proofs.lemmas.List.{nil_from_length}
use Rattle.region_rows.proofs.Turnings.{TurnsTo-none, TurnsTo-first, TurnsTo-second, TurnsTo-neither, one_part, TurnsTo-parts, turned_first, turned_second}
use Rattle.region_rows.proofs.turning.keep_turned.Goals as goal

pub loop-xs-init : goal.loop-xs-init
loop-xs-init c = rw c.clear.ensures.items (TurnsTo-none _ _ c.requires.edges c.requires.columns)

pub loop-xs-preserved-in_ok-push : goal.loop-xs-preserved-in_ok-push
loop-xs-preserved-in_ok-push c =
    let xs = c.loop-xs.xs.now in
    let ys = c.loop-xs.ys.now in
    let some = c.in-len1-up-len1-up in
    let x_some : 1 ≤ length c.loop-xs.xs.now = search rules in
    let y_some : 1 ≤ length c.loop-xs.ys.now = search rules in
    let x_part = one_part xs x_some in
    let y_part = one_part ys y_some in
    let fits_x : SFits w32 (get_or c.loop-xs.xs.now 0 (pos 0)) = search rules in
    let fits_y : SFits w32 (get_or c.loop-xs.ys.now 0 (pos 0)) = search rules in
    let s = TurnsTo-parts _ _ xs ys _ _ _ x_part y_part c.loop-xs.invariant in
    rw c.in_ok-push.ensures.items (simp to_z-of_z (TurnsTo-parts _ _ _ _ _ _ _ refl (sym y_part) (TurnsTo-first _ _ (get_or xs 0 (pos 0)) _ (get_or ys 0 (pos 0)) _ _ (search (rules, ints)) s)))

pub loop-xs-preserved-in_ok-push-2 : goal.loop-xs-preserved-in_ok-push-2
loop-xs-preserved-in_ok-push-2 c =
    let xs = c.loop-xs.xs.now in
    let ys = c.loop-xs.ys.now in
    let some = c.in-len1-up-len1-up in
    let x_some : 1 ≤ length c.loop-xs.xs.now = search rules in
    let y_some : 1 ≤ length c.loop-xs.ys.now = search rules in
    let x_part = one_part xs x_some in
    let y_part = one_part ys y_some in
    let fits_x : SFits w32 (get_or c.loop-xs.xs.now 0 (pos 0)) = search rules in
    let fits_y : SFits w32 (get_or c.loop-xs.ys.now 0 (pos 0)) = search rules in
    let s = TurnsTo-parts _ _ xs ys _ _ _ x_part y_part c.loop-xs.invariant in
    rw c.in_ok-push-2.ensures.items (simp to_z-of_z (TurnsTo-parts _ _ _ _ _ _ _ (sym x_part) refl (TurnsTo-second _ _ (get_or xs 0 (pos 0)) _ (get_or ys 0 (pos 0)) _ _ (search (rules, ints)) s)))

pub loop-xs-preserved : goal.loop-xs-preserved
loop-xs-preserved c =
    let xs = c.loop-xs.xs.now in
    let ys = c.loop-xs.ys.now in
    let some = c.in-len1-up-len1-up in
    let x_some : 1 ≤ length c.loop-xs.xs.now = search rules in
    let y_some : 1 ≤ length c.loop-xs.ys.now = search rules in
    let x_part = one_part xs x_some in
    let y_part = one_part ys y_some in
    let fits_x : SFits w32 (get_or c.loop-xs.xs.now 0 (pos 0)) = search rules in
    let fits_y : SFits w32 (get_or c.loop-xs.ys.now 0 (pos 0)) = search rules in
    let s = TurnsTo-parts _ _ xs ys _ _ _ x_part y_part c.loop-xs.invariant in
    TurnsTo-neither _ _ _ _ _ _ _ (search (rules, ints)) (search (rules, ints)) s

pub returns-then-is_empty : goal.returns-then-is_empty
returns-then-is_empty c =
    let nil : c.loop-xs.xs.now ≡ [] = nil_from_length _ (search rules) in
    let t = turned_first _ _ _ _ _ nil c.loop-xs.invariant in
    rw c.in_ok-push_all.ensures (record { pixels = t.pixels; edges = t.edges })

pub returns : goal.returns
returns c =
    let own = c.if-xs-lt1.branch in
    let nil : c.loop-xs.ys.now ≡ [] = nil_from_length _ (search rules) in
    let t = turned_second _ _ _ _ _ nil c.loop-xs.invariant in
    rw c.in_ok-push_all-2.ensures (record { pixels = t.pixels; edges = t.edges })
