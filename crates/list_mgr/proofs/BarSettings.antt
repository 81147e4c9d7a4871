-- The settings of scroll bars are such that controls may have.
use Rattle.std.proofs.Common.{◌≡◌, ℕ, ◌≤◌, ℤ, pos, true, arith}
use Rattle.std.specs.Prelude.{◌≤ℤ◌}
use Rattle.std.proofs.lemmas.Int.{clamps, ints}
use Rattle.control_values.specs.Settings.{is_in_range, settled}
use Rattle.list_view.specs.declared.axis.Axis.{Axis}
use Rattle.list_view.specs.Axes.{bound}
use Rattle.control_mgr.specs.Settled.{MayHaveSetting}
use Rattle.control_mgr.proofs.Sound.{between}
use Rattle.list_mgr.proofs.Becoming.{bound_least}

in_range : (z : ℤ) → pos 0 ≤ℤ z → z ≤ℤ pos 4096 → is_in_range z ≡ true
unfolding is_in_range
in_range z least most = grind (arith, ints)

bound_most : (a : Axis) (count : ℕ) → count ≤ 4096 → bound a count ≤ℤ pos 4096
bound_most a count few = omega (arith, ints, clamps, few)

none_least : pos 0 ≤ℤ pos 0
none_least = omega (arith, ints)

none_most : pos 0 ≤ℤ pos 4096
none_most = omega (arith, ints)

pub bar_may : (a : Axis) (count : ℕ) (first : ℤ) → count ≤ 4096 → MayHaveSetting (settled (pos 0) (bound a count) first)
bar_may a count first few =
    between (pos 0) (bound a count) first (in_range (pos 0) none_least none_most) (in_range (bound a count) (bound_least a count) (bound_most a count few)) (bound_least a count)
