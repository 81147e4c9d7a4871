-- What is read of a window, and sizes within limits.
use Rattle.std.proofs.Common.{◌≡◌, ℕ, true, ◌&&◌, map, Some, ℤ, ◌+ℤ◌, arith}
use Rattle.std.proofs.lemmas.Bool.{and_parts}
use Rattle.std.proofs.lemmas.Int.{ints, clamps}
use Rattle.tb_geom.specs.declared.point.Point.{Point}
use Rattle.def_iface.specs.declared.size.Size.{Size}
use Rattle.def_iface.specs.Slots.{TakenBox}
use Rattle.def_iface.specs.WindowMeaning.{WindowLoan}
use Rattle.def_iface.specs.Sizes.{is_extent, is_size}
use Rattle.desk_call.specs.declared.outline.SizeLimits.{SizeLimits}
use Rattle.desk_call.specs.Outlines.{are_limits}
use Rattle.vis_update.specs.Records.{record_of}
use Rattle.window_list.specs.declared.window.Window.{Window}
use Rattle.window_mgr.specs.declared.manager.WindowManager.{WindowManager}
use Rattle.window_mgr.specs.Edits.{IsWindowAt, StandsAt}
use Rattle.window_mgr.specs.Finding.{record_with}
use Rattle.window_mgr.specs.Kept.{IsKept}
use Rattle.window_mgr.specs.Whole.{IsSettled}
use Rattle.window_mgr.proofs.TellLemmas as telling
use Rattle.window_outline.specs.Outlining.{clamped, grown}

-- ---- the window of a serial

module _ {V : Type 0} {H : V → Type 0} (loan : TakenBox V H → WindowLoan) (t : WindowManager V H) (kept : IsKept loan t) (s at : ℕ) (stands : StandsAt t.windows.records.items s at)
    (x : Window V H) (x_is : IsWindowAt t.windows.records.items at x) where
  pub read : record_with s (map (record_of loan) t.windows.records.items) ≡ Some (record_of loan x)
  read = telling.found loan t kept s at x stands.0 x_is (stands.1 x x_is)

  pub read_settled : IsSettled (record_of loan x)
  read_settled = telling.settled loan t kept s at x stands.0 x_is (stands.1 x x_is)

-- ---- sizes

-- a number within two extents is one
extent_within : (least most n : ℤ) → is_extent least ≡ true → is_extent most ≡ true → is_extent (clamped least most n) ≡ true
extent_within least most n low high = grind (arith, ints, clamps)

-- so a size within its limits is one
pub size_within : (limits : SizeLimits) (size : Size) (way : Point) → are_limits limits ≡ true → is_size (grown limits size way) ≡ true
size_within limits size way are =
    let sizes = and_parts (is_size limits.least && is_size limits.most) _ are in
    let both = and_parts (is_size limits.least) (is_size limits.most) sizes.0 in
    let least = and_parts (is_extent limits.least.width) (is_extent limits.least.height) both.0 in
    let most = and_parts (is_extent limits.most.width) (is_extent limits.most.height) both.1 in
    λ i. extent_within limits.least.width limits.most.width (size.width +ℤ way.h) least.0 most.0 i && extent_within limits.least.height limits.most.height (size.height +ℤ way.v) least.1 most.1 i
