-- Where a menu lies below its title, on a screen as wide as screens are.
use Rattle.std.proofs.Common.{◌≡◌, ◌≤◌, ℕ, ℤ, pos, Bool, true, ◌&&◌, List, None, SFits, w32, to_z, of_z, ◌≤ℤ◌, ap, ◌∙◌, arith}
use Rattle.std.specs.Prelude.{int_le}
use Rattle.std.proofs.lemmas.Bool.{and_parts}
use Rattle.std.proofs.lemmas.Int.{ints, to_z-of_z}
use Rattle.tb_geom.specs.declared.point.Point.{Point}
use Rattle.def_iface.specs.declared.size.Size.{Size}
use Rattle.def_iface.specs.Slots.{TakenBox}
use Rattle.def_iface.specs.WindowMeaning.{WindowLoan}
use Rattle.desk_ground.specs.declared.bar.TitleHit.{TitleHit}
use Rattle.overlay.specs.Places.{pulled_place, shown_size}
use Rattle.window_mgr.specs.declared.manager.WindowManager.{WindowManager}
use Rattle.window_mgr.specs.FullDesk.{FullDesk}
use Rattle.window_mgr.specs.Kept.{IsKept}
use Rattle.menu_mgr.specs.MenuDesks.{MenuRecord}
use Rattle.menu_mgr.specs.Pulling.{pulled_below, size_of}

abbrev is_side : ℕ → Bool
is_side n = int_le (pos 8) (pos n) && int_le (pos n) (pos 1024)

few_pixels : (n : ℕ) → is_side n ≡ true → n ≤ 1024
few_pixels n e = grind (arith, ints)

-- no side of a screen is longer
pub narrow : {V : Type 0} {H : V → Type 0} (loan : TakenBox V H → WindowLoan) (t : WindowManager V H) → IsKept loan t → (t.screen.width ≤ 1024) × (t.screen.height ≤ 1024)
narrow loan t kept =
    let one = and_parts (is_side t.screen.width) _ kept.whole.sound.screen in
    let two = and_parts (is_side t.screen.height) _ one.1 in
    (few_pixels t.screen.width one.0, few_pixels t.screen.height two.0)

-- nor is that a number that does not fit
pub side_in_range : (x : ℤ) (n : ℕ) → SFits w32 x → x ≡ pos n → n ≤ 1024 → (pos 0 ≤ℤ to_z w32 (of_z w32 x)) × (to_z w32 (of_z w32 x) ≤ℤ pos 1024)
side_in_range x n fits is few = simp to_z-of_z (omega (arith, ints), omega (arith, ints))

-- the parts of the menu that is pulled down below a title
pub below_is : (desk : FullDesk) (hit : TitleHit) (l : MenuRecord) (font : List ℕ) (width : ℤ) (size shown : Size) (place : Point)
    → font ≡ desk.font → width ≡ desk.width → size ≡ l.definition.definition.size font l.menu → shown ≡ shown_size l.menu size → place ≡ pulled_place width hit.left shown
    → record { menu = hit.menu; place = place; size = shown; item = None } ≡ pulled_below desk (record { hit = hit; record_of = l })
below_is desk hit l font width size shown place same_font same_width is large at =
    let s : shown ≡ size_of desk.font l = large ∙ ap (shown_size l.menu) (is ∙ ap (λ f. l.definition.definition.size f l.menu) same_font) in
    let p : place ≡ pulled_place desk.width hit.left (size_of desk.font l) = at ∙ (λ i. pulled_place (same_width i) hit.left (s i)) in
    λ i. record { menu = hit.menu; place = p i; size = s i; item = None }
