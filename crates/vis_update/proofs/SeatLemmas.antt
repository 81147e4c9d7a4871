-- Areas on a screen, and the seats of windows that stay as they are.
use Rattle.std.proofs.Common.{◌≡◌, ℕ, suc, ◌==◌, Bool, true, false, not, ◌&&◌, ◌||◌, ℤ, pos, ◌≤ℤ◌, List, [], ◌∷◌, length, Some, None, if◌then◌else◌, refl, sym, ap, ◌∙◌, subst, arith}
use Rattle.std.specs.Prelude.{All}
use Rattle.std.proofs.lemmas.Bool.{and_parts}
use Rattle.std.proofs.lemmas.Bool.Decides.{nat_tests}
use Rattle.std.proofs.lemmas.Int.{ints}
use Rattle.std.proofs.lemmas.List.Elements.{All-weaker}
use Rattle.tb_geom.specs.declared.point.Point.{Point}
use Rattle.tb_geom.specs.Points.{PixelSet}
use Rattle.tb_geom.specs.Pixels.{Pixels, holds}
use Rattle.tb_geom.specs.Rects.{between}
use Rattle.def_iface.specs.Slots.{TakenBox}
use Rattle.def_iface.specs.WindowMeaning.{WindowLoan}
use Rattle.desk_layers.specs.Desk as layers
use Rattle.desk_layers.specs.Desk.{LayeredDesk}
use Rattle.desk_layers.specs.Owner.{Owner, owner, owner_among, same_owner}
use Rattle.desk_layers.specs.Owner.Owner.{Desktop, Bar, Frame, Content}
use Rattle.desk_layers.proofs.Owning.{is_other, owner_is_other}
use Rattle.window_list.specs.declared.window.Window.{Window}
use Rattle.vis_update.specs.declared.area.Area.{Area}
use Rattle.vis_update.specs.declared.plan.Seat.{Seat}
use Rattle.vis_update.specs.declared.plan.Touch.{Touch}
use Rattle.vis_update.specs.Records.{WindowRecord, record_of}
use Rattle.vis_update.specs.Places.{is_placed}
use Rattle.vis_update.specs.Areas.{IsArea, AreAreas, IsNowhere, IsGray, IsNear, is_content_of}
use Rattle.vis_update.specs.Seats.{stand_of, seat_stand, IsPlacedSeat, IsNearSeat, IsSeatOf}
use Rattle.vis_update.specs.Plans.{IsLosing}
use Rattle.vis_update.specs.Hands.{IsLostOf}
use Rattle.vis_update.proofs.Others.{not_content, not_same_frame}

-- ---- areas on a screen

-- what of a desk's screen something has is near
near_screen : (desk : LayeredDesk) (r : Pixels) (its : Point → Bool) → desk.width ≤ℤ pos 1024 → desk.height ≤ℤ pos 1024 → ((p : Point) → holds r p ≡ (layers.on_screen desk p && its p)) → IsNear r
near_screen desk r its wide high r_is p e =
    let on = and_parts (between (pos 0) p.h desk.width) (between (pos 0) p.v desk.height) (and_parts (layers.on_screen desk p) (its p) (sym (r_is p) ∙ e)).0 in
    λ i. side desk.width p.h wide on.0 i && side desk.height p.v high on.1 i
  where
    side : (n x : ℤ) → n ≤ℤ pos 1024 → between (pos 0) x n ≡ true → between (pos 0) x (pos 1024) ≡ true
    side n x a b = grind (arith, ints)

pub gray_near : (desk : LayeredDesk) (gray : Pixels) → desk.width ≤ℤ pos 1024 → desk.height ≤ℤ pos 1024 → IsGray desk gray → IsNear gray
gray_near desk gray wide high its = near_screen desk gray (λ p. not (layers.in_bar desk p)) wide high its

-- the pixels of a window's area are the screen's
pub area_near : (desk : LayeredDesk) (stale : PixelSet) (n : ℕ) (a : Area) → desk.width ≤ℤ pos 1024 → desk.height ≤ℤ pos 1024 → IsArea desk stale n a → IsNear a.visible × IsNear a.update
area_near desk stale n a wide high its =
    let visible = near_screen desk a.visible (λ p. is_content_of n (owner desk p)) wide high its.visible in
    (visible, (λ p e. visible p (and_parts (holds a.visible p) (stale p) (sym (its.update p) ∙ e)).0))

pub seats_near : {V : Type 0} {H : V → Type 0} (desk : LayeredDesk) (stale : PixelSet) (seats : List (Seat V H)) → desk.width ≤ℤ pos 1024 → desk.height ≤ℤ pos 1024 → All (λ s. IsArea desk stale s.serial s.area.now) seats → All IsNearSeat seats
seats_near desk stale seats wide high all = All-weaker (λ s. IsArea desk stale s.serial s.area.now) IsNearSeat (λ s its. area_near desk stale s.serial s.area.now wide high its) seats all

-- there are as many areas as windows
pub as_many : (desk : LayeredDesk) (stale : PixelSet) (ws : List WindowRecord) (areas : List Area) → AreAreas desk stale ws areas → length areas ≡ length ws
as_many desk stale [] [] its = refl
as_many desk stale (w ∷ ws) (a ∷ areas) its = ap suc (as_many desk stale ws areas its.1)
as_many desk stale [] (a ∷ areas) its = absurd its
as_many desk stale (w ∷ ws) [] its = absurd its

-- a window that is not on the desk has no pixel
pub absent_area : (desk : LayeredDesk) (stale : PixelSet) (n : ℕ) (a : Area) → layers.window_of n desk.windows ≡ None → IsNowhere a → IsArea desk stale n a
absent_area desk stale n a absent nowhere = record {
  visible = λ p. nowhere.visible p ∙ sym (off (layers.on_screen desk p) _ (not_content n (owner desk p) (other p)));
  update = λ p. nowhere.update p ∙ sym (ap (λ b. b && stale p) (nowhere.visible p));
  frame = λ p. nowhere.frame p ∙ sym (off (layers.on_screen desk p) _ (not_same_frame n (owner desk p) (other p)));
}
  where
    off : (x y : Bool) → y ≡ false → (x && y) ≡ false
    off true y e = e
    off false y e = refl

    in_bar : (b : Bool) (o : Owner) → is_other n o ≡ true → is_other n (if b then Bar else o) ≡ true
    in_bar true o e = refl
    in_bar false o e = e

    other : (p : Point) → is_other n (owner desk p) ≡ true
    other p = in_bar (layers.in_bar desk p) (owner_among desk.windows p) (owner_is_other desk.windows p n absent)

-- ---- the seat of a window that stays as it is

module _ {V : Type 0} {H : V → Type 0} where
  pub seat_had : (desk : LayeredDesk) (stale : PixelSet) (w : Window V H) (a : Area) (s : Seat V H) → IsSeatOf w a s → IsArea desk stale w.serial a → IsArea desk stale s.serial s.area.now
  seat_had desk stale w a s its had = subst (λ (x : ℕ × Area). IsArea desk stale x.0 x.1) (λ i. (sym its.serial i, sym its.area i)) had

-- `loan` says what a definition that was taken means
module _ {V : Type 0} {H : V → Type 0} (loan : TakenBox V H → WindowLoan) where
  pub seat_is_stand : (w : Window V H) (a : Area) (s : Seat V H) → IsSeatOf w a s → seat_stand loan s ≡ stand_of (record_of loan w)
  seat_is_stand w a s its = λ i. record {
    serial = its.serial i;
    place = its.place i;
    shown = its.shown i;
    structure = (loan (its.taken i)).definition.structure (its.size i);
    content = (loan (its.taken i)).definition.content (its.size i);
  }

  pub seat_placed : (w : Window V H) (a : Area) (s : Seat V H) → IsSeatOf w a s → is_placed (Some (loan w.taken).definition) w.place w.size ≡ true → IsPlacedSeat loan s
  seat_placed w a s its placed = (λ i. is_placed (Some (loan (its.taken i)).definition) (its.place i) (its.size i)) ∙ placed

-- ---- what windows lose

-- an owner that is one window's is no other's
apart_owner : (s n : ℕ) (o : Owner) → (s == n) ≡ false → (is_content_of s o || same_owner o (Frame s)) ≡ true → (is_content_of n o ≡ false) × (same_owner o (Frame n) ≡ false)
apart_owner s n Desktop away e = absurd (cc)
apart_owner s n Bar away e = absurd (cc)
apart_owner s n (Frame t) away e = (refl, grind (arith, nat_tests))
apart_owner s n (Content t part) away e = (content_away (t == s) (t == n) refl refl e, refl)
  where
    content_away : (a b : Bool) → (t == s) ≡ a → (t == n) ≡ b → (a || false) ≡ true → b ≡ false
    content_away a false f g h = refl
    content_away true true f g h = grind (arith, nat_tests)
    content_away false true f g h = absurd (cc)

-- what another window had of the changed area, that one had not
pub losing_seats : {V : Type 0} {H : V → Type 0} (t : Touch) (desk : LayeredDesk) (stale : PixelSet) (old : Area) (changed lost : Pixels) (seats : List (Seat V H)) → IsArea desk stale t.window old → IsLostOf old changed lost
    → All (λ s. IsArea desk stale s.serial s.area.now) seats → All (IsLosing t (holds changed) (holds lost)) seats
losing_seats {V} {H} t desk stale old changed lost seats had lost_is all = All-weaker (λ s. IsArea desk stale s.serial s.area.now) (IsLosing t (holds changed) (holds lost)) (λ s its. one s its) seats all
  where
    one : (s : Seat V H) → IsArea desk stale s.serial s.area.now → IsLosing t (holds changed) (holds lost) s
    one s its apart p has here =
        let both = shared (layers.on_screen desk p) (is_content_of s.serial (owner desk p)) (same_owner (owner desk p) (Frame s.serial)) ((λ i. sym (its.visible p) i || sym (its.frame p) i) ∙ has) in
        let away = apart_owner s.serial t.window (owner desk p) apart both in
        lost_is p ∙ (λ i. (here i && not ((had.visible p ∙ ap (λ b. layers.on_screen desk p && b) away.0 ∙ and_false (layers.on_screen desk p)) i)) && not ((had.frame p ∙ ap (λ b. layers.on_screen desk p && b) away.1 ∙ and_false (layers.on_screen desk p)) i))
      where
        shared : (on x y : Bool) → ((on && x) || (on && y)) ≡ true → (x || y) ≡ true
        shared true x y e = e
        shared false x y e = absurd (cc)

        and_false : (b : Bool) → (b && false) ≡ false
        and_false true = refl
        and_false false = refl
