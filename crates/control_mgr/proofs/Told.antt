-- A control's definition, told all of its control.
use Rattle.std.proofs.Common.{◌≡◌, ℕ, ◌<◌, Bool, true, false, ◌&&◌, ◌||◌, List, length, get_or, set, Some, refl, sym, ap, ◌∙◌, subst}
use Rattle.std.proofs.lemmas.Bool.{and_parts, false≢true}
use Rattle.std.specs.Borrow.{Bor}
use Rattle.std.proofs.lemmas.List.{get_or-set_same, length-set}
use Rattle.std.specs.Prelude.{IfSome, slice_get}
use Rattle.tb_geom.specs.declared.point.Point.{Point}
use Rattle.tb_geom.specs.declared.rect.Rect.{Rect}
use Rattle.tb_geom.specs.Points.{PixelSet, minus}
use Rattle.tb_geom.specs.Rects.{IsBoxOf, in_plane, is_in_range, moved_rect, rect_holds}
use Rattle.tb_geom.proofs.RectLemmas.{holds-moved}
use Rattle.control_values.specs.Settings.{Setting}
use Rattle.window_items.specs.declared.item.Item.{Item}
use Rattle.control_mgr.specs.declared.control.Control.{Control}
use Rattle.control_mgr.specs.Seen.{all_seen, kept_seen, seen}
use Rattle.window_items.proofs.ListLemmas.{set_is_edit}
use Rattle.window_items.proofs.SeenLemmas.{edit_at-seen}
use Rattle.def_iface.specs.declared.size.Size.{Size}
use Rattle.def_iface.specs.Slots.{TakenBox}
use Rattle.def_iface.specs.ControlMeaning.{ControlDefinition, ControlHears, ControlLoan, IsControlBegun, IsControlDamage}
use Rattle.def_iface.specs.ControlNews.{no_control_news, told_all_of_control, told_control, size_news, title_news, setting_news, highlight_news}
use Rattle.def_iface.specs.declared.control_def.ControlChange.TheVariants.{Resized, Titled, Set, Highlighted}
use Rattle.def_iface.specs.WindowMeaning.{IsWithin}
use Rattle.control_mgr.specs.ControlDesks.{ControlRecord, news_of_control}
use Rattle.control_mgr.specs.ControlSteps.{IsChangedAt}
use Rattle.control_mgr.specs.Damages.{HoldsDamages, IsDamageAt, IsDamageOf}
use Rattle.window_paint.proofs.FrameLemmas.{inside_is_point, shared_is}
use Rattle.control_mgr.proofs.Places.{record_read}
use Rattle.control_mgr.proofs.Settled.{retold}
use Rattle.window_items.specs.Items.{with_kept}
use Rattle.window_items.proofs.EditLemmas.{edit_alike}

-- a title that is told is the control's
pub heard_title : (size : Size) (title told : List ℕ) (setting : Setting) (h : ℕ) (old new : ControlDefinition) → told ≡ title
    → ControlHears (told_all_of_control (record { size = size; title = told; setting = setting; highlight = h })) old new
    → ControlHears (told_all_of_control (record { size = size; title = title; setting = setting; highlight = h })) old new
heard_title size title told setting h old new e heard =
    subst (λ (x : List ℕ). ControlHears (told_all_of_control (record { size = size; title = x; setting = setting; highlight = h })) old new) e heard

-- ---- the damage

-- a pixel outside of a box is in no set that it is the box of
outside : (r : Rect) (s : PixelSet) → IsBoxOf r s → (p : Point) → rect_holds r p ≡ false → s p ≡ false
outside r s boxed p out = by_test (s p) refl
  where
    by_test : (b : Bool) → s p ≡ b → b ≡ false
    by_test false e = refl
    by_test true e = absurd (false≢true (sym out ∙ boxed.holds p e))

neither : (a b : Bool) → (a || b) ≡ false → (a ≡ false) × (b ≡ false)
neither false false e = (refl, refl)
neither false true e = absurd (false≢true (sym e))
neither true b e = absurd (false≢true (sym e))

-- a picture is as it was outside of the rectangle
abbrev pub IsPictureDamage : Rect → (old new : List ℕ → PixelSet) → Type 0
IsPictureDamage damage old new = (font : List ℕ) (p : Point) → in_plane p ≡ true → rect_holds damage p ≡ false → new font p ≡ old font p

-- four damages in a row, in the rectangle around them
pub all_damaged : (a b c d e : List ℕ → PixelSet) (r s t u left right whole : Rect) → IsPictureDamage r a b → IsPictureDamage s b c → IsPictureDamage t c d → IsPictureDamage u d e
    → IsBoxOf left (λ p. rect_holds r p || rect_holds s p) → IsBoxOf right (λ p. rect_holds t p || rect_holds u p) → IsBoxOf whole (λ p. rect_holds left p || rect_holds right p)
    → IsPictureDamage whole a e
all_damaged a b c d e r s t u left right whole one two three four first last all font p on out =
    let halves = neither (rect_holds left p) (rect_holds right p) (outside whole _ all p out) in
    let former = neither (rect_holds r p) (rect_holds s p) (outside left _ first p halves.0) in
    let latter = neither (rect_holds t p) (rect_holds u p) (outside right _ last p halves.1) in
    four font p on latter.1 ∙ three font p on latter.0 ∙ two font p on former.1 ∙ one font p on former.0

-- what was within before is within the rectangle
either : (a b c : Bool) → (a ≡ true → c ≡ true) → (b ≡ true → c ≡ true) → (a || b) ≡ true → c ≡ true
either true b c one other e = one refl
either false b c one other e = other e

-- four damages in a row have no pixel beside what they may have, nor has the rectangle around them
pub all_answered : (a b c d : ControlDefinition) (s : Size) (t : Bor (List ℕ)) (v : Setting) (h : ℕ) (left right whole one two three four r : Rect)
    → ControlHears (told_control (Resized s)) a b → ControlHears (told_control (Titled t)) b c → ControlHears (told_control (Set v)) c d
    → IsWithin (rect_holds one) (a.damage no_control_news (told_control (Resized s) no_control_news))
    → IsWithin (rect_holds two) (b.damage no_control_news (told_control (Titled t) no_control_news))
    → IsWithin (rect_holds three) (c.damage no_control_news (told_control (Set v) no_control_news))
    → IsWithin (rect_holds four) (d.damage no_control_news (told_control (Highlighted h) no_control_news))
    → IsBoxOf left (λ p. rect_holds one p || rect_holds two p) → IsBoxOf right (λ p. rect_holds three p || rect_holds four p) → IsBoxOf whole (λ p. rect_holds left p || rect_holds right p)
    → HoldsDamages (record { size = s; title = t.now; setting = v; highlight = h }) a r
    → IsWithin (rect_holds whole) (rect_holds r)
all_answered a b c d s t v h left right whole one two three four r first second third sized titled set lit former latter all held =
    all.smallest r (λ p. either (rect_holds left p) (rect_holds right p) (rect_holds r p)
    (former.smallest r (λ q. either (rect_holds one q) (rect_holds two q) (rect_holds r q) (λ e. held.size q (sized q e)) (λ e. held.title q (sym (first.damage no_control_news (title_news t.now) q) ∙ titled q e))) p)
    (latter.smallest r (λ q. either (rect_holds three q) (rect_holds four q) (rect_holds r q)
    (λ e. held.setting q (sym (second.damage no_control_news (setting_news v) q ∙ first.damage (title_news t.now) (setting_news v) q) ∙ set q e))
    (λ e. held.highlight q (sym (third.damage no_control_news (highlight_news h) q ∙ second.damage (setting_news v) (highlight_news h) q ∙ first.damage (record (title_news t.now) { setting = Some v }) (highlight_news h) q) ∙ lit q e))) p))

-- and seen from the control's place, so has what of it lies in the box of the control
pub placed_answer : (place : Point) (damage box shared plane placed r : Rect)
    → ((p : Point) → rect_holds shared p ≡ (rect_holds damage p && rect_holds box p))
    → ((p : Point) → rect_holds placed p ≡ (rect_holds plane p && rect_holds shared (minus p place)))
    → IsWithin (rect_holds damage) (rect_holds r) → IsWithin (rect_holds placed) (λ p. rect_holds r (minus p place))
placed_answer place damage box shared plane placed r both placed_is within p e =
    let there = minus p place in
    let of_shared = (and_parts (rect_holds plane p) (rect_holds shared there) (sym (placed_is p) ∙ e)).1 in
    within there (and_parts (rect_holds damage there) (rect_holds box there) (sym (both there) ∙ of_shared)).0

-- what of it lies in the box of the control, in the control's window
placed_damage : (c : ControlRecord) (new : ControlLoan) (damage box shared plane placed : Rect) → IsControlDamage damage c.kept.definition.definition new.definition
    → box ≡ c.kept.definition.definition.bounds c.kept.size → is_in_range box ≡ true → ((p : Point) → c.kept.definition.definition.region c.kept.size p ≡ true → rect_holds box p ≡ true)
    → ((p : Point) → rect_holds shared p ≡ (rect_holds damage p && rect_holds box p)) → ((p : Point) → rect_holds plane p ≡ in_plane p)
    → ((p : Point) → rect_holds placed p ≡ (rect_holds plane p && rect_holds shared (minus p c.kept.place)))
    → IsDamageOf placed c (with_kept (λ k. record k { definition = new }) c)
placed_damage c new damage box shared plane placed damaged box_is ranged boxed both plane_is placed_is inside font p has out =
    let there = minus p c.kept.place in
    let in_box = boxed there has in
    let on : in_plane p ≡ true = inside_is_point (moved_rect box c.kept.place.h c.kept.place.v) p (ap (λ r. is_in_range (moved_rect r c.kept.place.h c.kept.place.v)) box_is ∙ inside) (holds-moved box c.kept.place.h c.kept.place.v p ∙ in_box) in
    let outside_of : rect_holds shared there ≡ false = sym (ap (λ b. b && rect_holds shared there) (plane_is p ∙ on)) ∙ sym (placed_is p) ∙ out in
    damaged font there (inside_is_point box there ranged in_box)
    (sym (shared_is (rect_holds damage there) (rect_holds box there) in_box) ∙ sym (both there) ∙ outside_of)

module _ {W : Type 0} {K : W → Type 0} (control_loan : TakenBox W K → ControlLoan) where
  -- the control at a place, with another definition
  abbrev with_definition : TakenBox W K → Item (Control (TakenBox W K)) → Item (Control (TakenBox W K))
  with_definition t x = with_kept (λ k. record k { definition = t }) x

  pub told_at : (xs : List (Item (Control (TakenBox W K)))) (at : ℕ) (x : Item (Control (TakenBox W K))) (t : TakenBox W K) → at < length xs → x ≡ get_or xs at x
      → IsControlBegun (news_of_control (seen control_loan x)) (control_loan x.kept.definition).definition (control_loan t).definition
      → (control_loan t).slot ≡ (control_loan x.kept.definition).slot
      → IsChangedAt (λ c. c) at (all_seen control_loan xs) (all_seen control_loan (set xs at (with_definition t x)))
  told_at xs at x t low read told slot =
      let there : slice_get (all_seen control_loan xs) at ≡ Some (seen control_loan x) = record_read control_loan xs at x low read in
      record {
        control = seen control_loan x;
        there = there;
        definition = (control_loan t).definition;
        told = told;
        controls = ap (all_seen control_loan) (set_is_edit (with_definition t) xs at x read)
            ∙ edit_at-seen (kept_seen control_loan) (with_definition t) (with_kept (λ k. record k { definition = control_loan t })) (λ c. refl) at xs
            ∙ edit_alike (with_kept (λ k. record k { definition = control_loan t })) (retold (λ c. c) (control_loan t).definition) at (all_seen control_loan xs)
            (λ c e. ap (λ (n : ℕ). with_kept (λ k. record k { definition = record { definition = (control_loan t).definition; slot = n } }) c)
            (slot ∙ ap (λ (d : ControlRecord). d.kept.definition.slot) (one (all_seen control_loan xs) at (seen control_loan x) c there e)));
      }
    where
      one : (cs : List ControlRecord) (at : ℕ) (c d : ControlRecord) → slice_get cs at ≡ Some c → slice_get cs at ≡ Some d → c ≡ d
      one cs at c d e f = cc

  pub damaged_at : (xs : List (Item (Control (TakenBox W K)))) (at : ℕ) (x : Item (Control (TakenBox W K))) (t : TakenBox W K) (damage box shared plane placed : Rect) → at < length xs → x ≡ get_or xs at x
      → IsPictureDamage damage (λ font p. (control_loan x.kept.definition).definition.picture no_control_news font p) (λ font p. (control_loan t).definition.picture no_control_news font p)
      → box ≡ (control_loan x.kept.definition).definition.bounds x.kept.size → is_in_range box ≡ true → ((p : Point) → (control_loan x.kept.definition).definition.region x.kept.size p ≡ true → rect_holds box p ≡ true)
      → ((p : Point) → rect_holds shared p ≡ (rect_holds damage p && rect_holds box p)) → ((p : Point) → rect_holds plane p ≡ in_plane p)
      → ((p : Point) → rect_holds placed p ≡ (rect_holds plane p && rect_holds shared (minus p x.kept.place)))
      → IsDamageAt placed at (all_seen control_loan xs) (all_seen control_loan (set xs at (with_definition t x)))
  damaged_at xs at x t damage box shared plane placed low read damaged box_is ranged boxed both plane_is placed_is =
      let new = with_definition t x in
      let there : slice_get (all_seen control_loan xs) at ≡ Some (seen control_loan x) = record_read control_loan xs at x low read in
      let then : slice_get (all_seen control_loan (set xs at new)) at ≡ Some (seen control_loan new) =
      record_read control_loan (set xs at new) at new (subst (λ n. at < n) (sym (length-set xs at new)) low) (sym (get_or-set_same xs at new new low)) in
      subst (λ o. IfSome o (λ c. IfSome (slice_get (all_seen control_loan (set xs at new)) at) (λ d. IsDamageOf placed c d))) (sym there)
      (subst (λ o. IfSome o (λ d. IsDamageOf placed (seen control_loan x) d)) (sym then)
      (placed_damage (seen control_loan x) (control_loan t) damage box shared plane placed damaged box_is ranged boxed both plane_is placed_is))
