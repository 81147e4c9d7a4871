-- Which parts the points of a window have, where a control of it is taken out, and what is there no more.
use Rattle.std.proofs.Common.{◌≡◌, ℕ, zero, suc, Bool, true, false, ◌==◌, ◌&&◌, ◌||◌, cond, if◌then◌else◌, List, [], ◌∷◌, Option, None, Some, refl, sym, ap, ◌∙◌, subst, arith}
use Rattle.std.specs.Prelude.{All, slice_get}
use Rattle.std.specs.List.{AllZip, list_any, remove}
use Rattle.std.specs.Option.{option_map}
use Rattle.std.proofs.lemmas.Bool.{false≢true}
use Rattle.std.proofs.lemmas.Bool.Decides.{nat_tests}
use Rattle.std.proofs.lemmas.List.Elements.{All-weaker}
use Rattle.tb_geom.specs.declared.point.Point.{Point}
use Rattle.desk_layers.specs.declared.part.Part.{Part}
use Rattle.desk_layers.specs.declared.part.Part.TheVariants as part
use Rattle.desk_layers.specs.Desk.{same_part}
use Rattle.desk_layers.specs.Owner.{owner}
use Rattle.desk_layers.specs.Owner.Owner.{Content}
use Rattle.window_items.specs.declared.item.Item.{Item}
use Rattle.window_items.specs.Items.{AreApart, has_serial, is_in, is_item, item_index, items_of}
use Rattle.window_items.proofs.SerialLemmas.{none_in_window, or_parts}
use Rattle.window_items.proofs.WindowLemmas.{position-cons}
use Rattle.window_list.specs.declared.layer.Layer.{Layer}
use Rattle.window_list.specs.Holders.{layer_has, part_at}
use Rattle.desk_call.specs.declared.update.LayerKind.TheVariants.{Lists}
use Rattle.window_paint.specs.Kinds.{is_of}
use Rattle.vis_update.specs.Records.{WindowRecord}
use Rattle.window_mgr.specs.FullDesk.{FullDesk, layered_desk}
use Rattle.control_mgr.specs.ControlDesks.{ControlRecord}
use Rattle.control_mgr.specs.ControlSteps.{AreLayersOf, behind_controls}
use Rattle.list_mgr.specs.ListDesks.{KeptList}
use Rattle.list_mgr.specs.ListSteps.{AreListLayers, IsLayerOf, layers_of_lists}
use Rattle.list_mgr.proofs.ListedLayers.{no_list}
use Rattle.desk_laws.specs.Changes.{is_bar}
use Rattle.desk_laws.proofs.MadeLists.{in_window}
use Rattle.desk_laws.proofs.PartsThere.{HasSuch, control_has, first_control, is_part, no_control_behind, no_part, of_controls, owners_are, plain_part}

-- ---- the parts of fewer controls

-- where a control is taken out, another part has what it had
pub control_removed : (c : ControlRecord) (s : ℕ) (q : Point) (behind : Part) (at : ℕ) (cs : List ControlRecord) → slice_get cs at ≡ Some c
    → is_part c.window (part.Control c.serial) (Content s (first_control (items_of s cs) q behind)) ≡ false
    → first_control (items_of s cs) q behind ≡ first_control (items_of s (remove cs at)) q behind
control_removed c s q behind at [] there other = absurd (cc)
control_removed c s q behind zero (x ∷ xs) there other = by_window (is_in s x) refl other
  where
    same : x ≡ c
    same = cc

    by_point : (h : Bool) → is_in s x ≡ true → is_part c.window (part.Control c.serial) (Content s (if h then part.Control x.serial else first_control (items_of s xs) q behind)) ≡ false
        → (if h then part.Control x.serial else first_control (items_of s xs) q behind) ≡ first_control (items_of s xs) q behind
    by_point true here other = absurd (false≢true (sym other ∙ subst (λ (y : ControlRecord). is_part y.window (part.Control y.serial) (Content s (part.Control x.serial)) ≡ true) same (in_window s x.window (part.Control x.serial) here)))
    by_point false here other = refl

    by_window : (b : Bool) → is_in s x ≡ b → is_part c.window (part.Control c.serial) (Content s (first_control (if b then x ∷ items_of s xs else items_of s xs) q behind)) ≡ false
        → first_control (if b then x ∷ items_of s xs else items_of s xs) q behind ≡ first_control (items_of s xs) q behind
    by_window true here other = by_point (control_has x q) here other
    by_window false away other = refl
control_removed c s q behind (suc i) (x ∷ xs) there other = by_window (is_in s x) (control_removed c s q behind i xs there) other
  where
    by_point : (h : Bool) → (is_part c.window (part.Control c.serial) (Content s (first_control (items_of s xs) q behind)) ≡ false → first_control (items_of s xs) q behind ≡ first_control (items_of s (remove xs i)) q behind)
        → is_part c.window (part.Control c.serial) (Content s (if h then part.Control x.serial else first_control (items_of s xs) q behind)) ≡ false
        → (if h then part.Control x.serial else first_control (items_of s xs) q behind) ≡ (if h then part.Control x.serial else first_control (items_of s (remove xs i)) q behind)
    by_point true rest other = refl
    by_point false rest other = rest other

    by_window : (b : Bool) → (is_part c.window (part.Control c.serial) (Content s (first_control (items_of s xs) q behind)) ≡ false → first_control (items_of s xs) q behind ≡ first_control (items_of s (remove xs i)) q behind)
        → is_part c.window (part.Control c.serial) (Content s (first_control (if b then x ∷ items_of s xs else items_of s xs) q behind)) ≡ false
        → first_control (if b then x ∷ items_of s xs else items_of s xs) q behind ≡ first_control (if b then x ∷ items_of s (remove xs i) else items_of s (remove xs i)) q behind
    by_window true rest other = by_point (control_has x q) rest other
    by_window false rest other = rest other

-- ---- what is there no more

module _ {T : Type 0} where
  -- the window has no item of this serial
  abbrev pub IsAway : ℕ → ℕ → List (Item T) → Type 0
  IsAway window n xs = list_any (has_serial n) (items_of window xs) ≡ false

  pub another : (n i : ℕ) (xs : List (Item T)) (x : Item T) → list_any (has_serial n) xs ≡ false → slice_get xs i ≡ Some x → (n == x.serial) ≡ false
  another n i [] x none there = absurd (cc)
  another n zero (y ∷ ys) x none there =
      let same : y ≡ x = cc in
      turned y.serial x.serial (or_parts (has_serial n y) (list_any (has_serial n) ys) none).0 (ap (λ (z : Item T). z.serial) same)
    where
      turned : (a b : ℕ) → (a == n) ≡ false → a ≡ b → (n == b) ≡ false
      turned a b e f = grind (arith, nat_tests)
  another n (suc i) (y ∷ ys) x none there = another n i ys x (or_parts (has_serial n y) (list_any (has_serial n) ys) none).1 there

  -- an item that is taken out of items that are apart is there no more
  pub gone_removed : (at : ℕ) (xs : List (Item T)) (x : Item T) → AreApart xs → slice_get xs at ≡ Some x → list_any (has_serial x.serial) (remove xs at) ≡ false
  gone_removed at [] x apart there = absurd (cc)
  gone_removed zero (y ∷ ys) x apart there =
      let same : y ≡ x = cc in
      subst (λ (z : Item T). list_any (has_serial z.serial) ys ≡ false) same apart.0
  gone_removed (suc i) (y ∷ ys) x apart there = λ k. another y.serial i ys x apart.0 there k || gone_removed i ys x apart.1 there k

  -- what is away stays so where another is taken out
  pub away_removed : (window n at : ℕ) (xs : List (Item T)) → IsAway window n xs → IsAway window n (remove xs at)
  away_removed window n zero [] away = refl
  away_removed window n (suc i) [] away = refl
  away_removed window n zero (y ∷ ys) away = by_window (is_in window y) away
    where
      by_window : (b : Bool) → list_any (has_serial n) (if b then y ∷ items_of window ys else items_of window ys) ≡ false → list_any (has_serial n) (items_of window ys) ≡ false
      by_window true away = (or_parts (has_serial n y) (list_any (has_serial n) (items_of window ys)) away).1
      by_window false away = away
  away_removed window n (suc i) (y ∷ ys) away = by_window (is_in window y) (away_removed window n i ys) away
    where
      by_window : (b : Bool) → (IsAway window n ys → IsAway window n (remove ys i)) → list_any (has_serial n) (if b then y ∷ items_of window ys else items_of window ys) ≡ false
          → list_any (has_serial n) (if b then y ∷ items_of window (remove ys i) else items_of window (remove ys i)) ≡ false
      by_window true rest away = let parts = or_parts (has_serial n y) (list_any (has_serial n) (items_of window ys)) away in λ k. parts.0 k || rest parts.1 k
      by_window false rest away = rest away

  -- an item that is not found is away
  pub not_found_away : (window n : ℕ) (xs : List (Item T)) → item_index window n xs ≡ None → IsAway window n xs
  not_found_away window n [] none = refl
  not_found_away window n (y ∷ ys) none = by_tests (is_in window y) (has_serial n y) (item_index window n ys) refl (not_found_away window n ys) (sym (position-cons (is_item window n) y ys) ∙ none)
    where
      by_tests : (b h : Bool) (o : Option ℕ) → has_serial n y ≡ h → (o ≡ None → IsAway window n ys) → cond (b && h) (Some 0) (option_map (λ at. suc at) o) ≡ None
          → list_any (has_serial n) (if b then y ∷ items_of window ys else items_of window ys) ≡ false
      by_tests true true o is rest none = absurd (cc)
      by_tests true false None is rest none = λ k. is k || rest refl k
      by_tests true false (Some at) is rest none = absurd (cc)
      by_tests false h None is rest none = rest refl
      by_tests false h (Some at) is rest none = absurd (cc)

-- no control that the window has not owns a pixel
no_control : (n : ℕ) (q : Point) (behind : Part) (cs : List ControlRecord) → list_any (has_serial n) cs ≡ false → same_part behind (part.Control n) ≡ false → same_part (first_control cs q behind) (part.Control n) ≡ false
no_control n q behind [] none other = other
no_control n q behind (c ∷ cs) none other =
    let parts = or_parts (has_serial n c) (list_any (has_serial n) cs) none in
    by_point (control_has c q) parts.0 (no_control n q behind cs parts.1 other)
  where
    by_point : (h : Bool) → has_serial n c ≡ false → same_part (first_control cs q behind) (part.Control n) ≡ false → same_part (if h then part.Control c.serial else first_control cs q behind) (part.Control n) ≡ false
    by_point true away rest = away
    by_point false away rest = rest

no_control_there : (n : ℕ) (cs : List ControlRecord) (ks : List Layer) (q : Point) → AreLayersOf cs ks → list_any (has_serial n) cs ≡ false → same_part (part_at ks q) (part.Control n) ≡ false
no_control_there n cs ks q joined none = ap (λ p. same_part p (part.Control n)) (of_controls cs ks joined q) ∙ no_control n q (part_at (behind_controls ks) q) cs none (no_control_behind n q ks)

-- so no list
no_list_there : (n : ℕ) (ls : List KeptList) (ks : List Layer) (q : Point) → AreListLayers ls ks → list_any (has_serial n) ls ≡ false → same_part (part_at ks q) (part.List n) ≡ false
no_list_there n ls [] q joined none = refl
no_list_there n ls (k ∷ ks) q joined none = by_kind (is_of Lists k.part) refl ls joined none (layer_has k q) (λ xs. no_list_there n xs ks q)
  where
    by_kind : (b : Bool) → is_of Lists k.part ≡ b → (xs : List KeptList) → AllZip IsLayerOf xs (cond b (k ∷ layers_of_lists ks) (layers_of_lists ks)) → list_any (has_serial n) xs ≡ false → (h : Bool)
        → ((ys : List KeptList) → AreListLayers ys ks → list_any (has_serial n) ys ≡ false → same_part (part_at ks q) (part.List n) ≡ false)
        → same_part (cond h k.part (part_at ks q)) (part.List n) ≡ false
    by_kind false is xs joined none true rest = no_list k.part n is
    by_kind false is xs joined none false rest = rest xs joined none
    by_kind true is [] joined none h rest = absurd joined
    by_kind true is (y ∷ ys) joined none true rest = ap (λ p. same_part p (part.List n)) joined.0.part ∙ (or_parts (has_serial n y) (list_any (has_serial n) ys) none).0
    by_kind true is (y ∷ ys) joined none false rest = rest ys joined.1 (or_parts (has_serial n y) (list_any (has_serial n) ys) none).1

-- ---- owners that are there no more

pub no_list_owner : (window n : ℕ) (d : FullDesk) (ls : List KeptList) → All (λ w. AreListLayers (items_of w.serial ls) w.layers) d.windows → list_any (has_serial n) ls ≡ false → (p : Point)
    → is_part window (part.List n) (owner (layered_desk d) p) ≡ false
no_list_owner window n d ls joined none p = owners_are (λ o. is_part window (part.List n) o ≡ false) (plain_part window (part.List n)) d
    (All-weaker (λ (w : WindowRecord). AreListLayers (items_of w.serial ls) w.layers) (HasSuch (λ o. is_part window (part.List n) o ≡ false))
    (λ w its q. no_part window w.serial (part.List n) (part_at w.layers q) (λ e. no_list_there n (items_of w.serial ls) w.layers q its (none_in_window n w.serial ls none))) d.windows joined) p

-- the window has none of the scroll bars that a list was made with
abbrev pub IsBarAway : ℕ → Option ℕ → List ControlRecord → Type 0
IsBarAway window None cs = Unit {0}
IsBarAway window (Some n) cs = IsAway window n cs

pub no_bar : (window : ℕ) (o : Option ℕ) (d : FullDesk) (cs : List ControlRecord) → All (λ w. AreLayersOf (items_of w.serial cs) w.layers) d.windows → IsBarAway window o cs → (p : Point)
    → is_bar window o (owner (layered_desk d) p) ≡ false
no_bar window None d cs joined away p = refl
no_bar window (Some n) d cs joined away p = owners_are (λ o. is_part window (part.Control n) o ≡ false) (plain_part window (part.Control n)) d
    (All-weaker (λ (w : WindowRecord). AreLayersOf (items_of w.serial cs) w.layers) (HasSuch (λ o. is_part window (part.Control n) o ≡ false))
    (λ w its q. no_part window w.serial (part.Control n) (part_at w.layers q)
    (λ e. no_control_there n (items_of w.serial cs) w.layers q its (ap (λ k. list_any (has_serial n) (items_of k cs)) (sym e) ∙ away))) d.windows joined) p
