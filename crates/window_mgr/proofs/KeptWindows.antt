-- Windows of two lists that stand alike, with the same layers.
use Rattle.std.proofs.Common.{◌≡◌, ◌⊎◌, inl, inr, ℕ, zero, suc, ◌<◌, ◌==◌, Bool, true, false, if◌then◌else◌, List, [], ◌∷◌, length, get_or, map, Option, None, Some, refl, sym, ap, ◌∙◌, subst, arith}
use Rattle.std.specs.Prelude.{Contains}
use Rattle.std.proofs.lemmas.Bool.{eqb-true}
use Rattle.std.proofs.lemmas.List.Sorted.{IsPermutation-sym, Contains-permutation}
use Rattle.tb_geom.specs.declared.point.Point.{Point}
use Rattle.tb_geom.specs.Points.{minus}
use Rattle.desk_layers.specs.Desk as layers
use Rattle.desk_layers.proofs.Owning.{same_number}
use Rattle.window_list.specs.declared.layer.Layer.{Layer}
use Rattle.vis_update.specs.declared.plan.Touch.{Touch}
use Rattle.vis_update.specs.Records.{WindowRecord, Look, layered_window}
use Rattle.vis_update.specs.Seats.{Stand, stand_of}
use Rattle.vis_update.specs.Touches.{way_of, came_from}
use Rattle.vis_update.proofs.KeptLayers.{IsKept, kept_in_place}
use Rattle.window_mgr.specs.declared.arrange.Activation.{Activation}
use Rattle.window_mgr.specs.declared.arrange.Activation.TheVariants.{Stays, Becomes}
use Rattle.window_mgr.specs.Arrange.{activated, with_highlighting}
use Rattle.window_mgr.specs.Finding.{record_with}
use Rattle.window_mgr.proofs.DimLemmas.{either, windows_behind}
use Rattle.window_mgr.proofs.EachChanged.{map-map}
use Rattle.window_mgr.proofs.PutIn.{put_in, put_permutes, IsFree, none_with, distinct_out}

-- ---- windows of a list

-- the window stood among these as it stands, with the layers that it has
pub record Was (us : List WindowRecord) (v : WindowRecord) : Type 0 where
  pub window : WindowRecord
  pub among : Contains us window
  pub stands : stand_of v ≡ stand_of window
  pub layers : v.layers ≡ window.layers

-- windows that stand as others, with their layers, stood among those
pub all_were : (vs us : List WindowRecord) → map stand_of vs ≡ map stand_of us → map (λ v. v.layers) vs ≡ map (λ v. v.layers) us → (v : WindowRecord) → Contains vs v → Was us v
all_were vs us stands own v among = at_place vs us stands own among.0 among.1 among.2
  where
    at_place : (xs ys : List WindowRecord) → map stand_of xs ≡ map stand_of ys → map (λ x. x.layers) xs ≡ map (λ x. x.layers) ys → (k : ℕ) → k < length xs → get_or xs k v ≡ v → Was ys v
    at_place [] ys e f k low is = absurd (omega arith)
    at_place (x ∷ xs) [] e f k low is = absurd (cc)
    at_place (x ∷ xs) (y ∷ ys) e f zero low is =
        let stand : stand_of x ≡ stand_of y = cc in
        let its : x.layers ≡ y.layers = cc in
        record { window = y; among = (0, omega arith, refl); stands = ap stand_of (sym is) ∙ stand; layers = ap (λ (z : WindowRecord). z.layers) (sym is) ∙ its }
    at_place (x ∷ xs) (y ∷ ys) e f (suc k) low is =
        let behind : map stand_of xs ≡ map stand_of ys = cc in
        let theirs : map (λ (z : WindowRecord). z.layers) xs ≡ map (λ (z : WindowRecord). z.layers) ys = cc in
        let was = at_place xs ys behind theirs k (omega arith) is in
        let there = was.among in
        record { window = was.window; among = (suc there.0, (let low = there.1 in omega arith), there.2); stands = was.stands; layers = was.layers }

-- among windows is the one that was put in, or one of the others
pub one_or_rest : (j : ℕ) (x : WindowRecord) (rest : List WindowRecord) (y : WindowRecord) → Contains (put_in j x rest) y → (x ≡ y) ⊎ Contains rest y
one_or_rest j x rest y there = at_place (Contains-permutation (put_in j x rest) (x ∷ rest) y (IsPermutation-sym (x ∷ rest) (put_in j x rest) (put_permutes j x rest)) there)
  where
    at_place : Contains (x ∷ rest) y → (x ≡ y) ⊎ Contains rest y
    at_place its = by_index its.0 its.1 its.2
      where
        by_index : (k : ℕ) → k < length (x ∷ rest) → get_or (x ∷ rest) k y ≡ y → (x ≡ y) ⊎ Contains rest y
        by_index zero low is = inl is
        by_index (suc k) low is = inr (k, omega arith, is)

module _ (look : Look) where
  -- a window of a list is the one that is found by its serial
  pub found_by_serial : (ws : List WindowRecord) → layers.AreWindows (map (layered_window look) ws) → (u : WindowRecord) (k : ℕ) → k < length ws → get_or ws k u ≡ u → record_with u.serial ws ≡ Some u
  found_by_serial [] distinct u k low is = absurd (omega arith)
  found_by_serial (w ∷ ws) distinct u zero low is = (λ i. if (ap (λ (x : WindowRecord). x.serial == u.serial) is ∙ same_number u.serial) i then Some w else record_with u.serial ws) ∙ ap Some is
  found_by_serial (w ∷ ws) distinct u (suc k) low is = by_test (w.serial == u.serial) refl (found_by_serial ws distinct.1.1 u k (omega arith) is)
    where
      by_test : (b : Bool) → (w.serial == u.serial) ≡ b → record_with u.serial ws ≡ Some u → (if b then Some w else record_with u.serial ws) ≡ Some u
      by_test true same behind =
          let none : record_with u.serial ws ≡ None = ap (λ n. record_with n ws) (sym (eqb-true w.serial u.serial same)) ∙ none_with look w.serial ws distinct.0 in
          absurd (cc)
      by_test false away behind = behind

  -- windows of a list with one serial are one
  same_window : (ws : List WindowRecord) → layers.AreWindows (map (layered_window look) ws) → (u v : WindowRecord) → Contains ws u → Contains ws v → u.serial ≡ v.serial → u ≡ v
  same_window ws distinct u v one two same =
      let first = found_by_serial ws distinct u one.0 one.1 one.2 in
      let second = ap (λ n. record_with n ws) same ∙ found_by_serial ws distinct v two.0 two.1 two.2 in
      cc

  -- there is none of a serial that is free
  pub none_free : (s : ℕ) (ws : List WindowRecord) → layers.AreWindows (map (layered_window look) ws) → IsFree look s ws → (u : WindowRecord) → Contains ws u → u.serial ≡ s → ⊥
  none_free s ws distinct free u there same =
      let found = ap (λ n. record_with n ws) (sym same) ∙ found_by_serial ws distinct u there.0 there.1 there.2 in
      let none = none_with look s ws free in
      absurd (cc)

  -- a window that stands as it did, and does not move, is kept
  pub kept_as_it_was : (t : Touch) (ws : List WindowRecord) → layers.AreWindows (map (layered_window look) ws) → (u v : WindowRecord) → Contains ws u → Was ws v → way_of t v.serial ≡ None → IsKept t u v
  kept_as_it_was t ws distinct u v there was way same =
      let one : was.window ≡ u = same_window ws distinct was.window u was.among there (ap (λ (s : Stand). s.serial) (sym was.stands) ∙ sym same) in
      subst (λ x. IsKept t x v) one (kept_in_place t was.window v was.layers (ap (λ (s : Stand). s.place) was.stands) way) same

  -- ---- a window that is put anew

  module _ (t : Touch) (ws rest : List WindowRecord) (i j : ℕ) (w x : WindowRecord) (were : ws ≡ put_in i w rest) (distinct : layers.AreWindows (map (layered_window look) ws)) where
    apart : IsFree look w.serial rest × layers.AreWindows (map (layered_window look) rest)
    apart = distinct_out look i w rest (subst (λ us. layers.AreWindows (map (layered_window look) us)) were distinct)

    among_front : (y : WindowRecord) → Contains (w ∷ rest) y → Contains ws y
    among_front y there = subst (λ us. Contains us y) (sym were) (Contains-permutation (w ∷ rest) (put_in i w rest) y (put_permutes i w rest) there)

    -- one of the rest stood among all
    pub among_all : (y : WindowRecord) → Contains rest y → Contains ws y
    among_all y there = let low = there.1 in among_front y (suc there.0, omega arith, there.2)

    -- one of the rest does not move
    rest_stays : (y : WindowRecord) → t.window ≡ w.serial → Contains rest y → way_of t y.serial ≡ None
    rest_stays y about there = by_test (y.serial == t.window) refl
      where
        by_test : (b : Bool) → (y.serial == t.window) ≡ b → (if b then t.by else None) ≡ None
        by_test true same = absurd (none_free w.serial rest apart.1 apart.0 y there (eqb-true y.serial t.window same ∙ about))
        by_test false away = refl

    -- all windows are kept where that one is
    pub kept_anew : t.window ≡ w.serial → x.serial ≡ w.serial → IsKept t w x → (u v : WindowRecord) → Contains ws u → Was (put_in j x rest) v → IsKept t u v
    kept_anew about serial kept u v there was = elim (one_or_rest j x rest was.window was.among) [
      | inl this ↦
          let stand : stand_of x ≡ stand_of v = ap stand_of this ∙ sym was.stands in
          let its : x.layers ≡ v.layers = ap (λ (z : WindowRecord). z.layers) this ∙ sym was.layers in
          λ same.
          let one : w ≡ u = same_window ws distinct w u (among_front w (0, omega arith, refl)) there (sym serial ∙ ap (λ (s : Stand). s.serial) stand ∙ sym same) in
          let now : w.serial ≡ v.serial = sym serial ∙ ap (λ (s : Stand). s.serial) stand in
          subst (λ z. (v.layers ≡ z.layers) × ((p : Point) → minus (came_from (way_of t v.serial) p) z.place ≡ minus p v.place)) one
          (subst (λ (z : Stand × List Layer). w.serial ≡ z.0.serial → (z.1 ≡ w.layers) × ((p : Point) → minus (came_from (way_of t z.0.serial) p) w.place ≡ minus p z.0.place)) (λ k. (stand k, its k)) kept now)
      | inr other ↦
          kept_as_it_was t ws distinct u v there
          (record { window = was.window; among = among_all was.window other; stands = was.stands; layers = was.layers })
          (ap (λ (s : Stand). way_of t s.serial) was.stands ∙ rest_stays was.window about other)
    ]

-- a touch that moves no pixel leaves each window where it is
pub none_moves : (t : Touch) → t.by ≡ None → (s : ℕ) → way_of t s ≡ None
none_moves t still s = by_test (s == t.window)
  where
    by_test : (b : Bool) → (if b then t.by else None) ≡ None
    by_test true = still
    by_test false = refl

-- ---- layers after an activation

-- an activation changes no layers
pub layers_relit : (a : Activation) (former : Option ℕ) (ws : List WindowRecord) → map (λ w. w.layers) (activated a former ws) ≡ map (λ w. w.layers) ws
layers_relit Stays former ws = refl
layers_relit (Becomes s) former ws =
    map-map (λ (w : WindowRecord). w.layers) (λ w. with_highlighting true s (with_highlighting false former w)) (λ (w : WindowRecord). w.layers)
    (λ w. either false former (λ v. (with_highlighting true s v).layers ≡ w.layers) w (either true s (λ v. v.layers ≡ w.layers) w refl refl) (either true s (λ v. v.layers ≡ w.layers) (record w { highlighted = false }) refl refl)) ws

-- nor does one that takes highlighting away
pub same_behind : {X : Type 0} (f : WindowRecord → X) → ((w : WindowRecord) → f (record w { highlighted = false }) ≡ f w) → (active : Option ℕ) (b : Bool) (ws : List WindowRecord) → map f (windows_behind active b ws) ≡ map f ws
same_behind f same active false ws = refl
same_behind f same active true ws = map-map f (with_highlighting false active) f (λ w. either false active (λ v. f v ≡ f w) w refl (same w)) ws
