-- The areas of all windows after a call that changes the layers of one of them.
use Rattle.std.proofs.Common.{◌≡◌, ℕ, zero, suc, ◌==◌, Bool, true, false, ◌&&◌, not, if◌then◌else◌, List, [], ◌∷◌, map, set, Option, Some, None, refl, sym, ap, ◌∙◌, subst, eq-eqb, arith}
use Rattle.std.specs.Prelude.{All, slice_get}
use Rattle.std.proofs.lemmas.Bool.{and_parts, eqb-true, false≢true}
use Rattle.std.proofs.lemmas.Bool.Decides.{nat_tests}
use Rattle.std.proofs.lemmas.List.Elements.{All-nil, All-cons}
use Rattle.tb_geom.specs.declared.point.Point.{Point}
use Rattle.tb_geom.specs.Pixels.{holds}
use Rattle.desk_layers.specs.declared.part.Part.{Part}
use Rattle.desk_layers.specs.Desk as layers
use Rattle.desk_layers.specs.Desk.{LayeredDesk, on_screen}
use Rattle.desk_layers.specs.Owner.{Owner, owner, same_owner, is_content}
use Rattle.desk_layers.specs.Owner.Owner.{Desktop, Bar, Frame, Content}
use Rattle.desk_layers.specs.Change.{State, stale_by}
use Rattle.desk_layers.proofs.Owning.{not_first, same_owner-self}
use Rattle.window_list.specs.declared.layer.Layer.{Layer}
use Rattle.vis_update.specs.declared.area.Area.{Area}
use Rattle.vis_update.specs.declared.relaying.Relaying.{Relaying}
use Rattle.vis_update.specs.Records.{WindowRecord, Look, layered_window}
use Rattle.vis_update.specs.Areas.{IsArea, AreAreas, is_content_of}
use Rattle.vis_update.specs.Plans.{stale_after, AreAreasAfter}
use Rattle.vis_update.specs.Relayings.{with_layers_of, HasLayersAt, is_part_afresh, afresh_change, IsRelayered, IsRelaid}
use Rattle.vis_update.proofs.Others.{content_of_one}
use Rattle.vis_update.proofs.Relayed.{afresh_is_content}

-- ---- one window

module _ (n : ℕ) (place : Point) (afresh : Option Part) (old new : List Layer) (before : State) (after : LayeredDesk) (relayered : IsRelayered n place old new before.desk after) where
  -- what no content of the window is owns what it owned
  pub keeps : (its : Owner → Bool) → ((part : Part) → its (Content n part) ≡ false) → (p : Point)
      → (on_screen before.desk p && its (owner before.desk p)) ≡ (on_screen after p && its (owner after p))
  keeps its apart p = by_tests (on_screen before.desk p) (is_content_of n (owner before.desk p)) refl refl
    where
      by_tests : (b c : Bool) → on_screen before.desk p ≡ b → is_content_of n (owner before.desk p) ≡ c
          → (on_screen before.desk p && its (owner before.desk p)) ≡ (on_screen after p && its (owner after p))
      by_tests true true on own = λ i. sym (relayered.screen p) i && ((ap its (relayered.was p on own) ∙ apart _) ∙ sym (ap its (relayered.becomes p on own) ∙ apart _)) i
      by_tests true false on own = λ i. sym (relayered.screen p) i && its (sym (relayered.others p on own) i)
      by_tests false c off own = (λ i. off i && its (owner before.desk p)) ∙ (λ i. sym (relayered.screen p ∙ off) i && its (owner after p))

  -- content of the window owns what it owned
  pub same_content : (p : Point) → (on_screen before.desk p && is_content_of n (owner before.desk p)) ≡ (on_screen after p && is_content_of n (owner after p))
  same_content p = by_tests (on_screen before.desk p) (is_content_of n (owner before.desk p)) refl refl
    where
      by_tests : (b c : Bool) → on_screen before.desk p ≡ b → is_content_of n (owner before.desk p) ≡ c
          → (on_screen before.desk p && is_content_of n (owner before.desk p)) ≡ (on_screen after p && is_content_of n (owner after p))
      by_tests true true on own = λ i. sym (relayered.screen p) i && (ap (is_content_of n) (relayered.was p on own) ∙ sym (ap (is_content_of n) (relayered.becomes p on own))) i
      by_tests true false on own = λ i. sym (relayered.screen p) i && is_content_of n (sym (relayered.others p on own) i)
      by_tests false c off own = (λ i. off i && is_content_of n (owner before.desk p)) ∙ (λ i. sym (relayered.screen p ∙ off) i && is_content_of n (owner after p))

  -- what is no content after the call has the owner that it had
  pub same_owner_but_content : (p : Point) → on_screen after p ≡ true → is_content (owner after p) ≡ false → owner after p ≡ owner before.desk p
  same_owner_but_content p on none = by_test (is_content_of n (owner before.desk p)) refl
    where
      by_test : (b : Bool) → is_content_of n (owner before.desk p) ≡ b → owner after p ≡ owner before.desk p
      by_test true own = absurd (false≢true (sym none ∙ ap is_content (relayered.becomes p (sym (relayered.screen p) ∙ on) own)))
      by_test false own = relayered.others p (sym (relayered.screen p) ∙ on) own

  -- the window's own area is right with the new update region
  pub area_of_window : (a : Area) (r : Relaying) → IsArea before.desk before.stale n a → IsRelaid n afresh before after r
      → IsArea after (stale_after (afresh_change n afresh) before after) n (record a { update = r.update })
  area_of_window a r area relaid = record {
    visible = λ p. area.visible p ∙ same_content p;
    update = λ p. relaid.update p ∙ ap (λ b. b && stale_by (afresh_change n afresh) before (owner after p) p) (sym (area.visible p ∙ same_content p));
    frame = λ p. area.frame p ∙ keeps (λ o. same_owner o (Frame n)) (λ part. refl) p;
  }

  -- content of another window stays stale or not
  stale_as_before : (m : ℕ) (p : Point) → (m == n) ≡ false → on_screen before.desk p ≡ true → is_content_of m (owner before.desk p) ≡ true → before.stale p ≡ stale_by (afresh_change n afresh) before (owner after p) p
  stale_as_before m p other on own =
      let no_its = not_its (owner before.desk p) own in
      let same = relayered.others p on no_its in
      sym (
      (λ i. if not (is_content (same i)) then false else (if is_part_afresh n afresh (same i) then false else (if on_screen before.desk p && same_owner (owner before.desk p) (same i) then before.stale p else true)))
      ∙ (λ i. if not (content_of_one m (owner before.desk p) own i) then false else (if afresh_is_content n afresh (owner before.desk p) no_its i then false else (if on i && same_owner-self (owner before.desk p) i then before.stale p else true))))
    where
      not_its : (o : Owner) → is_content_of m o ≡ true → is_content_of n o ≡ false
      not_its Desktop e = refl
      not_its Bar e = refl
      not_its (Frame s) e = refl
      not_its (Content s part) e = ap (λ k. k == n) (eqb-true s m e) ∙ other

  -- the area of any other window is right as it was
  pub area_of_other : (m : ℕ) (a : Area) → (m == n) ≡ false → IsArea before.desk before.stale m a
      → IsArea after (stale_after (afresh_change n afresh) before after) m a
  area_of_other m a other area = record {
    visible = λ p. area.visible p ∙ keeps (is_content_of m) (λ part. turned) p;
    update = λ p. area.update p ∙ by_visible p (holds a.visible p) refl;
    frame = λ p. area.frame p ∙ keeps (λ o. same_owner o (Frame m)) (λ part. refl) p;
  }
    where
      turned : (n == m) ≡ false
      turned = grind (arith, nat_tests)

      by_visible : (p : Point) (b : Bool) → holds a.visible p ≡ b → (b && before.stale p) ≡ (b && stale_by (afresh_change n afresh) before (owner after p) p)
      by_visible p true e =
          let both = and_parts (on_screen before.desk p) (is_content_of m (owner before.desk p)) (sym (area.visible p) ∙ e) in
          stale_as_before m p other both.0 both.1
      by_visible p false e = refl

-- ---- all windows

-- a window at a place has not the serial that no window has
apart : (look : Look) (s : ℕ) (ws : List WindowRecord) (at : ℕ) (w : WindowRecord) → layers.window_of s (map (layered_window look) ws) ≡ None → slice_get ws at ≡ Some w → (w.serial == s) ≡ false
apart look s [] at w none there = absurd (cc)
apart look s (x ∷ ws) zero w none there =
    let same : x ≡ w = cc in
    ap (λ (y : WindowRecord). y.serial == s) (sym same) ∙ (not_first (x.serial == s) (layered_window look x) (layers.window_of s (map (layered_window look) ws)) none).0
apart look s (x ∷ ws) (suc at) w none there = apart look s ws at w (not_first (x.serial == s) (layered_window look x) (layers.window_of s (map (layered_window look) ws)) none).1 there

-- the window in front of one of serial n has another serial
front_apart : (look : Look) (n : ℕ) (x : WindowRecord) (ws : List WindowRecord) (at : ℕ) (w : WindowRecord) → layers.window_of x.serial (map (layered_window look) ws) ≡ None → slice_get ws at ≡ Some w → w.serial ≡ n → (x.serial == n) ≡ false
front_apart look n x ws at w none there number =
    let other : (w.serial == x.serial) ≡ false = apart look x.serial ws at w none there in
    grind (arith, nat_tests)

none_of : (look : Look) (n : ℕ) (place : Point) (ls : List Layer) (ws : List WindowRecord) → layers.window_of n (map (layered_window look) ws) ≡ None → All (HasLayersAt n place ls) ws
none_of look n place ls [] none = All-nil (HasLayersAt n place ls)
none_of look n place ls (x ∷ ws) none =
    let first = not_first (x.serial == n) (layered_window look x) (layers.window_of n (map (layered_window look) ws)) none in
    All-cons (HasLayersAt n place ls) x ws (λ same. absurd (false≢true (sym first.0 ∙ eq-eqb x.serial n same))) (none_of look n place ls ws first.1)

-- the window at a place of the list is the one of its serial
pub has_layers : (look : Look) (n : ℕ) (ws : List WindowRecord) (at : ℕ) (w : WindowRecord) → layers.AreWindows (map (layered_window look) ws) → slice_get ws at ≡ Some w → w.serial ≡ n → All (HasLayersAt n w.place w.layers) ws
has_layers look n [] at w distinct there number = absurd (cc)
has_layers look n (x ∷ ws) zero w distinct there number =
    let same : x ≡ w = cc in
    let none : layers.window_of n (map (layered_window look) ws) ≡ None = subst (λ s. layers.window_of s (map (layered_window look) ws) ≡ None) (ap (λ (y : WindowRecord). y.serial) same ∙ number) distinct.0 in
    All-cons (HasLayersAt n w.place w.layers) x ws (λ _. (ap (λ (y : WindowRecord). y.place) same, ap (λ (y : WindowRecord). y.layers) same)) (none_of look n w.place w.layers ws none)
has_layers look n (x ∷ ws) (suc at) w distinct there number =
    All-cons (HasLayersAt n w.place w.layers) x ws
    (λ same. absurd (false≢true (sym (front_apart look n x ws at w distinct.0 there number) ∙ eq-eqb x.serial n same)))
    (has_layers look n ws at w distinct.1.1 there number)

module _ (look : Look) (n : ℕ) (place : Point) (afresh : Option Part) (old new : List Layer) (before : State) (after : LayeredDesk) (relayered : IsRelayered n place old new before.desk after) where
  abbrev stale : Point → Bool
  stale = stale_after (afresh_change n afresh) before after

  -- a window keeps its serial
  serial_kept : (w : WindowRecord) → w.serial ≡ (with_layers_of n new w).serial
  serial_kept w = by_test (w.serial == n)
    where
      by_test : (b : Bool) → w.serial ≡ (if b then record w { layers = new } else w).serial
      by_test true = refl
      by_test false = refl

  front_area : (w : WindowRecord) (a : Area) → (w.serial == n) ≡ false → IsArea before.desk before.stale w.serial a → IsArea after stale (with_layers_of n new w).serial a
  front_area w a other area = subst (λ s. IsArea after stale s a) (serial_kept w) (area_of_other n place afresh old new before after relayered w.serial a other area)

  rest_areas : (ws : List WindowRecord) (areas : List Area) → layers.window_of n (map (layered_window look) ws) ≡ None → AreAreas before.desk before.stale ws areas → AreAreas after stale (map (with_layers_of n new) ws) areas
  rest_areas [] [] none its = tt
  rest_areas (w ∷ ws) (a ∷ areas) none its =
      let first = not_first (w.serial == n) (layered_window look w) (layers.window_of n (map (layered_window look) ws)) none in
      (front_area w a first.0 its.0, rest_areas ws areas first.1 its.1)
  rest_areas [] (a ∷ areas) none its = absurd its
  rest_areas (w ∷ ws) [] none its = absurd its

  -- each window has its area, where the one at a place of the list got other layers and the new update region
  pub areas_relaid : (r : Relaying) (ws : List WindowRecord) (areas : List Area) (at : ℕ) (w : WindowRecord) (a : Area) → layers.AreWindows (map (layered_window look) ws)
      → slice_get ws at ≡ Some w → w.serial ≡ n → slice_get areas at ≡ Some a → AreAreas before.desk before.stale ws areas → IsRelaid n afresh before after r
      → AreAreasAfter (afresh_change n afresh) before after (map (with_layers_of n new) ws) (set areas at (record a { update = r.update }))
  areas_relaid r [] areas at w a distinct there number read its relaid = absurd (cc)
  areas_relaid r (x ∷ ws) [] at w a distinct there number read its relaid = absurd its
  areas_relaid r (x ∷ ws) (b ∷ areas) zero w a distinct there number read its relaid =
      let same : x ≡ w = cc in
      let same_area : b ≡ a = cc in
      let its_number : x.serial ≡ n = ap (λ (y : WindowRecord). y.serial) same ∙ number in (
        subst (λ s. IsArea after stale s (record a { update = r.update })) (sym its_number ∙ serial_kept x)
            (area_of_window n place afresh old new before after relayered a r (subst (λ (y : ℕ × Area). IsArea before.desk before.stale y.0 y.1) (λ i. (its_number i, same_area i)) its.0) relaid),
        rest_areas ws areas (subst (λ s. layers.window_of s (map (layered_window look) ws) ≡ None) its_number distinct.0) its.1,
      )
  areas_relaid r (x ∷ ws) (b ∷ areas) (suc at) w a distinct there number read its relaid = (
    front_area x b (front_apart look n x ws at w distinct.0 there number) its.0,
    areas_relaid r ws areas at w a distinct.1.1 there number read its.1 relaid,
  )
