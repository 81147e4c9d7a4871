-- What holds of controls between calls holds where one of them is changed and its definition told of it.
use Rattle.std.proofs.Common.{◌≡◌, ℕ, zero, suc, ◌≤◌, pos, Bool, true, false, ◌&&◌, ◌==◌, List, [], ◌∷◌, Option, Some, refl, sym, ap, ◌∙◌, subst, arith, cond, eqb-true}
use Rattle.std.specs.Prelude.{All, is_none, map, slice_get}
use Rattle.std.specs.List.{list_any}
use Rattle.std.proofs.lemmas.Bool.{false≢true}
use Rattle.std.proofs.lemmas.List.Elements.{All-map, All-weaker}
use Rattle.std.proofs.lemmas.Bool.Decides.{nat_tests}
use Rattle.tb_geom.specs.declared.rect.Rect.{Rect}
use Rattle.tb_geom.specs.Points.{PixelSet, minus}
use Rattle.tb_geom.specs.Rects.{in_plane, is_in_range, moved_rect}
use Rattle.control_values.specs.Highlights.{is_highlight}
use Rattle.window_items.specs.Items.{are_before, items_of, count_of, edit_at, has_serial, is_in_at, with_kept}
use Rattle.window_items.proofs.WindowLemmas.{items_of-edit_at, items_of-edit_at_other, is_in_at-other, slice_get-items_of}
use Rattle.def_iface.specs.ControlMeaning.{ControlDefinition, ControlGoesBy, ControlHears, IsControlBegun, SameControlRegions, is_control_size, is_fitting_control}
use Rattle.def_iface.specs.ControlNews.{AllControlNews, told_all_of_control}
use Rattle.def_iface.specs.declared.size.Size.{Size}
use Rattle.window_list.specs.declared.layer.Layer.{Layer}
use Rattle.window_list.specs.declared.layer.LayerShape.{LayerShape}
use Rattle.window_list.specs.LayerChanges.{with_shape}
use Rattle.vis_update.specs.Records.{WindowRecord}
use Rattle.vis_update.specs.Relayings.{with_layers_of}
use Rattle.window_mgr.specs.Finding.{record_with}
use Rattle.window_mgr.specs.Refused.{is_missing}
use Rattle.control_mgr.specs.ControlDesks.{ControlRecord, ControlSlot, ControlsState, news_of_control}
use Rattle.control_mgr.specs.ControlRefusals.{most_controls}
use Rattle.control_mgr.specs.ControlSteps.{AreLayersOf, IsChangedAt, IsLayerOf}
use Rattle.control_mgr.specs.declared.laying.Lie.{Lie}
use Rattle.control_mgr.specs.declared.setting.State.{State}
use Rattle.control_mgr.specs.InUse.{AreStocked}
use Rattle.control_mgr.specs.Laying.{IsShapeOf}
use Rattle.control_mgr.specs.Spots.{with_lie, with_state}
use Rattle.control_mgr.specs.Settled.{AreSettled, IsSettledControl, MayHaveSetting}
use Rattle.control_mgr.specs.WholeControls.{AreControlsApart, AreWholeControls, slots_of}
use Rattle.control_mgr.proofs.Edited.{AreNoControls, begin_edit}
use Rattle.control_mgr.proofs.Sound.{MayHave}
use Rattle.window_items.proofs.EditLemmas.{All-edit, All-there, any-edit, edit_alike, map-edit, before-edit, count-edit}

-- ---- one control

-- a definition that was told all goes by it
pub goes_by_told : (all : AllControlNews) (old new : ControlDefinition) → ControlHears (told_all_of_control all) old new → ControlGoesBy all new
goes_by_told all old new heard = record {
  picture = λ n font p. heard.picture n font p ∙ sym (heard.picture (told_all_of_control all n) font p);
  hit = λ n p. heard.hit n p ∙ sym (heard.hit (told_all_of_control all n) p);
  thumb_value = λ n p q. heard.thumb_value n p q ∙ sym (heard.thumb_value (told_all_of_control all n) p q);
  damage = λ n more p. heard.damage n more p ∙ sym (heard.damage (told_all_of_control all n) more p);
}

-- the control may be as it is noted, with a definition of these regions
pub record MayBeSo (d : ControlDefinition) (c : ControlRecord) : Type 0 where
  pub placed : in_plane c.kept.place ≡ true
  pub fits : is_fitting_control d c.kept.size ≡ true
  pub inside : is_in_range (moved_rect (d.bounds c.kept.size) c.kept.place.h c.kept.place.v) ≡ true
  pub setting : MayHaveSetting c.kept.values
  pub highlight : is_highlight (pos c.kept.highlight) ≡ true

-- a control with a definition that was told all of it is settled
pub settled_told : (c : ControlRecord) (old new : ControlDefinition) (slot : ℕ) → MayBeSo old c → IsControlBegun (news_of_control c) old new
    → IsSettledControl (with_kept (λ k. record k { definition = record { definition = new; slot = slot } }) c)
settled_told c old new slot may told = record {
  placed = may.placed;
  live = told.live;
  told = told.told;
  fits = subst (λ bounds. (is_control_size c.kept.size && is_in_range (bounds c.kept.size)) ≡ true) (sym told.regions.bounds) may.fits;
  inside = subst (λ bounds. is_in_range (moved_rect (bounds c.kept.size) c.kept.place.h c.kept.place.v) ≡ true) (sym told.regions.bounds) may.inside;
  goes_by = goes_by_told (news_of_control c) old new told.heard;
  setting = may.setting;
  highlight = may.highlight;
}

-- ---- all controls

-- the control with another definition, of this slot
abbrev redefined : ControlDefinition → ℕ → ControlRecord → ControlRecord
redefined d slot c = with_kept (λ k. record k { definition = record { definition = d; slot = slot } }) c

-- the control at a place, with another definition
abbrev pub retold : (ControlRecord → ControlRecord) → ControlDefinition → ControlRecord → ControlRecord
retold f d c = with_kept (λ k. record k { definition = record { definition = d; slot = c.kept.definition.slot } }) (f c)

-- a change that another agrees with where it is made
pub changed_alike : (f g : ControlRecord → ControlRecord) (at : ℕ) (before after : List ControlRecord) → ((c : ControlRecord) → slice_get before at ≡ Some c → f c ≡ g c) → IsChangedAt f at before after → IsChangedAt g at before after
changed_alike f g at before after same changed = record {
  control = changed.control;
  there = changed.there;
  definition = changed.definition;
  told = subst (λ c. IsControlBegun (news_of_control c) changed.control.kept.definition.definition changed.definition) (same changed.control changed.there) changed.told;
  controls = changed.controls ∙ edit_alike (retold f changed.definition) (retold g changed.definition) at before (λ c e. ap (λ (x : ControlRecord). redefined changed.definition c.kept.definition.slot x) (same c e));
}

same_there : (cs : List ControlRecord) (at : ℕ) (c d : ControlRecord) → slice_get cs at ≡ Some c → slice_get cs at ≡ Some d → d ≡ c
same_there cs at c d e f = cc

pub changed_settled : (f : ControlRecord → ControlRecord) (at : ℕ) (before after : List ControlRecord) → AreSettled before
    → ((c : ControlRecord) → slice_get before at ≡ Some c → MayBeSo c.kept.definition.definition (f c)) → IsChangedAt f at before after → AreSettled after
changed_settled f at before after settled may changed =
    subst AreSettled (sym changed.controls)
    (All-edit IsSettledControl (retold f changed.definition) at before settled
    (λ c e. subst (λ x. IsSettledControl (retold f changed.definition x)) (sym (same_there before at changed.control c changed.there e))
    (settled_told (f changed.control) changed.control.kept.definition.definition changed.definition changed.control.kept.definition.slot (may changed.control changed.there) changed.told)))

apart-edit : (f : ControlRecord → ControlRecord) → ((c : ControlRecord) → (f c).serial ≡ c.serial) → (i : ℕ) (cs : List ControlRecord) → AreControlsApart cs → AreControlsApart (edit_at f i cs)
apart-edit f same i [] h = tt
apart-edit f same zero (c ∷ cs) h = (ap (λ s. list_any (has_serial s) cs) (same c) ∙ h.0, h.1)
apart-edit f same (suc i) (c ∷ cs) h = (any-edit c.serial f same i cs ∙ h.0, apart-edit f same i cs h.1)

-- ---- windows

-- the windows with other layers are the same windows
record_with-layers : (s t : ℕ) (ls : List Layer) (ws : List WindowRecord) → is_none (record_with t (map (with_layers_of s ls) ws)) ≡ is_none (record_with t ws)
record_with-layers s t ls [] = refl
record_with-layers s t ls (w ∷ ws) = by_test (w.serial == s) (record_with-layers s t ls ws)
  where
    next : (b : Bool) (x y : WindowRecord) (o u : Option WindowRecord) → is_none o ≡ is_none u → is_none (cond b (Some x) o) ≡ is_none (cond b (Some y) u)
    next true x y o u e = refl
    next false x y o u e = e

    by_test : (b : Bool) → is_none (record_with t (map (with_layers_of s ls) ws)) ≡ is_none (record_with t ws) → is_none (record_with t ((cond b (record w { layers = ls }) w) ∷ map (with_layers_of s ls) ws)) ≡ is_none (record_with t (w ∷ ws))
    by_test true rest = next (w.serial == t) (record w { layers = ls }) w (record_with t (map (with_layers_of s ls) ws)) (record_with t ws) rest
    by_test false rest = next (w.serial == t) w w (record_with t (map (with_layers_of s ls) ws)) (record_with t ws) rest

pub missing-layers : (s t : ℕ) (ls : List Layer) (ws : List WindowRecord) → is_missing t (map (with_layers_of s ls) ws) ≡ is_missing t ws
missing-layers s t ls ws = record_with-layers s t ls ws

-- the layers of each window begin with its controls', and no other is a control's
abbrev pub AreJoined : List ControlRecord → List WindowRecord → Type 0
AreJoined cs ws = All (λ w. AreLayersOf (items_of w.serial cs) w.layers) ws

-- where a window's layers come to begin with those of its controls as they are now, and those of other windows stay
pub joined_laid : (s : ℕ) (ls : List Layer) (cs ds : List ControlRecord) (ws : List WindowRecord) → AreLayersOf (items_of s ds) ls
    → ((t : ℕ) → (t ≡ s → ⊥) → items_of t ds ≡ items_of t cs) → AreJoined cs ws → AreJoined ds (map (with_layers_of s ls) ws)
joined_laid s ls cs ds ws new others joined =
    All-map (λ w. AreLayersOf (items_of w.serial ds) w.layers) (with_layers_of s ls) ws
    (All-weaker (λ w. AreLayersOf (items_of w.serial cs) w.layers) (λ w. AreLayersOf (items_of (with_layers_of s ls w).serial ds) (with_layers_of s ls w).layers)
    (λ w h. by_test w h (w.serial == s) refl) ws joined)
  where
    by_test : (w : WindowRecord) → AreLayersOf (items_of w.serial cs) w.layers → (b : Bool) → (w.serial == s) ≡ b
        → AreLayersOf (items_of (cond b (record w { layers = ls }) w).serial ds) (cond b (record w { layers = ls }) w).layers
    by_test w h true e = subst (λ t. AreLayersOf (items_of t ds) ls) (sym (eqb-true w.serial s e)) new
    by_test w h false e = subst (λ xs. AreLayersOf xs w.layers) (sym (others w.serial (λ same. false≢true (sym e ∙ self w.serial s same)))) h
      where
        self : (a b : ℕ) → a ≡ b → (a == b) ≡ true
        self a b e = grind (arith, nat_tests)

-- where a control is changed that has the same layer then
pub joined_edit : (g : ControlRecord → ControlRecord) → ((c : ControlRecord) → (g c).window ≡ c.window) → (at : ℕ) (cs : List ControlRecord)
    → ((c : ControlRecord) (l : Layer) → slice_get cs at ≡ Some c → IsLayerOf c l → IsLayerOf (g c) l)
    → (ws : List WindowRecord) → AreJoined cs ws → AreJoined (edit_at g at cs) ws
joined_edit g window at cs same ws joined =
    All-weaker (λ w. AreLayersOf (items_of w.serial cs) w.layers) (λ w. AreLayersOf (items_of w.serial (edit_at g at cs)) w.layers)
    (λ w h. by_test w h (is_in_at w.serial at cs) refl) ws joined
  where
    by_test : (w : WindowRecord) → AreLayersOf (items_of w.serial cs) w.layers → (b : Bool) → is_in_at w.serial at cs ≡ b → AreLayersOf (items_of w.serial (edit_at g at cs)) w.layers
    by_test w h true e =
        subst (λ xs. AreLayersOf xs w.layers) (sym (items_of-edit_at g window w.serial at cs e))
        (begin_edit IsLayerOf AreNoControls g _ (items_of w.serial cs) w.layers h (λ c l r. same c l (sym (slice_get-items_of w.serial at cs e) ∙ r)))
    by_test w h false e = subst (λ xs. AreLayersOf xs w.layers) (sym (items_of-edit_at_other g window w.serial at cs e)) h

-- ---- the whole

-- a change of a control that keeps its serial and its window
pub record Keeps (f : ControlRecord → ControlRecord) : Type 0 where
  pub serial : (c : ControlRecord) → (f c).serial ≡ c.serial
  pub window : (c : ControlRecord) → (f c).window ≡ c.window

-- a control that lies as it lay has the same layer, with another definition of the same regions
pub same_layer : (s : State) (c : ControlRecord) (d : ControlDefinition) → SameControlRegions c.kept.definition.definition d → (l : Layer) → IsLayerOf c l → IsLayerOf (retold (with_state s) d c) l
same_layer s c d same l is = record {
  part = is.part;
  shown = is.shown;
  region = λ p. is.region p ∙ ap (λ (r : Size → PixelSet). r c.kept.size (minus p c.kept.place)) (sym same.region);
  bounds = is.bounds ∙ ap (λ (b : Size → Rect). moved_rect (b c.kept.size) c.kept.place.h c.kept.place.v) (sym same.bounds);
}

-- the layer of a control that lies so, by the shape of its region there
pub laid_layer : (k : Lie) (c : ControlRecord) (d : ControlDefinition) → SameControlRegions c.kept.definition.definition d → (shape : LayerShape) → IsShapeOf c.kept.definition.definition k shape
    → (l : Layer) → IsLayerOf c l → IsLayerOf (retold (with_lie k) d c) (with_shape shape l)
laid_layer k c d same shape is l was = record {
  part = was.part;
  shown = is.shown;
  region = λ p. is.region p ∙ ap (λ (r : Size → PixelSet). r k.size (minus p k.place)) (sym same.region);
  bounds = is.bounds ∙ ap (λ (b : Size → Rect). moved_rect (b k.size) k.place.h k.place.v) (sym same.bounds);
}

-- what a change of a control that keeps its serial and its window leaves, layers aside
pub record AreSame (next : Option ℕ) (slots : List ControlSlot) (windows : List WindowRecord) (before after : List ControlRecord) : Type 0 where
  pub apart : AreControlsApart before → AreControlsApart after
  pub given : are_before next before ≡ true → are_before next after ≡ true
  pub somewhere : All (λ c. is_missing c.window windows ≡ false) before → All (λ c. is_missing c.window windows ≡ false) after
  pub few : ((t : ℕ) → count_of t before ≤ most_controls) → (t : ℕ) → count_of t after ≤ most_controls
  pub stocked : AreStocked (λ (d : ControlDefinition). d.stage) (slots_of before) slots → AreStocked (λ (d : ControlDefinition). d.stage) (slots_of after) slots

pub edited_same : (f : ControlRecord → ControlRecord) → Keeps f → (d : ControlDefinition) (at : ℕ) (cs ds : List ControlRecord) → ds ≡ edit_at (retold f d) at cs
    → (next : Option ℕ) (slots : List ControlSlot) (windows : List WindowRecord) → AreSame next slots windows cs ds
edited_same f keeps d at cs ds is next slots windows = record {
  apart = λ h. subst AreControlsApart (sym is) (apart-edit (retold f d) keeps.serial at cs h);
  given = λ h. ap (are_before next) is ∙ before-edit next (retold f d) keeps.serial at cs ∙ h;
  somewhere = λ h. subst (λ xs. All (λ (c : ControlRecord). is_missing c.window windows ≡ false) xs) (sym is)
      (All-edit (λ (c : ControlRecord). is_missing c.window windows ≡ false) (retold f d) at cs h (λ c e. ap (λ w. is_missing w windows) (keeps.window c) ∙ All-there (λ (c : ControlRecord). is_missing c.window windows ≡ false) at cs c e h));
  few = λ h t. subst (λ n. n ≤ most_controls) (sym (ap (count_of t) is ∙ count-edit (retold f d) keeps.window t at cs)) (h t);
  stocked = λ h. subst (λ ns. AreStocked (λ (d : ControlDefinition). d.stage) ns slots) (sym (ap slots_of is ∙ map-edit (λ (c : ControlRecord). c.kept.definition.slot) (retold f d) (λ c. refl) at cs)) h;
}

-- controls of which one was given another state are whole
pub whole_put : (s : State) → MayHave s → (at : ℕ) (ws : List WindowRecord) (state : ControlsState) (cs : List ControlRecord) → AreWholeControls ws state
    → IsChangedAt (with_state s) at state.controls cs → AreWholeControls ws (record state { controls = cs })
whole_put s may at ws state cs whole changed =
    let f : ControlRecord → ControlRecord = with_state s in
    let same : AreSame state.next state.stock ws state.controls cs = edited_same f (record { serial = λ c. refl; window = λ c. refl }) changed.definition at state.controls cs changed.controls state.next state.stock ws in
    record {
      settled = changed_settled f at state.controls cs whole.settled (λ c e. stays c (All-there IsSettledControl at state.controls c e whole.settled)) changed;
      apart = same.apart whole.apart;
      given = same.given whole.given;
      somewhere = same.somewhere whole.somewhere;
      few = same.few whole.few;
      joined = subst (λ xs. AreJoined xs ws) (sym changed.controls)
          (joined_edit (retold f changed.definition) (λ c. refl) at state.controls
          (λ c l e is. same_layer s c changed.definition (subst (λ (x : ControlRecord). SameControlRegions x.kept.definition.definition changed.definition) (same_there state.controls at c changed.control e changed.there) changed.told.regions) l is)
          ws whole.joined);
      stocked = same.stocked whole.stocked;
    }
  where
    stays : (c : ControlRecord) → IsSettledControl c → MayBeSo c.kept.definition.definition (with_state s c)
    stays c h = record { placed = h.placed; fits = h.fits; inside = h.inside; setting = may.setting; highlight = may.highlight }

-- windows of which one has other layers have each control in a window that is there as well
pub somewhere_laid : (s : ℕ) (ls : List Layer) (ws : List WindowRecord) (cs : List ControlRecord) → All (λ c. is_missing c.window ws ≡ false) cs
    → All (λ c. is_missing c.window (map (with_layers_of s ls) ws) ≡ false) cs
somewhere_laid s ls ws cs h =
    All-weaker (λ (c : ControlRecord). is_missing c.window ws ≡ false) (λ (c : ControlRecord). is_missing c.window (map (with_layers_of s ls) ws) ≡ false)
    (λ c e. missing-layers s c.window ls ws ∙ e) cs h

-- controls of which one lies so are whole beside the windows with its layer so
pub whole_laid : (k : Lie) (at : ℕ) (window : ℕ) (ls : List Layer) (ws : List WindowRecord) (state : ControlsState) (cs : List ControlRecord) → AreWholeControls ws state
    → is_in_at window at state.controls ≡ true → ((c : ControlRecord) → slice_get state.controls at ≡ Some c → MayBeSo c.kept.definition.definition (with_lie k c))
    → IsChangedAt (with_lie k) at state.controls cs → AreLayersOf (items_of window cs) ls
    → AreWholeControls (map (with_layers_of window ls) ws) (record state { controls = cs })
whole_laid k at window ls ws state cs whole here may changed joined =
    let f : ControlRecord → ControlRecord = with_lie k in
    let same : AreSame state.next state.stock ws state.controls cs = edited_same f (record { serial = λ c. refl; window = λ c. refl }) changed.definition at state.controls cs changed.controls state.next state.stock ws in
    record {
      settled = changed_settled f at state.controls cs whole.settled may changed;
      apart = same.apart whole.apart;
      given = same.given whole.given;
      somewhere = somewhere_laid window ls ws cs (same.somewhere whole.somewhere);
      few = same.few whole.few;
      joined = joined_laid window ls state.controls cs ws joined
          (λ t away. ap (items_of t) changed.controls ∙ items_of-edit_at_other (retold f changed.definition) (λ c. refl) t at state.controls (is_in_at-other window t at state.controls (λ e. away (sym e)) here))
          whole.joined;
      stocked = same.stocked whole.stocked;
    }
