-- A layer that is taken out of those of a window: the others lie in the range of coordinates, and the plan of them.
use Rattle.std.proofs.Common.{◌≡◌, ℕ, zero, suc, ◌<◌, Bool, true, false, ◌&&◌, List, [], ◌∷◌, length, Option, None, refl, sym, ap, ◌∙◌, subst}
use Rattle.std.specs.List.{list_all, remove}
use Rattle.std.proofs.lemmas.Bool.{and_parts}
use Rattle.tb_geom.specs.declared.point.Point.{Point}
use Rattle.tb_geom.specs.Points.{minus}
use Rattle.tb_geom.specs.Pixels.{Pixels, holds}
use Rattle.desk_layers.specs.declared.part.Part.{Part}
use Rattle.def_iface.specs.Slots.{TakenBox}
use Rattle.def_iface.specs.WindowMeaning.{WindowLoan}
use Rattle.window_list.specs.LayerChanges.{is_gained}
use Rattle.window_list.specs.Holders.{ArePartsApart, PlacedLayers, fits_at}
use Rattle.window_list.proofs.Parts.{remove_apart}
use Rattle.vis_update.specs.declared.relaying.Relaying.{Relaying}
use Rattle.window_list.specs.declared.window.Window.{Window}
use Rattle.window_mgr.specs.declared.manager.WindowManager.{WindowManager}
use Rattle.window_mgr.specs.Edits.{IsWindowAt}
use Rattle.window_mgr.specs.Kept.{IsKept}
use Rattle.window_mgr.specs.Relayered.{HasUpdate, IsGainedAt, IsPartAt, IsPlanOfLayers, MayHaveLayers}
use Rattle.window_mgr.specs.Whole.{IsSettled}
use Rattle.window_mgr.proofs.Contents as contents
use Rattle.control_mgr.specs.Planned.{IsLaidSo}
use Rattle.control_mgr.proofs.Places.{at_window, there_is, read_is}

pub all-remove : {X : Type 0} (p : X → Bool) (i : ℕ) (xs : List X) → list_all p xs ≡ true → list_all p (remove xs i) ≡ true
all-remove p zero [] h = refl
all-remove p (suc i) [] h = refl
all-remove p zero (x ∷ xs) h = (and_parts (p x) (list_all p xs) h).1
all-remove p (suc i) (x ∷ xs) h =
    let parts = and_parts (p x) (list_all p xs) h in
    let rest = all-remove p i xs parts.1 in (λ t. parts.0 t && rest t)

module _ (ls : PlacedLayers) (i : ℕ) (low : i < length ls.layers) (apart : ArePartsApart ls.layers) (layers : PlacedLayers) (layers_are : layers ≡ record ls { layers = remove ls.layers i }) where
  removed : layers.layers ≡ remove ls.layers i
  removed = ap (λ (x : PlacedLayers). x.layers) layers_are

  -- the others are apart
  pub apart_out : ArePartsApart layers.layers
  apart_out = subst ArePartsApart (sym removed) (remove_apart ls.layers i low apart)

  -- ---- where the window has the layers with it

  module _ {V : Type 0} {H : V → Type 0} (loan : TakenBox V H → WindowLoan) (at : ℕ) (update : Pixels) (t u : WindowManager V H) (laid : IsLaidSo loan at ls update t u) where
    abbrev kept : IsKept loan u
    kept = laid.has.kept

    placed_there : (w : Window V H) → IsWindowAt u.windows.records.items at w → ls.place ≡ w.place
    placed_there w lies =
        ap (λ (x : PlacedLayers). x.place) (sym (laid.layers w lies))
        ∙ contents.layers_there loan u kept.slots kept.whole at laid.has.low w lies (λ font q p. false)

    -- it may have the others
    pub may_out : MayHaveLayers at u layers
    may_out = record {
      apart = apart_out;
      there = λ w lies. ap (λ (x : PlacedLayers). x.place) layers_are ∙ placed_there w lies;
      fit = (λ j. list_all (fits_at (ap (λ (x : PlacedLayers). x.place) layers_are j)) (removed j)) ∙ all-remove (fits_at ls.place) i ls.layers fit_there;
    }
      where
        fit_there : list_all (fits_at ls.place) ls.layers ≡ true
        fit_there =
            let windows = there_is u.windows.records.items at laid.has.low in
            let w : Window V H = windows.item in
            let lies : IsWindowAt u.windows.records.items at w = read_is u.windows.records.items at w windows.there in
            (λ j. list_all (fits_at (placed_there w lies j)) (sym (laid.layers w lies) j).layers)
            ∙ (at_window loan IsSettled u.windows.records.items at w laid.has.low lies kept.whole.sound.settled).layers

    -- and this is the plan of them
    pub planned_out : (gained : Pixels) → ((p : Point) → holds gained p ≡ is_gained None ls.layers layers.layers (minus p ls.place)) → (r : Relaying)
        → ((v : WindowManager V H) → HasUpdate loan at update t v → MayHaveLayers at v layers
        → (afresh : Option Part) → IsPartAt layers.layers None afresh → IsGainedAt at afresh v (record { layers = layers; gained = gained }) → IsPlanOfLayers loan at layers.layers afresh v r)
        → IsPlanOfLayers loan at layers.layers None u r
    planned_out gained gains r planned =
        planned u laid.has may_out None refl
        (λ w lies p. gains p ∙ (λ j. is_gained None (sym (laid.layers w lies) j).layers layers.layers (minus p (placed_there w lies j))))
