-- A window all of whose visible content is to be redrawn.
use Rattle.std.proofs.Common.{◌≡◌, ℕ, zero, suc, ◌==◌, ◌&&◌, ◌||◌, Bool, true, false, List, [], ◌∷◌, map, set, None, Some, refl, sym, ap, ◌∙◌, subst}
use Rattle.std.specs.Prelude.{slice_get}
use Rattle.std.proofs.lemmas.Bool.{eqb-true, and_parts, false≢true}
use Rattle.tb_geom.specs.declared.point.Point.{Point}
use Rattle.tb_geom.specs.Points.{PixelSet}
use Rattle.tb_geom.specs.Pixels.{holds, Pixels}
use Rattle.desk_layers.specs.Desk as layers
use Rattle.desk_layers.specs.Desk.{LayeredDesk}
use Rattle.desk_layers.specs.Owner.{Owner, owner}
use Rattle.desk_layers.specs.Owner.Owner.{Desktop, Bar, Frame, Content}
use Rattle.desk_layers.proofs.Owning.{not_first}
use Rattle.vis_update.specs.declared.area.Area.{Area}
use Rattle.vis_update.specs.Records.{WindowRecord, Look, layered_window}
use Rattle.vis_update.specs.Areas.{stale_in, IsArea, AreAreas, is_content_of}
use Rattle.window_mgr.proofs.FindLemmas.{not_among}

-- the area with this update region
abbrev pub marked : Pixels → Area → Area
marked update a = record a { update = update }

-- those pixels are stale too
module _ (desk : LayeredDesk) (s : ℕ) (a : Area) (update : Pixels) (more : PixelSet) (grows : (p : Point) → holds update p ≡ (holds a.update p || more p)) (within : (p : Point) → more p ≡ true → holds a.visible p ≡ true) where
  abbrev pub stale_more : PixelSet → PixelSet
  stale_more stale p = more p || stale p

  -- ---- what is stale

  any_marked : (areas : List Area) (i : ℕ) → slice_get areas i ≡ Some a → (p : Point) → stale_in (set areas i (marked update a)) p ≡ (more p || stale_in areas p)
  any_marked [] i there p = absurd (cc)
  any_marked (b ∷ areas) zero there p =
      let same : b ≡ a = cc in
      ap (λ c. c || stale_in areas p) (grows p) ∙ by_test (holds a.update p) (more p) (stale_in areas p) ∙ ap (λ (c : Area). more p || (holds c.update p || stale_in areas p)) (sym same)
    where
      by_test : (u m rest : Bool) → ((u || m) || rest) ≡ (m || (u || rest))
      by_test true true rest = refl
      by_test true false rest = refl
      by_test false m rest = refl
  any_marked (b ∷ areas) (suc i) there p =
      ap (λ c. holds b.update p || c) (any_marked areas i there p) ∙ turned (holds b.update p) (more p) (stale_in areas p)
    where
      turned : (b m rest : Bool) → (b || (m || rest)) ≡ (m || (b || rest))
      turned true true rest = refl
      turned true false rest = refl
      turned false m rest = refl

  pub stale_marked : (areas : List Area) (i : ℕ) → slice_get areas i ≡ Some a → stale_more (stale_in areas) ≡ stale_in (set areas i (marked update a))
  stale_marked areas i there = λ k p. sym (any_marked areas i there p) k

  -- ---- the areas

  module _ (stale : PixelSet) (its : IsArea desk stale s a) where
    -- no pixel is content of two windows
    apart : (t : ℕ) (o : Owner) → is_content_of t o ≡ true → (t == s) ≡ false → is_content_of s o ≡ false
    apart t Desktop e other = refl
    apart t Bar e other = refl
    apart t (Frame n) e other = refl
    apart t (Content n part) e other = ap (λ m. m == s) (eqb-true n t e) ∙ other

    -- the area of another window has none of them
    another : (t : ℕ) (b : Area) → (t == s) ≡ false → IsArea desk stale t b → IsArea desk (stale_more stale) t b
    another t b other it = record {
      visible = it.visible;
      update = λ p. it.update p ∙ by_visible p (holds b.visible p) refl;
      frame = it.frame;
    }
      where
        by_visible : (p : Point) (v : Bool) → holds b.visible p ≡ v → (v && stale p) ≡ (v && stale_more stale p)
        by_visible p false e = refl
        by_visible p true e =
            let here = and_parts (layers.on_screen desk p) (is_content_of t (owner desk p)) (sym (it.visible p) ∙ e) in
            sym (ap (λ c. c || stale p) (no_more (its.visible p ∙ ap (λ c. layers.on_screen desk p && c) (apart t (owner desk p) here.1 other) ∙ and_false (layers.on_screen desk p)) (more p) refl))
          where
            and_false : (c : Bool) → (c && false) ≡ false
            and_false true = refl
            and_false false = refl

            no_more : holds a.visible p ≡ false → (m : Bool) → more p ≡ m → m ≡ false
            no_more unseen true f = absurd (false≢true (sym unseen ∙ within p f))
            no_more unseen false f = refl

    others_marked : (look : Look) (ws : List WindowRecord) (areas : List Area) → layers.window_of s (map (layered_window look) ws) ≡ None → AreAreas desk stale ws areas → AreAreas desk (stale_more stale) ws areas
    others_marked look [] [] none are = tt
    others_marked look (w ∷ ws) (b ∷ areas) none are =
        let first = not_first (w.serial == s) (layered_window look w) (layers.window_of s (map (layered_window look) ws)) none in
        (another w.serial b first.0 are.0, others_marked look ws areas first.1 are.1)
    others_marked look [] (b ∷ areas) none are = absurd are
    others_marked look (w ∷ ws) [] none are = absurd are

    own_marked : IsArea desk (stale_more stale) s (marked update a)
    own_marked = record {
      visible = its.visible;
      update = λ p. grows p ∙ ap (λ u. u || more p) (its.update p) ∙ by_test (holds a.visible p) (stale p) (more p) (within p);
      frame = its.frame;
    }
      where
        by_test : (v x m : Bool) → (m ≡ true → v ≡ true) → ((v && x) || m) ≡ (v && (m || x))
        by_test true true true e = refl
        by_test true true false e = refl
        by_test true false true e = refl
        by_test true false false e = refl
        by_test false x true e = absurd (false≢true (e refl))
        by_test false x false e = refl

    pub areas_marked : (look : Look) (ws : List WindowRecord) (areas : List Area) (i : ℕ) (w : WindowRecord) → layers.AreWindows (map (layered_window look) ws) → slice_get ws i ≡ Some w → w.serial ≡ s → slice_get areas i ≡ Some a
        → AreAreas desk stale ws areas → AreAreas desk (stale_more stale) ws (set areas i (marked update a))
    areas_marked look [] areas i w distinct here number there are = absurd (cc)
    areas_marked look (v ∷ ws) [] i w distinct here number there are = absurd are
    areas_marked look (v ∷ ws) (b ∷ areas) zero w distinct here number there are =
        let same : v ≡ w = cc in
        let serial : v.serial ≡ s = ap (λ (x : WindowRecord). x.serial) same ∙ number in (
          subst (λ n. IsArea desk (stale_more stale) n (marked update a)) (sym serial) own_marked,
          others_marked look ws areas (subst (λ n. layers.window_of n (map (layered_window look) ws) ≡ None) serial distinct.0) are.1,
        )
    areas_marked look (v ∷ ws) (b ∷ areas) (suc i) w distinct here number there are =
        let other : (v.serial == w.serial) ≡ false = not_among look v.serial ws i w distinct.0 here in
        (another v.serial b (ap (λ n. v.serial == n) (sym number) ∙ other) are.0, areas_marked look ws areas i w distinct.1.1 here number there are.1)
