-- A layer that is put in among those of a window: they are apart, lie in the range of coordinates, and the plan of them.
use Rattle.std.proofs.Common.{◌≡◌, ℕ, zero, suc, ◌<◌, ◌≤◌, true, false, ◌&&◌, List, [], ◌∷◌, length, get_or, take, drop, Option, Some, sym, ap, ◌∙◌, subst, arith}
use Rattle.std.specs.Prelude.{All}
use Rattle.std.specs.List.{insert, list_all}
use Rattle.std.proofs.lemmas.Bool.{and_parts}
use Rattle.std.proofs.lemmas.List.Edits.{get_or-insert_at, length-insert}
use Rattle.std.proofs.lemmas.List.Elements.{All-append, All-cons, All-drop, All-head, All-tail, All-take, All-weaker}
use Rattle.std.proofs.lemmas.List.Kept.{AllPairs-cons}
use Rattle.tb_geom.specs.declared.point.Point.{Point}
use Rattle.tb_geom.specs.Points.{minus}
use Rattle.tb_geom.specs.Pixels.{Pixels, holds}
use Rattle.desk_layers.specs.declared.part.Part.{Part}
use Rattle.desk_layers.specs.declared.part.Part.TheVariants as part
use Rattle.def_iface.specs.Slots.{TakenBox}
use Rattle.desk_layers.specs.Desk.{same_part}
use Rattle.def_iface.specs.WindowMeaning.{WindowLoan}
use Rattle.window_list.specs.declared.layer.Layer.{Layer}
use Rattle.window_list.specs.declared.layers.Relaid.{Relaid}
use Rattle.window_list.specs.LayerChanges.{is_gained}
use Rattle.window_list.specs.Holders.{ArePartsApart, PlacedLayers, fits_at}
use Rattle.window_list.proofs.Parts.{front_apart, same_part-turned}
use Rattle.vis_update.specs.declared.relaying.Relaying.{Relaying}
use Rattle.window_list.specs.declared.window.Window.{Window}
use Rattle.window_mgr.specs.declared.manager.WindowManager.{WindowManager}
use Rattle.window_mgr.specs.Edits.{IsWindowAt}
use Rattle.window_mgr.specs.Kept.{IsKept}
use Rattle.window_mgr.specs.Relayered.{HasUpdate, IsGainedAt, IsPartAt, IsPlanOfLayers, MayHaveLayers}
use Rattle.window_mgr.specs.Whole.{IsSettled}
use Rattle.window_mgr.proofs.Contents as contents
use Rattle.control_mgr.specs.Planned.{IsLaidSo}
use Rattle.control_mgr.proofs.Places.{at_window, there_is, read_is}

-- ---- one more layer

-- what holds of each layer, and of one more, holds where that is put in
pub all_with : (P : Layer → Type 0) (i : ℕ) (ls : List Layer) (own : Layer) → All P ls → P own → All P (insert ls i own)
all_with P i ls own h new = All-append P (take i ls) (own ∷ drop i ls) (All-take P i ls h) (All-cons P own (drop i ls) new (All-drop P i ls h))

apart_front : (ls : List Layer) (own : Layer) → ArePartsApart ls → same_part own.part part.Picture ≡ false → All (λ l. same_part l.part own.part ≡ false) ls → ArePartsApart (own ∷ ls)
apart_front ls own h e others = (
  All-cons (λ (l : Layer). same_part l.part part.Picture ≡ false) own ls e h.0,
  AllPairs-cons (λ (k l : Layer). same_part k.part l.part ≡ false) own ls
      (All-weaker (λ (l : Layer). same_part l.part own.part ≡ false) (λ (l : Layer). same_part own.part l.part ≡ false) (λ l its. same_part-turned own.part l.part ∙ its) ls others) h.1,
)

pub apart_with : (i : ℕ) (ls : List Layer) (own : Layer) → ArePartsApart ls → same_part own.part part.Picture ≡ false → All (λ l. same_part l.part own.part ≡ false) ls → ArePartsApart (insert ls i own)
apart_with zero ls own h e others = apart_front ls own h e others
apart_with (suc i) [] own h e others = apart_front [] own h e others
apart_with (suc i) (l ∷ ls) own h e others =
    let front = front_apart l ls h in
    let rest = apart_with i ls own front.rest e (All-tail (λ (k : Layer). same_part k.part own.part ≡ false) l ls others) in (
      All-cons (λ (k : Layer). same_part k.part part.Picture ≡ false) l (insert ls i own) front.picture rest.0,
      AllPairs-cons (λ (j k : Layer). same_part j.part k.part ≡ false) l (insert ls i own)
          (all_with (λ (k : Layer). same_part l.part k.part ≡ false) i ls own front.others (All-head (λ (k : Layer). same_part k.part own.part ≡ false) l ls others)) rest.1,
    )

pub fit_with : (place : Point) (i : ℕ) (ls : List Layer) (own : Layer) → list_all (fits_at place) ls ≡ true → fits_at place own ≡ true → list_all (fits_at place) (insert ls i own) ≡ true
fit_with place zero ls own fit e = λ t. e t && fit t
fit_with place (suc i) [] own fit e = λ t. e t && true
fit_with place (suc i) (l ∷ ls) own fit e =
    let parts = and_parts (fits_at place l) (list_all (fits_at place) ls) fit in
    let rest = fit_with place i ls own parts.1 e in (λ t. parts.0 t && rest t)

-- what stands at a place is one
pub one_read : {X : Type 0} (xs : List X) (i : ℕ) (x y : X) → i < length xs → x ≡ get_or xs i x → y ≡ get_or xs i y → x ≡ y
one_read [] i x y low e f = absurd (omega arith)
one_read (z ∷ zs) zero x y low e f = e ∙ sym f
one_read (z ∷ zs) (suc i) x y low e f = one_read zs i x y (omega arith) e f

-- ---- the layers with it

module _ (ls : PlacedLayers) (i : ℕ) (own : Layer) (index : i ≤ length ls.layers) (relaid : Relaid) (layers_are : relaid.layers ≡ record ls { layers = insert ls.layers i own }) where
  abbrev new : List Layer
  new = relaid.layers.layers

  inserted : new ≡ insert ls.layers i own
  inserted = ap (λ (x : PlacedLayers). x.layers) layers_are

  pub low_in : i < length new
  low_in =
      let many = ap length inserted ∙ length-insert ls.layers i own index in
      let low = index in omega arith

  pub apart_in : ArePartsApart ls.layers → same_part own.part part.Picture ≡ false → All (λ l. same_part l.part own.part ≡ false) ls.layers → ArePartsApart new
  apart_in apart picture others = subst ArePartsApart (sym inserted) (apart_with i ls.layers own apart picture others)

  own_read : own ≡ get_or new i own
  own_read = sym (ap (λ xs. get_or xs i own) inserted ∙ get_or-insert_at ls.layers i own own index)

  part_is : (afresh : Option Part) → IsPartAt new (Some i) afresh → afresh ≡ Some own.part
  part_is afresh h = h own own_read

  pub part_in : IsPartAt new (Some i) (Some own.part)
  part_in l l_is = sym (part_is (Some l.part) (λ j j_is. ap (λ (x : Layer). Some x.part) (one_read new i l j low_in l_is j_is)))

  -- ---- where the window has the layers without it

  module _ {V : Type 0} {H : V → Type 0} (loan : TakenBox V H → WindowLoan) (at : ℕ) (update : Pixels) (t u : WindowManager V H) (laid : IsLaidSo loan at ls update t u) (apart : ArePartsApart new) (fits : fits_at ls.place own ≡ true) where
    abbrev kept : IsKept loan u
    kept = laid.has.kept

    -- the layers lie where the window does
    placed_there : (w : Window V H) → IsWindowAt u.windows.records.items at w → ls.place ≡ w.place
    placed_there w lies =
        ap (λ (x : PlacedLayers). x.place) (sym (laid.layers w lies))
        ∙ contents.layers_there loan u kept.slots kept.whole at laid.has.low w lies (λ font q p. false)

    -- it may have them
    pub may_in : MayHaveLayers at u relaid.layers
    may_in = record {
      apart = apart;
      there = λ w lies. ap (λ (x : PlacedLayers). x.place) layers_are ∙ placed_there w lies;
      fit = (λ j. list_all (fits_at (ap (λ (x : PlacedLayers). x.place) layers_are j)) (inserted j)) ∙ fit_with ls.place i ls.layers own fit_there fits;
    }
      where
        fit_there : list_all (fits_at ls.place) ls.layers ≡ true
        fit_there =
            let windows = there_is u.windows.records.items at laid.has.low in
            let w : Window V H = windows.item in
            let lies : IsWindowAt u.windows.records.items at w = read_is u.windows.records.items at w windows.there in
            (λ j. list_all (fits_at (placed_there w lies j)) (sym (laid.layers w lies) j).layers)
            ∙ (at_window loan IsSettled u.windows.records.items at w laid.has.low lies kept.whole.sound.settled).layers

    gained_at : ((p : Point) → holds relaid.gained p ≡ is_gained (Some own.part) ls.layers new (minus p ls.place)) → (afresh : Option Part) → IsPartAt new (Some i) afresh → IsGainedAt at afresh u relaid
    gained_at gains afresh h w lies p =
        gains p
        ∙ ap (λ o. is_gained o ls.layers new (minus p ls.place)) (sym (part_is afresh h))
        ∙ (λ j. is_gained afresh (sym (laid.layers w lies) j).layers new (minus p (placed_there w lies j)))

    -- and this is the plan of them
    pub planned_in : ((p : Point) → holds relaid.gained p ≡ is_gained (Some own.part) ls.layers new (minus p ls.place)) → (r : Relaying)
        → ((v : WindowManager V H) → HasUpdate loan at update t v → MayHaveLayers at v relaid.layers
        → (afresh : Option Part) → IsPartAt new (Some i) afresh → IsGainedAt at afresh v relaid → IsPlanOfLayers loan at new afresh v r)
        → IsPlanOfLayers loan at new (Some own.part) u r
    planned_in gains r planned = planned u laid.has may_in (Some own.part) part_in (gained_at gains (Some own.part) part_in)

    -- whichever part is said to be at its place
    pub planned_at : (r : Relaying) → IsPlanOfLayers loan at new (Some own.part) u r → (afresh : Option Part) → IsPartAt new (Some i) afresh → IsPlanOfLayers loan at new afresh u r
    planned_at r planned afresh h = subst (λ o. IsPlanOfLayers loan at new o u r) (sym (part_is afresh h)) planned
