-- The layer of a new list, behind all others of its window: that it may be put there, and the plan of it.
use Rattle.std.proofs.Common.{◌≡◌, ℕ, ◌<◌, ◌≤◌, ◌||◌, Bool, true, false, cond, List, [], ◌∷◌, ◌++◌, length, Option, Some, refl, sym, ap, ◌∙◌, subst, arith}
use Rattle.std.specs.Prelude.{All, nat_lt}
use Rattle.std.specs.List.{AllZip, insert, list_any}
use Rattle.std.proofs.lemmas.Bool.{and_parts, ltb-true, ne_eqb}
use Rattle.std.proofs.lemmas.List.Elements.{All-cons, All-nil}
use Rattle.tb_geom.specs.declared.point.Point.{Point}
use Rattle.tb_geom.specs.declared.rect.Rect.{Rect}
use Rattle.tb_geom.specs.Points.{minus}
use Rattle.tb_geom.specs.Pixels.{Pixels, holds}
use Rattle.tb_geom.specs.Rects.{is_in_range, moved_rect, rect_holds}
use Rattle.desk_layers.specs.declared.part.Part.{Part}
use Rattle.desk_layers.specs.declared.part.Part.TheVariants as part
use Rattle.def_iface.specs.Slots.{TakenBox}
use Rattle.desk_layers.specs.Desk.{same_part}
use Rattle.def_iface.specs.ListMeaning.{ListLoan}
use Rattle.def_iface.specs.WindowMeaning.{WindowLoan}
use Rattle.window_list.specs.declared.layer.Layer.{Layer}
use Rattle.window_list.specs.declared.layers.Relaid.{Relaid}
use Rattle.window_list.specs.LayerChanges.{is_gained}
use Rattle.window_list.specs.Holders.{ArePartsApart, PlacedLayers, fits_at}
use Rattle.window_items.specs.Items.{are_before, has_serial, items_of}
use Rattle.list_view.specs.Views.{view_rect}
use Rattle.desk_call.specs.declared.list.NewList.{NewList}
use Rattle.desk_call.specs.declared.update.LayerKind.TheVariants as kinds
use Rattle.vis_update.specs.declared.relaying.Relaying.{Relaying}
use Rattle.window_list.specs.declared.window.Window.{Window}
use Rattle.window_paint.specs.Kinds.{is_of}
use Rattle.window_mgr.specs.declared.manager.WindowManager.{WindowManager}
use Rattle.window_mgr.specs.Edits.{IsWindowAt}
use Rattle.window_mgr.specs.Kept.{IsKept}
use Rattle.window_mgr.specs.Relayered.{HasUpdate, IsGainedAt, IsPartAt, IsPlanOfLayers, MayHaveLayers}
use Rattle.window_mgr.proofs.Contents as contents
use Rattle.control_mgr.specs.Planned.{IsLaidSo}
use Rattle.control_mgr.proofs.LayerIn.{apart_in, low_in, may_in, planned_in}
use Rattle.control_mgr.proofs.Places.{at_window}
use Rattle.list_mgr.specs.declared.judging.ListTicket.{ListTicket}
use Rattle.list_mgr.specs.declared.lists.Lists.{Lists}
use Rattle.list_mgr.specs.ListDesks.{KeptList}
use Rattle.list_mgr.specs.ListSteps.{AreListLayers, IsLayerOf, layers_of_lists, with_last}
use Rattle.list_mgr.specs.Putting.{IsPlace, IsPlanOfList, MayLay}
use Rattle.list_mgr.specs.WholeLists.{AreBeside, records_of}
use Rattle.list_mgr.proofs.ListedLayers.{listed_last, no_list}
use Rattle.window_items.proofs.SerialLemmas.{none_in_window, or_parts}

-- ---- layers of other lists

-- where each serial comes before one, no list has that
none_before : (s : ℕ) (ls : List KeptList) → are_before (Some s) ls ≡ true → list_any (has_serial s) ls ≡ false
none_before s [] e = refl
none_before s (x ∷ xs) e =
    let parts = and_parts (nat_lt x.serial s) (are_before (Some s) xs) e in
    let less = ltb-true x.serial s parts.0 in
    let rest = none_before s xs parts.1 in
    (λ i. ne_eqb x.serial s (λ same. omega (arith, less, same)) i || rest i)

-- where no list of these has a serial, no layer of theirs has, and no other
pub none_named : (n : ℕ) (ls : List KeptList) (ks : List Layer) → AreListLayers ls ks → list_any (has_serial n) ls ≡ false → All (λ k. same_part k.part (part.List n) ≡ false) ks
none_named n ls [] h none = All-nil (λ (k : Layer). same_part k.part (part.List n) ≡ false)
none_named n ls (k ∷ ks) h none = by_test (is_of kinds.Lists k.part) refl ls h none (λ xs. none_named n xs ks)
  where
    by_test : (b : Bool) → is_of kinds.Lists k.part ≡ b → (ys : List KeptList) → AllZip IsLayerOf ys (cond b (k ∷ layers_of_lists ks) (layers_of_lists ks)) → list_any (has_serial n) ys ≡ false
        → ((xs : List KeptList) → AreListLayers xs ks → list_any (has_serial n) xs ≡ false → All (λ (x : Layer). same_part x.part (part.List n) ≡ false) ks)
        → All (λ (x : Layer). same_part x.part (part.List n) ≡ false) (k ∷ ks)
    by_test false is ys h none rest = All-cons (λ (x : Layer). same_part x.part (part.List n) ≡ false) k ks (no_list k.part n is) (rest ys h none)
    by_test true is [] h none rest = absurd h
    by_test true is (y ∷ ys) h none rest =
        let both = or_parts (has_serial n y) (list_any (has_serial n) ys) none in
        All-cons (λ (x : Layer). same_part x.part (part.List n) ≡ false) k ks (ap (λ q. same_part q (part.List n)) h.0.part ∙ both.0) (rest ys h.1 both.1)

-- ---- one more behind

zip_more : (xs : List KeptList) (ks : List Layer) (x : KeptList) (k : Layer) → AllZip IsLayerOf xs ks → IsLayerOf x k → AllZip IsLayerOf (xs ++ x ∷ []) (ks ++ k ∷ [])
zip_more [] [] x k h new = (new, tt)
zip_more [] (l ∷ ls) x k h new = absurd h
zip_more (y ∷ ys) [] x k h new = absurd h
zip_more (y ∷ ys) (l ∷ ls) x k h new = (h.0, zip_more ys ls x k h.1 new)

-- the layers of lists with that of one more
pub listed_with : (xs : List KeptList) (ls : List Layer) (x : KeptList) (l : Layer) → AreListLayers xs ls → IsLayerOf x l → AreListLayers (xs ++ x ∷ []) (with_last l ls)
listed_with xs ls x l h new =
    subst (AllZip IsLayerOf (xs ++ x ∷ [])) (sym (listed_last ls l (ap (is_of kinds.Lists) new.part))) (zip_more xs (layers_of_lists ls) x l h new)

-- ---- the plan of it

module _ (k : ListTicket) (ls : PlacedLayers) (may : MayLay k ls) (r : Pixels) (rect : Rect) (rect_is : rect ≡ view_rect k.view) (region : (p : Point) → holds r p ≡ rect_holds rect p) where
  abbrev pub own : Layer
  own = record { part = part.List k.serial; shown = true; region = r; bounds = rect }

  own_is : (x : KeptList) → x.serial ≡ k.serial → x.kept.view ≡ k.view → IsLayerOf x own
  own_is x serial view = record {
    part = ap part.List (sym serial);
    shown = refl;
    region = λ p. region p ∙ ap (λ s. rect_holds s p) (rect_is ∙ ap view_rect (sym view));
    bounds = rect_is ∙ ap view_rect (sym view);
  }

  own_fits : fits_at ls.place own ≡ true
  own_fits = ap (λ s. is_in_range (moved_rect s ls.place.h ls.place.v)) rect_is ∙ may.fits

  module _ (at : ℕ) (at_is : at ≡ length ls.layers) where
    pub index : at ≤ length ls.layers
    index = omega (arith, at_is)

    module _ (relaid : Relaid) (layers_are : relaid.layers ≡ record ls { layers = insert ls.layers at own }) where
      pub own_apart : ArePartsApart relaid.layers.layers
      own_apart = apart_in ls at own index relaid layers_are may.apart refl may.unused

      pub own_low : at < length relaid.layers.layers
      own_low = low_in ls at own index relaid layers_are

      module _ {V : Type 0} {H : V → Type 0} (loan : TakenBox V H → WindowLoan) (update : Pixels) (t u : WindowManager V H) (laid : IsLaidSo loan k.window ls update t u) where
        pub planned : ((p : Point) → holds relaid.gained p ≡ is_gained (Some (part.List k.serial)) ls.layers relaid.layers.layers (minus p ls.place)) → (relaying : Relaying)
            → ((v : WindowManager V H) → HasUpdate loan k.window update t v → MayHaveLayers k.window v relaid.layers
            → (afresh : Option Part) → IsPartAt relaid.layers.layers (Some at) afresh → IsGainedAt k.window afresh v relaid → IsPlanOfLayers loan k.window relaid.layers.layers afresh v relaying)
            → IsPlanOfList loan k ls u (record { at = at; layers = relaid.layers; relaying = relaying })
        planned gains relaying plan = record {
          layer = own;
          part_is = refl;
          is = own_is;
          index = at_is;
          layers = layers_are;
          low = own_low;
          may = may_in ls at own index relaid layers_are loan k.window update t u laid own_apart own_fits;
          planned = planned_in ls at own index relaid layers_are loan k.window update t u laid own_apart own_fits gains relaying plan;
        }

-- ---- a window as it is

module _ {V : Type 0} {H : V → Type 0} (loan : TakenBox V H → WindowLoan) {X : Type 0} {L : X → Type 0} (list_loan : TakenBox X L → ListLoan)
    (n : NewList) (t : WindowManager V H) (m : Lists (TakenBox X L)) (k : ListTicket) (kept : IsKept loan t) (beside : AreBeside list_loan loan t m) (place : IsPlace n t m k) where
  abbrev ls : List KeptList
  ls = records_of list_loan m

  -- the layers of its window, behind which its own may be put
  pub may_lay : (w : Window V H) → IsWindowAt t.windows.records.items k.window w → MayLay k w.layers
  may_lay w lies = record {
    apart = contents.layers_apart loan t kept.slots kept.whole k.window place.window.0 w lies (λ font q p. false);
    unused = none_named k.serial (items_of w.serial ls) w.layers.layers
        (at_window loan (λ r. AreListLayers (items_of r.serial ls) r.layers) t.windows.records.items k.window w place.window.0 lies beside.whole.joined)
        (none_in_window k.serial w.serial ls (none_before k.serial ls (subst (λ o. are_before o ls ≡ true) place.serial beside.whole.given)));
    fits =
        (λ i. is_in_range (moved_rect (view_rect (place.view i)) (there i).h (there i).v))
        ∙ place.fits w lies;
  }
    where
      there : w.layers.place ≡ w.place
      there = contents.layers_there loan t kept.slots kept.whole k.window place.window.0 w lies (λ font q p. false)
