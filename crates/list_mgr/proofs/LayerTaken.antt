-- The layer of a list taken out of its window's, and the list out of the list of lists: the others go together as they did.
use Rattle.std.proofs.Common.{◌≡◌, ℕ, zero, suc, Bool, true, false, if◌then◌else◌, List, [], ◌∷◌, Some, refl, sym, ap, ◌∙◌, subst}
use Rattle.std.specs.Prelude.{slice_get}
use Rattle.std.specs.List.{AllZip, filter, remove}
use Rattle.std.proofs.lemmas.Bool.{false≢true}
use Rattle.desk_layers.specs.declared.part.Part.TheVariants as part
use Rattle.window_list.specs.declared.layer.Layer.{Layer}
use Rattle.window_items.specs.Items.{is_in_at, items_of, place_among}
use Rattle.window_items.proofs.WindowLemmas.{items_of-remove, slice_get-items_of}
use Rattle.desk_call.specs.declared.update.LayerKind.TheVariants.{Lists}
use Rattle.window_paint.specs.Kinds.{is_of}
use Rattle.window_items.proofs.SerialLemmas.{apart_among}
use Rattle.list_mgr.specs.ListDesks.{KeptList}
use Rattle.list_mgr.specs.ListSteps.{AreListLayers, IsLayerOf, layers_of_lists}
use Rattle.list_mgr.specs.WholeLists.{AreListsApart}
use Rattle.list_mgr.proofs.Places.{one_place, with_list}

-- what is taken out of a list and passes is taken out of the filtered list
filter_remove : {X : Type 0} (f : X → Bool) (xs : List X) (i : ℕ) (x : X) → slice_get xs i ≡ Some x → f x ≡ true
    → (j : ℕ) × (slice_get (filter f xs) j ≡ Some x) × (filter f (remove xs i) ≡ remove (filter f xs) j)
filter_remove f [] i x e passes = absurd (cc)
filter_remove f (y ∷ ys) zero x e passes = let same : y ≡ x = cc in by_test (f y) (ap f same ∙ passes)
  where
    by_test : (b : Bool) → b ≡ true → (j : ℕ) × (slice_get (if b then y ∷ filter f ys else filter f ys) j ≡ Some x) × (filter f ys ≡ remove (if b then y ∷ filter f ys else filter f ys) j)
    by_test true h = (0, e, refl)
    by_test false h = absurd (false≢true h)
filter_remove f (y ∷ ys) (suc i) x e passes = by_test (f y) (filter_remove f ys i x e passes)
  where
    by_test : (b : Bool) → (j : ℕ) × (slice_get (filter f ys) j ≡ Some x) × (filter f (remove ys i) ≡ remove (filter f ys) j)
        → (j : ℕ) × (slice_get (if b then y ∷ filter f ys else filter f ys) j ≡ Some x)
        × ((if b then y ∷ filter f (remove ys i) else filter f (remove ys i)) ≡ remove (if b then y ∷ filter f ys else filter f ys) j)
    by_test true (j, there, same) = (suc j, there, ap (λ zs. y ∷ zs) same)
    by_test false (j, there, same) = (j, there, same)

zip-remove : (j : ℕ) (xs : List KeptList) (ks : List Layer) → AllZip IsLayerOf xs ks → AllZip IsLayerOf (remove xs j) (remove ks j)
zip-remove zero [] [] h = h
zip-remove (suc j) [] [] h = h
zip-remove j [] (k ∷ ks) h = absurd h
zip-remove j (x ∷ xs) [] h = absurd h
zip-remove zero (x ∷ xs) (k ∷ ks) h = h.1
zip-remove (suc j) (x ∷ xs) (k ∷ ks) h = (h.0, zip-remove j xs ks h.1)

-- the layer of a list
part_serial : (x y : KeptList) (k : Layer) → IsLayerOf x k → IsLayerOf y k → y.serial ≡ x.serial
part_serial x y k x_is y_is = let both : part.List y.serial ≡ part.List x.serial = sym y_is.part ∙ x_is.part in cc

-- the layers of a window without that of a list are its lists without it
pub layers_left_are : (ls : List KeptList) (window at : ℕ) (x : KeptList) (ks : List Layer) (i : ℕ) (k : Layer) → AreListsApart ls → is_in_at window at ls ≡ true → slice_get ls at ≡ Some x
    → AreListLayers (items_of window ls) ks → slice_get ks i ≡ Some k → IsLayerOf x k → AreListLayers (items_of window (remove ls at)) (remove ks i)
layers_left_are ls window at x ks i k apart here there joined k_there k_is =
    let xs = items_of window ls in
    let gone = filter_remove (λ (l : Layer). is_of Lists l.part) ks i k k_there (ap (is_of Lists) k_is.part) in
    let its = with_list xs (layers_of_lists ks) gone.0 k joined gone.1 in
    let same : place_among at ls ≡ gone.0 = one_place xs (place_among at ls) gone.0 x its.0 (apart_among window ls apart) (slice_get-items_of window at ls here ∙ there) its.1 (part_serial x its.0 k k_is its.2) in
    subst (λ (zs : List KeptList). AllZip IsLayerOf zs (layers_of_lists (remove ks i))) (sym (items_of-remove window at ls here))
    (subst (λ (ys : List Layer). AllZip IsLayerOf (remove xs (place_among at ls)) ys) (ap (remove (layers_of_lists ks)) same ∙ sym gone.2)
    (zip-remove (place_among at ls) xs (layers_of_lists ks) joined))
