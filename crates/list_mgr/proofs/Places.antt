-- Where a list stands: its record, its window, and its layer there.
use Rattle.std.proofs.Common.{◌≡◌, ◌<◌, ℕ, zero, suc, ◌==◌, ◌||◌, Bool, true, false, if◌then◌else◌, List, [], ◌∷◌, length, get_or, Option, Some, None, refl, sym, ap, ◌∙◌, subst, eqb-true}
use Rattle.std.specs.Prelude.{All, IfSome, slice_get}
use Rattle.std.specs.List.{AllZip, filter, list_any}
use Rattle.std.specs.Option.{option_map_or}
use Rattle.std.proofs.lemmas.Bool.{and_parts, eq-eqb, false≢true}
use Rattle.desk_layers.specs.declared.part.Part.{Part}
use Rattle.desk_layers.specs.declared.part.Part.TheVariants as part
use Rattle.def_iface.specs.Slots.{TakenBox}
use Rattle.def_iface.specs.ListMeaning.{ListLoan}
use Rattle.def_iface.specs.WindowMeaning.{WindowLoan}
use Rattle.desk_layers.specs.Desk.{same_part}
use Rattle.desk_layers.proofs.Owning.{same_number}
use Rattle.window_list.specs.declared.layer.Layer.{Layer}
use Rattle.window_list.specs.Holders.{layer_index}
use Rattle.window_list.proofs.Found.{found_low, found_part, not_found}
use Rattle.window_items.specs.declared.item.Item.{Item}
use Rattle.list_mgr.specs.declared.list_record.ListRecord.{ListRecord}
use Rattle.list_mgr.specs.Seen.{seen}
use Rattle.window_items.specs.Items.{has_serial, is_in, is_in_at, is_item, item_index, items_of, place_among}
use Rattle.window_items.proofs.WindowLemmas.{found_in as list_in, position_there, slice_get-items_of}
use Rattle.desk_call.specs.declared.list.ListOf.{ListOf}
use Rattle.desk_call.specs.declared.update.LayerKind.TheVariants as kinds
use Rattle.window_list.specs.declared.window.Window.{Window}
use Rattle.window_paint.specs.Kinds.{is_of}
use Rattle.window_mgr.specs.declared.manager.WindowManager.{WindowManager}
use Rattle.window_mgr.specs.Edits.{IsWindowAt}
use Rattle.window_mgr.specs.Records.{desk_of}
use Rattle.control_mgr.proofs.Places.{IsThere, at_window, get_is, read_is, within}
use Rattle.list_mgr.specs.declared.lists.Lists.{Lists}
use Rattle.list_mgr.specs.declared.spots.ListAt.{ListAt}
use Rattle.list_mgr.specs.Changing.{IsItsLayer}
use Rattle.list_mgr.specs.ListDesks.{KeptList, ListsState}
use Rattle.list_mgr.specs.ListSteps.{AreListLayers, IsLayerOf, layers_of_lists}
use Rattle.list_mgr.specs.Spots.{IsSpotOf}
use Rattle.list_mgr.specs.WholeLists.{AreListsApart, AreWholeLists, records_of}
use Rattle.list_mgr.proofs.Steps.{list_read, list_there}

-- ---- places in lists

-- what stands in a filtered list stands in the list
pub filtered_from : {X : Type 0} (f : X → Bool) (xs : List X) (i : ℕ) (x : X) → slice_get (filter f xs) i ≡ Some x → (j : ℕ) × (slice_get xs j ≡ Some x)
filtered_from f [] i x e = absurd (cc)
filtered_from f (y ∷ ys) i x e = by_test (f y) i e (λ k there. let found = filtered_from f ys k x there in (suc found.0, found.1))
  where
    by_test : (b : Bool) (i : ℕ) → slice_get (if b then y ∷ filter f ys else filter f ys) i ≡ Some x
        → ((k : ℕ) → slice_get (filter f ys) k ≡ Some x → (j : ℕ) × (slice_get (y ∷ ys) j ≡ Some x)) → (j : ℕ) × (slice_get (y ∷ ys) j ≡ Some x)
    by_test true zero e further = (0, e)
    by_test true (suc i) e further = further i e
    by_test false i e further = further i e

-- what passes and stands in the list stands in the filtered one
pub filtered_to : {X : Type 0} (f : X → Bool) (xs : List X) (i : ℕ) (x : X) → slice_get xs i ≡ Some x → f x ≡ true → (j : ℕ) × (slice_get (filter f xs) j ≡ Some x)
filtered_to f [] i x e passes = absurd (cc)
filtered_to f (y ∷ ys) zero x e passes =
    let same : y ≡ x = cc in
    (0, ap (λ b. slice_get (if b then y ∷ filter f ys else filter f ys) 0) (ap f same ∙ passes) ∙ e)
filtered_to f (y ∷ ys) (suc i) x e passes = by_test (f y) (filtered_to f ys i x e passes)
  where
    by_test : (b : Bool) → (j : ℕ) × (slice_get (filter f ys) j ≡ Some x) → (j : ℕ) × (slice_get (if b then y ∷ filter f ys else filter f ys) j ≡ Some x)
    by_test true found = (suc found.0, found.1)
    by_test false found = found

-- each of two lists that go together has what goes with the other's
pub with_layer : (xs : List KeptList) (ks : List Layer) (i : ℕ) (x : KeptList) → AllZip IsLayerOf xs ks → slice_get xs i ≡ Some x → (k : Layer) × (slice_get ks i ≡ Some k) × IsLayerOf x k
with_layer [] ks i x h e = absurd (cc)
with_layer (y ∷ ys) [] i x h e = absurd h
with_layer (y ∷ ys) (k ∷ ks) zero x h e = let same : y ≡ x = cc in (k, refl, subst (λ z. IsLayerOf z k) same h.0)
with_layer (y ∷ ys) (k ∷ ks) (suc i) x h e = with_layer ys ks i x h.1 e

pub with_list : (xs : List KeptList) (ks : List Layer) (i : ℕ) (k : Layer) → AllZip IsLayerOf xs ks → slice_get ks i ≡ Some k → (x : KeptList) × (slice_get xs i ≡ Some x) × IsLayerOf x k
with_list [] [] i k h e = absurd (cc)
with_list [] (l ∷ ls) i k h e = absurd h
with_list (y ∷ ys) [] i k h e = absurd (cc)
with_list (y ∷ ys) (l ∷ ls) zero k h e = let same : l ≡ k = cc in (y, refl, subst (λ z. IsLayerOf y z) same h.0)
with_list (y ∷ ys) (l ∷ ls) (suc i) k h e = with_list ys ls i k h.1 e

-- ---- lists of other serials

not_among : (n : ℕ) (xs : List KeptList) (i : ℕ) (x : KeptList) → list_any (has_serial n) xs ≡ false → slice_get xs i ≡ Some x → has_serial n x ≡ false
not_among n [] i x none e = absurd (cc)
not_among n (y ∷ ys) i x none e = by_test (has_serial n y) refl none i e (λ rest k there. not_among n ys k x rest there)
  where
    by_test : (b : Bool) → has_serial n y ≡ b → (b || list_any (has_serial n) ys) ≡ false → (i : ℕ) → slice_get (y ∷ ys) i ≡ Some x
        → (list_any (has_serial n) ys ≡ false → (k : ℕ) → slice_get ys k ≡ Some x → has_serial n x ≡ false) → has_serial n x ≡ false
    by_test true is none i e further = absurd (false≢true (sym none))
    by_test false is none zero e further = let same : y ≡ x = cc in ap (has_serial n) (sym same) ∙ is
    by_test false is none (suc i) e further = further none i e

-- of lists that are apart those of one serial stand at one place
pub one_place : (xs : List KeptList) (i j : ℕ) (x y : KeptList) → AreListsApart xs → slice_get xs i ≡ Some x → slice_get xs j ≡ Some y → y.serial ≡ x.serial → i ≡ j
one_place [] i j x y apart e f same = absurd (cc)
one_place (z ∷ zs) zero zero x y apart e f same = refl
one_place (z ∷ zs) zero (suc j) x y apart e f same =
    let first : z ≡ x = cc in
    absurd (false≢true (sym (not_among z.serial zs j y apart.0 f) ∙ eq-eqb y.serial z.serial (same ∙ ap (λ (l : KeptList). l.serial) (sym first))))
one_place (z ∷ zs) (suc i) zero x y apart e f same =
    let first : z ≡ y = cc in
    absurd (false≢true (sym (not_among z.serial zs i x apart.0 e) ∙ eq-eqb x.serial z.serial (sym (ap (λ (l : KeptList). l.serial) first ∙ same))))
one_place (z ∷ zs) (suc i) (suc j) x y apart e f same = ap (λ n. suc n) (one_place zs i j x y apart.1 e f same)

-- and are one
pub one_serial : (xs : List KeptList) (i j : ℕ) (x y : KeptList) → AreListsApart xs → slice_get xs i ≡ Some x → slice_get xs j ≡ Some y → y.serial ≡ x.serial → x ≡ y
one_serial xs i j x y apart e f same = let both : Some x ≡ Some y = sym e ∙ ap (slice_get xs) (one_place xs i j x y apart e f same) ∙ f in cc

-- ---- the layer of a list

same_lists : (m n : ℕ) → part.List m ≡ part.List n → m ≡ n
same_lists m n e = cc

-- the layer of a list's part is the list's own
own_layer : (ls : List KeptList) (window : ℕ) (ks : List Layer) (i : ℕ) (x : KeptList) (at : ℕ) (k : Layer) → AreListsApart ls → AreListLayers (items_of window ls) ks
    → slice_get ls i ≡ Some x → slice_get ks at ≡ Some k → k.part ≡ part.List x.serial → IsLayerOf x k
own_layer ls window ks i x at k apart joined there layer named =
    let behind = filtered_to (λ (l : Layer). is_of kinds.Lists l.part) ks at k layer (ap (is_of kinds.Lists) named) in
    let its = with_list (items_of window ls) (layers_of_lists ks) behind.0 k joined behind.1 in
    let among = filtered_from (is_in window) ls behind.0 its.0 its.1 in
    let serial : its.0.serial ≡ x.serial = same_lists its.0.serial x.serial (sym its.2.part ∙ named) in
    subst (λ y. IsLayerOf y k) (sym (one_serial ls i among.0 x its.0 apart there among.1 serial)) its.2

-- it has one
some_layer : (ls : List KeptList) (window : ℕ) (ks : List Layer) (i : ℕ) (x : KeptList) → AreListLayers (items_of window ls) ks → is_in_at window i ls ≡ true
    → slice_get ls i ≡ Some x → (at : ℕ) × (k : Layer) × (slice_get ks at ≡ Some k) × IsLayerOf x k
some_layer ls window ks i x joined here there =
    let its = with_layer (items_of window ls) (layers_of_lists ks) (place_among i ls) x joined (slice_get-items_of window i ls here ∙ there) in
    let among = filtered_from (λ (l : Layer). is_of kinds.Lists l.part) ks (place_among i ls) its.0 its.1 in
    (among.0, its.0, among.1, its.2)

same_list : (n : ℕ) (q : Part) → q ≡ part.List n → same_part q (part.List n) ≡ true
same_list n q e = ap (λ x. same_part x (part.List n)) e ∙ same_number n

named : (window serial : ℕ) (o : Option KeptList) (x : KeptList) → o ≡ Some x → option_map_or (is_item window serial) o false ≡ true → (x.window ≡ window) × (x.serial ≡ serial)
named window serial o x e h =
    let both = and_parts (x.window == window) (x.serial == serial) (sym (ap (λ y. option_map_or (is_item window serial) y false) e) ∙ h) in
    (eqb-true x.window window both.0, eqb-true x.serial serial both.1)

pub found_names : (window serial at : ℕ) (ls : List KeptList) (x : KeptList) → item_index window serial ls ≡ Some at → slice_get ls at ≡ Some x → (x.window ≡ window) × (x.serial ≡ serial)
found_names window serial at ls x found there =
    named window serial (slice_get ls at) x there
    (subst (λ o. IfSome o (λ i. option_map_or (is_item window serial) (slice_get ls i) false ≡ true)) found (position_there (is_item window serial) ls))

-- what is known of a list that stands here
module _ {V : Type 0} {H : V → Type 0} (loan : TakenBox V H → WindowLoan) {X : Type 0} {L : X → Type 0} (list_loan : TakenBox X L → ListLoan)
    (l : ListOf) (t : WindowManager V H) (m : Lists (TakenBox X L)) (s : ListAt) (is : IsSpotOf loan list_loan l t m s) where
  abbrev ls : List KeptList
  ls = records_of list_loan m

  abbrev its : IsThere ls s.list
  its = list_there loan list_loan l t m s is

  pub names : (its.item.window ≡ l.window) × (its.item.serial ≡ l.list)
  names = found_names l.window l.list s.list ls its.item is.list its.there

  module _ (w : Window V H) (lies : IsWindowAt t.windows.records.items s.window w) (state : ListsState) (same : state.lists ≡ ls) (whole : AreWholeLists (desk_of loan t []).windows state) where
    joined : AreListLayers (items_of w.serial ls) w.layers.layers
    joined = at_window loan (λ r. AreListLayers (items_of r.serial ls) r.layers) t.windows.records.items s.window w is.window.0 lies
        (subst (λ xs. All (λ r. AreListLayers (items_of r.serial xs) r.layers) (desk_of loan t []).windows) same whole.joined)

    here : is_in_at w.serial s.list ls ≡ true
    here = ap (λ n. is_in_at n s.list ls) (is.window.1 w lies) ∙ list_in l.window l.list s.list ls is.list

    abbrev low : (at : ℕ) → layer_index (part.List its.item.serial) w.layers.layers ≡ Some at → at < length w.layers.layers
    low at found = found_low (part.List its.item.serial) w.layers.layers at found

    -- where a layer of its part was found, or none
    layer_is_its : (at : ℕ) → layer_index (part.List its.item.serial) w.layers.layers ≡ Some at → IsItsLayer list_loan m s w.layers.layers at
    layer_is_its at found = record {
      list = its.item;
      there = its.there;
      low = low at found;
      is = λ k read. own_layer ls w.serial w.layers.layers s.list its.item at k (subst AreListsApart same whole.apart) joined its.there (get_is w.layers.layers at k (low at found) read) (found_part (part.List its.item.serial) w.layers.layers at found k read);
    }

    some_is_found : layer_index (part.List its.item.serial) w.layers.layers ≡ None → ⊥
    some_is_found none =
        let has = some_layer ls w.serial w.layers.layers s.list its.item joined here its.there in
        false≢true (sym (not_found (part.List its.item.serial) w.layers.layers none has.0 has.1 (within w.layers.layers has.0 has.1 has.2))
        ∙ ap (λ (k : Layer). same_part k.part (part.List its.item.serial)) (sym (read_is w.layers.layers has.0 has.1 has.2)) ∙ same_list its.item.serial has.1.part has.3.part)

    its_serial : (x : Item (ListRecord (TakenBox X L))) → x ≡ get_or m.list.items.items s.list x → part.List x.serial ≡ part.List its.item.serial
    its_serial x read =
        let both : Some (seen list_loan x) ≡ Some its.item = sym (list_read loan list_loan l t m s is x read) ∙ its.there in
        let same : seen list_loan x ≡ its.item = cc in
        ap (λ (y : KeptList). part.List y.serial) same

    -- what was found of the part of the list that was read
    pub found_its : (x : Item (ListRecord (TakenBox X L))) → x ≡ get_or m.list.items.items s.list x → (o : Option ℕ) → o ≡ layer_index (part.List x.serial) w.layers.layers
        → (at : ℕ) × (o ≡ Some at) × IsItsLayer list_loan m s w.layers.layers at
    found_its x read None found = absurd (some_is_found (ap (λ q. layer_index q w.layers.layers) (sym (its_serial x read)) ∙ sym found))
    found_its x read (Some at) found = (at, refl, layer_is_its at (ap (λ q. layer_index q w.layers.layers) (sym (its_serial x read)) ∙ sym found))
