-- What holds of lists between calls holds where one of them is changed that keeps its place among them.
use Rattle.std.proofs.Common.{◌≡◌, ℕ, zero, suc, ◌≤◌, ◌&&◌, ◌||◌, ◌==◌, Bool, true, false, List, [], ◌∷◌, Option, None, Some, refl, sym, ap, ◌∙◌, subst}
use Rattle.std.specs.Prelude.{All, slice_get}
use Rattle.std.specs.List.{AllZip, list_any}
use Rattle.std.specs.Option.{option_and_then}
use Rattle.std.proofs.lemmas.List.Elements.{All-weaker}
use Rattle.def_iface.specs.ListMeaning.{ListDefinition, ListLoan}
use Rattle.window_list.specs.declared.layer.Layer.{Layer}
use Rattle.window_items.specs.Items.{edit_at, has_serial, is_in_at, items_of}
use Rattle.window_items.proofs.WindowLemmas.{items_of-edit_at, items_of-edit_at_other}
use Rattle.vis_update.specs.Records.{WindowRecord}
use Rattle.window_mgr.specs.Refused.{is_missing}
use Rattle.control_mgr.specs.InUse.{AreStocked}
use Rattle.desk_call.specs.declared.list.ListOf.{ListOf}
use Rattle.list_mgr.specs.ListDesks.{KeptList, ListsState, index_of, list_of}
use Rattle.list_mgr.specs.ListRefusals.{most_lists}
use Rattle.list_mgr.specs.ListSteps.{AreListLayers, IsLayerOf}
use Rattle.list_mgr.specs.WholeLists.{AreListsApart, AreSettled, AreWholeLists, IsSettledList}
use Rattle.window_items.proofs.EditLemmas.{All-there, All-edit, any-edit, before-edit, count-edit, map-edit}

apart-edit : (f : KeptList → KeptList) → ((x : KeptList) → (f x).serial ≡ x.serial) → (i : ℕ) (xs : List KeptList) → AreListsApart xs → AreListsApart (edit_at f i xs)
apart-edit f same i [] h = tt
apart-edit f same zero (x ∷ xs) h = (ap (λ s. list_any (has_serial s) xs) (same x) ∙ h.0, h.1)
apart-edit f same (suc i) (x ∷ xs) h = (any-edit x.serial f same i xs ∙ h.0, apart-edit f same i xs h.1)

zip-edit : (f : KeptList → KeptList) (i : ℕ) (xs : List KeptList) (ks : List Layer) → AllZip IsLayerOf xs ks → ((x : KeptList) (k : Layer) → IsLayerOf x k → IsLayerOf (f x) k) → AllZip IsLayerOf (edit_at f i xs) ks
zip-edit f i [] ks h same = h
zip-edit f i (x ∷ xs) [] h same = absurd h
zip-edit f zero (x ∷ xs) (k ∷ ks) h same = (same x k h.0, h.1)
zip-edit f (suc i) (x ∷ xs) (k ∷ ks) h same = (h.0, zip-edit f i xs ks h.1 same)

-- a change of a list that keeps what it is known by, its layer and its definition
pub record Keeps (f : KeptList → KeptList) : Type 0 where
  pub serial : (x : KeptList) → (f x).serial ≡ x.serial
  pub window : (x : KeptList) → (f x).window ≡ x.window
  pub definition : (x : KeptList) → (f x).kept.definition ≡ x.kept.definition
  pub layer : (x : KeptList) (k : Layer) → IsLayerOf x k → IsLayerOf (f x) k

-- the layers of each window are its lists' as before
joined_edit : (f : KeptList → KeptList) → Keeps f → (at : ℕ) (ls : List KeptList) (ws : List WindowRecord) → All (λ w. AreListLayers (items_of w.serial ls) w.layers) ws
    → All (λ w. AreListLayers (items_of w.serial (edit_at f at ls)) w.layers) ws
joined_edit f keeps at ls ws joined =
    All-weaker (λ (w : WindowRecord). AreListLayers (items_of w.serial ls) w.layers) (λ (w : WindowRecord). AreListLayers (items_of w.serial (edit_at f at ls)) w.layers)
    (λ w h. by_test w h (is_in_at w.serial at ls) refl) ws joined
  where
    by_test : (w : WindowRecord) → AreListLayers (items_of w.serial ls) w.layers → (b : Bool) → is_in_at w.serial at ls ≡ b → AreListLayers (items_of w.serial (edit_at f at ls)) w.layers
    by_test w h true e = subst (λ xs. AreListLayers xs w.layers) (sym (items_of-edit_at f keeps.window w.serial at ls e)) (zip-edit f _ (items_of w.serial ls) _ h keeps.layer)
    by_test w h false e = subst (λ xs. AreListLayers xs w.layers) (sym (items_of-edit_at_other f keeps.window w.serial at ls e)) h

-- a list that is named is settled where all are
pub named_settled : (l : ListOf) (ls : List KeptList) (x : KeptList) → AreSettled ls → list_of l ls ≡ Some x → IsSettledList x
named_settled l ls x settled named = by_place (index_of l ls) refl
  where
    by_place : (o : Option ℕ) → index_of l ls ≡ o → IsSettledList x
    by_place None e = let none : list_of l ls ≡ None = ap (option_and_then (slice_get ls)) e in absurd (cc)
    by_place (Some at) e =
        let there : slice_get ls at ≡ Some x = sym (ap (option_and_then (slice_get ls)) e) ∙ named in
        All-there IsSettledList at ls x there settled

pub settled_edited : (f : KeptList → KeptList) (at : ℕ) (ls : List KeptList) → AreSettled ls → ((x : KeptList) → slice_get ls at ≡ Some x → IsSettledList x → IsSettledList (f x)) → AreSettled (edit_at f at ls)
settled_edited f at ls settled stays = All-edit IsSettledList f at ls settled (λ x e. stays x e (All-there IsSettledList at ls x e settled))

-- and all that holds between calls
pub whole_edited : (f : KeptList → KeptList) → Keeps f → (at : ℕ) (ws : List WindowRecord) (state : ListsState) → AreWholeLists ws state
    → ((x : KeptList) → slice_get state.lists at ≡ Some x → IsSettledList x → IsSettledList (f x)) → AreWholeLists ws (record state { lists = edit_at f at state.lists })
whole_edited f keeps at ws state whole stays = record {
  settled = settled_edited f at state.lists whole.settled stays;
  apart = apart-edit f keeps.serial at state.lists whole.apart;
  given = before-edit state.next f keeps.serial at state.lists ∙ whole.given;
  few = λ t. subst (λ n. n ≤ most_lists) (sym (count-edit f keeps.window t at state.lists)) (whole.few t);
  somewhere = All-edit (λ (x : KeptList). is_missing x.window ws ≡ false) f at state.lists whole.somewhere
      (λ x e. ap (λ w. is_missing w ws) (keeps.window x) ∙ All-there (λ (y : KeptList). is_missing y.window ws ≡ false) at state.lists x e whole.somewhere);
  joined = joined_edit f keeps at state.lists ws whole.joined;
  stocked = subst (λ ns. AreStocked (λ (d : ListDefinition). d.stage) ns state.stock) (sym (map-edit (λ (x : KeptList). x.kept.definition.slot) f (λ x. ap (λ (d : ListLoan). d.slot) (keeps.definition x)) at state.lists)) whole.stocked;
}
