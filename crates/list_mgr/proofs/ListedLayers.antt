-- The layers that are lists', and those beside them.
use Rattle.std.proofs.Common.{◌≡◌, ℕ, zero, suc, ◌<◌, Bool, true, false, not, cond, List, [], ◌∷◌, ◌++◌, length, get_or, Option, None, Some, refl, sym, ap, ◌∙◌}
use Rattle.std.specs.Prelude.{slice_get}
use Rattle.std.specs.List.{filter, remove}
use Rattle.std.specs.Option.{option_map_or}
use Rattle.std.proofs.lemmas.Bool.{false≢true, true≢false}
use Rattle.std.proofs.lemmas.List.{get_or_default}
use Rattle.desk_layers.specs.declared.part.Part.{Part}
use Rattle.desk_layers.specs.declared.part.Part.TheVariants as part
use Rattle.desk_layers.specs.Desk.{same_part}
use Rattle.desk_layers.proofs.Owning.{same_part-self}
use Rattle.def_iface.proofs.StockLemmas.{position-first}
use Rattle.window_list.specs.declared.layer.Layer.{Layer}
use Rattle.window_list.specs.Holders.{ArePartsApart, layer_index}
use Rattle.window_list.proofs.Found.{found_low, found_part}
use Rattle.desk_call.specs.declared.update.LayerKind.TheVariants.{Controls, Lists}
use Rattle.window_paint.specs.Kinds.{is_of}
use Rattle.control_mgr.specs.ControlSteps.{behind_controls}
use Rattle.control_mgr.proofs.Places.{read_is, there_is}
use Rattle.list_mgr.specs.ListSteps.{layers_of_lists, with_last, without_part}

-- ---- parts

-- a part that is no list's is not this list's
pub no_list : (q : Part) (n : ℕ) → is_of Lists q ≡ false → same_part q (part.List n) ≡ false
no_list part.Picture n e = refl
no_list (part.Control m) n e = refl
no_list (part.Text m) n e = refl
no_list (part.List m) n e = absurd (true≢false e)

-- a list's part is not this one, which is no list's
pub other_part : (p q : Part) → is_of Lists p ≡ true → is_of Lists q ≡ false → same_part p q ≡ false
other_part part.Picture q e f = absurd (false≢true e)
other_part (part.Control m) q e f = absurd (false≢true e)
other_part (part.Text m) q e f = absurd (false≢true e)
other_part (part.List m) part.Picture e f = refl
other_part (part.List m) (part.Control n) e f = refl
other_part (part.List m) (part.Text n) e f = refl
other_part (part.List m) (part.List n) e f = absurd (true≢false f)

pub control_no_list : (q : Part) → is_of Controls q ≡ true → is_of Lists q ≡ false
control_no_list part.Picture e = refl
control_no_list (part.Control m) e = refl
control_no_list (part.Text m) e = refl
control_no_list (part.List m) e = absurd (false≢true e)

-- ---- layers that are lists'

-- all of them lie behind the controls
pub listed_behind : (ks : List Layer) → layers_of_lists (behind_controls ks) ≡ layers_of_lists ks
listed_behind [] = refl
listed_behind (k ∷ ks) = by_test (is_of Controls k.part) refl (listed_behind ks)
  where
    by_test : (b : Bool) → is_of Controls k.part ≡ b → layers_of_lists (behind_controls ks) ≡ layers_of_lists ks
        → layers_of_lists (cond (not b) (k ∷ behind_controls ks) (behind_controls ks)) ≡ cond (is_of Lists k.part) (k ∷ layers_of_lists ks) (layers_of_lists ks)
    by_test true is rest = rest ∙ sym (ap (λ b. cond b (k ∷ layers_of_lists ks) (layers_of_lists ks)) (control_no_list k.part is))
    by_test false is rest = ap (λ ls. cond (is_of Lists k.part) (k ∷ ls) ls) rest

-- one more behind all layers is one more behind theirs
pub listed_last : (ls : List Layer) (l : Layer) → is_of Lists l.part ≡ true → layers_of_lists (with_last l ls) ≡ layers_of_lists ls ++ l ∷ []
listed_last [] l its = ap (λ b. cond b (l ∷ []) []) its
listed_last (k ∷ ks) l its = by_test (is_of Lists k.part) (listed_last ks l its)
  where
    by_test : (b : Bool) → layers_of_lists (with_last l ks) ≡ layers_of_lists ks ++ l ∷ []
        → cond b (k ∷ layers_of_lists (with_last l ks)) (layers_of_lists (with_last l ks)) ≡ cond b (k ∷ layers_of_lists ks) (layers_of_lists ks) ++ l ∷ []
    by_test true rest = ap (λ xs. k ∷ xs) rest
    by_test false rest = rest

-- ---- the layers beside them

abbrev pub beside_lists : List Layer → List Layer
beside_lists ls = filter (λ l. not (is_of Lists l.part)) ls

-- where a list's layer is put in or taken out those stay
pub beside_last : (ls : List Layer) (l : Layer) → is_of Lists l.part ≡ true → beside_lists (with_last l ls) ≡ beside_lists ls
beside_last [] l its = ap (λ b. cond (not b) (l ∷ []) []) its
beside_last (k ∷ ks) l its = ap (λ rest. cond (not (is_of Lists k.part)) (k ∷ rest) rest) (beside_last ks l its)

beside_removed : (i : ℕ) (ls : List Layer) (l : Layer) → slice_get ls i ≡ Some l → is_of Lists l.part ≡ true → beside_lists (remove ls i) ≡ beside_lists ls
beside_removed i [] l there its = absurd (cc)
beside_removed zero (k ∷ ks) l there its =
    let same : k ≡ l = cc in
    sym (ap (λ b. cond (not b) (k ∷ beside_lists ks) (beside_lists ks)) (ap (λ (x : Layer). is_of Lists x.part) same ∙ its))
beside_removed (suc i) (k ∷ ks) l there its = ap (λ rest. cond (not (is_of Lists k.part)) (k ∷ rest) rest) (beside_removed i ks l there its)

pub beside_without : (n : ℕ) (ls : List Layer) → beside_lists (without_part (part.List n) ls) ≡ beside_lists ls
beside_without n ls = by_place (layer_index (part.List n) ls) refl
  where
    by_place : (o : Option ℕ) → layer_index (part.List n) ls ≡ o → beside_lists (option_map_or (λ i. remove ls i) o ls) ≡ beside_lists ls
    by_place None e = refl
    by_place (Some i) e =
        let k = there_is ls i (found_low (part.List n) ls i e) in
        beside_removed i ls k.item k.there (ap (is_of Lists) (found_part (part.List n) ls i e k.item (read_is ls i k.item k.there)))

-- ---- the layer of a part

-- of layers that are apart each is found by its part
index_apart : (ls : List Layer) (i : ℕ) (k : Layer) → ArePartsApart ls → i < length ls → k ≡ get_or ls i k → layer_index k.part ls ≡ Some i
index_apart ls i k apart low read =
    position-first (λ (x : Layer). same_part x.part k.part) ls i k low
    (λ j e less. ap (λ (x : Layer). same_part (get_or ls j e).part x.part) (read ∙ get_or_default ls i k e low) ∙ apart.1 j i e less low)
    (ap (λ (x : Layer). same_part x.part k.part) (sym read) ∙ same_part-self k.part)

-- where the layer of a part is taken out, these are left
pub without_at : (ls : List Layer) (i : ℕ) (k : Layer) (q : Part) → ArePartsApart ls → i < length ls → k ≡ get_or ls i k → k.part ≡ q → remove ls i ≡ without_part q ls
without_at ls i k q apart low read named =
    sym (ap (λ o. option_map_or (λ j. remove ls j) o ls) (ap (λ p. layer_index p ls) (sym named) ∙ index_apart ls i k apart low read))
