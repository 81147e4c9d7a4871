-- Which lists stay the same, where one of the lists is changed, put in or taken out.
use Rattle.std.proofs.Common.{◌≡◌, ℕ, zero, suc, Bool, true, false, ◌&&◌, ◌==◌, List, [], ◌∷◌, ◌++◌, Option, Some, None, refl, sym, ap, ◌∙◌, arith, eqb-true}
use Rattle.std.specs.Prelude.{slice_get}
use Rattle.std.specs.List.{list_any, remove}
use Rattle.std.proofs.lemmas.Bool.{false≢true}
use Rattle.std.proofs.lemmas.Bool.Decides.{nat_tests}
use Rattle.window_items.specs.Items.{edit_at, has_serial, is_in, items_of}
use Rattle.window_items.proofs.SerialLemmas.{any_of, one_window, with_edited, with_pushed, with_removed}
use Rattle.desk_layers.specs.declared.part.Part.TheVariants as part
use Rattle.desk_layers.specs.Owner.{Owner, same_owner}
use Rattle.desk_layers.specs.Owner.Owner.{Content}
use Rattle.desk_call.specs.declared.list.ListOf.{ListOf}
use Rattle.list_mgr.specs.ListDesks.{KeptList, ListDesk, ListsState, with_serial}
use Rattle.list_mgr.specs.ListSteps.{IsChangedTo}
use Rattle.list_mgr.specs.WholeLists.{AreListsApart}
use Rattle.list_mgr.proofs.Places.{found_names}

-- where none stands at a place, a change there changes nothing
pub edit_none : (f : KeptList → KeptList) (at : ℕ) (ls : List KeptList) → slice_get ls at ≡ None → edit_at f at ls ≡ ls
edit_none f at [] none = refl
edit_none f zero (x ∷ xs) none = absurd (cc)
edit_none f (suc i) (x ∷ xs) none = ap (λ ys. x ∷ ys) (edit_none f i xs none)

-- a list that is in a window before and after is the same one, unless it is an owner of this sort
abbrev pub StaySame : (Owner → Bool) → List KeptList → List KeptList → Type 0
StaySame own ls ks = (window n : ℕ) → list_any (has_serial n) (items_of window ls) ≡ true → list_any (has_serial n) (items_of window ks) ≡ true
    → own (Content window (part.List n)) ≡ false → with_serial n ks ≡ with_serial n ls

pub stay_edited : (l : ListOf) (f : KeptList → KeptList) → ((x : KeptList) → (f x).serial ≡ x.serial) → (before after : ListDesk) → AreListsApart before.lists.lists → IsChangedTo l f before after
    → StaySame (λ o. same_owner o (Content l.window (part.List l.list))) before.lists.lists after.lists.lists
stay_edited l f same before after apart done window n was is other = by_place (slice_get before.lists.lists done.at) refl
  where
    unlike : (a b d : ℕ) → a ≡ b → (d == b) ≡ false → (a == d) ≡ false
    unlike a b d e f = grind (arith, nat_tests)

    like : (a b d : ℕ) → a ≡ b → (d == b) ≡ true → (a == d) ≡ true
    like a b d e f = grind (arith, nat_tests)

    same_window : (a b d : ℕ) → a ≡ b → a ≡ d → (b == d) ≡ true
    same_window a b d e f = grind (arith, nat_tests)

    by_test : (x : KeptList) → slice_get before.lists.lists done.at ≡ Some x → (b : Bool) → (n == l.list) ≡ b → with_serial n after.lists.lists ≡ with_serial n before.lists.lists
    by_test x there false e =
        let names = found_names l.window l.list done.at before.lists.lists x done.found there in
        ap (with_serial n) (ap (λ (s : ListsState). s.lists) done.lists)
        ∙ with_edited n f same done.at before.lists.lists x there (unlike x.serial l.list n names.1 e)
    by_test x there true e =
        let names = found_names l.window l.list done.at before.lists.lists x done.found there in
        let its : is_in window x ≡ true = one_window n window done.at before.lists.lists x apart there (like x.serial l.list n names.1 e) was in
        let here : (window == l.window) ≡ true = same_window x.window window l.window (eqb-true x.window window its) names.0 in
        absurd (false≢true (sym other ∙ (λ i. here i && e i)))

    -- where none stands there nothing changed
    by_place : (o : Option KeptList) → slice_get before.lists.lists done.at ≡ o → with_serial n after.lists.lists ≡ with_serial n before.lists.lists
    by_place None none = ap (with_serial n) (ap (λ (s : ListsState). s.lists) done.lists ∙ edit_none f done.at before.lists.lists none)
    by_place (Some x) there = by_test x there (n == l.list) refl

pub stay_pushed : (own : Owner → Bool) (ls ks : List KeptList) (l : KeptList) → ks ≡ ls ++ l ∷ [] → StaySame own ls ks
stay_pushed own ls ks l pushed window n was is other = ap (with_serial n) pushed ∙ with_pushed n ls l (any_of n window ls was)

pub stay_removed : (own : Owner → Bool) (ls ks : List KeptList) (at : ℕ) → AreListsApart ls → ks ≡ remove ls at → StaySame own ls ks
stay_removed own ls ks at apart removed window n was is other =
    ap (with_serial n) removed
    ∙ with_removed n at ls apart (ap (list_any (has_serial n)) (sym removed) ∙ any_of n window ks is)
