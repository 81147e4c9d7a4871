-- Which text records stay the same, where one is changed, put in or taken out, or some were shown anew.
use Rattle.std.proofs.Common.{◌≡◌, ℕ, suc, Bool, true, false, ◌&&◌, ◌||◌, cond, List, [], ◌∷◌, ◌++◌, Option, Some, None, refl, sym, ap, ◌∙◌, subst}
use Rattle.std.specs.Prelude.{IfSome, slice_get}
use Rattle.std.specs.List.{list_any, remove}
use Rattle.std.specs.Option.{option_map, option_map_or}
use Rattle.std.proofs.lemmas.Bool.{eq-eqb, false≢true}
use Rattle.desk_layers.specs.declared.part.Part.TheVariants as part
use Rattle.desk_layers.specs.Owner.{Owner, same_owner}
use Rattle.desk_layers.specs.Owner.Owner.{Content}
use Rattle.desk_call.specs.declared.text.TextOf.{TextOf}
use Rattle.text_record.specs.Texts.{Record}
use Rattle.window_items.specs.Items.{AreApart, has_serial, is_in, is_item, item_index, items_of}
use Rattle.window_items.proofs.SerialLemmas.{any_of, with_pushed, with_removed, with_there}
use Rattle.window_items.proofs.WindowLemmas.{position-cons, position_there}
use Rattle.control_mgr.proofs.Places.{IsThere}
use Rattle.text_mgr.specs.TextDesks.{KeptText, TextDesk, TextsState, index_of, text_of, with_serial}
use Rattle.text_mgr.specs.TextSteps.{IsTextChanged}
use Rattle.text_mgr.proofs.Places.{found_names, text_there}
use Rattle.text_mgr.proofs.Shown.{others_stay}
use Rattle.text_mgr.proofs.TextBits.{StayTexts}

pub stay_pushed : (own : Owner → Bool) (ts us : List KeptText) (x : KeptText) → us ≡ ts ++ x ∷ [] → StayTexts own ts us
stay_pushed own ts us x pushed window n was is other = ap (with_serial n) pushed ∙ with_pushed n ts x (any_of n window ts was)

pub stay_removed : (own : Owner → Bool) (ts us : List KeptText) (at : ℕ) → AreApart ts → us ≡ remove ts at → StayTexts own ts us
stay_removed own ts us at apart removed window n was is other =
    ap (with_serial n) removed
    ∙ with_removed n at ts apart (ap (list_any (has_serial n)) (sym removed) ∙ any_of n window us is)

-- ---- a text record that is found

-- one of a window is found there
pub found_if : (window n : ℕ) (ts : List KeptText) → list_any (has_serial n) (items_of window ts) ≡ true → (at : ℕ) × (item_index window n ts ≡ Some at)
found_if window n [] e = absurd (false≢true e)
found_if window n (x ∷ xs) e = by_window (is_in window x) refl (has_serial n x) refl e (found_if window n xs)
  where
    first : (b : Bool) (o : Option ℕ) → (is_in window x && has_serial n x) ≡ b → item_index window n xs ≡ o → item_index window n (x ∷ xs) ≡ cond b (Some 0) (option_map (λ at. suc at) o)
    first b o is rest = position-cons (is_item window n) x xs ∙ (λ i. cond (is i) (Some 0) (option_map (λ at. suc at) (rest i)))

    further : (is_in window x && has_serial n x) ≡ false → (at : ℕ) × (item_index window n xs ≡ Some at) → (at : ℕ) × (item_index window n (x ∷ xs) ≡ Some at)
    further is found = (suc found.0, first false (Some found.0) is found.1)

    by_window : (b : Bool) → is_in window x ≡ b → (c : Bool) → has_serial n x ≡ c → list_any (has_serial n) (cond b (x ∷ items_of window xs) (items_of window xs)) ≡ true
        → (list_any (has_serial n) (items_of window xs) ≡ true → (at : ℕ) × (item_index window n xs ≡ Some at)) → (at : ℕ) × (item_index window n (x ∷ xs) ≡ Some at)
    by_window false is c its e rest = further (ap (λ b. b && has_serial n x) is) (rest e)
    by_window true is true its e rest = (0, first true (item_index window n xs) (λ i. is i && its i) refl)
    by_window true is false its e rest = further (λ i. is i && its i) (rest (sym (ap (λ b. b || list_any (has_serial n) (items_of window xs)) its) ∙ e))

-- where one is found, there is one
pub found_item : (t : TextOf) (ts : List KeptText) (at : ℕ) → index_of t ts ≡ Some at → IsThere ts at
found_item t ts at found =
    by_item (slice_get ts at) refl (subst (λ o. IfSome o (λ i. option_map_or (is_item t.window t.text) (slice_get ts i) false ≡ true)) found (position_there (is_item t.window t.text) ts))
  where
    by_item : (o : Option KeptText) → slice_get ts at ≡ o → option_map_or (is_item t.window t.text) o false ≡ true → IsThere ts at
    by_item None e h = absurd (false≢true h)
    by_item (Some x) e h = record { item = x; there = e }

-- it is the one of its serial
pub one_of_serial : (window n : ℕ) (ts : List KeptText) → AreApart ts → list_any (has_serial n) (items_of window ts) ≡ true → with_serial n ts ≡ text_of (record { window = window; text = n }) ts
one_of_serial window n ts apart e =
    let t : TextOf = record { window = window; text = n } in
    let found = found_if window n ts e in
    let there = found_item t ts found.0 found.1 in
    let names = found_names t ts found.0 found.1 there.item there.there in
    with_there n found.0 ts there.item apart there.there (eq-eqb there.item.serial n names.1) ∙ sym (text_there t ts found.0 found.1 there.item there.there)

-- ---- what stays

-- what is not shown anew is as it was
pub stay_anew : (own : Owner → Bool) (ts us : List KeptText) → AreApart ts → AreApart us
    → ((t : TextOf) → own (Content t.window (part.Text t.text)) ≡ false → text_of t us ≡ text_of t ts) → StayTexts own ts us
stay_anew own ts us apart apart_now same window n was is other =
    one_of_serial window n us apart_now is ∙ same (record { window = window; text = n }) other ∙ sym (one_of_serial window n ts apart was)

-- all but one that is changed
pub stay_changed : (t : TextOf) (f : Record → Record) (scrap : List ℕ) (before after : TextDesk) → AreApart before.texts.texts → AreApart after.texts.texts → IsTextChanged t f scrap before after
    → StayTexts (λ o. same_owner o (Content t.window (part.Text t.text))) before.texts.texts after.texts.texts
stay_changed t f scrap before after apart apart_now done =
    let ts = before.texts.texts in
    let there = found_item t ts done.at done.found in
    stay_anew (λ o. same_owner o (Content t.window (part.Text t.text))) ts after.texts.texts apart apart_now
    (λ y other. ap (λ (s : TextsState). text_of y s.texts) done.texts ∙ others_stay t f done.at ts there.item done.found there.there y other)
