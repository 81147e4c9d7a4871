-- Lemmas behind the laws.
use Rattle.std.proofs.Common.{◌≡◌, ℕ, suc, ◌+◌, ◌<◌, ◌≤◌, Bool, true, false, List, [], ◌∷◌, ◌++◌, length, map, get_or, cond, refl, ap, ◌∙◌, arith}
use Rattle.std.specs.Prelude.{◌==◌, ◌&&◌, ◌||◌, not, if◌then◌else◌, filter_map, Option, Some, None, All}
use Rattle.std.specs.List.{cons_option, list_any, slice_split, onto_first, position}
use Rattle.std.specs.Option.{option_map, option_map_or}
use Rattle.std.specs.Char.{to_ascii_lowercase}
use Rattle.std.proofs.lemmas.Bool.{false≢true}
use Rattle.std.proofs.lemmas.Bool.Decides.{nat_tests}
use Rattle.std.proofs.lemmas.Option.{slice_get-get_or}
use Rattle.std.proofs.lemmas.List.Elements.{filter_map-append}
use Rattle.std.proofs.lemmas.List.Splits.{slice_split_none}
use Rattle.std.proofs.lemmas.List.Quantifiers.{position-Some}
use Rattle.menu_record.specs.declared.item.MenuItem.{MenuItem}
use Rattle.menu_record.specs.declared.menu.Menu.{Menu}
use Rattle.menu_record.specs.Menus.{can_choose, has_key, item_at, item_with_key}
use Rattle.menu_record.specs.Appending.{is_parting, is_sign, is_plain, Bare, Signed, words, text_character, taken_by, disables, last_of, item_in, item_of, items_of, item_saying}

-- ---- texts in turn

split_by : {X : Type 0} (b : Bool) (x : X) (parts : List (List X)) → (part : List X) × (rest : List (List X)) × (parts ≡ part ∷ rest)
    → (part : List X) × (rest : List (List X)) × (cond b ([] ∷ parts) (onto_first x parts) ≡ part ∷ rest)
split_by true x parts some = ([], parts, refl)
split_by false x parts some = (x ∷ some.0, some.1, ap (onto_first x) some.2)

-- a text has a first piece
split_some : {X : Type 0} (p : X → Bool) (xs : List X) → (part : List X) × (rest : List (List X)) × (slice_split p xs ≡ part ∷ rest)
split_some p [] = ([], [], refl)
split_some p (x ∷ xs) = split_by (p x) x (slice_split p xs) (split_some p xs)

-- a character before pieces, of which there are some, and more behind them
onto_joined : {X : Type 0} (x : X) (parts more : List (List X)) → (part : List X) × (rest : List (List X)) × (parts ≡ part ∷ rest)
    → onto_first x (parts ++ more) ≡ onto_first x parts ++ more
onto_joined x [] more some = let e = some.2 in absurd (cc e)
onto_joined x (part ∷ rest) more some = refl

joined_by : {X : Type 0} (b : Bool) (x : X) (all parts more : List (List X)) → all ≡ parts ++ more
    → (part : List X) × (rest : List (List X)) × (parts ≡ part ∷ rest)
    → cond b ([] ∷ all) (onto_first x all) ≡ cond b ([] ∷ parts) (onto_first x parts) ++ more
joined_by true x all parts more e some = ap (λ ps. [] ∷ ps) e
joined_by false x all parts more e some = ap (onto_first x) e ∙ onto_joined x parts more some

-- the pieces of a text before a character that parts them, and those of the text after it
split_joined : {X : Type 0} (p : X → Bool) (xs : List X) (y : X) (ys : List X) → p y ≡ true
    → slice_split p (xs ++ y ∷ ys) ≡ slice_split p xs ++ slice_split p ys
split_joined p [] y ys e = ap (λ b. cond b ([] ∷ slice_split p ys) (onto_first y (slice_split p ys))) e
split_joined p (x ∷ xs) y ys e = joined_by (p x) x (slice_split p (xs ++ y ∷ ys)) (slice_split p xs) (slice_split p ys) (split_joined p xs y ys e) (split_some p xs)

pub texts_in_turn : (first : List ℕ) (c : ℕ) (second : List ℕ) → is_parting c ≡ true → items_of (first ++ c ∷ second) ≡ items_of first ++ items_of second
unfolding items_of
texts_in_turn first c second e =
    ap (filter_map item_in) (split_joined is_parting first c second e) ∙ filter_map-append item_in (slice_split is_parting first) (slice_split is_parting second)

-- ---- plain texts

none_holds : (a b c : Bool) → (not a && (not b && not c)) ≡ true → (a ≡ false) × (b ≡ false) × (c ≡ false)
none_holds false false false e = (refl, refl, refl)
none_holds false false true e = absurd (false≢true e)
none_holds false true c e = absurd (false≢true e)
none_holds true b c e = absurd (false≢true e)

is_nothing_else : (c : ℕ) → is_plain c ≡ true → (is_parting c ≡ false) × (is_sign c ≡ false) × ((c == 0x28) ≡ false)
is_nothing_else c e = none_holds (is_parting c) (is_sign c) (c == 0x28) e

-- the characters of the text are plain
ArePlain : List ℕ → Type 0
ArePlain text = All (λ x. is_plain x ≡ true) text

first_plain : (c : ℕ) (cs : List ℕ) → ArePlain (c ∷ cs) → is_plain c ≡ true
unfolding ArePlain
first_plain c cs all = all 0 0 (omega arith)

rest_plain : (c : ℕ) (cs : List ℕ) → ArePlain (c ∷ cs) → ArePlain cs
unfolding ArePlain
rest_plain c cs all = λ k d h. all (suc k) d (omega (arith, h))

-- each character of a plain text stands by itself
plain_words : (text : List ℕ) → ArePlain text → words text ≡ map Bare text
plain_words [] all = refl
plain_words (c ∷ []) all = ap (λ b. if b then [] else Bare c ∷ []) (is_nothing_else c (first_plain c [] all)).1
plain_words (c ∷ d ∷ rest) all =
    ap (λ b. if b then Signed c d ∷ words rest else Bare c ∷ words (d ∷ rest)) (is_nothing_else c (first_plain c (d ∷ rest) all)).1
    ∙ ap (λ ws. Bare c ∷ ws) (plain_words (d ∷ rest) (rest_plain c (d ∷ rest) all))

plain_text : (text : List ℕ) → ArePlain text → filter_map text_character (map Bare text) ≡ text
plain_text [] all = refl
plain_text (c ∷ cs) all =
    ap (λ b. cons_option (if b then None else Some c) (filter_map text_character (map Bare cs))) (is_nothing_else c (first_plain c cs all)).2
    ∙ ap (λ t. c ∷ t) (plain_text cs (rest_plain c cs all))

none_taken : (sign : ℕ) (text : List ℕ) → filter_map (taken_by sign) (map Bare text) ≡ []
none_taken sign [] = refl
none_taken sign (c ∷ cs) = none_taken sign cs

none_disables : (text : List ℕ) → ArePlain text → list_any disables (map Bare text) ≡ false
none_disables [] all = refl
none_disables (c ∷ cs) all =
    ap (λ b. b || list_any disables (map Bare cs)) (is_nothing_else c (first_plain c cs all)).2 ∙ none_disables cs (rest_plain c cs all)

plain_item : (text : List ℕ) → ArePlain text → item_of text ≡ item_saying text
unfolding item_of
plain_item text all =
    ap (λ ws. record {
      text = filter_map text_character ws;
      mark = last_of None (filter_map (taken_by 0x21) ws);
      key = last_of None (filter_map (taken_by 0x2F) ws);
      enabled = not (list_any disables ws);
    }) (plain_words text all)
    ∙ (λ i. record {
      text = plain_text text all i;
      mark = last_of None (none_taken 0x21 text i);
      key = last_of None (none_taken 0x2F text i);
      enabled = not (none_disables text all i);
    })

pub plain_texts : (c : ℕ) (cs : List ℕ) → All (λ x. is_plain x ≡ true) (c ∷ cs) → items_of (c ∷ cs) ≡ item_saying (c ∷ cs) ∷ []
unfolding items_of ArePlain
plain_texts c cs all =
    ap (filter_map item_in) (slice_split_none is_parting (c ∷ cs) (λ k d h. (is_nothing_else (get_or (c ∷ cs) k d) (all k d h)).0))
    ∙ ap (λ item. item ∷ []) (plain_item (c ∷ cs) all)

-- ---- what a key finds

-- the item at a place has the number after it
at_number : (items : List MenuItem) (k number : ℕ) (d : MenuItem) → k + 1 ≡ number → k < length items → item_at number items ≡ Some (get_or items k d)
at_number items k number d e within =
    let s : number ≡ suc k = omega (arith, e) in
    ap (λ n. item_at n items) s ∙ slice_get-get_or items k d within

-- the item at the first place that passes
found_by : (p : MenuItem → Bool) (items : List MenuItem) (place : Option ℕ) (number : ℕ) (d : MenuItem) → position p items ≡ place
    → option_map (λ k. k + 1) place ≡ Some number → option_map_or p (item_at number items) false ≡ true
found_by p items None number d at e = absurd (cc e)
found_by p items (Some k) number d at e =
    let found = position-Some p items k d at in
    ap (λ o. option_map_or p o false) (at_number items k number d (cc e) found.0) ∙ found.1

pub found_item : (key : ℕ) (menu : Menu) (number : ℕ) → item_with_key key menu ≡ Some number
    → option_map_or (λ item. can_choose menu item && has_key key item) (item_at number menu.items) false ≡ true
found_item key menu number e =
    found_by (λ item. can_choose menu item && has_key key item) menu.items (position (λ item. can_choose menu item && has_key key item) menu.items) number
    (item_saying []) refl e

-- ---- the cases of a letter

small_letter : (letter : ℕ) → 65 ≤ letter → letter ≤ 90 → to_ascii_lowercase (letter + 32) ≡ to_ascii_lowercase letter
small_letter letter low high = grind (arith, nat_tests)

pub one_key : (letter : ℕ) (menu : Menu) → 65 ≤ letter → letter ≤ 90 → item_with_key (letter + 32) menu ≡ item_with_key letter menu
one_key letter menu low high =
    ap (λ small. option_map (λ k. k + 1)
    (position (λ item. can_choose menu item && option_map_or (λ own. to_ascii_lowercase own == small) item.key false) menu.items))
    (small_letter letter low high)
