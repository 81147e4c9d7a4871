-- The last edit item that is shown, of one item more.
use Rattle.std.proofs.Common.{◌≡◌, ℕ, suc, ◌+◌, ◌<◌, Bool, true, false, cond, List, [], ◌∷◌, ◌++◌, length, get_or, take, Option, Some, None, refl, sym, ap, ◌∙◌, arith}
use Rattle.std.specs.Prelude.{IfSome}
use Rattle.std.specs.Option.{option_map, option_or}
use Rattle.std.proofs.lemmas.Bool.{cond-true, cond-false}
use Rattle.std.proofs.lemmas.List.{length-take-le, take_more}
use Rattle.dialog_items.specs.declared.look.ItemLook.{ItemLook}
use Rattle.dialog_items.specs.Finding.{is_shown_edit, last_index}

-- one number more behind what may be a number already
or_last : (b : Bool) (n : ℕ) (o r : Option ℕ) → option_or (option_map (λ at. suc at) (cond b (Some n) o)) r ≡ cond b (Some (suc n)) (option_or (option_map (λ at. suc at) o) r)
or_last true n o r = refl
or_last false n o r = refl

within_more : (b : Bool) (n : ℕ) (o : Option ℕ) → IfSome o (λ at. at < n) → IfSome (option_or (option_map (λ at. suc at) o) (cond b (Some 0) None)) (λ at. at < suc n)
within_more true n None h = omega arith
within_more false n None h = tt
within_more b n (Some at) h = omega arith

-- of one item more the last is that one, if it is a shown edit item
pub last_push : (looks : List ItemLook) (x : ItemLook) → last_index (looks ++ x ∷ []) ≡ cond (is_shown_edit x) (Some (length looks)) (last_index looks)
last_push [] x = refl
last_push (y ∷ ys) x =
    ap (λ o. option_or (option_map (λ at. suc at) o) (cond (is_shown_edit y) (Some 0) None)) (last_push ys x)
    ∙ or_last (is_shown_edit x) (length ys) (last_index ys) (cond (is_shown_edit y) (Some 0) None)

-- it stands in the list
pub last_within : (looks : List ItemLook) → IfSome (last_index looks) (λ at. at < length looks)
last_within [] = tt
last_within (x ∷ xs) = within_more (is_shown_edit x) (length xs) (last_index xs) (last_within xs)

-- after the next item, which is one, and after one that is not
pub next_shown : (looks : List ItemLook) (i : ℕ) (other : ItemLook) → i < length looks → is_shown_edit (get_or looks i other) ≡ true → Some i ≡ last_index (take (i + 1) looks)
next_shown looks i other within is =
    let x = get_or looks i other in
    sym (ap last_index (take_more looks i other within) ∙ last_push (take i looks) x ∙ cond-true (is_shown_edit x) (Some (length (take i looks))) (last_index (take i looks)) is
    ∙ ap Some (length-take-le i looks (omega (arith, within))))

pub next_other : (looks : List ItemLook) (i : ℕ) (other : ItemLook) → i < length looks → is_shown_edit (get_or looks i other) ≡ false → last_index (take i looks) ≡ last_index (take (i + 1) looks)
next_other looks i other within is =
    let x = get_or looks i other in
    sym (ap last_index (take_more looks i other within) ∙ last_push (take i looks) x ∙ cond-false (is_shown_edit x) (Some (length (take i looks))) (last_index (take i looks)) is)
