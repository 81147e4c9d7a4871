-- Items that are changed in their list or come behind it, and whether the edited item stays an edit item.
use Rattle.std.proofs.Common.{◌≡◌, ℕ, zero, suc, ◌+◌, ◌-◌, ◌<◌, ◌≤◌, Bool, true, false, not, cond, ◌&&◌, List, [], ◌∷◌, ◌++◌, length, get_or, set, refl, ap, ◌∙◌, arith}
use Rattle.std.specs.Prelude.{slice_get}
use Rattle.std.specs.List.{list_any}
use Rattle.std.specs.Option.{option_map_or}
use Rattle.std.proofs.lemmas.List.{length-set, length-append}
use Rattle.dialog_items.specs.declared.item.Item.{Item}
use Rattle.dialog_items.specs.Items.{ItemList, IsItemList, changed_at, edited_with, edits_one, is_edit, is_edit_number, replaced}

-- ---- an item in the place of another

put-changes : (items : List Item) (i : ℕ) (x : Item) → set items i x ≡ changed_at (λ _. x) i items
put-changes [] i x = refl
put-changes (y ∷ ys) zero x = refl
put-changes (y ∷ ys) (suc i) x = ap (λ zs. y ∷ zs) (put-changes ys i x)

pub put-is : (items : List Item) (number : ℕ) (x : Item) → 1 ≤ number → set items (number - 1) x ≡ replaced number (λ _. x) items
put-is items zero x some = absurd (omega arith)
put-is items (suc at) x some =
    let e : suc at - 1 ≡ at = omega arith in
    ap (λ i. set items i x) e ∙ put-changes items at x

change-read : (change : Item → Item) (items : List Item) (i : ℕ) (x : Item) → x ≡ get_or items i x → changed_at (λ _. change x) i items ≡ changed_at change i items
change-read change [] i x e = refl
change-read change (y ∷ ys) zero x e = ap (λ z. change z ∷ ys) e
change-read change (y ∷ ys) (suc i) x e = ap (λ zs. y ∷ zs) (change-read change ys i x e)

-- an item that was read, changed and put back
pub read-changed : (change : Item → Item) (items : List Item) (number : ℕ) (x : Item) → 1 ≤ number → x ≡ get_or items (number - 1) x → replaced number (λ _. change x) items ≡ replaced number change items
read-changed change items zero x some e = absurd (omega arith)
read-changed change items (suc at) x some e =
    let back : suc at - 1 ≡ at = omega arith in
    change-read change items at x (e ∙ ap (λ i. get_or items i x) back)

-- ---- the edited item

edit-at : List Item → ℕ → Bool
edit-at items i = option_map_or is_edit (slice_get items i) false

edit-put : (items : List Item) (i k : ℕ) (x : Item) → is_edit x ≡ edit-at items i → edit-at (set items i x) k ≡ edit-at items k
unfolding edit-at
edit-put [] i k x same = refl
edit-put (y ∷ ys) zero zero x same = same
edit-put (y ∷ ys) zero (suc k) x same = refl
edit-put (y ∷ ys) (suc i) zero x same = refl
edit-put (y ∷ ys) (suc i) (suc k) x same = edit-put ys i k x same

edits-put : (items : List Item) (number edited : ℕ) (x : Item) → 1 ≤ number → is_edit x ≡ is_edit_number items number → edits_one (set items (number - 1) x) edited ≡ edits_one items edited
unfolding edit-at
edits-put items zero edited x some same = absurd (omega arith)
edits-put items (suc at) zero x some same = refl
edits-put items (suc at) (suc k) x some same =
    let back : suc at - 1 ≡ at = omega arith in
    ap (λ i. edit-at (set items i x) k) back ∙ edit-put items at k x same

-- the list stays one where an item of the same kind is put in the place of another
pub put-stays : (d : ItemList) (number : ℕ) (x : Item) (capacity : ℕ) → 1 ≤ number → is_edit x ≡ is_edit_number d.items number → IsItemList d
    → IsItemList (record { items = set d.items (number - 1) x; edited = d.edited; capacity = capacity })
put-stays d number x capacity some same was = record {
  few = omega (arith, length-set d.items (number - 1) x, was.few);
  edited = edits-put d.items number d.edited x some same ∙ was.edited;
}

edit-more : (items : List Item) (x : Item) (k : ℕ) → edit-at items k ≡ true → edit-at (items ++ x ∷ []) k ≡ true
unfolding edit-at
edit-more [] x k e = absurd (cc)
edit-more (y ∷ ys) x zero e = e
edit-more (y ∷ ys) x (suc k) e = edit-more ys x k e

edits-more : (items : List Item) (x : Item) (n : ℕ) → edits_one items n ≡ true → edits_one (items ++ x ∷ []) n ≡ true
unfolding edit-at
edits-more items x zero e = refl
edits-more items x (suc k) e = edit-more items x k e

edit-last : (items : List Item) (x : Item) → edit-at (items ++ x ∷ []) (length items) ≡ is_edit x
unfolding edit-at
edit-last [] x = refl
edit-last (y ∷ ys) x = edit-last ys x

edits-last : (items : List Item) (x : Item) (n : ℕ) → n ≡ length items + 1 → is_edit x ≡ true → edits_one (items ++ x ∷ []) n ≡ true
unfolding edit-at
edits-last items x zero e is = refl
edits-last items x (suc k) e is =
    let same : k ≡ length items = omega (arith, e) in
    ap (λ i. edit-at (items ++ x ∷ []) i) same ∙ edit-last items x ∙ is

edited-more : (first : Bool) (items : List Item) (x : Item) (edited : ℕ) → (first ≡ true → is_edit x ≡ true) → edits_one items edited ≡ true
    → let n = cond first (length items + 1) edited in edits_one (items ++ x ∷ []) n ≡ true
edited-more true items x edited is was = edits-last items x (length items + 1) refl (is refl)
edited-more false items x edited is was = edits-more items x edited was

first-of : (a b : Bool) → (a && b) ≡ true → a ≡ true
first-of true b e = refl
first-of false b e = e

-- and where an item comes behind it
pub add-stays : (d : ItemList) (x : Item) (capacity : ℕ) → length d.items < 64 → IsItemList d
    → IsItemList (record { items = d.items ++ x ∷ []; edited = edited_with x d; capacity = capacity })
add-stays d x capacity few was = record {
  few = omega (arith, length-append d.items (x ∷ []), few);
  edited = edited-more (is_edit x && not (list_any is_edit d.items)) d.items x d.edited (first-of (is_edit x) (not (list_any is_edit d.items))) was.edited;
}
