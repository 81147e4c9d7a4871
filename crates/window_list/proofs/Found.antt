-- Where the layer of a part was found, and what is so where it was not.
use Rattle.std.proofs.Common.{◌≡◌, ℕ, zero, suc, ◌+◌, ◌<◌, arith, Bool, true, false, cond, List, [], ◌∷◌, length, get_or, Option, None, Some, refl, sym, ap, ◌∙◌}
use Rattle.std.specs.List.{position_from}
use Rattle.std.proofs.lemmas.Iterator.Adapters.{position_from-zero}
use Rattle.std.proofs.lemmas.List.Quantifiers.{position-Some}
use Rattle.desk_layers.specs.declared.part.Part.{Part}
use Rattle.desk_layers.specs.Desk.{same_part}
use Rattle.desk_layers.proofs.Owning.{same_part-true}
use Rattle.window_list.specs.declared.layer.Layer.{Layer}
use Rattle.window_list.specs.Holders.{layer_index}

module _ {X : Type 0} (p : X → Bool) where
  further : (b : Bool) (i : ℕ) (x : X) (xs : List X) → p x ≡ b → cond b (Some i) (position_from p (i + 1) xs) ≡ None → (at : ℕ) (d : X) → at < suc (length xs)
      → (position_from p (i + 1) xs ≡ None → (at : ℕ) (d : X) → at < length xs → p (get_or xs at d) ≡ false) → p (get_or (x ∷ xs) at d) ≡ false
  further true i x xs is e at d low rest = absurd (cc)
  further false i x xs is e zero d low rest = is
  further false i x xs is e (suc at) d low rest = rest e at d (omega arith)

  none_from : (i : ℕ) (xs : List X) → position_from p i xs ≡ None → (at : ℕ) (d : X) → at < length xs → p (get_or xs at d) ≡ false
  none_from i [] e at d low = absurd (omega arith)
  none_from i (x ∷ xs) e at d low = further (p x) i x xs refl e at d low (none_from (i + 1) xs)

-- no layer is of the part
pub not_found : (part : Part) (ls : List Layer) → layer_index part ls ≡ None → (at : ℕ) (l : Layer) → at < length ls → same_part (get_or ls at l).part part ≡ false
not_found part ls e at l low = none_from (λ (x : Layer). same_part x.part part) 0 ls (sym (position_from-zero (λ (x : Layer). same_part x.part part) ls) ∙ e) at l low

pub found_low : (part : Part) (ls : List Layer) (at : ℕ) → layer_index part ls ≡ Some at → at < length ls
found_low part [] at e = absurd (cc)
found_low part (l ∷ ls) at e = (position-Some (λ (x : Layer). same_part x.part part) (l ∷ ls) at l e).0

-- the layer that was found is of the part
pub found_part : (part : Part) (ls : List Layer) (at : ℕ) → layer_index part ls ≡ Some at → (l : Layer) → l ≡ get_or ls at l → l.part ≡ part
found_part part ls at e l is =
    same_part-true l.part part (ap (λ (x : Layer). same_part x.part part) is ∙ (position-Some (λ (x : Layer). same_part x.part part) ls at l e).1)
