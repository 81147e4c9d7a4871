-- One window of a list changed.
use Rattle.std.proofs.Common.{◌≡◌, ℕ, zero, suc, ◌<◌, List, [], ◌∷◌, length, get_or, set, map, take, drop, ◌++◌, ◌+◌, Result, Ok, Err, refl, sym, ap, ◌∙◌, arith}
use Rattle.std.specs.List.{remove}
use Rattle.std.specs.Result.{OnOk}
use Rattle.std.proofs.lemmas.List.Edits.{map_over_more}
use Rattle.window_list.specs.Ranks.{Ranked}
use Rattle.window_list.specs.Lists.{edit, edit_at}
use Rattle.window_list.specs.Lends.{with_value}

-- f of the element that stands at a place was put there
pub set_is_edit : {T : Type 0} (f : T → T) (xs : List T) (i : ℕ) (x : T) → x ≡ get_or xs i x → set xs i (f x) ≡ edit f i xs
set_is_edit f [] i x e = refl
set_is_edit f (y ∷ ys) zero x e = ap (λ z. f z ∷ ys) e
set_is_edit f (y ∷ ys) (suc i) x e = ap (λ zs. y ∷ zs) (set_is_edit f ys i x e)

-- what was written is f of what stood there
pub written : {T : Type 0} (f : T → T) (r : Ranked T) (i : ℕ) (x : T) → x ≡ get_or r.items i x → with_value r i (f x) ≡ edit_at f i r
written f r i x e = ap (λ xs. record { items = xs; capacity = r.capacity }) (set_is_edit f r.items i x e)

-- a loop that writes f of each element has come one further
pub mapped_more : {T : Type 0} (f : T → T) (all now : Ranked T) (i : ℕ) (x y : T) → now ≡ record all { items = map f (take i all.items) ++ drop i all.items } → i < length all.items → x ≡ get_or now.items i x → y ≡ f x → with_value now i y ≡ record all { items = map f (take (i + 1) all.items) ++ drop (i + 1) all.items }
mapped_more {T} f all now i x y so_far within read e =
    let items = ap (set now.items i) e ∙ map_over_more f all.items now.items i x within (ap (λ (r : Ranked T). r.items) so_far) read in
    λ j. record { items = items j; capacity = (so_far j).capacity }

-- the last element stood behind the others
pub last_removed : {X : Type 0} (xs : List X) (i : ℕ) (x : X) → i + 1 ≡ length xs → x ≡ get_or xs i x → xs ≡ remove xs i ++ x ∷ []
last_removed [] i x all read = absurd (omega arith)
last_removed (y ∷ []) zero x all read = ap (λ z. z ∷ []) (sym read)
last_removed (y ∷ z ∷ zs) zero x all read = absurd (omega arith)
last_removed (y ∷ ys) (suc i) x all read = ap (λ zs. y ∷ zs) (last_removed ys i x (omega arith) read)

-- what follows where there is a value
pub where_ok : {X E P Q : Type 0} (r : Result X E) → OnOk r P → (P → Q) → OnOk r Q
where_ok (Ok x) h f = f h
where_ok (Err e) h f = tt
