-- Windows of which each was changed, in its slot and number not.
use Rattle.std.proofs.Common.{◌≡◌, ℕ, suc, true, List, [], ◌∷◌, map, Option, refl, sym, ap, ◌∙◌, subst, arith, inl, inr}
use Rattle.std.specs.Prelude.{All, AllPairs, Contains}
use Rattle.std.proofs.lemmas.List.Elements.{All-map, All-weaker}
use Rattle.std.proofs.lemmas.List.Kept.{AllPairs-cons}
use Rattle.def_iface.specs.WindowSlots.{WindowSlot, is_left}
use Rattle.vis_update.specs.Records.{WindowRecord}
use Rattle.window_mgr.specs.FullDesk.{IsGiven, HaveSerials, AreSerials}
use Rattle.window_mgr.specs.Whole.{IsSettled, IsStocked}

-- ---- pairs of a list

pub pairs_first : {X : Type 0} (R : X → X → Type 0) (x : X) (xs : List X) → AllPairs R (x ∷ xs) → All (R x) xs
pairs_first R x xs h = λ k d within. h 0 (suc k) d (omega arith) (omega arith)

pub pairs_rest : {X : Type 0} (R : X → X → Type 0) (x : X) (xs : List X) → AllPairs R (x ∷ xs) → AllPairs R xs
pairs_rest R x xs h = λ i j d low within. h (suc i) (suc j) d (omega arith) (omega arith)

pub pairs-map : {X : Type 0} (R : X → X → Type 0) (f : X → X) → ((x y : X) → R x y → R (f x) (f y)) → (xs : List X) → AllPairs R xs → AllPairs R (map f xs)
pairs-map R f keeps [] h = λ i j d low within. absurd (omega arith)
pairs-map R f keeps (x ∷ xs) h =
    AllPairs-cons R (f x) (map f xs) (All-map (R (f x)) f xs (All-weaker (R x) (λ y. R (f x) (f y)) (λ y r. keeps x y r) xs (pairs_first R x xs h))) (pairs-map R f keeps xs (pairs_rest R x xs h))

pub map-map : {X Y Z : Type 0} (g : Y → Z) (f : X → Y) (k : X → Z) → ((x : X) → g (f x) ≡ k x) → (xs : List X) → map g (map f xs) ≡ map k xs
map-map g f k e [] = refl
map-map g f k e (x ∷ xs) = λ i. e x i ∷ map-map g f k e xs i

module _ (f : WindowRecord → WindowRecord) where
  pub settled_map : ((w : WindowRecord) → IsSettled w → IsSettled (f w)) → (ws : List WindowRecord) → All IsSettled ws → All IsSettled (map f ws)
  settled_map keeps ws h = All-map IsSettled f ws (All-weaker IsSettled (λ w. IsSettled (f w)) keeps ws h)

  pub stocked_map : ((w : WindowRecord) → (f w).slot ≡ w.slot) → (ws : List WindowRecord) (slots : List WindowSlot) → IsStocked ws slots → IsStocked (map f ws) slots
  stocked_map same ws slots h = record {
    left = All-map (λ w. is_left w.slot slots ≡ true) f ws (All-weaker (λ w. is_left w.slot slots ≡ true) (λ w. is_left (f w).slot slots ≡ true) (λ w its. ap (λ k. is_left k slots) (same w) ∙ its) ws h.left);
    apart = pairs-map (λ v w. v.slot ≡ w.slot → ⊥) f (λ v w apart e. apart (sym (same v) ∙ e ∙ same w)) ws h.apart;
    others = λ k s e. elim (h.others k s e) [
      | inl full ↦ inl full
      | inr none ↦ inr (none.0, subst (λ ks. Contains ks k) (sym (map-map (λ (w : WindowRecord). w.slot) f (λ (w : WindowRecord). w.slot) same ws)) none.1)
    ];
  }

  pub serials_map : ((w : WindowRecord) → (f w).serial ≡ w.serial) → (P : ℕ → Type 0) (ws : List WindowRecord) → HaveSerials P ws → HaveSerials P (map f ws)
  serials_map same P [] h = tt
  serials_map same P (w ∷ ws) h = (subst P (sym (same w)) h.0, serials_map same P ws h.1)

  pub numbered_map : ((w : WindowRecord) → (f w).serial ≡ w.serial) → (next : Option ℕ) (ws : List WindowRecord) → AreSerials next ws → AreSerials next (map f ws)
  numbered_map same next ws h = (h.0, serials_map same (IsGiven next) ws h.1)
