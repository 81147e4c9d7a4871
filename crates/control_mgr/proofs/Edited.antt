-- What holds of each control, and of each with its layer, where one of them is changed, put in or taken out.
use Rattle.std.proofs.Common.{◌≡◌, ℕ, zero, suc, ◌<◌, ◌≤◌, ◌==◌, ◌||◌, true, false, not, cond, List, [], ◌∷◌, ◌++◌, length, Some, refl, sym, ap, ◌∙◌, subst, arith}
use Rattle.std.specs.Prelude.{All, slice_get}
use Rattle.std.specs.List.{insert, remove}
use Rattle.std.proofs.lemmas.Bool.{true≢false}
use Rattle.window_items.specs.declared.item.Item.{Item}
use Rattle.window_items.specs.Items.{edit_at}
use Rattle.desk_layers.specs.declared.part.Part.{Part}
use Rattle.desk_layers.specs.declared.part.Part.TheVariants as part
use Rattle.desk_layers.specs.Desk.{same_part}
use Rattle.window_list.specs.LayerChanges.{reshaped, with_shape}
use Rattle.window_list.specs.declared.layer.Layer.{Layer}
use Rattle.window_list.specs.declared.layer.LayerShape.{LayerShape}
use Rattle.desk_call.specs.declared.update.LayerKind.TheVariants.{Controls}
use Rattle.window_paint.specs.Kinds.{is_of}
use Rattle.control_mgr.specs.ControlSteps.{behind_controls}

-- ---- layers that begin with these controls'

-- the layers begin with one for each of these, and Rest holds of those behind them
abbrev pub BeginWith : {X : Type 0} → (X → Layer → Type 0) → (List Layer → Type 0) → List X → List Layer → Type 0
BeginWith R Rest [] ls = Rest ls
BeginWith R Rest (x ∷ xs) [] = ⊥
BeginWith R Rest (x ∷ xs) (l ∷ ls) = R x l × BeginWith R Rest xs ls

module _ {X : Type 0} (R : X → Layer → Type 0) (Rest : List Layer → Type 0) where
  pub begin_remove : (i : ℕ) (xs : List X) (ls : List Layer) → i < length xs → BeginWith R Rest xs ls → BeginWith R Rest (remove xs i) (remove ls i)
  begin_remove i [] ls low h = absurd (omega arith)
  begin_remove i (x ∷ xs) [] low h = absurd h
  begin_remove zero (x ∷ xs) (l ∷ ls) low h = h.1
  begin_remove (suc i) (x ∷ xs) (l ∷ ls) low h = (h.0, begin_remove i xs ls (omega arith) h.1)

  -- one more behind these
  pub begin_behind : (xs : List X) (ls : List Layer) (x : X) (l : Layer) → BeginWith R Rest xs ls → R x l → BeginWith R Rest (xs ++ x ∷ []) (insert ls (length xs) l)
  begin_behind [] ls x l h new = (new, h)
  begin_behind (y ∷ ys) [] x l h new = absurd h
  begin_behind (y ∷ ys) (k ∷ ls) x l h new = (h.0, begin_behind ys ls x l h.1 new)

  -- the layer at the place of one of these is its
  pub begin_there : (i : ℕ) (xs : List X) (ls : List Layer) (x : X) → BeginWith R Rest xs ls → slice_get xs i ≡ Some x → (l : Layer) × (slice_get ls i ≡ Some l) × R x l
  begin_there i [] ls x h e = absurd (cc)
  begin_there i (y ∷ ys) [] x h e = absurd h
  begin_there zero (y ∷ ys) (l ∷ ls) x h e = let same : y ≡ x = cc in (l, refl, subst (λ z. R z l) same h.0)
  begin_there (suc i) (y ∷ ys) (l ∷ ls) x h e = begin_there i ys ls x h.1 e

  pub begin_length : (xs : List X) (ls : List Layer) → BeginWith R Rest xs ls → length xs ≤ length ls
  begin_length [] ls h = omega arith
  begin_length (x ∷ xs) [] h = absurd h
  begin_length (x ∷ xs) (l ∷ ls) h = let rest = begin_length xs ls h.1 in omega arith

-- where one of the controls is changed
module _ {D : Type 0} (R : Item D → Layer → Type 0) (Rest : List Layer → Type 0) where
  pub begin_edit : (g : Item D → Item D) (i : ℕ) (xs : List (Item D)) (ls : List Layer) → BeginWith R Rest xs ls
      → ((x : Item D) (l : Layer) → slice_get xs i ≡ Some x → R x l → R (g x) l) → BeginWith R Rest (edit_at g i xs) ls
  begin_edit g i [] ls h new = h
  begin_edit g i (x ∷ xs) [] h new = absurd h
  begin_edit g zero (x ∷ xs) (l ∷ ls) h new = (new x l refl h.0, h.1)
  begin_edit g (suc i) (x ∷ xs) (l ∷ ls) h new = (h.0, begin_edit g i xs ls h.1 new)

  pub begin_reshape : (g : Item D → Item D) (shape : LayerShape) (i : ℕ) (xs : List (Item D)) (ls : List Layer) → i < length xs → BeginWith R Rest xs ls
      → ((x : Item D) (l : Layer) → slice_get xs i ≡ Some x → R x l → R (g x) (with_shape shape l)) → BeginWith R Rest (edit_at g i xs) (reshaped shape i ls)
  begin_reshape g shape i [] ls low h new = absurd (omega arith)
  begin_reshape g shape i (x ∷ xs) [] low h new = absurd h
  begin_reshape g shape zero (x ∷ xs) (l ∷ ls) low h new = (new x l refl h.0, h.1)
  begin_reshape g shape (suc i) (x ∷ xs) (l ∷ ls) low h new = (h.0, begin_reshape g shape i xs ls (omega arith) h.1 new)

-- ---- the layers behind the controls

-- none of these layers is a control's
abbrev pub AreNoControls : List Layer → Type 0
AreNoControls ls = All (λ l. is_of Controls l.part ≡ false) ls

-- one that is no control's is the layer of none
pub no_control : (q : Part) (n : ℕ) → is_of Controls q ≡ false → same_part q (part.Control n) ≡ false
no_control part.Picture n e = refl
no_control (part.List m) n e = refl
no_control (part.Text m) n e = refl
no_control (part.Control m) n e = absurd (true≢false e)

-- where a control's layer is changed, taken out or put in, those behind the controls stay
pub behind_reshaped : (shape : LayerShape) (i : ℕ) (ls : List Layer) (l : Layer) → slice_get ls i ≡ Some l → is_of Controls l.part ≡ true → behind_controls (reshaped shape i ls) ≡ behind_controls ls
behind_reshaped shape i [] l there its = refl
behind_reshaped shape zero (k ∷ ks) l there its =
    let same : k ≡ l = cc in
    let of : is_of Controls k.part ≡ true = ap (λ (x : Layer). is_of Controls x.part) same ∙ its in
    ap (λ b. cond (not b) (with_shape shape k ∷ behind_controls ks) (behind_controls ks)) of
    ∙ sym (ap (λ b. cond (not b) (k ∷ behind_controls ks) (behind_controls ks)) of)
behind_reshaped shape (suc i) (k ∷ ks) l there its = ap (λ rest. cond (not (is_of Controls k.part)) (k ∷ rest) rest) (behind_reshaped shape i ks l there its)

pub behind_removed : (i : ℕ) (ls : List Layer) (l : Layer) → slice_get ls i ≡ Some l → is_of Controls l.part ≡ true → behind_controls (remove ls i) ≡ behind_controls ls
behind_removed i [] l there its = absurd (cc)
behind_removed zero (k ∷ ks) l there its =
    let same : k ≡ l = cc in
    sym (ap (λ b. cond (not b) (k ∷ behind_controls ks) (behind_controls ks)) (ap (λ (x : Layer). is_of Controls x.part) same ∙ its))
behind_removed (suc i) (k ∷ ks) l there its = ap (λ rest. cond (not (is_of Controls k.part)) (k ∷ rest) rest) (behind_removed i ks l there its)

pub behind_inserted : (i : ℕ) (ls : List Layer) (l : Layer) → is_of Controls l.part ≡ true → behind_controls (insert ls i l) ≡ behind_controls ls
behind_inserted zero ls l its = ap (λ b. cond (not b) (l ∷ behind_controls ls) (behind_controls ls)) its
behind_inserted (suc i) [] l its = ap (λ b. cond (not b) (l ∷ []) []) its
behind_inserted (suc i) (k ∷ ks) l its = ap (λ rest. cond (not (is_of Controls k.part)) (k ∷ rest) rest) (behind_inserted i ks l its)
