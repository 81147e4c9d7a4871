-- What other parts gain by a change of one layer.
use Rattle.std.proofs.Common.{◌≡◌, ℕ, zero, suc, ◌<◌, arith, Bool, true, false, not, ◌&&◌, if◌then◌else◌, List, [], ◌∷◌, length, get_or, set, None, Some, refl, sym, ap, ◌∙◌}
use Rattle.std.specs.List.{All, insert, remove}
use Rattle.std.proofs.lemmas.List.Elements.{All-head, All-tail, All-cons, All-append, All-take, All-drop}
use Rattle.tb_geom.specs.declared.point.Point.{Point}
use Rattle.tb_geom.specs.Pixels.{holds}
use Rattle.desk_layers.specs.declared.part.Part.{Part}
use Rattle.desk_layers.specs.declared.part.Part.TheVariants as part
use Rattle.desk_layers.specs.Desk.{same_part}
use Rattle.desk_layers.proofs.Owning.{same_part-self}
use Rattle.window_list.specs.declared.layer.Layer.{Layer}
use Rattle.window_list.specs.declared.layer.LayerShape.{LayerShape}
use Rattle.window_list.specs.Holders.{layer_has, part_at, belongs_to, ArePartsApart}
use Rattle.window_list.specs.LayerChanges.{with_shape, reshaped, is_gained}
use Rattle.window_list.proofs.Parts.{same_part-turned, front_apart, belongs_to-none}

and_false : (b : Bool) → (b && false) ≡ false
and_false true = refl
and_false false = refl

and_true : (b : Bool) → (b && true) ≡ b
and_true true = refl
and_true false = refl

and_not : (b : Bool) → (b && not b) ≡ false
and_not true = refl
and_not false = refl

and_once : (b : Bool) → (b && b) ≡ b
and_once true = refl
and_once false = refl

-- a pixel that stays with its part is not gained
stays : (q afresh : Part) → (not (same_part q q) && not (same_part q afresh)) ≡ false
stays q afresh = ap (λ b. not b && not (same_part q afresh)) (same_part-self q)

-- ---- one layer more

-- it takes pixels from others alone
pub insert_gains : (ls : List Layer) (at : ℕ) (l : Layer) (p : Point) → is_gained (Some l.part) ls (insert ls at l) p ≡ false
insert_gains ls zero l p = by_test (layer_has l p) (part_at ls p)
  where
    by_test : (b : Bool) (old : Part) → let new = if b then l.part else old in (not (same_part old new) && not (same_part new l.part)) ≡ false
    by_test true old = ap (λ b. not (same_part old l.part) && not b) (same_part-self l.part) ∙ and_false (not (same_part old l.part))
    by_test false old = stays old l.part
insert_gains [] (suc at) l p = by_test (layer_has l p)
  where
    by_test : (b : Bool) → let new = if b then l.part else part.Picture in (not (same_part part.Picture new) && not (same_part new l.part)) ≡ false
    by_test true = ap (λ b. not (same_part part.Picture l.part) && not b) (same_part-self l.part) ∙ and_false (not (same_part part.Picture l.part))
    by_test false = refl
insert_gains (x ∷ ls) (suc at) l p = by_test (layer_has x p) (part_at ls p) (part_at (insert ls at l) p) (insert_gains ls at l p)
  where
    by_test : (b : Bool) (old new : Part) → (not (same_part old new) && not (same_part new l.part)) ≡ false → let after = if b then x.part else new in (not (same_part (if b then x.part else old) after) && not (same_part after l.part)) ≡ false
    by_test true old new e = stays x.part l.part
    by_test false old new e = e

pub insert_all : (P : Layer → Type 0) (ls : List Layer) (at : ℕ) (l : Layer) → All P ls → P l → All P (insert ls at l)
insert_all P ls at l h own = All-append P _ _ (All-take P at ls h) (All-cons P l _ own (All-drop P at ls h))

-- ---- one layer less

pub remove_all : (P : Layer → Type 0) (ls : List Layer) (at : ℕ) → All P ls → All P (remove ls at)
remove_all P ls at h = All-append P _ _ (All-take P at ls h) (All-drop P (suc at) ls h)

-- others gain what was its own
pub remove_gains : (ls : List Layer) (at : ℕ) (l : Layer) (p : Point) → ArePartsApart ls → at < length ls → l ≡ get_or ls at l → belongs_to l.part ls p ≡ is_gained None ls (remove ls at) p
remove_gains [] at l p apart within read = absurd (omega arith)
remove_gains (x ∷ ls) zero l p apart within read =
    let front = front_apart x ls apart in
    ap (λ (k : Layer). belongs_to k.part (x ∷ ls) p) read
    ∙ by_test (layer_has x p) (part_at ls p) (belongs_to-none x.part ls p front.picture front.others)
  where
    by_test : (b : Bool) (rest : Part) → same_part rest x.part ≡ false → let old = if b then x.part else rest in same_part old x.part ≡ (not (same_part old rest) && true)
    by_test true rest e = same_part-self x.part ∙ sym (ap (λ b. not b && true) (same_part-turned x.part rest ∙ e))
    by_test false rest e = e ∙ sym (ap (λ b. not b && true) (same_part-self rest))
remove_gains (x ∷ ls) (suc at) l p apart within read =
    let front = front_apart x ls apart in
    by_test (layer_has x p) (part_at ls p) (part_at (remove ls at) p) (ap (λ (k : Layer). same_part x.part k.part) read ∙ front.others at l (omega arith)) (remove_gains ls at l p front.rest (omega arith) read)
  where
    by_test : (b : Bool) (old new : Part) → same_part x.part l.part ≡ false → same_part old l.part ≡ (not (same_part old new) && true) → same_part (if b then x.part else old) l.part ≡ (not (same_part (if b then x.part else old) (if b then x.part else new)) && true)
    by_test true old new e rest = e ∙ sym (ap (λ b. not b && true) (same_part-self x.part))
    by_test false old new e rest = rest

-- ---- one layer otherwise

-- others gain what it had and has no more
pub reshaped_gains : (shape : LayerShape) (at : ℕ) (ls : List Layer) (l : Layer) (p : Point) → at < length ls → l ≡ get_or ls at l → (belongs_to l.part ls p && not (belongs_to l.part (reshaped shape at ls) p)) ≡ is_gained (Some l.part) ls (reshaped shape at ls) p
reshaped_gains shape at [] l p within read = absurd (omega arith)
reshaped_gains shape zero (x ∷ ls) l p within read =
    ap (λ (k : Layer). belongs_to k.part (x ∷ ls) p && not (belongs_to k.part (with_shape shape x ∷ ls) p)) read
    ∙ by_test (layer_has x p) (shape.shown && holds shape.region p) (part_at ls p)
    ∙ ap (λ (k : Layer). is_gained (Some k.part) (x ∷ ls) (with_shape shape x ∷ ls) p) (sym read)
  where
    by_test : (a b : Bool) (rest : Part) → let old = if a then x.part else rest in let new = if b then x.part else rest in
        (same_part old x.part && not (same_part new x.part)) ≡ (not (same_part old new) && not (same_part new x.part))
    by_test true true rest = and_not (same_part x.part x.part) ∙ sym (stays x.part x.part)
    by_test true false rest = ap (λ b. b && not (same_part rest x.part)) (same_part-self x.part) ∙ sym (and_once (not (same_part rest x.part))) ∙ ap (λ b. not b && not (same_part rest x.part)) (same_part-turned rest x.part)
    by_test false true rest =
        ap (λ b. same_part rest x.part && not b) (same_part-self x.part) ∙ and_false (same_part rest x.part)
        ∙ sym (ap (λ b. not (same_part rest x.part) && not b) (same_part-self x.part) ∙ and_false (not (same_part rest x.part)))
    by_test false false rest = and_not (same_part rest x.part) ∙ sym (stays rest x.part)
reshaped_gains shape (suc at) (x ∷ ls) l p within read =
    by_test (layer_has x p) (part_at ls p) (part_at (reshaped shape at ls) p) (reshaped_gains shape at ls l p (omega arith) read)
  where
    by_test : (b : Bool) (old new : Part) → (same_part old l.part && not (same_part new l.part)) ≡ (not (same_part old new) && not (same_part new l.part)) → let was = if b then x.part else old in let now = if b then x.part else new in
        (same_part was l.part && not (same_part now l.part)) ≡ (not (same_part was now) && not (same_part now l.part))
    by_test true old new e = and_not (same_part x.part l.part) ∙ sym (stays x.part l.part)
    by_test false old new e = e

pub reshaped_all : (P : Layer → Type 0) (shape : LayerShape) (at : ℕ) (ls : List Layer) → All P ls → at < length ls → ((l : Layer) → l ≡ get_or ls at l → P (with_shape shape l)) → All P (reshaped shape at ls)
reshaped_all P shape at [] h within own = h
reshaped_all P shape zero (l ∷ ls) h within own = All-cons P _ ls (own l refl) (All-tail P l ls h)
reshaped_all P shape (suc at) (l ∷ ls) h within own = All-cons P l _ (All-head P l ls h) (reshaped_all P shape at ls (All-tail P l ls h) (omega arith) own)

-- the layer at an index written anew
pub shape_set : (ls : List Layer) (at : ℕ) (l : Layer) (shape : LayerShape) → l ≡ get_or ls at l → set ls at (with_shape shape l) ≡ reshaped shape at ls
shape_set [] at l shape e = refl
shape_set (x ∷ ls) zero l shape e = ap (λ (y : Layer). with_shape shape y ∷ ls) e
shape_set (x ∷ ls) (suc at) l shape e = ap (λ xs. x ∷ xs) (shape_set ls at l shape e)

reshaped_at : (shape : LayerShape) (at : ℕ) (ls : List Layer) (l d : Layer) → at < length ls → l ≡ get_or ls at l → with_shape shape l ≡ get_or (reshaped shape at ls) at d
reshaped_at shape at [] l d within read = absurd (omega arith)
reshaped_at shape zero (x ∷ ls) l d within read = ap (with_shape shape) read
reshaped_at shape (suc at) (x ∷ ls) l d within read = reshaped_at shape at ls l d (omega arith) read

-- the same, where it is told what the layer had and what it has
pub reshaped_gained : (shape : LayerShape) (at : ℕ) (ls new : List Layer) (l : Layer) (p : Point) (had has : Bool) → at < length ls → l ≡ get_or ls at l → new ≡ reshaped shape at ls
    → had ≡ belongs_to l.part ls p → ((k : Layer) → k ≡ get_or new at k → has ≡ belongs_to k.part new p) → (had && not has) ≡ is_gained (Some l.part) ls new p
reshaped_gained shape at ls new l p had has within read new_is its own =
    let here : with_shape shape l ≡ get_or new at (with_shape shape l) = reshaped_at shape at ls l (with_shape shape l) within read ∙ sym (ap (λ xs. get_or xs at (with_shape shape l)) new_is) in
    let has_is : has ≡ belongs_to l.part new p = own (with_shape shape l) here in
    (λ i. its i && not (has_is i))
    ∙ ap (λ xs. belongs_to l.part ls p && not (belongs_to l.part xs p)) new_is
    ∙ reshaped_gains shape at ls l p within read
    ∙ ap (λ xs. is_gained (Some l.part) ls xs p) (sym new_is)
