-- Layers that are parts apart, and the edits that keep them so.
use Rattle.std.proofs.Common.{◌≡◌, ℕ, zero, suc, ◌<◌, arith, Bool, true, false, not, ◌||◌, ◌==◌, if◌then◌else◌, List, [], ◌∷◌, length, get_or, refl, sym, ap, ◌∙◌}
use Rattle.std.specs.List.{All, remove}
use Rattle.std.proofs.lemmas.Bool.Decides.{nat_tests}
use Rattle.std.proofs.lemmas.List.Elements.{All-head, All-tail, All-append, All-take, All-drop}
use Rattle.std.proofs.lemmas.List.Quantifiers.{all_pairs_remove}
use Rattle.tb_geom.specs.declared.point.Point.{Point}
use Rattle.desk_layers.specs.declared.part.Part.{Part}
use Rattle.desk_layers.specs.declared.part.Part.TheVariants as part
use Rattle.desk_layers.specs.Desk.{same_part}
use Rattle.window_list.specs.declared.layer.Layer.{Layer}
use Rattle.window_list.specs.declared.layer.LayerShape.{LayerShape}
use Rattle.window_list.specs.Holders.{layer_has, is_covered, part_at, belongs_to, ArePartsApart}
use Rattle.window_list.specs.LayerChanges.{reshaped}

same_number-turned : (m n : ℕ) → (m == n) ≡ (n == m)
same_number-turned m n = grind (arith, nat_tests)

pub same_part-turned : (a b : Part) → same_part a b ≡ same_part b a
same_part-turned part.Picture part.Picture = refl
same_part-turned part.Picture (part.Control b) = refl
same_part-turned part.Picture (part.List b) = refl
same_part-turned part.Picture (part.Text b) = refl
same_part-turned (part.Control a) part.Picture = refl
same_part-turned (part.Control a) (part.Control b) = same_number-turned a b
same_part-turned (part.Control a) (part.List b) = refl
same_part-turned (part.Control a) (part.Text b) = refl
same_part-turned (part.List a) part.Picture = refl
same_part-turned (part.List a) (part.Control b) = refl
same_part-turned (part.List a) (part.List b) = same_number-turned a b
same_part-turned (part.List a) (part.Text b) = refl
same_part-turned (part.Text a) part.Picture = refl
same_part-turned (part.Text a) (part.Control b) = refl
same_part-turned (part.Text a) (part.List b) = refl
same_part-turned (part.Text a) (part.Text b) = same_number-turned a b

-- the layer in front is no picture, and another part than each behind it, which are apart too
pub record IsFrontApart (l : Layer) (ls : List Layer) : Type 0 where
  pub picture : same_part l.part part.Picture ≡ false
  pub others : All (λ k. same_part l.part k.part ≡ false) ls
  pub rest : ArePartsApart ls

pub front_apart : (l : Layer) (ls : List Layer) → ArePartsApart (l ∷ ls) → IsFrontApart l ls
front_apart l ls h = record {
  picture = All-head (λ k. same_part k.part part.Picture ≡ false) l ls h.0;
  others = λ k d within. h.1 zero (suc k) d (omega arith) (omega arith);
  rest = (All-tail (λ k. same_part k.part part.Picture ≡ false) l ls h.0, λ i j d less within. h.1 (suc i) (suc j) d (omega arith) (omega arith));
}

-- no pixel belongs to a part that no layer is, and that is not the picture
pub belongs_to-none : (q : Part) (ls : List Layer) (p : Point) → same_part q part.Picture ≡ false → All (λ k. same_part q k.part ≡ false) ls → belongs_to q ls p ≡ false
belongs_to-none q [] p no_picture others = same_part-turned part.Picture q ∙ no_picture
belongs_to-none q (l ∷ ls) p no_picture others =
    by_test (layer_has l p) (same_part-turned l.part q ∙ All-head (λ k. same_part q k.part ≡ false) l ls others)
    (belongs_to-none q ls p no_picture (All-tail (λ k. same_part q k.part ≡ false) l ls others))
  where
    by_test : (b : Bool) → same_part l.part q ≡ false → same_part (part_at ls p) q ≡ false → same_part (if b then l.part else part_at ls p) q ≡ false
    by_test true e rest = e
    by_test false e rest = rest

-- the picture has what is not covered
pub covered_is : (ls : List Layer) (p : Point) → ArePartsApart ls → is_covered ls p ≡ not (belongs_to part.Picture ls p)
covered_is [] p h = refl
covered_is (l ∷ ls) p h =
    let front = front_apart l ls h in
    by_test (layer_has l p) front.picture (covered_is ls p front.rest)
  where
    by_test : (b : Bool) → same_part l.part part.Picture ≡ false → is_covered ls p ≡ not (same_part (part_at ls p) part.Picture) → (b || is_covered ls p) ≡ not (same_part (if b then l.part else part_at ls p) part.Picture)
    by_test true e rest = sym (ap not e)
    by_test false e rest = rest

-- where there are no layers, all is the picture's
pub part_at-none : (p : Point) → part_at [] p ≡ part.Picture
part_at-none p = refl

-- ---- edits that keep parts apart

pub reshaped_length : (shape : LayerShape) (at : ℕ) (ls : List Layer) → length (reshaped shape at ls) ≡ length ls
reshaped_length shape at [] = refl
reshaped_length shape zero (l ∷ ls) = refl
reshaped_length shape (suc at) (l ∷ ls) = ap suc (reshaped_length shape at ls)

pub reshaped_part : (shape : LayerShape) (at : ℕ) (ls : List Layer) (k : ℕ) (d : Layer) → (get_or (reshaped shape at ls) k d).part ≡ (get_or ls k d).part
reshaped_part shape at [] k d = refl
reshaped_part shape zero (l ∷ ls) zero d = refl
reshaped_part shape zero (l ∷ ls) (suc k) d = refl
reshaped_part shape (suc at) (l ∷ ls) zero d = refl
reshaped_part shape (suc at) (l ∷ ls) (suc k) d = reshaped_part shape at ls k d

pub reshaped_apart : (shape : LayerShape) (at : ℕ) (ls : List Layer) → ArePartsApart ls → ArePartsApart (reshaped shape at ls)
reshaped_apart shape at ls h =
    let same = reshaped_length shape at ls in (
      λ k d within. ap (λ q. same_part q part.Picture) (reshaped_part shape at ls k d) ∙ h.0 k d (omega arith),
      λ i j d less within. (λ t. same_part (reshaped_part shape at ls i d t) (reshaped_part shape at ls j d t)) ∙ h.1 i j d less (omega arith),
    )

pub remove_apart : (ls : List Layer) (at : ℕ) → at < length ls → ArePartsApart ls → ArePartsApart (remove ls at)
remove_apart ls at within h = (
  All-append (λ k. same_part k.part part.Picture ≡ false) _ _ (All-take (λ k. same_part k.part part.Picture ≡ false) at ls h.0) (All-drop (λ k. same_part k.part part.Picture ≡ false) (suc at) ls h.0),
  all_pairs_remove (λ k l. same_part k.part l.part ≡ false) ls at within h.1,
)
