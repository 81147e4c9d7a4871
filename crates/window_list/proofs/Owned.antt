-- What each of some layers owns, made from front to back.
use Rattle.std.proofs.Common.{◌≡◌, ℕ, zero, suc, ◌+◌, ◌<◌, arith, Bool, true, false, not, ◌&&◌, ◌||◌, if◌then◌else◌, List, [], ◌∷◌, ◌++◌, length, get_or, take, refl, sym, ap, ◌∙◌, subst}
use Rattle.std.proofs.lemmas.List.{take_more}
use Rattle.tb_geom.specs.declared.point.Point.{Point}
use Rattle.tb_geom.specs.Points.{PixelSet, minus}
use Rattle.tb_geom.specs.Pixels.{Pixels, holds}
use Rattle.desk_layers.specs.declared.part.Part.{Part}
use Rattle.desk_layers.specs.Desk.{same_part}
use Rattle.desk_layers.proofs.Owning.{same_part-self}
use Rattle.window_list.specs.declared.layer.Layer.{Layer}
use Rattle.window_list.specs.Holders.{layer_has, is_covered, part_at, belongs_to, ArePartsApart}
use Rattle.window_list.specs.Owned.{IsTaken, AreTaken, nothing, AreOwned}
use Rattle.window_list.proofs.Parts.{front_apart, belongs_to-none}

assoc : (a b c : Bool) → (a || (b || c)) ≡ ((a || b) || c)
assoc true b c = refl
assoc false b c = refl

or_false : (a : Bool) → (a || false) ≡ a
or_false true = refl
or_false false = refl

covered_snoc : (ls : List Layer) (l : Layer) (p : Point) → is_covered (ls ++ l ∷ []) p ≡ (is_covered ls p || layer_has l p)
covered_snoc [] l p = or_false (layer_has l p)
covered_snoc (x ∷ ls) l p = ap (λ b. layer_has x p || b) (covered_snoc ls l p) ∙ assoc (layer_has x p) (is_covered ls p) (layer_has l p)

taken_snoc : (place : Point) (front : PixelSet) (ls : List Layer) (rs : List Pixels) (l : Layer) (r : Pixels) → AreTaken place front ls rs → IsTaken place (λ p. front p || is_covered ls p) l r → AreTaken place front (ls ++ l ∷ []) (rs ++ r ∷ [])
taken_snoc place front [] [] l r h own = ((λ p. own p ∙ ap (λ b. layer_has l (minus p place) && not b) (or_false (front (minus p place)))), tt)
taken_snoc place front (x ∷ ls) (y ∷ rs) l r h own = (h.0, taken_snoc place (λ p. front p || layer_has x p) ls rs l r h.1 (λ p. own p ∙ ap (λ b. layer_has l (minus p place) && not b) (assoc (front (minus p place)) (layer_has x (minus p place)) (is_covered ls (minus p place)))))
taken_snoc place front [] (y ∷ rs) l r h own = absurd h
taken_snoc place front (x ∷ ls) [] l r h own = absurd h

-- the first i layers cover this on the screen
abbrev pub IsCoveredBy : Point → List Layer → ℕ → Pixels → Type 0
IsCoveredBy place ls i covered = (p : Point) → holds covered p ≡ is_covered (take i ls) (minus p place)

-- the layer takes what these pixels of the screen leave
abbrev pub IsLeft : Point → Layer → Pixels → Pixels → Type 0
IsLeft place l covered r = (p : Point) → holds r p ≡ (layer_has l (minus p place) && not (holds covered p))

-- one layer more
pub owned_more : (place : Point) (ls : List Layer) (rs more : List Pixels) (i : ℕ) (l : Layer) (covered r : Pixels) → more ≡ rs ++ r ∷ [] → l ≡ get_or ls i l → i < length ls → AreOwned place (take i ls) rs → IsCoveredBy place ls i covered → IsLeft place l covered r → AreOwned place (take (i + 1) ls) more
owned_more place ls rs more i l covered r e read within h its own =
    subst (λ (x : List Layer × List Pixels). AreOwned place x.0 x.1) (λ k. (sym (take_more ls i l within ∙ ap (λ v. take i ls ++ v ∷ []) (sym read)) k, sym e k))
    (taken_snoc place nothing (take i ls) rs l r h (λ p. own p ∙ ap (λ b. layer_has l (minus p place) && not b) (its p)))

pub covered_more : (place : Point) (ls : List Layer) (i : ℕ) (l : Layer) (covered more r : Pixels) → l ≡ get_or ls i l → i < length ls → IsCoveredBy place ls i covered → IsLeft place l covered r → ((p : Point) → holds more p ≡ (holds covered p || holds r p)) → IsCoveredBy place ls (i + 1) more
covered_more place ls i l covered more r read within its own union p =
    union p ∙ ap (λ b. holds covered p || b) (own p) ∙ once (holds covered p) (layer_has l (minus p place)) ∙ ap (λ b. b || layer_has l (minus p place)) (its p)
    ∙ sym (covered_snoc (take i ls) l (minus p place))
    ∙ ap (λ xs. is_covered xs (minus p place)) (sym (take_more ls i l within ∙ ap (λ v. take i ls ++ v ∷ []) (sym read)))
  where
    once : (c x : Bool) → (c || (x && not c)) ≡ (c || x)
    once true x = refl
    once false true = refl
    once false false = refl

-- ---- the region at an index

taken_at : (place : Point) (front : PixelSet) (ls : List Layer) (rs : List Pixels) (i : ℕ) (l : Layer) (r : Pixels) (p : Point) → AreTaken place front ls rs → ArePartsApart ls → i < length ls → l ≡ get_or ls i l → r ≡ get_or rs i r
    → holds r p ≡ (not (front (minus p place)) && belongs_to l.part ls (minus p place))
taken_at place front [] rs i l r p h apart within read_l read_r = absurd (omega arith)
taken_at place front (x ∷ ls) [] i l r p h apart within read_l read_r = absurd h
taken_at place front (x ∷ ls) (y ∷ rs) zero l r p h apart within read_l read_r =
    let q = minus p place in
    let first = front_apart x ls apart in
    ap (λ s. holds s p) read_r ∙ h.0 p
    ∙ by_test (layer_has x q) (front q) (part_at ls q) (belongs_to-none x.part ls q first.picture first.others)
    ∙ ap (λ (k : Layer). not (front q) && belongs_to k.part (x ∷ ls) q) (sym read_l)
  where
    by_test : (a b : Bool) (rest : Part) → same_part rest x.part ≡ false → (a && not b) ≡ (not b && same_part (if a then x.part else rest) x.part)
    by_test true true rest e = refl
    by_test true false rest e = sym (same_part-self x.part)
    by_test false true rest e = refl
    by_test false false rest e = sym e
taken_at place front (x ∷ ls) (y ∷ rs) (suc i) l r p h apart within read_l read_r =
    let q = minus p place in
    let first = front_apart x ls apart in
    taken_at place (λ u. front u || layer_has x u) ls rs i l r p h.1 first.rest (omega arith) read_l read_r
    ∙ by_test (layer_has x q) (front q) (part_at ls q) (ap (λ (k : Layer). same_part x.part k.part) read_l ∙ first.others i l (omega arith))
  where
    by_test : (a b : Bool) (rest : Part) → same_part x.part l.part ≡ false → (not (b || a) && same_part rest l.part) ≡ (not b && same_part (if a then x.part else rest) l.part)
    by_test a true rest e = refl
    by_test true false rest e = sym e
    by_test false false rest e = refl

-- it has what belongs to the layer's part
pub owned_at : (place : Point) (ls : List Layer) (rs : List Pixels) (i : ℕ) (l : Layer) (r : Pixels) → AreOwned place ls rs → ArePartsApart ls → i < length ls → l ≡ get_or ls i l → r ≡ get_or rs i r → (p : Point) → holds r p ≡ belongs_to l.part ls (minus p place)
owned_at place ls rs i l r h apart within read_l read_r p = taken_at place nothing ls rs i l r p h apart within read_l read_r
