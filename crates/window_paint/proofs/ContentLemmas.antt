-- All of a window's content, drawn part by part.
use Rattle.std.proofs.Common.{◌≡◌, ℕ, zero, suc, ◌+◌, ◌<◌, Bool, true, false, not, ◌&&◌, ◌||◌, if◌then◌else◌, cond, List, [], ◌∷◌, ◌++◌, length, get_or, take, refl, sym, ap, ◌∙◌, subst, arith}
use Rattle.std.proofs.Math.Seq.{take-length}
use Rattle.std.proofs.lemmas.List.{take_more}
use Rattle.tb_geom.specs.declared.point.Point.{Point}
use Rattle.tb_geom.specs.Points.{PixelSet, minus}
use Rattle.bit_map.specs.Bits.{Bits}
use Rattle.bit_blit.specs.Draws.{Draws}
use Rattle.bit_blit.proofs.DrawsLemmas.{Draws-over, Draws-same}
use Rattle.desk_layers.specs.declared.part.Part.{Part}
use Rattle.desk_layers.specs.declared.part.Part.TheVariants as part
use Rattle.desk_layers.specs.Desk.{same_part}
use Rattle.desk_layers.proofs.Owning.{same_part-self, same_part-true}
use Rattle.window_list.specs.declared.layer.Layer.{Layer}
use Rattle.window_list.specs.Holders.{layer_has, part_at, belongs_to, ArePartsApart}
use Rattle.window_list.proofs.Parts.{covered_is}
use Rattle.window_list.specs.declared.window.Window.{Window}
use Rattle.window_paint.specs.Hidden.{is_hidden}
use Rattle.window_paint.specs.Shown.{picture_shown, part_shown, content_shown}

-- the part is the picture, or one of these layers
abbrev pub is_drawn : List Layer → Part → Bool
is_drawn [] q = same_part q part.Picture
is_drawn (l ∷ ls) q = same_part q l.part || is_drawn ls q

drawn_snoc : (ls : List Layer) (l : Layer) (q : Part) → is_drawn (ls ++ l ∷ []) q ≡ (same_part q l.part || is_drawn ls q)
drawn_snoc [] l q = refl
drawn_snoc (k ∷ ls) l q = ap (λ b. same_part q k.part || b) (drawn_snoc ls l q) ∙ exchanged (same_part q k.part) (same_part q l.part) (is_drawn ls q)
  where
    exchanged : (a b c : Bool) → (a || (b || c)) ≡ (b || (a || c))
    exchanged true true c = refl
    exchanged true false c = refl
    exchanged false b c = refl

-- each pixel belongs to the picture or to a layer
all_drawn : (ls : List Layer) (p : Point) → is_drawn ls (part_at ls p) ≡ true
all_drawn [] p = refl
all_drawn (l ∷ ls) p = by_test (layer_has l p) (same_part-self l.part) (all_drawn ls p)
  where
    by_test : (b : Bool) → same_part l.part l.part ≡ true → is_drawn ls (part_at ls p) ≡ true
        → (same_part (if b then l.part else part_at ls p) l.part || is_drawn ls (if b then l.part else part_at ls p)) ≡ true
    by_test true same rest = ap (λ b. b || is_drawn ls l.part) same
    by_test false same rest = ap (λ b. same_part (part_at ls p) l.part || b) rest ∙ or_true (same_part (part_at ls p) l.part)
      where
        or_true : (b : Bool) → (b || true) ≡ true
        or_true true = refl
        or_true false = refl

-- a list has something at each of its places
pub layer_there : (ls : List Layer) (i : ℕ) → i < length ls → (l : Layer) × (l ≡ get_or ls i l)
layer_there [] i low = absurd (omega arith)
layer_there (l ∷ ls) zero low = (l, refl)
layer_there (l ∷ ls) (suc i) low = layer_there ls i (omega arith)

-- and only one
pub layer_same : (ls : List Layer) (i : ℕ) (k l : Layer) → i < length ls → k ≡ get_or ls i k → l ≡ get_or ls i l → k ≡ l
layer_same [] i k l low e f = absurd (omega arith)
layer_same (m ∷ ls) zero k l low e f = e ∙ sym f
layer_same (m ∷ ls) (suc i) k l low e f = layer_same ls i k l (omega arith) e f

module _ {V : Type 0} {H : V → Type 0} (font : List ℕ) (shows : Part → PixelSet) (w : Window V H) (region : PixelSet) where
  abbrev its : Point → Part
  its p = part_at w.layers.layers (minus p w.layers.place)

  -- what these layers of the window and its picture show, drawn on a region
  abbrev pub AreDrawn : List Layer → Bits → Bits → Type 0
  AreDrawn ls = Draws (λ p. region p && is_drawn ls (part_at w.layers.layers (minus p w.layers.place))) (λ p _. content_shown font shows w p)

  picture_is : (q : Part) (p : Point) → same_part q part.Picture ≡ true → picture_shown font w p ≡ part_shown font shows w q p
  picture_is part.Picture p e = refl
  picture_is (part.Control n) p e = absurd (cc)
  picture_is (part.List n) p e = absurd (cc)
  picture_is (part.Text n) p e = absurd (cc)

  -- what a layer shows
  pub layer_is : (q k : Part) (p : Point) → same_part k part.Picture ≡ false → same_part q k ≡ true → shows k (minus p w.place) ≡ part_shown font shows w q p
  layer_is q k p no_picture e = subst (λ r. shows k (minus p w.place) ≡ part_shown font shows w r p) (sym (same_part-true q k e)) (by_kind k no_picture)
    where
      by_kind : (k : Part) → same_part k part.Picture ≡ false → shows k (minus p w.place) ≡ part_shown font shows w k p
      by_kind part.Picture f = absurd (cc)
      by_kind (part.Control n) f = refl
      by_kind (part.List n) f = refl
      by_kind (part.Text n) f = refl

  -- the picture, where no layer hides it
  pub picture_drawn : (old new : Bits) → ArePartsApart w.layers.layers
      → Draws (λ p. region p && not (is_hidden w p)) (λ p _. picture_shown font w p) old new → AreDrawn [] old new
  picture_drawn old new apart drawn =
      Draws-same _ _ _ (λ p _. content_shown font shows w p) old new
      (λ p d on. ap (λ h. cond (region p && not h) (picture_shown font w p) d) (covered_is w.layers.layers (minus p w.layers.place) apart) ∙ each p d (region p) (same_part (its p) part.Picture) refl) drawn
    where
      each : (p : Point) (d r b : Bool) → same_part (its p) part.Picture ≡ b
          → cond (r && not (not b)) (picture_shown font w p) d ≡ cond (r && b) (content_shown font shows w p) d
      each p d false b same = refl
      each p d true true same = picture_is (its p) p same
      each p d true false same = refl

  -- and one layer more
  pub one_drawn : (l : Layer) (ls : List Layer) (old mid new : Bits) → same_part l.part part.Picture ≡ false → AreDrawn ls old mid
      → Draws (λ p. region p && belongs_to l.part w.layers.layers (minus p w.layers.place)) (λ p _. shows l.part (minus p w.place)) mid new
      → AreDrawn (ls ++ l ∷ []) old new
  one_drawn l ls old mid new no_picture so one =
      Draws-over _ _ _ (λ p _. content_shown font shows w p) _ (λ p _. content_shown font shows w p) old mid new
      (λ p d on. each p d (region p) (same_part (its p) l.part) refl (is_drawn ls (its p)) ∙ ap (λ b. cond (region p && b) (content_shown font shows w p) d) (sym (drawn_snoc ls l (its p)))) so one
    where
      each : (p : Point) (d r b : Bool) → same_part (its p) l.part ≡ b → (c : Bool)
          → cond (r && b) (shows l.part (minus p w.place)) (cond (r && c) (content_shown font shows w p) d) ≡ cond (r && (b || c)) (content_shown font shows w p) d
      each p d false b same c = refl
      each p d true true same c = layer_is (its p) l.part p no_picture same
      each p d true false same c = refl

  -- the layers up to one, and that one
  pub drawn_more : (i : ℕ) (old mid new : Bits) → i < length w.layers.layers → ArePartsApart w.layers.layers
      → AreDrawn (take i w.layers.layers) old mid
      → ((l : Layer) → l ≡ get_or w.layers.layers i l → Draws (λ p. region p && belongs_to l.part w.layers.layers (minus p w.layers.place)) (λ p _. shows l.part (minus p w.place)) mid new)
      → AreDrawn (take (i + 1) w.layers.layers) old new
  drawn_more i old mid new low apart so one =
      let found = layer_there w.layers.layers i low in
      let l : Layer = found.0 in
      let read : l ≡ get_or w.layers.layers i l = found.1 in
      let more : take i w.layers.layers ++ l ∷ [] ≡ take (i + 1) w.layers.layers = sym (take_more w.layers.layers i l low ∙ ap (λ k. take i w.layers.layers ++ k ∷ []) (sym read)) in
      subst (λ ls. AreDrawn ls old new) more (one_drawn l (take i w.layers.layers) old mid new (subst (λ k. same_part k.part part.Picture ≡ false) (sym read) (apart.0 i l low)) so (one l read))

  -- and all of them
  pub all_content : (i : ℕ) (old new : Bits) → i ≡ length w.layers.layers → AreDrawn (take i w.layers.layers) old new
      → Draws region (λ p _. content_shown font shows w p) old new
  all_content i old new all so =
      let whole = subst (λ ls. AreDrawn ls old new) (ap (λ n. take n w.layers.layers) all ∙ take-length w.layers.layers) so in
      Draws-same _ region _ _ old new (λ p d on. (λ k. cond (held p k) (content_shown font shows w p) d)) whole
    where
      and_true : (b : Bool) → (b && true) ≡ b
      and_true true = refl
      and_true false = refl

      held : (p : Point) → (region p && is_drawn w.layers.layers (its p)) ≡ region p
      held p = ap (λ b. region p && b) (all_drawn w.layers.layers (minus p w.layers.place)) ∙ and_true (region p)
