-- The layers of one kind of a window: the picture, or others, one by one.
use Rattle.std.proofs.Common.{◌≡◌, ℕ, ◌+◌, ◌<◌, Bool, true, false, not, ◌&&◌, ◌||◌, if◌then◌else◌, cond, List, [], ◌∷◌, ◌++◌, length, get_or, take, refl, sym, ap, ◌∙◌, subst}
use Rattle.std.proofs.Math.Seq.{take-length}
use Rattle.std.proofs.lemmas.Bool.{false≢true}
use Rattle.std.proofs.lemmas.List.{take_more}
use Rattle.tb_geom.specs.declared.point.Point.{Point}
use Rattle.tb_geom.specs.Points.{PixelSet, minus}
use Rattle.bit_map.specs.Bits.{Bits}
use Rattle.bit_blit.specs.Draws.{Draws}
use Rattle.bit_blit.proofs.DrawsLemmas.{Draws-over, Draws-same, Draws-where, Draws-none}
use Rattle.desk_layers.specs.declared.part.Part.{Part}
use Rattle.desk_layers.specs.declared.part.Part.TheVariants as part
use Rattle.desk_layers.specs.Desk.{same_part}
use Rattle.desk_layers.proofs.Owning.{same_part-self, same_part-true}
use Rattle.desk_call.specs.declared.update.LayerKind.{LayerKind}
use Rattle.desk_call.specs.declared.update.LayerKind.TheVariants.{Picture, Texts, Lists, Controls}
use Rattle.window_list.specs.declared.layer.Layer.{Layer}
use Rattle.window_list.specs.Holders.{layer_has, part_at, belongs_to, ArePartsApart}
use Rattle.window_list.specs.declared.window.Window.{Window}
use Rattle.window_paint.specs.Hidden.{is_hidden}
use Rattle.window_paint.specs.Shown.{picture_shown, content_shown}
use Rattle.window_paint.specs.Kinds.{is_of, is_kind_there}
use Rattle.window_paint.proofs.ContentLemmas.{layer_is, picture_drawn}

-- the picture is a kind by itself
pub picture_kind : (kind : LayerKind) (q : Part) → is_of kind part.Picture ≡ true → is_of kind q ≡ same_part q part.Picture
picture_kind Picture part.Picture e = refl
picture_kind Picture (part.Control n) e = refl
picture_kind Picture (part.List n) e = refl
picture_kind Picture (part.Text n) e = refl
picture_kind Texts q e = absurd (false≢true e)
picture_kind Lists q e = absurd (false≢true e)
picture_kind Controls q e = absurd (false≢true e)

-- the part is one of these layers, and of this kind
abbrev pub is_among : LayerKind → List Layer → Part → Bool
is_among kind [] q = false
is_among kind (l ∷ ls) q = (is_of kind l.part && same_part q l.part) || is_among kind ls q

among_snoc : (kind : LayerKind) (ls : List Layer) (l : Layer) (q : Part) → is_among kind (ls ++ l ∷ []) q ≡ ((is_of kind l.part && same_part q l.part) || is_among kind ls q)
among_snoc kind [] l q = refl
among_snoc kind (k ∷ ls) l q = ap (λ b. (is_of kind k.part && same_part q k.part) || b) (among_snoc kind ls l q) ∙ exchanged (is_of kind k.part && same_part q k.part) (is_of kind l.part && same_part q l.part) (is_among kind ls q)
  where
    exchanged : (a b c : Bool) → (a || (b || c)) ≡ (b || (a || c))
    exchanged true true c = refl
    exchanged true false c = refl
    exchanged false b c = refl

-- one layer more
pub among_more : (kind : LayerKind) (ls : List Layer) (i : ℕ) (l : Layer) → i < length ls → l ≡ get_or ls i l → (q : Part)
    → is_among kind (take (i + 1) ls) q ≡ ((is_of kind l.part && same_part q l.part) || is_among kind (take i ls) q)
among_more kind ls i l low read q =
    ap (λ ks. is_among kind ks q) (take_more ls i l low ∙ ap (λ k. take i ls ++ k ∷ []) (sym read)) ∙ among_snoc kind (take i ls) l q

-- a kind that is not the picture's: a pixel belongs to one of these layers of it where it belongs to it
pub all_among : (kind : LayerKind) (ls : List Layer) (q : Point) → is_of kind part.Picture ≡ false → is_among kind ls (part_at ls q) ≡ is_of kind (part_at ls q)
all_among kind [] q no_picture = sym no_picture
all_among kind (l ∷ ls) q no_picture = by_test (layer_has l q) (all_among kind ls q no_picture)
  where
    or_self : (a b : Bool) → (b ≡ true → a ≡ true) → (a || b) ≡ a
    or_self true b e = refl
    or_self false true e = sym (e refl)
    or_self false false e = refl

    some_kind : (ks : List Layer) (r : Part) → is_among kind ks r ≡ true → is_of kind r ≡ true
    some_kind [] r e = absurd (cc)
    some_kind (k ∷ ks) r e = one (is_of kind k.part) refl (same_part r k.part) refl (is_among kind ks r) e (some_kind ks r)
      where
        one : (b : Bool) → is_of kind k.part ≡ b → (c : Bool) → same_part r k.part ≡ c → (d : Bool) → ((b && c) || d) ≡ true → (d ≡ true → is_of kind r ≡ true) → is_of kind r ≡ true
        one true of true same d e rest = ap (is_of kind) (same_part-true r k.part same) ∙ of
        one true of false same d e rest = rest e
        one false of c same d e rest = rest e

    by_test : (b : Bool) → is_among kind ls (part_at ls q) ≡ is_of kind (part_at ls q)
        → ((is_of kind l.part && same_part (if b then l.part else part_at ls q) l.part) || is_among kind ls (if b then l.part else part_at ls q)) ≡ is_of kind (if b then l.part else part_at ls q)
    by_test true rest =
        ap (λ c. (is_of kind l.part && c) || is_among kind ls l.part) (same_part-self l.part)
        ∙ ap (λ c. c || is_among kind ls l.part) (and_true (is_of kind l.part))
        ∙ or_self (is_of kind l.part) (is_among kind ls l.part) (some_kind ls l.part)
      where
        and_true : (c : Bool) → (c && true) ≡ c
        and_true true = refl
        and_true false = refl
    by_test false rest = ap (λ c. (is_of kind l.part && same_part (part_at ls q) l.part) || c) rest ∙ under (is_of kind l.part) refl (same_part (part_at ls q) l.part) refl
      where
        under : (b : Bool) → is_of kind l.part ≡ b → (c : Bool) → same_part (part_at ls q) l.part ≡ c → ((b && c) || is_of kind (part_at ls q)) ≡ is_of kind (part_at ls q)
        under true of true same = sym (ap (is_of kind) (same_part-true (part_at ls q) l.part same) ∙ of)
        under true of false same = refl
        under false of c same = refl

-- ---- drawn

module _ {V : Type 0} {H : V → Type 0} (kind : LayerKind) (font : List ℕ) (shows : Part → PixelSet) (w : Window V H) (region : PixelSet) where
  abbrev its : Point → Part
  its p = part_at w.layers.layers (minus p w.layers.place)

  -- what these layers show, those of the kind among them, drawn on a region
  abbrev pub AreKindDrawn : List Layer → Bits → Bits → Type 0
  AreKindDrawn ls = Draws (λ p. region p && is_among kind ls (part_at w.layers.layers (minus p w.layers.place))) (λ p _. content_shown font shows w p)

  pub none_drawn : (old : Bits) → AreKindDrawn [] old old
  none_drawn old = Draws-none _ _ old (λ p on. never (region p))
    where
      never : (b : Bool) → (b && false) ≡ false
      never true = refl
      never false = refl

  -- the picture, which is a kind by itself
  pub picture_of_kind : (old new : Bits) → is_of kind part.Picture ≡ true → ArePartsApart w.layers.layers
      → Draws (λ p. region p && not (is_hidden w p)) (λ p _. picture_shown font w p) old new
      → Draws (λ p. region p && is_kind_there kind w p) (λ p _. content_shown font shows w p) old new
  picture_of_kind old new picture apart drawn =
      Draws-where _ (λ p. region p && is_kind_there kind w p) (λ p _. content_shown font shows w p) old new
      (λ p on. ap (λ b. region p && b) (sym (picture_kind kind (its p) picture)))
      (picture_drawn font shows w region old new apart drawn)

  module _ (i : ℕ) (low : i < length w.layers.layers) (l : Layer) (read : l ≡ get_or w.layers.layers i l) where
    -- a layer of another kind is not drawn
    pub other_kind : (old new : Bits) → is_of kind l.part ≡ false → AreKindDrawn (take i w.layers.layers) old new → AreKindDrawn (take (i + 1) w.layers.layers) old new
    other_kind old new other so =
        Draws-same _ _ _ (λ p _. content_shown font shows w p) old new
        (λ p d on. ap (λ b. cond (region p && b) (content_shown font shows w p) d) (sym (among_more kind w.layers.layers i l low read (its p) ∙ ap (λ b. (b && same_part (its p) l.part) || is_among kind (take i w.layers.layers) (its p)) other))) so

    -- one of the kind is
    pub this_kind : (old mid new : Bits) → is_of kind l.part ≡ true → ArePartsApart w.layers.layers → AreKindDrawn (take i w.layers.layers) old mid
        → ((k : Layer) → k ≡ get_or w.layers.layers i k → Draws (λ p. region p && belongs_to k.part w.layers.layers (minus p w.layers.place)) (λ p _. shows k.part (minus p w.place)) mid new)
        → AreKindDrawn (take (i + 1) w.layers.layers) old new
    this_kind old mid new of apart so one =
        Draws-over _ _ _ (λ p _. content_shown font shows w p) _ (λ p _. content_shown font shows w p) old mid new
        (λ p d on. each p d (region p) (same_part (its p) l.part) refl (is_among kind (take i w.layers.layers) (its p))
        ∙ ap (λ b. cond (region p && b) (content_shown font shows w p) d) (sym (among_more kind w.layers.layers i l low read (its p) ∙ ap (λ b. (b && same_part (its p) l.part) || is_among kind (take i w.layers.layers) (its p)) of)))
        so (one l read)
      where
        no_picture : same_part l.part part.Picture ≡ false
        no_picture = subst (λ k. same_part k.part part.Picture ≡ false) (sym read) (apart.0 i l low)

        each : (p : Point) (d r b : Bool) → same_part (its p) l.part ≡ b → (c : Bool)
            → cond (r && b) (shows l.part (minus p w.place)) (cond (r && c) (content_shown font shows w p) d) ≡ cond (r && (b || c)) (content_shown font shows w p) d
        each p d false b same c = refl
        each p d true true same c = layer_is font shows w region (its p) l.part p no_picture same
        each p d true false same c = refl

  -- and all of them
  pub all_of_kind : (i : ℕ) (old new : Bits) → i ≡ length w.layers.layers → is_of kind part.Picture ≡ false → AreKindDrawn (take i w.layers.layers) old new
      → Draws (λ p. region p && is_kind_there kind w p) (λ p _. content_shown font shows w p) old new
  all_of_kind i old new all no_picture so =
      let whole = subst (λ ls. AreKindDrawn ls old new) (ap (λ n. take n w.layers.layers) all ∙ take-length w.layers.layers) so in
      Draws-same _ _ _ (λ p _. content_shown font shows w p) old new
      (λ p d on. ap (λ b. cond (region p && b) (content_shown font shows w p) d) (all_among kind w.layers.layers (minus p w.layers.place) no_picture)) whole
