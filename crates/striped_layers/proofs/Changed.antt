-- Layers put in, in another shape and taken out: what they are then, and the part that is drawn afresh.
use Rattle.std.proofs.Common.{◌≡◌, ℕ, zero, suc, ◌<◌, ◌≤◌, arith, false, List, [], ◌∷◌, length, get_or, refl, sym, ap, ◌∙◌, subst, Option, None, Some}
use Rattle.std.specs.Prelude.{IfSome, slice_index_or}
use Rattle.std.specs.List.{All, insert, remove}
use Rattle.std.proofs.lemmas.List.Elements.{All-head, All-tail, All-cons}
use Rattle.tb_geom.specs.declared.point.Point.{Point}
use Rattle.tb_geom.specs.Points.{minus}
use Rattle.tb_geom.specs.Pixels.{holds}
use Rattle.desk_layers.specs.declared.part.Part.{Part}
use Rattle.desk_layers.specs.declared.part.Part.TheVariants as part
use Rattle.desk_layers.specs.Desk.{same_part}
use Rattle.window_list.specs.declared.layer.Layer.{Layer}
use Rattle.window_list.specs.declared.layer.LayerShape.{LayerShape}
use Rattle.window_list.specs.declared.layers.Relaid.{Relaid}
use Rattle.window_list.specs.Holders.{PlacedLayers, ArePartsApart}
use Rattle.window_list.specs.LayerChanges.{reshaped, is_gained}
use Rattle.window_list.proofs.Gains.{insert_all}
use Rattle.window_list.proofs.Parts.{same_part-turned, front_apart, reshaped_length, reshaped_part, reshaped_apart, remove_apart}
use Rattle.window_list.specs.declared.list.WindowList.{WindowList}
use Rattle.window_list.specs.declared.window.Window.{Window}
use Rattle.window_mgr.specs.Edits.{IsWindowAt}
use Rattle.window_mgr.specs.Relayered.{IsPartAt}
use Rattle.striped_layers.specs.Relaying.{IsRelaying}

-- ---- layers at an index

-- within the list, the default does not matter
any_default : {X : Type 0} (xs : List X) (i : ℕ) (d e : X) → i < length xs → get_or xs i d ≡ get_or xs i e
any_default [] i d e low = absurd (omega arith)
any_default (x ∷ xs) zero d e low = refl
any_default (x ∷ xs) (suc i) d e low = any_default xs i d e (omega arith)

-- what stands there is one
pub one_there : {X : Type 0} (xs : List X) (i : ℕ) (x y : X) → i < length xs → x ≡ slice_index_or xs i x → y ≡ slice_index_or xs i y → x ≡ y
one_there xs i x y low at_x at_y = at_x ∙ any_default xs i x y low ∙ sym at_y

-- a window that was read in a list is there in a list that is the same
pub read_there : {V : Type 0} {H : V → Type 0} (list was : WindowList V H) (at : ℕ) (w : Window V H) → list ≡ was → w ≡ slice_index_or list.records.items at w → IsWindowAt was.records.items at w
read_there {V = V} {H = H} list was at w same read = subst (λ (l : WindowList V H). IsWindowAt l.records.items at w) same read

-- the part of the layer at the index, if one is given
abbrev pub part_of : List Layer → Option ℕ → Option Part
part_of ls None = None
part_of [] (Some i) = None
part_of (l ∷ ls) (Some i) = Some (get_or (l ∷ ls) i l).part

pub part_is : (ls : List Layer) (afresh : Option ℕ) → IfSome afresh (λ i. i < length ls) → IsPartAt ls afresh (part_of ls afresh)
part_is ls None low = refl
part_is [] (Some i) low = absurd (omega arith)
part_is (l ∷ ls) (Some i) low = λ k read. ap (λ (x : Layer). Some x.part) (any_default (l ∷ ls) i l k low ∙ sym read)

-- ---- one put in

insert_length : (ls : List Layer) (at : ℕ) (l : Layer) → at ≤ length ls → length (insert ls at l) ≡ suc (length ls)
insert_length ls zero l low = refl
insert_length [] (suc at) l low = absurd (omega arith)
insert_length (x ∷ ls) (suc at) l low = ap suc (insert_length ls at l (omega arith))

insert_there : (ls : List Layer) (at : ℕ) (l d : Layer) → at ≤ length ls → get_or (insert ls at l) at d ≡ l
insert_there ls zero l d low = refl
insert_there [] (suc at) l d low = absurd (omega arith)
insert_there (x ∷ ls) (suc at) l d low = insert_there ls at l d (omega arith)

-- a layer in front of others, no picture and of another part than each
front_of : (l : Layer) (ls : List Layer) → same_part l.part part.Picture ≡ false → All (λ k. same_part l.part k.part ≡ false) ls → ArePartsApart ls → ArePartsApart (l ∷ ls)
front_of l ls no_picture others rest = (All-cons (λ k. same_part k.part part.Picture ≡ false) l ls no_picture rest.0, pairs)
  where
    pairs : (i j : ℕ) (d : Layer) → i < j → j < length (l ∷ ls) → same_part (get_or (l ∷ ls) i d).part (get_or (l ∷ ls) j d).part ≡ false
    pairs i zero d less within = absurd (omega arith)
    pairs zero (suc j) d less within = others j d (omega arith)
    pairs (suc i) (suc j) d less within = rest.1 i j d (omega arith) (omega arith)

pub insert_apart : (ls : List Layer) (at : ℕ) (l : Layer) → same_part l.part part.Picture ≡ false → All (λ k. same_part l.part k.part ≡ false) ls → ArePartsApart ls → ArePartsApart (insert ls at l)
insert_apart ls zero l no_picture others rest = front_of l ls no_picture others rest
insert_apart [] (suc at) l no_picture others rest = front_of l [] no_picture others rest
insert_apart (x ∷ ls) (suc at) l no_picture others rest =
    let front = front_apart x ls rest in
    front_of x (insert ls at l) front.picture
    (insert_all (λ k. same_part x.part k.part ≡ false) ls at l front.others (same_part-turned x.part l.part ∙ All-head (λ k. same_part l.part k.part ≡ false) x ls others))
    (insert_apart ls at l no_picture (All-tail (λ k. same_part l.part k.part ≡ false) x ls others) front.rest)

-- ---- the changes

-- what a change gains, where this part is drawn afresh
abbrev Gains : PlacedLayers → Option Part → Relaid → Type 0
Gains old q r = (p : Point) → holds r.gained p ≡ is_gained q old.layers r.layers.layers (minus p old.place)

pub put_in : (old : PlacedLayers) (at : ℕ) (l : Layer) (r : Relaid) → at ≤ length old.layers → ArePartsApart (insert old.layers at l)
    → r.layers ≡ record old { layers = insert old.layers at l } → Gains old (Some l.part) r → IsRelaying old (record { relaid = r; afresh = Some at })
put_in old at l r low apart is gains = record {
  place = ap (λ (x : PlacedLayers). x.place) is;
  apart = subst (λ (x : PlacedLayers). ArePartsApart x.layers) (sym is) apart;
  afresh = subst (λ (x : PlacedLayers). at < length x.layers) (sym is) (let e = insert_length old.layers at l low in omega arith);
  gained = λ q part_at p. gains p ∙ ap (λ a. is_gained a old.layers r.layers.layers (minus p old.place))
      (sym (part_at l (sym (ap (λ (x : PlacedLayers). get_or x.layers at l) is ∙ insert_there old.layers at l l low))));
}

pub put_anew : (old : PlacedLayers) (at : ℕ) (shape : LayerShape) (l : Layer) (r : Relaid) → at < length old.layers → ArePartsApart old.layers
    → r.layers ≡ record old { layers = reshaped shape at old.layers } → ((k : Layer) → k ≡ slice_index_or old.layers at k → Gains old (Some k.part) r)
    → IsRelaying old (record { relaid = r; afresh = Some at })
put_anew old at shape l r low apart is gains =
    let there : get_or old.layers at l ≡ get_or old.layers at (get_or old.layers at l) = any_default old.layers at l (get_or old.layers at l) low in
    let low_after : at < length r.layers.layers = subst (λ (x : PlacedLayers). at < length x.layers) (sym is) (subst (λ n. at < n) (sym (reshaped_length shape at old.layers)) low) in
    let there_after : get_or r.layers.layers at l ≡ get_or r.layers.layers at (get_or r.layers.layers at l) = any_default r.layers.layers at l (get_or r.layers.layers at l) low_after in
    let same : (get_or r.layers.layers at l).part ≡ (get_or old.layers at l).part = ap (λ (x : PlacedLayers). (get_or x.layers at l).part) is ∙ reshaped_part shape at old.layers at l in
    record {
      place = ap (λ (x : PlacedLayers). x.place) is;
      apart = subst (λ (x : PlacedLayers). ArePartsApart x.layers) (sym is) (reshaped_apart shape at old.layers apart);
      afresh = low_after;
      gained = λ q part_at p. gains (get_or old.layers at l) there p ∙ ap (λ a. is_gained a old.layers r.layers.layers (minus p old.place))
          (sym (part_at (get_or r.layers.layers at l) there_after ∙ ap Some same));
    }

pub taken_out : (old : PlacedLayers) (at : ℕ) (r : Relaid) → at < length old.layers → ArePartsApart old.layers
    → r.layers ≡ record old { layers = remove old.layers at } → Gains old None r → IsRelaying old (record { relaid = r; afresh = None })
taken_out old at r low apart is gains = record {
  place = ap (λ (x : PlacedLayers). x.place) is;
  apart = subst (λ (x : PlacedLayers). ArePartsApart x.layers) (sym is) (remove_apart old.layers at low apart);
  afresh = tt;
  gained = λ q part_at p. gains p ∙ ap (λ a. is_gained a old.layers r.layers.layers (minus p old.place)) (sym part_at);
}
