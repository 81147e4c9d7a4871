-- Layers of a window that are told apart, and what each of them shows.
use Rattle.std.proofs.Common.{◌≡◌, ℕ, zero, suc, ◌<◌, Bool, true, false, if◌then◌else◌, List, [], ◌∷◌, ◌++◌, length, get_or, set, map, None, Some, refl, sym, ap, ◌∙◌, subst, arith}
use Rattle.std.specs.Prelude.{All, slice_get}
use Rattle.std.proofs.lemmas.List.Elements.{All-nil, All-cons, All-head, All-tail}
use Rattle.tb_geom.specs.declared.point.Point.{Point}
use Rattle.tb_geom.specs.Points.{PixelSet}
use Rattle.desk_layers.specs.declared.part.Part.{Part}
use Rattle.desk_layers.specs.declared.part.Part.TheVariants.{Picture}
use Rattle.desk_layers.specs.declared.part.Part.TheVariants as part
use Rattle.desk_layers.specs.Desk as layers
use Rattle.desk_layers.specs.Owner.{layer_bit}
use Rattle.desk_layers.proofs.Owning.{not_first, same_part-self, same_part-true}
use Rattle.std.proofs.lemmas.List.Kept.{AllPairs-cons}
use Rattle.window_list.specs.declared.layer.Layer.{Layer}
use Rattle.window_list.specs.Holders.{ArePartsApart, layer_has, part_at}
use Rattle.window_list.proofs.Parts.{same_part-turned}
use Rattle.window_list.specs.declared.window.Window.{Window}
use Rattle.vis_update.specs.Records.{WindowRecord, Look, content_layer, picture_layer, layered_window}
use Rattle.window_mgr.specs.Whole.{LieThere}

-- the layers of a window, with these in front of its picture, which lie in this content
abbrev pub layers_with : Look → PixelSet → List Layer → WindowRecord → List layers.ContentLayer
layers_with look content ls w = map (content_layer look content) ls ++ picture_layer look w ∷ []

-- whether a part is among them is told by the parts alone
none_so : (look other : Look) (c d : PixelSet) (w v : WindowRecord) (part : Part) (ls : List Layer) → layers.layer_of part (layers_with look c ls w) ≡ None → layers.layer_of part (layers_with other d ls v) ≡ None
none_so look other c d w v part [] none = by_test (layers.same_part Picture part) none
  where
    by_test : (b : Bool) → (if b then Some (picture_layer look w) else None) ≡ None → (if b then Some (picture_layer other v) else None) ≡ None
    by_test true e = absurd (cc)
    by_test false e = refl
none_so look other c d w v part (l ∷ ls) none = by_test (layers.same_part l.part part) none (none_so look other c d w v part ls)
  where
    by_test : (b : Bool) → (if b then Some (content_layer look c l) else layers.layer_of part (layers_with look c ls w)) ≡ None
        → (layers.layer_of part (layers_with look c ls w) ≡ None → layers.layer_of part (layers_with other d ls v) ≡ None)
        → (if b then Some (content_layer other d l) else layers.layer_of part (layers_with other d ls v)) ≡ None
    by_test true e rest = absurd (cc)
    by_test false e rest = rest e

parts_so : (look other : Look) (c d : PixelSet) (w v : WindowRecord) (ls : List Layer) → layers.AreParts (layers_with look c ls w) → layers.AreParts (layers_with other d ls v)
parts_so look other c d w v [] apart = (refl, tt)
parts_so look other c d w v (l ∷ ls) apart = (none_so look other c d w v l.part ls apart.0, parts_so look other c d w v ls apart.1)

-- windows with the same layers in front of their pictures have them apart alike
pub parts_alike : (look other : Look) (w v : WindowRecord) → v.layers ≡ w.layers → layers.AreParts (layered_window look w).layers → layers.AreParts (layered_window other v).layers
parts_alike look other w v same apart =
    subst (λ ls. layers.AreParts (layers_with other (v.definition.content v.size) ls v)) (sym same)
    (parts_so look other (w.definition.content w.size) (v.definition.content v.size) w v w.layers apart)

-- what a layer shows at a point is told by the layers, by what each shows, and of the picture by what that shows there
pub shown_alike : (look : Look) (w v : WindowRecord) (part : Part) (p q : Point) → v.layers ≡ w.layers → ((part : Part) → look.shows part p ≡ look.shows part q) → (layers.same_part Picture part ≡ true → (picture_layer look w).picture p ≡ (picture_layer look v).picture q)
    → layer_bit (layers.layer_of part (layered_window look w).layers) p ≡ layer_bit (layers.layer_of part (layered_window look v).layers) q
shown_alike look w v part p q same shows pictures =
    among w.layers ∙ ap (λ ls. layer_bit (layers.layer_of part (layers_with look (v.definition.content v.size) ls v)) q) (sym same)
  where
    among : (ls : List Layer) → layer_bit (layers.layer_of part (layers_with look (w.definition.content w.size) ls w)) p ≡ layer_bit (layers.layer_of part (layers_with look (v.definition.content v.size) ls v)) q
    among [] = by_test (layers.same_part Picture part) refl
      where
        by_test : (b : Bool) → layers.same_part Picture part ≡ b → layer_bit (if b then Some (picture_layer look w) else None) p ≡ layer_bit (if b then Some (picture_layer look v) else None) q
        by_test true e = pictures e
        by_test false e = refl
    among (l ∷ ls) = by_test (layers.same_part l.part part) (among ls)
      where
        by_test : (b : Bool) → layer_bit (layers.layer_of part (layers_with look (w.definition.content w.size) ls w)) p ≡ layer_bit (layers.layer_of part (layers_with look (v.definition.content v.size) ls v)) q
            → layer_bit (if b then Some (content_layer look (w.definition.content w.size) l) else layers.layer_of part (layers_with look (w.definition.content w.size) ls w)) p
            ≡ layer_bit (if b then Some (content_layer look (v.definition.content v.size) l) else layers.layer_of part (layers_with look (v.definition.content v.size) ls v)) q
        by_test true rest = shows l.part
        by_test false rest = rest

-- a part that is not among them is not the picture
not_picture : (look : Look) (c : PixelSet) (w : WindowRecord) (part : Part) (ls : List Layer) → layers.layer_of part (layers_with look c ls w) ≡ None → layers.same_part part Picture ≡ false
not_picture look c w part.Picture [] none = absurd (cc)
not_picture look c w (part.Control n) [] none = refl
not_picture look c w (part.List n) [] none = refl
not_picture look c w (part.Text n) [] none = refl
not_picture look c w part (l ∷ ls) none = not_picture look c w part ls (not_first (layers.same_part l.part part) (content_layer look c l) (layers.layer_of part (layers_with look c ls w)) none).1

-- layers that are apart have parts apart
pub are_apart : (look : Look) (w : WindowRecord) → layers.AreParts (layered_window look w).layers → ArePartsApart w.layers
are_apart look w apart = among w.layers apart
  where
    others : (l : Layer) (ls : List Layer) → layers.layer_of l.part (layers_with look (w.definition.content w.size) ls w) ≡ None → All (λ k. layers.same_part l.part k.part ≡ false) ls
    others l [] none = All-nil _
    others l (k ∷ ls) none =
        let first = not_first (layers.same_part k.part l.part) (content_layer look (w.definition.content w.size) k) (layers.layer_of l.part (layers_with look (w.definition.content w.size) ls w)) none in
        All-cons (λ m. layers.same_part l.part m.part ≡ false) k ls (same_part-turned l.part k.part ∙ first.0) (others l ls first.1)

    among : (ls : List Layer) → layers.AreParts (layers_with look (w.definition.content w.size) ls w) → ArePartsApart ls
    among [] each = (All-nil _, λ i j d low within. absurd (omega arith))
    among (l ∷ ls) each =
        let behind = among ls each.1 in (
          All-cons (λ k. layers.same_part k.part Picture ≡ false) l ls (not_picture look (w.definition.content w.size) w l.part ls each.0) behind.0,
          AllPairs-cons (λ j k. layers.same_part j.part k.part ≡ false) l ls (others l ls each.0) behind.1,
        )

-- the picture shows what the window's picture shows
pub picture_shown : (look : Look) (w : WindowRecord) (q : Point) → layers.AreParts (layered_window look w).layers → layer_bit (layers.layer_of Picture (layered_window look w).layers) q ≡ (picture_layer look w).picture q
picture_shown look w q apart = among w.layers apart
  where
    among : (ls : List Layer) → layers.AreParts (layers_with look (w.definition.content w.size) ls w) → layer_bit (layers.layer_of Picture (layers_with look (w.definition.content w.size) ls w)) q ≡ (picture_layer look w).picture q
    among [] each = refl
    among (l ∷ ls) each =
        ap (λ b. layer_bit (if b then Some (content_layer look (w.definition.content w.size) l) else layers.layer_of Picture (layers_with look (w.definition.content w.size) ls w)) q) (not_picture look (w.definition.content w.size) w l.part ls each.0)
        ∙ among ls each.1

-- at a point each layer shows what it is to show, and the picture what the window's picture shows
pub part_bit_is : (look : Look) (w : WindowRecord) (q : Point) → layers.AreParts (layered_window look w).layers
    → layer_bit (layers.layer_of (part_at w.layers q) (layered_window look w).layers) q ≡ (if layers.same_part (part_at w.layers q) Picture then (picture_layer look w).picture q else look.shows (part_at w.layers q) q)
part_bit_is look w q apart = among w.layers apart
  where
    at_first : (l : Layer) (ls : List Layer) (a : Part) → layers.same_part l.part Picture ≡ false → (b : Bool) → layers.same_part l.part a ≡ b
        → layer_bit (layers.layer_of a (layers_with look (w.definition.content w.size) ls w)) q ≡ (if layers.same_part a Picture then (picture_layer look w).picture q else look.shows a q)
        → layer_bit (if b then Some (content_layer look (w.definition.content w.size) l) else layers.layer_of a (layers_with look (w.definition.content w.size) ls w)) q ≡ (if layers.same_part a Picture then (picture_layer look w).picture q else look.shows a q)
    at_first l ls a none true same rest =
        subst (λ x. look.shows l.part q ≡ (if layers.same_part x Picture then (picture_layer look w).picture q else look.shows x q)) (same_part-true l.part a same)
        (sym (ap (λ b. if b then (picture_layer look w).picture q else look.shows l.part q) none))
    at_first l ls a none false same rest = rest

    by_test : (l : Layer) (ls : List Layer) (a : Part) → layers.same_part l.part Picture ≡ false → (b : Bool)
        → layer_bit (layers.layer_of a (layers_with look (w.definition.content w.size) ls w)) q ≡ (if layers.same_part a Picture then (picture_layer look w).picture q else look.shows a q)
        → layer_bit (layers.layer_of (if b then l.part else a) (layers_with look (w.definition.content w.size) (l ∷ ls) w)) q ≡ (if layers.same_part (if b then l.part else a) Picture then (picture_layer look w).picture q else look.shows (if b then l.part else a) q)
    by_test l ls a none true rest =
        ap (λ b. layer_bit (if b then Some (content_layer look (w.definition.content w.size) l) else layers.layer_of l.part (layers_with look (w.definition.content w.size) ls w)) q) (same_part-self l.part)
        ∙ sym (ap (λ b. if b then (picture_layer look w).picture q else look.shows l.part q) none)
    by_test l ls a none false rest = at_first l ls a none (layers.same_part l.part a) refl rest

    among : (ls : List Layer) → layers.AreParts (layers_with look (w.definition.content w.size) ls w)
        → layer_bit (layers.layer_of (part_at ls q) (layers_with look (w.definition.content w.size) ls w)) q ≡ (if layers.same_part (part_at ls q) Picture then (picture_layer look w).picture q else look.shows (part_at ls q) q)
    among [] each = refl
    among (l ∷ ls) each = by_test l ls (part_at ls q) (not_picture look (w.definition.content w.size) w l.part ls each.0) (layer_has l q) (among ls each.1)

-- ---- where they lie

-- the layers of the window at a place of the list lie where it does
pub lies_in : {V : Type 0} {H : V → Type 0} (ws : List (Window V H)) (i : ℕ) (x : Window V H) → i < length ws → x ≡ get_or ws i x → All LieThere ws → LieThere x
lies_in [] i x low read all = absurd (omega arith)
lies_in (w ∷ ws) zero x low read all = subst LieThere (sym read) (All-head LieThere w ws all)
lies_in (w ∷ ws) (suc i) x low read all = lies_in ws i x (omega arith) read (All-tail LieThere w ws all)

-- and so do those of all windows where one of them is changed and lies where it did
pub lies_set : {V : Type 0} {H : V → Type 0} (ws : List (Window V H)) (i : ℕ) (x y : Window V H) → slice_get ws i ≡ Some x → (LieThere x → LieThere y) → All LieThere ws → All LieThere (set ws i y)
lies_set [] i x y there keeps all = all
lies_set (w ∷ ws) zero x y there keeps all =
    let same : w ≡ x = cc in
    All-cons LieThere y ws (keeps (subst LieThere same (All-head LieThere w ws all))) (All-tail LieThere w ws all)
lies_set (w ∷ ws) (suc i) x y there keeps all = All-cons LieThere w (set ws i y) (All-head LieThere w ws all) (lies_set ws i x y there keeps (All-tail LieThere w ws all))
