-- Whose the pixels of a window's content are: those of the first of its layers that has them.
use Rattle.std.proofs.Common.{◌≡◌, ℕ, Bool, true, false, ◌&&◌, if◌then◌else◌, List, [], ◌∷◌, ◌++◌, map, Contains, refl, sym, ap, ◌∙◌, subst}
use Rattle.std.specs.Prelude.{int_lt}
use Rattle.std.proofs.lemmas.Bool.{eqb-true, false≢true}
use Rattle.std.proofs.lemmas.List.Elements.{All-head, All-tail, All-contains, All-contains_itself}
use Rattle.tb_geom.specs.declared.point.Point.{Point}
use Rattle.tb_geom.specs.Points.{minus}
use Rattle.desk_layers.specs.declared.part.Part.{Part}
use Rattle.desk_layers.specs.Desk as layers
use Rattle.desk_layers.specs.Desk.{LayeredDesk}
use Rattle.desk_layers.specs.Owner.{Owner, owner, owner_among, owner_within}
use Rattle.desk_layers.specs.Owner.Owner.{Bar, Frame, Content}
use Rattle.window_list.specs.declared.layer.Layer.{Layer}
use Rattle.window_list.specs.Holders.{layer_has, part_at}
use Rattle.vis_update.specs.Records.{WindowRecord, Look, content_layer, picture_layer, layered_window}
use Rattle.vis_update.specs.Areas.{is_content_of}

-- within a window's structure a pixel of the content is that of its layer there, and every other one is the frame's
pub layers_own : (look : Look) (w : WindowRecord) (ls : List Layer) (p : Point) → owner_within (layered_window look w) (map (content_layer look (w.definition.content w.size)) ls ++ picture_layer look w ∷ []) p
    ≡ (if w.definition.content w.size (minus p w.place) then Content w.serial (part_at ls (minus p w.place)) else Frame w.serial)
layers_own look w [] p = refl
layers_own look w (l ∷ ls) p = by_tests (w.definition.content w.size (minus p w.place)) (layer_has l (minus p w.place)) _ (part_at ls (minus p w.place)) (layers_own look w ls p)
  where
    by_tests : (c x : Bool) (rest : Owner) (part : Part) → rest ≡ (if c then Content w.serial part else Frame w.serial) → (if c && x then Content w.serial l.part else rest) ≡ (if c then Content w.serial (if x then l.part else part) else Frame w.serial)
    by_tests true true rest part e = refl
    by_tests true false rest part e = e
    by_tests false x rest part e = e

-- the owner that a window in front of others gives a pixel: its own, where its structure holds it, else that behind it
abbrev pub first_owner : WindowRecord → Point → Bool → Owner → Owner
first_owner w p inside behind = if inside then (if w.definition.content w.size (minus p w.place) then Content w.serial (part_at w.layers (minus p w.place)) else Frame w.serial) else behind

-- the owner among windows is that of the first one, or one behind it
pub owner_first : (look : Look) (w : WindowRecord) (ws : List WindowRecord) (p : Point) → owner_among (map (layered_window look) (w ∷ ws)) p ≡ first_owner w p (layers.in_structure (layered_window look w) p) (owner_among (map (layered_window look) ws) p)
owner_first look w ws p = ap (λ o. if layers.in_structure (layered_window look w) p then o else owner_among (map (layered_window look) ws) p) (layers_own look w w.layers p)

-- ---- the window of a layer

-- the owner of a pixel is a layer of the content of one of these windows, which has this serial
pub record IsLayerAmong (ws : List WindowRecord) (s : ℕ) (p : Point) (o : Owner) : Type 0 where
  pub window : WindowRecord
  pub among : Contains ws window
  pub serial_is : window.serial ≡ s
  pub owner_is : o ≡ Content s (part_at window.layers (minus p window.place))

-- one window more in front
one_more : (w : WindowRecord) (ws : List WindowRecord) (s : ℕ) (p : Point) (o : Owner) → IsLayerAmong ws s p o → IsLayerAmong (w ∷ ws) s p o
one_more w ws s p o its = record {
  window = its.window;
  among = All-contains (Contains (w ∷ ws)) ws its.window (All-tail (Contains (w ∷ ws)) w ws (All-contains_itself (w ∷ ws))) its.among;
  serial_is = its.serial_is;
  owner_is = its.owner_is;
}

layer_among : (look : Look) (ws : List WindowRecord) (s : ℕ) (p : Point) → is_content_of s (owner_among (map (layered_window look) ws) p) ≡ true → IsLayerAmong ws s p (owner_among (map (layered_window look) ws) p)
layer_among look [] s p e = absurd (false≢true e)
layer_among look (w ∷ ws) s p e =
    subst (IsLayerAmong (w ∷ ws) s p) (sym (owner_first look w ws p))
    (by_tests (layers.in_structure (layered_window look w) p) (w.definition.content w.size (minus p w.place)) (owner_among (map (layered_window look) ws) p) (layer_among look ws s p) (sym (ap (is_content_of s) (owner_first look w ws p)) ∙ e))
  where
    by_tests : (b c : Bool) (u : Owner) → (is_content_of s u ≡ true → IsLayerAmong ws s p u) → is_content_of s (if b then (if c then Content w.serial (part_at w.layers (minus p w.place)) else Frame w.serial) else u) ≡ true
        → IsLayerAmong (w ∷ ws) s p (if b then (if c then Content w.serial (part_at w.layers (minus p w.place)) else Frame w.serial) else u)
    by_tests true true u rest f = record {
      window = w;
      among = All-head (Contains (w ∷ ws)) w ws (All-contains_itself (w ∷ ws));
      serial_is = eqb-true w.serial s f;
      owner_is = ap (λ n. Content n (part_at w.layers (minus p w.place))) (eqb-true w.serial s f);
    }
    by_tests true false u rest f = absurd (false≢true f)
    by_tests false c u rest f = one_more w ws s p u (rest f)

-- content of a window that owns a pixel of a desk is the layer that the record of that window has there
pub owner_of_content : (look : Look) (desk : LayeredDesk) (ws : List WindowRecord) (s : ℕ) (p : Point) → desk.windows ≡ map (layered_window look) ws → is_content_of s (owner desk p) ≡ true → IsLayerAmong ws s p (owner desk p)
owner_of_content look desk ws s p windows e = by_bar (layers.in_bar desk p) e
  where
    by_bar : (b : Bool) → is_content_of s (if b then Bar else owner_among desk.windows p) ≡ true → IsLayerAmong ws s p (if b then Bar else owner_among desk.windows p)
    by_bar true f = absurd (false≢true f)
    by_bar false f = subst (λ vs. is_content_of s (owner_among vs p) ≡ true → IsLayerAmong ws s p (owner_among vs p)) (sym windows) (layer_among look ws s p) f

-- ---- owners of desks that look otherwise

same_among : (look other : Look) (ws : List WindowRecord) (p : Point) → owner_among (map (layered_window look) ws) p ≡ owner_among (map (layered_window other) ws) p
same_among look other [] p = refl
same_among look other (w ∷ ws) p = owner_first look w ws p ∙ ap (first_owner w p (layers.in_structure (layered_window look w) p)) (same_among look other ws p) ∙ sym (owner_first other w ws p)

-- owners do not read what is shown: desks of the same records have the same ones
pub owner_of_any_look : (look other : Look) (one two : LayeredDesk) (ws : List WindowRecord) (p : Point) → one.windows ≡ map (layered_window look) ws → two.windows ≡ map (layered_window other) ws → one.bar ≡ two.bar → owner one p ≡ owner two p
owner_of_any_look look other one two ws p its others bars = λ i. if int_lt p.v (bars i) then Bar else (ap (λ vs. owner_among vs p) its ∙ same_among look other ws p ∙ sym (ap (λ vs. owner_among vs p) others)) i
