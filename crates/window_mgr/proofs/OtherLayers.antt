-- Windows of which one has other layers, which are apart and lie in the range of coordinates.
use Rattle.std.proofs.Common.{◌≡◌, ℕ, zero, suc, ◌==◌, Bool, true, false, if◌then◌else◌, List, [], ◌∷◌, map, None, Some, refl, sym, ap, ◌∙◌, subst}
use Rattle.std.specs.Prelude.{All, slice_get}
use Rattle.std.specs.Option.{option_map}
use Rattle.std.specs.List.{list_all}
use Rattle.std.proofs.lemmas.Bool.{eqb-true}
use Rattle.std.proofs.lemmas.Option.{slice_get-map}
use Rattle.std.proofs.lemmas.List.Elements.{All-cons, All-head, All-tail}
use Rattle.tb_geom.specs.declared.point.Point.{Point}
use Rattle.tb_geom.specs.Points.{PixelSet, minus}
use Rattle.desk_layers.specs.declared.part.Part.{Part}
use Rattle.desk_layers.specs.declared.part.Part.TheVariants.{Picture}
use Rattle.def_iface.specs.Slots.{TakenBox}
use Rattle.def_iface.specs.WindowMeaning.{WindowLoan}
use Rattle.desk_layers.specs.Desk as layers
use Rattle.desk_layers.specs.Owner.{frame_bit}
use Rattle.desk_layers.proofs.Owning.{same_number, not_first}
use Rattle.window_list.specs.declared.layer.Layer.{Layer}
use Rattle.window_list.specs.Holders.{PlacedLayers, ArePartsApart, fits_at}
use Rattle.window_list.proofs.Parts.{front_apart, same_part-turned}
use Rattle.window_list.specs.declared.window.Window.{Window}
use Rattle.window_list.specs.Lists.{edit, with_layers}
use Rattle.vis_update.specs.Records.{WindowRecord, Look, content_layer, picture_layer, layered_window, record_of}
use Rattle.vis_update.specs.Relayings.{with_layers_of, HasLayersAt}
use Rattle.window_mgr.specs.Whole.{IsSettled}
use Rattle.window_mgr.proofs.FindLemmas.{not_among}
use Rattle.window_mgr.proofs.LayerParts.{layers_with}

-- ---- layers that are apart, as layers of a window's content

-- a part that is none of them, and not the picture, is not there
none_is : (look : Look) (c : PixelSet) (w : WindowRecord) (part : Part) (ls : List Layer) → layers.same_part part Picture ≡ false → All (λ k. layers.same_part part k.part ≡ false) ls → layers.layer_of part (layers_with look c ls w) ≡ None
none_is look c w part [] no_picture others = ap (λ b. if b then Some (picture_layer look w) else None) (same_part-turned Picture part ∙ no_picture)
none_is look c w part (l ∷ ls) no_picture others =
    ap (λ b. if b then Some (content_layer look c l) else layers.layer_of part (layers_with look c ls w)) (same_part-turned l.part part ∙ All-head (λ k. layers.same_part part k.part ≡ false) l ls others)
    ∙ none_is look c w part ls no_picture (All-tail (λ k. layers.same_part part k.part ≡ false) l ls others)

pub parts_are : (look : Look) (c : PixelSet) (w : WindowRecord) (ls : List Layer) → ArePartsApart ls → layers.AreParts (layers_with look c ls w)
parts_are look c w [] apart = (refl, tt)
parts_are look c w (l ∷ ls) apart =
    let front = front_apart l ls apart in
    (none_is look c w l.part ls front.picture front.others, parts_are look c w ls front.rest)

module _ (n : ℕ) (ls : List Layer) where
  -- the window of serial n with these layers, and any other as it is
  abbrev pub relaid : WindowRecord → WindowRecord
  relaid = with_layers_of n ls

  abbrev one : Bool → WindowRecord → WindowRecord
  one b w = if b then record w { layers = ls } else w

  -- ---- what stays

  pub same_serial : (w : WindowRecord) → (relaid w).serial ≡ w.serial
  same_serial w = by_test (w.serial == n)
    where
      by_test : (b : Bool) → (one b w).serial ≡ w.serial
      by_test true = refl
      by_test false = refl

  pub same_slot : (w : WindowRecord) → (relaid w).slot ≡ w.slot
  same_slot w = by_test (w.serial == n)
    where
      by_test : (b : Bool) → (one b w).slot ≡ w.slot
      by_test true = refl
      by_test false = refl

  -- windows of other serials
  untouched : (look : Look) (ws : List WindowRecord) → layers.window_of n (map (layered_window look) ws) ≡ None → map relaid ws ≡ ws
  untouched look [] none = refl
  untouched look (w ∷ ws) none =
      let first = not_first (w.serial == n) (layered_window look w) (layers.window_of n (map (layered_window look) ws)) none in
      λ i. one (first.0 i) w ∷ untouched look ws first.1 i

  -- frames, where the font is the same
  pub same_frames : (font : List ℕ) (shows other : Part → PixelSet) (s : ℕ) (ws : List WindowRecord) (p : Point)
      → frame_bit (layers.window_of s (map (layered_window (record { font = font; shows = shows })) (map relaid ws))) p ≡ frame_bit (layers.window_of s (map (layered_window (record { font = font; shows = other })) ws)) p
  same_frames font shows other s [] p = refl
  same_frames font shows other s (w ∷ ws) p = by_test (w.serial == n) (same_frames font shows other s ws p)
    where
      by_serial : (v : WindowRecord) (c : Bool)
          → (layered_window (record { font = font; shows = shows }) v).frame ≡ (layered_window (record { font = font; shows = other }) w).frame → v.place ≡ w.place
          → frame_bit (layers.window_of s (map (layered_window (record { font = font; shows = shows })) (map relaid ws))) p ≡ frame_bit (layers.window_of s (map (layered_window (record { font = font; shows = other })) ws)) p
          → frame_bit (if c then Some (layered_window (record { font = font; shows = shows }) v) else layers.window_of s (map (layered_window (record { font = font; shows = shows })) (map relaid ws))) p
          ≡ frame_bit (if c then Some (layered_window (record { font = font; shows = other }) w) else layers.window_of s (map (layered_window (record { font = font; shows = other })) ws)) p
      by_serial v true frames places rest = λ i. frames i (minus p (places i))
      by_serial v false frames places rest = rest

      by_test : (b : Bool)
          → frame_bit (layers.window_of s (map (layered_window (record { font = font; shows = shows })) (map relaid ws))) p ≡ frame_bit (layers.window_of s (map (layered_window (record { font = font; shows = other })) ws)) p
          → frame_bit (layers.window_of s (map (layered_window (record { font = font; shows = shows })) (one b w ∷ map relaid ws))) p
          ≡ frame_bit (layers.window_of s (map (layered_window (record { font = font; shows = other })) (w ∷ ws))) p
      by_test true rest = by_serial (record w { layers = ls }) (w.serial == s) refl refl rest
      by_test false rest = by_serial w (w.serial == s) refl refl rest

  -- ---- windows that are told apart

  none_so : (look other : Look) (s : ℕ) (ws : List WindowRecord) → layers.window_of s (map (layered_window look) ws) ≡ None → layers.window_of s (map (layered_window other) (map relaid ws)) ≡ None
  none_so look other s [] none = refl
  none_so look other s (w ∷ ws) none =
      let first = not_first (w.serial == s) (layered_window look w) (layers.window_of s (map (layered_window look) ws)) none in
      ap (λ b. if b then Some (layered_window other (relaid w)) else layers.window_of s (map (layered_window other) (map relaid ws))) (ap (λ m. m == s) (same_serial w) ∙ first.0)
      ∙ none_so look other s ws first.1

  pub apart_so : (look : Look) (ws : List WindowRecord) → ArePartsApart ls → layers.AreWindows (map (layered_window look) ws) → layers.AreWindows (map (layered_window look) (map relaid ws))
  apart_so look [] parts apart = tt
  apart_so look (w ∷ ws) parts apart = (
    subst (λ s. layers.window_of s (map (layered_window look) (map relaid ws)) ≡ None) (sym (same_serial w)) (none_so look look w.serial ws apart.0),
    (by_test (w.serial == n) apart.1.0, apart_so look ws parts apart.1.1),
  )
    where
      by_test : (b : Bool) → layers.AreParts (layered_window look w).layers → layers.AreParts (layered_window look (one b w)).layers
      by_test true its = parts_are look (w.definition.content w.size) (record w { layers = ls }) ls parts
      by_test false its = its

  -- ---- windows that are settled

  pub settled_so : (place : Point) (old : List Layer) (ws : List WindowRecord) → list_all (fits_at place) ls ≡ true → All (HasLayersAt n place old) ws → All IsSettled ws → All IsSettled (map relaid ws)
  settled_so place old [] fit has settled = settled
  settled_so place old (w ∷ ws) fit has settled =
      All-cons IsSettled (relaid w) (map relaid ws)
      (by_test (w.serial == n) refl (All-head (HasLayersAt n place old) w ws has) (All-head IsSettled w ws settled))
      (settled_so place old ws fit (All-tail (HasLayersAt n place old) w ws has) (All-tail IsSettled w ws settled))
    where
      by_test : (b : Bool) → (w.serial == n) ≡ b → HasLayersAt n place old w → IsSettled w → IsSettled (one b w)
      by_test true e its at = record {
        origin = at.origin;
        placed = at.placed;
        live = at.live;
        told = at.told;
        fits = at.fits;
        inside = at.inside;
        within = at.within;
        layers = ap (λ q. list_all (fits_at q) ls) (its (eqb-true w.serial n e)).0 ∙ fit;
        goes_by = at.goes_by;
      }
      by_test false e its at = at

-- ---- a window of the list that is given other layers

module _ {V : Type 0} {H : V → Type 0} (loan : TakenBox V H → WindowLoan) (look : Look) (placed : PlacedLayers) where
  pub put_is_map : (ws : List (Window V H)) (i : ℕ) (x : Window V H) → layers.AreWindows (map (layered_window look) (map (record_of loan) ws)) → slice_get ws i ≡ Some x
      → map (record_of loan) (edit (with_layers placed) i ws) ≡ map (relaid x.serial placed.layers) (map (record_of loan) ws)
  put_is_map [] i x distinct there = absurd (cc)
  put_is_map (w ∷ ws) zero x distinct there =
      let same : w ≡ x = cc in
      let its : w.serial ≡ x.serial = ap (λ (y : Window V H). y.serial) same in
      let test : (w.serial == x.serial) ≡ true = ap (λ n. n == x.serial) its ∙ same_number x.serial in
      let none : layers.window_of x.serial (map (layered_window look) (map (record_of loan) ws)) ≡ None = subst (λ n. layers.window_of n (map (layered_window look) (map (record_of loan) ws)) ≡ None) its distinct.0 in
      λ i. one x.serial placed.layers (sym test i) (record_of loan w) ∷ sym (untouched x.serial placed.layers look (map (record_of loan) ws) none) i
  put_is_map (w ∷ ws) (suc i) x distinct there =
      let other : (w.serial == x.serial) ≡ false = not_among look w.serial (map (record_of loan) ws) i (record_of loan x) distinct.0 (slice_get-map (record_of loan) ws i ∙ ap (option_map (record_of loan)) there) in
      λ k. one x.serial placed.layers (sym other k) (record_of loan w) ∷ put_is_map ws i x distinct.1.1 there k
