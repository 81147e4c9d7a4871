-- What is promised of windows whose layers show this holds where they show something else, if what was drawn shows the same.
use Rattle.std.proofs.Common.{◌≡◌, ℕ, ◌==◌, Bool, true, false, not, if◌then◌else◌, List, [], ◌∷◌, map, Option, None, Some, refl, sym, ap, ◌∙◌, subst}
use Rattle.std.proofs.lemmas.Bool.{false≢true}
use Rattle.tb_geom.specs.declared.point.Point.{Point}
use Rattle.tb_geom.specs.Points.{PixelSet, minus}
use Rattle.desk_layers.specs.declared.part.Part.{Part}
use Rattle.desk_layers.specs.declared.part.Part.TheVariants as part
use Rattle.desk_layers.specs.Change as plain
use Rattle.desk_layers.specs.Desk as layers
use Rattle.desk_layers.specs.Owner.{Owner, content_bit, is_content, layer_bit, owner, own_bit}
use Rattle.desk_layers.specs.Owner.Owner.{Content}
use Rattle.desk_layers.specs.Scratch.{scratch}
use Rattle.desk_layers.proofs.Owning.{same_owner-true, same_part-true}
use Rattle.desk_layers.proofs.Painting.{scratch_is_owners}
use Rattle.window_list.specs.declared.layer.Layer.{Layer}
use Rattle.desk_call.specs.declared.update.LayerKind.TheVariants.{Controls}
use Rattle.vis_update.specs.Records.{Look, WindowRecord, content_layer, layered_window, picture_layer}
use Rattle.vis_update.specs.Relayings.{afresh_change, is_part_afresh}
use Rattle.window_paint.specs.Kinds.{is_of}
use Rattle.window_paint.specs.White.{all_white}
use Rattle.window_mgr.specs.FullDesk.{FullDesk, FullState, layered_desk, layered_state}
use Rattle.window_mgr.specs.Records.{state_showing}
use Rattle.window_mgr.specs.Relayered.{AreLayersSet, IsLayerRedrawn, redrawn_change}
use Rattle.window_mgr.proofs.LayerParts.{layers_with}
use Rattle.window_mgr.proofs.Showing.{bit_showing, distinct_showing, owner_showing}
use Rattle.control_mgr.specs.ControlDesks.{ControlRecord, controls_show}

-- ---- what a part of a window shows

-- it is told by what layers show of that part
module _ (font : List ℕ) (f g : Part → PixelSet) (q : Part) (same : (p : Point) → f q p ≡ g q p) where
  abbrev looks : (Part → PixelSet) → Look
  looks shows = record { font = font; shows = shows }

  part_alike : (content : PixelSet) (w : WindowRecord) (ls : List Layer) (p : Point)
      → layer_bit (layers.layer_of q (layers_with (looks f) content ls w)) p ≡ layer_bit (layers.layer_of q (layers_with (looks g) content ls w)) p
  part_alike content w [] p = by_test (layers.same_part part.Picture q)
    where
      by_test : (b : Bool) → layer_bit (if b then Some (picture_layer (looks f) w) else None) p ≡ layer_bit (if b then Some (picture_layer (looks g) w) else None) p
      by_test true = refl
      by_test false = refl
  part_alike content w (l ∷ ls) p = by_test (layers.same_part l.part q) refl (part_alike content w ls p)
    where
      by_test : (b : Bool) → layers.same_part l.part q ≡ b
          → layer_bit (layers.layer_of q (layers_with (looks f) content ls w)) p ≡ layer_bit (layers.layer_of q (layers_with (looks g) content ls w)) p
          → layer_bit (if b then Some (content_layer (looks f) content l) else layers.layer_of q (layers_with (looks f) content ls w)) p
          ≡ layer_bit (if b then Some (content_layer (looks g) content l) else layers.layer_of q (layers_with (looks g) content ls w)) p
      by_test true e rest = subst (λ x. f x p ≡ g x p) (sym (same_part-true l.part q e)) (same p)
      by_test false e rest = rest

  window_alike : (s : ℕ) (ws : List WindowRecord) (p : Point)
      → content_bit (layers.window_of s (map (layered_window (looks f)) ws)) q p ≡ content_bit (layers.window_of s (map (layered_window (looks g)) ws)) q p
  window_alike s [] p = refl
  window_alike s (w ∷ ws) p = by_test (w.serial == s) (window_alike s ws p)
    where
      by_test : (b : Bool)
          → content_bit (layers.window_of s (map (layered_window (looks f)) ws)) q p ≡ content_bit (layers.window_of s (map (layered_window (looks g)) ws)) q p
          → content_bit (if b then Some (layered_window (looks f) w) else layers.window_of s (map (layered_window (looks f)) ws)) q p
          ≡ content_bit (if b then Some (layered_window (looks g) w) else layers.window_of s (map (layered_window (looks g)) ws)) q p
      by_test true rest = part_alike (w.definition.content w.size) w w.layers (minus p w.place)
      by_test false rest = rest

-- ---- a change, where layers show something else after it

-- n: the owner is content, a: drawn afresh, h: it had a source, r: shown anew, s: stale; x and y are what painting from nothing
-- gives, v is the value that stays, u the same as drawn on
one_image : (n a h r s x y v u : Bool) → (n ≡ false → x ≡ y) → (a ≡ true → x ≡ y) → (r ≡ true → x ≡ y)
    → (if not n then x else (if a then x else (if not h then false else (if r then (if s then v else x) else u))))
    ≡ (if not n then y else (if a then y else (if not h then false else (if r then (if s then v else y) else u))))
one_image false a h r s x y v u outside afresh anew = outside refl
one_image true true h r s x y v u outside afresh anew = afresh refl
one_image true false false r s x y v u outside afresh anew = refl
one_image true false true true true x y v u outside afresh anew = refl
one_image true false true true false x y v u outside afresh anew = anew refl
one_image true false true false s x y v u outside afresh anew = refl

module _ (f g : List ℕ → Part → PixelSet) (after : FullState) (distinct : layers.IsDesk (layered_desk after.desk)) where
  abbrev now : (List ℕ → Part → PixelSet) → plain.State
  now shows = layered_state (state_showing shows after)

  abbrev AreAlike : Owner → Point → Type 0
  AreAlike o p = own_bit (now f).desk o p ≡ own_bit (now g).desk o p

  same_owners : (p : Point) → owner (now g).desk p ≡ owner (now f).desk p
  same_owners p = owner_showing g after.desk p ∙ sym (owner_showing f after.desk p)

  same_scratch : (p : Point) → AreAlike (owner (now f).desk p) p → scratch (now f).desk p ≡ scratch (now g).desk p
  same_scratch p same =
      scratch_is_owners (now f).desk p (distinct_showing f after.desk distinct)
      ∙ same
      ∙ ap (λ o. own_bit (now g).desk o p) (sym (same_owners p))
      ∙ sym (scratch_is_owners (now g).desk p (distinct_showing g after.desk distinct))

  -- what is no content looks the same
  outside_alike : (o : Owner) (p : Point) → is_content o ≡ false → AreAlike o p
  outside_alike o p e = bit_showing f after.desk o p e ∙ sym (bit_showing g after.desk o p e)

  -- so does a part of which they show the same
  content_alike : (s : ℕ) (q : Part) (p : Point) → ((r : Point) → f after.desk.font q r ≡ g after.desk.font q r) → AreAlike (Content s q) p
  content_alike s q p same = window_alike after.desk.font (f after.desk.font) (g after.desk.font) q same s after.desk.windows p

  reshown : (c : plain.Change) (before : plain.State) → ((o : Owner) (p : Point) → c.afresh o p ≡ true → AreAlike o p) → ((o : Owner) (p : Point) → c.redrawn o ≡ true → AreAlike o p)
      → plain.IsChanged c before (now f) → plain.IsChanged c before (now g)
  reshown c before afresh anew changed = record {
    stale = λ p on. changed.stale p on ∙ ap (λ o. plain.stale_by c before o p) (sym (same_owners p));
    image = λ p on.
        let o = owner (now f).desk p in
        changed.image p on
        ∙ one_image (is_content o) (c.afresh o p) (plain.had c before.desk o p) (c.redrawn o) (plain.stale_by c before o p) (scratch (now f).desk p) (scratch (now g).desk p)
        (before.image (c.source o p)) (c.drawn o p (before.image (c.source o p)))
        (λ e. same_scratch p (outside_alike o p e)) (λ e. same_scratch p (afresh o p e)) (λ e. same_scratch p (anew o p e))
        ∙ ap (λ x. plain.image_by c before (now g).desk x p) (sym (same_owners p));
  }

  -- the part that was drawn afresh, if one was, shows the same
  pub set_reshown : (s : ℕ) (ls : List Layer) (afresh : Option Part) (before : FullState)
      → ((q : Part) → afresh ≡ Some q → (p : Point) → f after.desk.font q p ≡ g after.desk.font q p)
      → AreLayersSet s ls afresh before (state_showing f after) → AreLayersSet s ls afresh before (state_showing g after)
  set_reshown s ls afresh before same set = record {
    desk = ap (λ (d : FullDesk). record d { shows = g after.desk.font }) set.desk;
    pixels = reshown (afresh_change s afresh) (layered_state before) (λ o p e. drawn afresh same o p e) (λ o p e. absurd (false≢true e)) set.pixels;
  }
    where
      drawn : (q : Option Part) → ((x : Part) → q ≡ Some x → (p : Point) → f after.desk.font x p ≡ g after.desk.font x p) → (o : Owner) (p : Point) → is_part_afresh s q o ≡ true → AreAlike o p
      drawn None same o p e = absurd (false≢true e)
      drawn (Some q) same o p e = subst (λ x. AreAlike x p) (sym (same_owner-true o (Content s q) e)) (content_alike s q p (same q refl))

  -- the part that was shown anew shows the same
  pub redrawn_reshown : (s : ℕ) (q : Part) (before : FullState) → ((p : Point) → f after.desk.font q p ≡ g after.desk.font q p)
      → IsLayerRedrawn s q before (state_showing f after) → IsLayerRedrawn s q before (state_showing g after)
  redrawn_reshown s q before same redrawn = record {
    desk = ap (λ (d : FullDesk). record d { shows = g after.desk.font }) redrawn.desk;
    pixels = reshown (redrawn_change s q) (layered_state before) (λ o p e. absurd (false≢true e))
        (λ o p e. subst (λ x. AreAlike x p) (sym (same_owner-true o (Content s q) e)) (content_alike s q p same)) redrawn.pixels;
  }

-- ---- controls that are drawn by themselves

-- what these controls show, where all other layers are white
abbrev pub alone : List ControlRecord → List ℕ → Part → PixelSet
alone cs = controls_show (λ font. all_white) cs

-- a control shows the same, whatever other layers show
same_control : (others : List ℕ → Part → PixelSet) (cs : List ControlRecord) (font : List ℕ) (q : Part) (p : Point) → is_of Controls q ≡ true → alone cs font q p ≡ controls_show others cs font q p
same_control others cs font part.Picture p e = absurd (false≢true e)
same_control others cs font (part.List n) p e = absurd (false≢true e)
same_control others cs font (part.Text n) p e = absurd (false≢true e)
same_control others cs font (part.Control n) p e = refl

-- where a control is the part that was drawn afresh
pub one_control : (n : ℕ) (q : Part) → Some (part.Control n) ≡ Some q → is_of Controls q ≡ true
one_control n q e = let same : part.Control n ≡ q = cc in ap (is_of Controls) (sym same)

module _ (others : List ℕ → Part → PixelSet) (cs : List ControlRecord) (after : FullState) (distinct : layers.IsDesk (layered_desk after.desk)) (s : ℕ) (before : FullState) where
  pub set_among : (ls : List Layer) (afresh : Option Part) → ((q : Part) → afresh ≡ Some q → is_of Controls q ≡ true)
      → AreLayersSet s ls afresh before (state_showing (alone cs) after) → AreLayersSet s ls afresh before (state_showing (controls_show others cs) after)
  set_among ls afresh control set =
      set_reshown (alone cs) (controls_show others cs) after distinct s ls afresh before (λ q e p. same_control others cs after.desk.font q p (control q e)) set

  pub redrawn_among : (q : Part) → is_of Controls q ≡ true → IsLayerRedrawn s q before (state_showing (alone cs) after) → IsLayerRedrawn s q before (state_showing (controls_show others cs) after)
  redrawn_among q control redrawn =
      redrawn_reshown (alone cs) (controls_show others cs) after distinct s q before (λ p. same_control others cs after.desk.font q p control) redrawn
