-- What windows show of their content where text records are changed: all but those that are drawn anew show what they showed.
use Rattle.std.proofs.Common.{◌≡◌, ℕ, ◌||◌, Bool, true, false, cond, List, [], ◌∷◌, map, refl, sym, ap, ◌∙◌}
use Rattle.std.specs.List.{AllZip, list_any}
use Rattle.std.proofs.lemmas.Bool.{eq-eqb, false≢true}
use Rattle.tb_geom.specs.declared.point.Point.{Point}
use Rattle.tb_geom.specs.Points.{PixelSet, minus}
use Rattle.draw_port.specs.Ops.{picture_bit}
use Rattle.desk_layers.specs.declared.part.Part.{Part}
use Rattle.desk_layers.specs.declared.part.Part.TheVariants as part
use Rattle.desk_layers.specs.Desk as layers
use Rattle.desk_layers.specs.Owner.{Owner, is_content, owner, own_bit}
use Rattle.desk_layers.specs.Owner.Owner.{Desktop, Bar, Frame, Content}
use Rattle.desk_call.specs.declared.update.LayerKind.TheVariants.{Texts}
use Rattle.window_items.specs.Items.{has_serial, items_of}
use Rattle.window_list.specs.declared.layer.Layer.{Layer}
use Rattle.window_list.specs.Holders.{layer_has, part_at}
use Rattle.vis_update.specs.Records.{WindowRecord, picture_layer}
use Rattle.window_paint.specs.Kinds.{is_of}
use Rattle.window_mgr.specs.FullDesk.{FullDesk, layered_desk, look_of}
use Rattle.control_mgr.proofs.ControlBits.{IsShownBy, at_serial, bare, same_window, shown_by}
use Rattle.text_mgr.specs.TextDesks.{KeptText, text_bit, texts_show, with_serial}
use Rattle.text_mgr.specs.TextLayers.{AreTextLayersOf, IsLayerOf}
use Rattle.text_mgr.proofs.Layered.{is_text, text_layers}
use Rattle.text_mgr.proofs.Whole.{AreJoined}

-- ---- whose text record it is

-- the layer of a text record at a point is that of one of these
named : (n : ℕ) (ls : List Layer) (xs : List KeptText) (q : Point) → AreTextLayersOf xs ls → part_at ls q ≡ part.Text n → list_any (has_serial n) xs ≡ true
named n [] xs q h e = absurd (cc)
named n (l ∷ ls) xs q h e = by_kind (is_text l) refl xs h (layer_has l q) e (λ ys. named n ls ys q)
  where
    further : (a b : Bool) → b ≡ true → (a || b) ≡ true
    further true b e = refl
    further false b e = e

    by_kind : (b : Bool) → is_text l ≡ b → (xs : List KeptText) → AllZip IsLayerOf xs (cond b (l ∷ text_layers ls) (text_layers ls)) → (c : Bool) → cond c l.part (part_at ls q) ≡ part.Text n
        → ((ys : List KeptText) → AreTextLayersOf ys ls → part_at ls q ≡ part.Text n → list_any (has_serial n) ys ≡ true) → list_any (has_serial n) xs ≡ true
    by_kind false is xs h true e rest = absurd (false≢true (sym is ∙ ap (is_of Texts) e))
    by_kind false is xs h false e rest = rest xs h e
    by_kind true is [] h c e rest = absurd h
    by_kind true is (y ∷ ys) h true e rest =
        let its : part.Text y.serial ≡ part.Text n = sym h.0.part ∙ e in
        let serial : y.serial ≡ n = cc in
        ap (λ b. b || list_any (has_serial n) ys) (eq-eqb y.serial n serial)
    by_kind true is (y ∷ ys) h false e rest = further (has_serial n y) (list_any (has_serial n) ys) (rest ys h.1 e)

pub named_there : (d : FullDesk) (ts : List KeptText) (s n : ℕ) (p : Point) → AreJoined ts d.windows → IsShownBy d s (part.Text n) p → list_any (has_serial n) (items_of s ts) ≡ true
named_there d ts s n p joined its =
    let there = at_serial (λ w. AreTextLayersOf (items_of w.serial ts) w.layers) s d.windows its.window its.found joined in
    ap (λ k. list_any (has_serial n) (items_of k ts)) (sym there.1)
    ∙ named n its.window.layers (items_of its.window.serial ts) (minus p its.window.place) there.0 its.part_is

-- ---- what is shown before and after

-- a text record that is in a window before and after is the same one, unless it is an owner of this sort
abbrev pub StayTexts : (Owner → Bool) → List KeptText → List KeptText → Type 0
StayTexts own ts us = (window n : ℕ) → list_any (has_serial n) (items_of window ts) ≡ true → list_any (has_serial n) (items_of window us) ≡ true
    → own (Content window (part.Text n)) ≡ false → with_serial n us ≡ with_serial n ts

module _ (others : List ℕ → Part → PixelSet) (d e : FullDesk) (ts us : List KeptText) (shows : d.shows ≡ texts_show others ts d.font) (showing : e.shows ≡ texts_show others us e.font) (font : e.font ≡ d.font)
    (windows : map bare e.windows ≡ map bare d.windows) (was : AreJoined ts d.windows) (are : AreJoined us e.windows) (own : Owner → Bool) (stay : StayTexts own ts us) where
  module _ (s : ℕ) (of : Part) (p : Point) (its : IsShownBy d s of p) (now : IsShownBy e s of p) where
    same_bare : bare now.window ≡ bare its.window
    same_bare = same_window s d.windows e.windows its.window now.window windows its.found now.found

    there : minus p its.window.place ≡ minus p now.window.place
    there = ap (λ (w : WindowRecord). minus p w.place) (sym same_bare)

    pictures : (picture_layer (look_of d) its.window).picture (minus p its.window.place) ≡ (picture_layer (look_of e) now.window).picture (minus p now.window.place)
    pictures = λ i. let w = sym same_bare i in picture_bit (sym font i) w.picture (minus (minus p w.place) w.origin)

    shown : texts_show others us d.font of (minus p its.window.place) ≡ texts_show others ts d.font of (minus p its.window.place) → d.shows of (minus p its.window.place) ≡ e.shows of (minus p now.window.place)
    shown same =
        ap (λ f. f of (minus p its.window.place)) shows
        ∙ sym same
        ∙ (λ i. texts_show others us (sym font i) of (there i))
        ∙ sym (ap (λ f. f of (minus p now.window.place)) showing)

  same_bit : (s : ℕ) (of : Part) (p : Point) → IsShownBy d s of p → IsShownBy e s of p → own (Content s of) ≡ false → own_bit (layered_desk d) (Content s of) p ≡ own_bit (layered_desk e) (Content s of) p
  same_bit s part.Picture p its now other = its.bit_is ∙ pictures s part.Picture p its now ∙ sym now.bit_is
  same_bit s (part.List n) p its now other = its.bit_is ∙ shown s (part.List n) p its now refl ∙ sym now.bit_is
  same_bit s (part.Control n) p its now other = its.bit_is ∙ shown s (part.Control n) p its now refl ∙ sym now.bit_is
  same_bit s (part.Text n) p its now other =
      its.bit_is
      ∙ shown s (part.Text n) p its now (ap (λ o. text_bit d.font o (minus p its.window.place)) (stay s n (named_there d ts s n p was its) (named_there e us s n p are now) other))
      ∙ sym now.bit_is

  -- an owner that has the pixel before and after shows there what it showed, unless it is of this sort
  pub same_own : (p : Point) (o : Owner) → layers.IsDesk (layered_desk d) → layers.IsDesk (layered_desk e) → owner (layered_desk d) p ≡ o → owner (layered_desk e) p ≡ o → is_content o ≡ true → own o ≡ false
      → own_bit (layered_desk d) o p ≡ own_bit (layered_desk e) o p
  same_own p (Content s of) apart distinct here still content other = same_bit s of p (shown_by d s of p apart here) (shown_by e s of p distinct still) other
  same_own p Desktop apart distinct here still content other = absurd (false≢true content)
  same_own p Bar apart distinct here still content other = absurd (false≢true content)
  same_own p (Frame s) apart distinct here still content other = absurd (false≢true content)
