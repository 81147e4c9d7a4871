-- What windows show of their content where the controls are changed: all but the changed one show what they showed.
use Rattle.std.proofs.Common.{◌≡◌, ℕ, Bool, true, false, ◌||◌, ◌==◌, cond, if◌then◌else◌, List, [], ◌∷◌, map, Option, Some, None, refl, sym, ap, ◌∙◌, subst, eqb-true, arith}
use Rattle.std.specs.Prelude.{All, is_none}
use Rattle.std.specs.List.{list_any}
use Rattle.std.specs.Option.{option_map}
use Rattle.std.proofs.lemmas.Bool.{false≢true}
use Rattle.std.proofs.lemmas.Bool.Decides.{nat_tests}
use Rattle.std.proofs.lemmas.List.Elements.{All-head, All-tail}
use Rattle.tb_geom.specs.declared.point.Point.{Point}
use Rattle.tb_geom.specs.Points.{PixelSet, minus}
use Rattle.draw_port.specs.Ops.{picture_bit}
use Rattle.window_items.specs.Items.{items_of, has_serial}
use Rattle.desk_layers.specs.declared.part.Part.{Part}
use Rattle.desk_layers.specs.declared.part.Part.TheVariants as part
use Rattle.desk_layers.specs.Desk as layers
use Rattle.desk_layers.specs.Owner.{Owner, content_bit, is_content, layer_bit, owner, owner_among, own_bit}
use Rattle.desk_layers.specs.Owner.Owner.{Desktop, Bar, Frame, Content}
use Rattle.window_list.specs.declared.layer.Layer.{Layer}
use Rattle.window_list.specs.Holders.{layer_has, part_at}
use Rattle.desk_call.specs.declared.update.LayerKind.TheVariants.{Controls}
use Rattle.vis_update.specs.Records.{Look, WindowRecord, layered_window, picture_layer}
use Rattle.vis_update.specs.Relayings.{with_layers_of}
use Rattle.vis_update.proofs.LayerOwners.{owner_first}
use Rattle.window_paint.specs.Kinds.{is_of}
use Rattle.window_mgr.specs.Finding.{record_with}
use Rattle.window_mgr.specs.FullDesk.{FullDesk, layered_desk, look_of}
use Rattle.window_mgr.specs.Refused.{is_missing}
use Rattle.window_mgr.proofs.EachChanged.{map-map}
use Rattle.window_mgr.proofs.LayerParts.{part_bit_is}
use Rattle.control_mgr.specs.ControlDesks.{ControlRecord, control_bit, controls_show}
use Rattle.control_mgr.specs.ControlSteps.{AreLayersOf}
use Rattle.control_mgr.proofs.Edited.{AreNoControls}
use Rattle.control_mgr.proofs.Settled.{AreJoined}
use Rattle.control_mgr.proofs.SerialsFound.{StayControls}

-- ---- windows but for their layers

abbrev pub bare : WindowRecord → WindowRecord
bare w = record w { layers = [] }

bare_with : (s : ℕ) (ws : List WindowRecord) → record_with s (map bare ws) ≡ option_map bare (record_with s ws)
bare_with s [] = refl
bare_with s (w ∷ ws) = by_test (w.serial == s) (bare_with s ws)
  where
    by_test : (b : Bool) → record_with s (map bare ws) ≡ option_map bare (record_with s ws) → cond b (Some (bare w)) (record_with s (map bare ws)) ≡ option_map bare (cond b (Some w) (record_with s ws))
    by_test true rest = refl
    by_test false rest = rest

-- other layers are all that changes
pub bare_laid : (s : ℕ) (ls : List Layer) (ws : List WindowRecord) → map bare (map (with_layers_of s ls) ws) ≡ map bare ws
bare_laid s ls ws = map-map bare (with_layers_of s ls) bare (λ w. by_test w (w.serial == s)) ws
  where
    by_test : (w : WindowRecord) (b : Bool) → bare (cond b (record w { layers = ls }) w) ≡ bare w
    by_test w true = refl
    by_test w false = refl

pub missing_alike : (s : ℕ) (ws vs : List WindowRecord) → map bare vs ≡ map bare ws → is_missing s vs ≡ is_missing s ws
missing_alike s ws vs same =
    sym (none_of (record_with s vs)) ∙ ap is_none (sym (bare_with s vs) ∙ ap (record_with s) same ∙ bare_with s ws) ∙ none_of (record_with s ws)
  where
    none_of : (o : Option WindowRecord) → is_none (option_map bare o) ≡ is_none o
    none_of None = refl
    none_of (Some w) = refl

-- the windows of one serial are the same, but for their layers
pub same_window : (s : ℕ) (ws vs : List WindowRecord) (w v : WindowRecord) → map bare vs ≡ map bare ws → record_with s ws ≡ Some w → record_with s vs ≡ Some v → bare v ≡ bare w
same_window s ws vs w v same was is =
    let both : Some (bare v) ≡ Some (bare w) = ap (option_map bare) (sym is) ∙ sym (bare_with s vs) ∙ ap (record_with s) same ∙ bare_with s ws ∙ ap (option_map bare) was in
    cc

-- what holds of each window holds of that of a serial, which has the serial
pub at_serial : (P : WindowRecord → Type 0) (s : ℕ) (ws : List WindowRecord) (w : WindowRecord) → record_with s ws ≡ Some w → All P ws → P w × (w.serial ≡ s)
at_serial P s [] w found h = absurd (cc)
at_serial P s (v ∷ vs) w found h = by_test (at_serial P s vs w) (v.serial == s) refl found
  where
    by_test : (record_with s vs ≡ Some w → All P vs → P w × (w.serial ≡ s)) → (b : Bool) → (v.serial == s) ≡ b → cond b (Some v) (record_with s vs) ≡ Some w → P w × (w.serial ≡ s)
    by_test rest true e found =
        let same : v ≡ w = cc in
        subst (λ x. P x × (x.serial ≡ s)) same (All-head P v vs h, eqb-true v.serial s e)
    by_test rest false e found = rest found (All-tail P v vs h)

-- ---- the window that has a pixel, and what it shows there

-- the window of this serial has the pixel for this part, and shows there what that shows
pub record IsShownBy (d : FullDesk) (s : ℕ) (of : Part) (p : Point) : Type 0 where
  pub window : WindowRecord
  pub found : record_with s d.windows ≡ Some window
  pub part_is : part_at window.layers (minus p window.place) ≡ of
  pub bit_is : own_bit (layered_desk d) (Content s of) p
      ≡ (if layers.same_part of part.Picture then (picture_layer (look_of d) window).picture (minus p window.place) else d.shows of (minus p window.place))

record IsAmong (look : Look) (ws : List WindowRecord) (s : ℕ) (of : Part) (p : Point) : Type 0 where
  window : WindowRecord
  found : record_with s ws ≡ Some window
  layered : layers.window_of s (map (layered_window look) ws) ≡ Some (layered_window look window)
  apart : layers.AreParts (layered_window look window).layers
  part_is : part_at window.layers (minus p window.place) ≡ of

among : (look : Look) (ws : List WindowRecord) (s : ℕ) (of : Part) (p : Point) → layers.AreWindows (map (layered_window look) ws) → owner_among (map (layered_window look) ws) p ≡ Content s of → IsAmong look ws s of p
among look [] s of p apart e = absurd (cc)
among look (w ∷ ws) s of p apart e =
    by_tests (layers.in_structure (layered_window look w) p) (w.definition.content w.size (minus p w.place)) (owner_among (map (layered_window look) ws) p) (among look ws s of p apart.1.1) (sym (owner_first look w ws p) ∙ e)
  where
    first : w.serial ≡ s → part_at w.layers (minus p w.place) ≡ of → IsAmong look (w ∷ ws) s of p
    first serial its = record {
      window = w;
      found = ap (λ b. cond b (Some w) (record_with s ws)) (same w.serial s serial);
      layered = ap (λ b. cond b (Some (layered_window look w)) (layers.window_of s (map (layered_window look) ws))) (same w.serial s serial);
      apart = apart.1.0;
      part_is = its;
    }
      where
        same : (a b : ℕ) → a ≡ b → (a == b) ≡ true
        same a b e = grind (arith, nat_tests)

    behind : IsAmong look ws s of p → IsAmong look (w ∷ ws) s of p
    behind its = by_test (w.serial == s) refl
      where
        by_test : (b : Bool) → (w.serial == s) ≡ b → IsAmong look (w ∷ ws) s of p
        by_test true e =
            let none : layers.window_of s (map (layered_window look) ws) ≡ None = ap (λ n. layers.window_of n (map (layered_window look) ws)) (sym (eqb-true w.serial s e)) ∙ apart.0 in
            let some = its.layered in
            absurd (cc)
        by_test false e = record {
          window = its.window;
          found = ap (λ b. cond b (Some w) (record_with s ws)) e ∙ its.found;
          layered = ap (λ b. cond b (Some (layered_window look w)) (layers.window_of s (map (layered_window look) ws))) e ∙ its.layered;
          apart = its.apart;
          part_is = its.part_is;
        }

    by_tests : (b c : Bool) (u : Owner) → (u ≡ Content s of → IsAmong look ws s of p)
        → (if b then (if c then Content w.serial (part_at w.layers (minus p w.place)) else Frame w.serial) else u) ≡ Content s of → IsAmong look (w ∷ ws) s of p
    by_tests true true u rest e =
        let serial : w.serial ≡ s = cc in
        let its : part_at w.layers (minus p w.place) ≡ of = cc in
        first serial its
    by_tests true false u rest e = absurd (cc)
    by_tests false c u rest e = behind (rest e)

pub shown_by : (d : FullDesk) (s : ℕ) (of : Part) (p : Point) → layers.IsDesk (layered_desk d) → owner (layered_desk d) p ≡ Content s of → IsShownBy d s of p
shown_by d s of p apart e = by_bar (layers.in_bar (layered_desk d) p) e
  where
    shown : IsAmong (look_of d) d.windows s of p → IsShownBy d s of p
    shown its = record {
      window = its.window;
      found = its.found;
      part_is = its.part_is;
      bit_is = ap (λ o. content_bit o of p) its.layered
          ∙ subst (λ x. layer_bit (layers.layer_of x (layered_window (look_of d) its.window).layers) (minus p its.window.place)
          ≡ (if layers.same_part x part.Picture then (picture_layer (look_of d) its.window).picture (minus p its.window.place) else d.shows x (minus p its.window.place)))
          its.part_is (part_bit_is (look_of d) its.window (minus p its.window.place) its.apart);
    }

    by_bar : (b : Bool) → (if b then Bar else owner_among (map (layered_window (look_of d)) d.windows) p) ≡ Content s of → IsShownBy d s of p
    by_bar true e = absurd (cc)
    by_bar false e = shown (among (look_of d) d.windows s of p apart e)

-- ---- whose control it is

-- where no layer is a control's, that at a point is none
no_control_at : (n : ℕ) (ls : List Layer) (q : Point) → AreNoControls ls → part_at ls q ≡ part.Control n → ⊥
no_control_at n [] q none e = false≢true (ap (is_of Controls) e)
no_control_at n (l ∷ ls) q none e =
    by_test (no_control_at n ls q (All-tail (λ (x : Layer). is_of Controls x.part ≡ false) l ls none)) (All-head (λ (x : Layer). is_of Controls x.part ≡ false) l ls none) (layer_has l q) e
  where
    by_test : (part_at ls q ≡ part.Control n → ⊥) → is_of Controls l.part ≡ false → (b : Bool) → (if b then l.part else part_at ls q) ≡ part.Control n → ⊥
    by_test rest first true e = false≢true (sym first ∙ ap (is_of Controls) e)
    by_test rest first false e = rest e

-- the layer of a control at a point is that of one of these
named : (n : ℕ) (cs : List ControlRecord) (ls : List Layer) (q : Point) → AreLayersOf cs ls → part_at ls q ≡ part.Control n → list_any (has_serial n) cs ≡ true
named n [] ls q h e = absurd (no_control_at n ls q h e)
named n (c ∷ cs) [] q h e = absurd h
named n (c ∷ cs) (l ∷ ls) q h e = by_test (named n cs ls q h.1) (layer_has l q) e
  where
    same : (a b : ℕ) → a ≡ b → (a == b) ≡ true
    same a b e = grind (arith, nat_tests)

    further : (a b : Bool) → b ≡ true → (a || b) ≡ true
    further true b e = refl
    further false b e = e

    by_test : (part_at ls q ≡ part.Control n → list_any (has_serial n) cs ≡ true) → (b : Bool) → (if b then l.part else part_at ls q) ≡ part.Control n → list_any (has_serial n) (c ∷ cs) ≡ true
    by_test rest true e =
        let its : part.Control c.serial ≡ part.Control n = sym h.0.part ∙ e in
        let serial : c.serial ≡ n = cc in
        ap (λ b. b || list_any (has_serial n) cs) (same c.serial n serial)
    by_test rest false e = further (has_serial n c) (list_any (has_serial n) cs) (rest e)

pub named_there : (d : FullDesk) (cs : List ControlRecord) (s n : ℕ) (p : Point) → AreJoined cs d.windows → IsShownBy d s (part.Control n) p → list_any (has_serial n) (items_of s cs) ≡ true
named_there d cs s n p joined its =
    let there = at_serial (λ w. AreLayersOf (items_of w.serial cs) w.layers) s d.windows its.window its.found joined in
    ap (λ k. list_any (has_serial n) (items_of k cs)) (sym there.1)
    ∙ named n (items_of its.window.serial cs) its.window.layers (minus p its.window.place) there.0 its.part_is

-- ---- what is shown before and after

-- what lists and text records show stays, where the owner is not of this sort
abbrev pub StayLists : (Owner → Bool) → FullDesk → FullDesk → (others now : List ℕ → Part → PixelSet) → Type 0
StayLists own d e others now = (s n : ℕ) (p : Point) → IsShownBy d s (part.List n) p → IsShownBy e s (part.List n) p → own (Content s (part.List n)) ≡ false
    → (q : Point) → now d.font (part.List n) q ≡ others d.font (part.List n) q

abbrev pub StayTexts : (Owner → Bool) → FullDesk → FullDesk → (others now : List ℕ → Part → PixelSet) → Type 0
StayTexts own d e others now = (s n : ℕ) (p : Point) → IsShownBy d s (part.Text n) p → IsShownBy e s (part.Text n) p → own (Content s (part.Text n)) ≡ false
    → (q : Point) → now d.font (part.Text n) q ≡ others d.font (part.Text n) q

module _ (others now_others : List ℕ → Part → PixelSet) (d e : FullDesk) (cs ds : List ControlRecord) (shows : d.shows ≡ controls_show others cs d.font) (showing : e.shows ≡ controls_show now_others ds e.font) (font : e.font ≡ d.font) (windows : map bare e.windows ≡ map bare d.windows)
    (was : AreJoined cs d.windows) (are : AreJoined ds e.windows) (own : Owner → Bool) (stay : StayControls own cs ds) (stay_lists : StayLists own d e others now_others) (stay_texts : StayTexts own d e others now_others) where
  module _ (s : ℕ) (of : Part) (p : Point) (its : IsShownBy d s of p) (now : IsShownBy e s of p) where
    same_bare : bare now.window ≡ bare its.window
    same_bare = same_window s d.windows e.windows its.window now.window windows its.found now.found

    there : minus p its.window.place ≡ minus p now.window.place
    there = ap (λ (w : WindowRecord). minus p w.place) (sym same_bare)

    pictures : (picture_layer (look_of d) its.window).picture (minus p its.window.place) ≡ (picture_layer (look_of e) now.window).picture (minus p now.window.place)
    pictures = λ i. let w = sym same_bare i in picture_bit (sym font i) w.picture (minus (minus p w.place) w.origin)

    shown : controls_show now_others ds d.font of (minus p its.window.place) ≡ controls_show others cs d.font of (minus p its.window.place) → d.shows of (minus p its.window.place) ≡ e.shows of (minus p now.window.place)
    shown same =
        ap (λ f. f of (minus p its.window.place)) shows
        ∙ sym same
        ∙ (λ i. controls_show now_others ds (sym font i) of (there i))
        ∙ sym (ap (λ f. f of (minus p now.window.place)) showing)

  same_bit : (s : ℕ) (of : Part) (p : Point) → IsShownBy d s of p → IsShownBy e s of p → own (Content s of) ≡ false → own_bit (layered_desk d) (Content s of) p ≡ own_bit (layered_desk e) (Content s of) p
  same_bit s part.Picture p its now other = its.bit_is ∙ pictures s part.Picture p its now ∙ sym now.bit_is
  same_bit s (part.List n) p its now other = its.bit_is ∙ shown s (part.List n) p its now (stay_lists s n p its now other (minus p its.window.place)) ∙ sym now.bit_is
  same_bit s (part.Text n) p its now other = its.bit_is ∙ shown s (part.Text n) p its now (stay_texts s n p its now other (minus p its.window.place)) ∙ sym now.bit_is
  same_bit s (part.Control n) p its now other =
      its.bit_is
      ∙ shown s (part.Control n) p its now (ap (λ o. control_bit d.font o (minus p its.window.place)) (stay s n (named_there d cs s n p was its) (named_there e ds s n p are now) other))
      ∙ sym now.bit_is

  -- an owner that has the pixel before and after shows there what it showed, unless it is of this sort
  pub same_own : (p : Point) (o : Owner) → layers.IsDesk (layered_desk d) → layers.IsDesk (layered_desk e) → owner (layered_desk d) p ≡ o → owner (layered_desk e) p ≡ o → is_content o ≡ true → own o ≡ false
      → own_bit (layered_desk d) o p ≡ own_bit (layered_desk e) o p
  same_own p (Content s of) apart distinct here still content other = same_bit s of p (shown_by d s of p apart here) (shown_by e s of p distinct still) other
  same_own p Desktop apart distinct here still content other = absurd (false≢true content)
  same_own p Bar apart distinct here still content other = absurd (false≢true content)
  same_own p (Frame s) apart distinct here still content other = absurd (false≢true content)
