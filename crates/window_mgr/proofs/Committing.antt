-- What a plan that is drawn leaves on the screen, whichever call it was made for.
use Rattle.std.proofs.Common.{◌≡◌, ℕ, Bool, true, false, ◌==◌, not, ◌&&◌, ◌||◌, if◌then◌else◌, List, [], ◌∷◌, map, Option, None, Some, refl, sym, ap, ◌∙◌, subst}
use Rattle.std.specs.Prelude.{is_some}
use Rattle.std.proofs.lemmas.Bool.{false≢true, and_parts, eqb-true}
use Rattle.tb_geom.specs.declared.point.Point.{Point}
use Rattle.tb_geom.specs.Points.{minus}
use Rattle.tb_geom.specs.Pixels.{Pixels, holds}
use Rattle.bit_map.specs.Bits.{Bits, on_map, bit}
use Rattle.bit_map.specs.Patterns.{pattern_bit}
use Rattle.def_iface.specs.WindowNews.{no_news}
use Rattle.desk_layers.specs.Desk as layers
use Rattle.desk_layers.specs.Desk.{LayeredDesk}
use Rattle.desk_layers.specs.declared.part.Part.{Part as Layer}
use Rattle.desk_layers.specs.Owner.{Owner, owner, owner_among, owner_within, own_bit, same_owner, is_content, frame_bit}
use Rattle.desk_layers.specs.Owner.Owner.{Desktop, Bar, Frame, Content}
use Rattle.desk_layers.specs.Scratch.{scratch}
use Rattle.desk_layers.specs.Change as plain
use Rattle.desk_layers.proofs.Owning.{same_number, same_owner-true, is_other, owner_is_other, not_first}
use Rattle.desk_layers.proofs.Painting.{scratch_is_owners}
use Rattle.vis_update.specs.declared.plan.Repaint.{Repaint}
use Rattle.vis_update.specs.declared.plan.Plan.{Plan}
use Rattle.vis_update.specs.declared.plan.Touch.{Touch}
use Rattle.vis_update.specs.Records.{WindowRecord, Look, layered_window}
use Rattle.window_mgr.specs.FullDesk.{FullDesk, FullState, layered_desk, layered_state, look_of}
use Rattle.desk_ground.specs.Screens.{desktop as pattern}
use Rattle.window_mgr.specs.Commits.{painted_part, painted_parts, uncovered_bit, IsPlanDrawn}
use Rattle.window_paint.specs.Moves.{moved_bit}
use Rattle.vis_update.specs.Touches.{change_of, draws_whole, moves}
use Rattle.vis_update.specs.Plans.{IsPart, ArePlanParts, IsPlan}
use Rattle.vis_update.specs.Touches.{moved_from}
use Rattle.window_mgr.specs.Whole.{AreFramesShown}
use Rattle.vis_update.specs.declared.area.Area.{Area}
use Rattle.vis_update.specs.Areas.{IsDesktop, is_content_of}
use Rattle.vis_update.proofs.Others.{not_content, not_same_frame}

-- ---- the parts of windows, at one pixel

module _ (look : Look) (t : Touch) (before : plain.State) (after : LayeredDesk) (p : Point) where
  -- a part whose window has not the pixel changes nothing
  part_elsewhere : (w : WindowRecord) (part : Repaint) (value : Bool) → IsPart t before after w.serial part → is_other w.serial (owner after p) ≡ true → painted_part look.font w.definition w.place part p value ≡ value
  part_elsewhere w part value its other =
      (λ i. if (its.redraw p ∙ ap (λ b. (layers.on_screen after p && b) && (draws_whole t w.serial || not (layers.on_screen before.desk p && same_owner (owner before.desk p) (Frame w.serial)))) (not_same_frame w.serial (owner after p) other)) i then w.definition.picture no_news look.font (minus p w.place)
      else (if (its.erase p ∙ ap (λ b. (layers.on_screen after p && b) && not (plain.had (change_of t) before.desk (owner after p) p)) (not_content w.serial (owner after p) other)) i then false else value))
      ∙ nowhere (layers.on_screen after p) _ _ _
    where
      nowhere : (on x y f : Bool) → (if (on && false) && x then f else (if (on && false) && y then false else value)) ≡ value
      nowhere true x y f = refl
      nowhere false x y f = refl

  -- none of the windows has the pixel
  abbrev pub AreApart : List WindowRecord → Type 0
  AreApart [] = Unit {0}
  AreApart (w ∷ ws) = (is_other w.serial (owner after p) ≡ true) × AreApart ws

  pub parts_elsewhere : (ws : List WindowRecord) (parts : List Repaint) (value : Bool) → ArePlanParts t before after ws parts → AreApart ws → painted_parts look.font ws parts p value ≡ value
  parts_elsewhere [] [] value its apart = refl
  parts_elsewhere (w ∷ ws) (part ∷ parts) value its apart =
      ap (λ b. painted_parts look.font ws parts p b) (part_elsewhere w part value its.0 apart.0) ∙ parts_elsewhere ws parts value its.1 apart.1
  parts_elsewhere [] (part ∷ parts) value its apart = absurd its
  parts_elsewhere (w ∷ ws) [] value its apart = absurd its

  -- the windows of another serial than this one have not the pixel that is its
  pub apart_from : (s : ℕ) (ws : List WindowRecord) → ((n : ℕ) → (n == s) ≡ false → is_other n (owner after p) ≡ true) → layers.window_of s (map (layered_window look) ws) ≡ None → AreApart ws
  apart_from s [] of none = tt
  apart_from s (w ∷ ws) of none =
      let first = not_first (w.serial == s) (layered_window look w) (layers.window_of s (map (layered_window look) ws)) none in
      (of w.serial first.0, apart_from s ws of first.1)

  -- the window of this serial has the pixel: its part alone tells
  pub record IsAlone (s : ℕ) (found : layers.LayeredWindow) (ws : List WindowRecord) (parts : List Repaint) (value : Bool) : Type 0 where
    pub window : WindowRecord
    pub part : Repaint
    pub is : layered_window look window ≡ found
    pub its : IsPart t before after s part
    pub tells : painted_parts look.font ws parts p value ≡ painted_part look.font window.definition window.place part p value

  pub alone : (s : ℕ) (found : layers.LayeredWindow) (ws : List WindowRecord) (parts : List Repaint) (value : Bool) → ((n : ℕ) → (n == s) ≡ false → is_other n (owner after p) ≡ true) → ArePlanParts t before after ws parts → layers.AreWindows (map (layered_window look) ws) → layers.window_of s (map (layered_window look) ws) ≡ Some found → IsAlone s found ws parts value
  alone s found [] [] value of its distinct e = absurd (cc)
  alone s found (w ∷ ws) (part ∷ parts) value of its distinct e = by_test (λ f. alone s found ws parts value of its.1 distinct.1.1 f) (w.serial == s) refl e
    where
      by_test : (layers.window_of s (map (layered_window look) ws) ≡ Some found → IsAlone s found ws parts value) → (b : Bool) → (w.serial == s) ≡ b → (if b then Some (layered_window look w) else layers.window_of s (map (layered_window look) ws)) ≡ Some found → IsAlone s found (w ∷ ws) (part ∷ parts) value
      by_test behind true here f =
          let serial : w.serial ≡ s = eqb-true w.serial s here in
          record {
            window = w;
            part = part;
            is = cc;
            its = subst (λ n. IsPart t before after n part) serial its.0;
            tells = parts_elsewhere ws parts (painted_part look.font w.definition w.place part p value) its.1 (apart_from s ws of (subst (λ n. layers.window_of n (map (layered_window look) ws) ≡ None) serial distinct.0));
          }
      by_test behind false away f =
          let rest = behind f in
          record {
            window = rest.window;
            part = rest.part;
            is = rest.is;
            its = rest.its;
            tells = ap (λ b. painted_parts look.font ws parts p b) (part_elsewhere w part value its.0 (of w.serial away)) ∙ rest.tells;
          }
  alone s found [] (part ∷ parts) value of its distinct e = absurd its
  alone s found (w ∷ ws) [] value of its distinct e = absurd its

-- ---- owners

not_bar_within : (w : layers.LayeredWindow) (ls : List layers.ContentLayer) (p : Point) → same_owner (owner_within w ls p) Bar ≡ false
not_bar_within w [] p = refl
not_bar_within w (l ∷ ls) p = by_test (not_bar_within w ls p) (l.extent (layers.local w p))
  where
    by_test : same_owner (owner_within w ls p) Bar ≡ false → (b : Bool) → same_owner (if b then Content w.serial l.part else owner_within w ls p) Bar ≡ false
    by_test behind true = refl
    by_test behind false = behind

pub not_bar_among : (ws : List layers.LayeredWindow) (p : Point) → same_owner (owner_among ws p) Bar ≡ false
not_bar_among [] p = refl
not_bar_among (w ∷ ws) p = by_test (not_bar_among ws p) (layers.in_structure w p)
  where
    by_test : same_owner (owner_among ws p) Bar ≡ false → (b : Bool) → same_owner (if b then owner_within w w.layers p else owner_among ws p) Bar ≡ false
    by_test behind true = not_bar_within w w.layers p
    by_test behind false = behind

-- the owner is of this serial
-- a frame that is not drawn whole, where the window's would be, is another's
pub quiet_is : (b : Bool) → (b && true) ≡ false → b ≡ false
quiet_is true e = e
quiet_is false e = refl

pub turned : (a b : ℕ) → (a == b) ≡ false → (b == a) ≡ false
turned a b f = by_test (b == a) refl
  where
    by_test : (c : Bool) → (b == a) ≡ c → c ≡ false
    by_test true g = absurd (false≢true (sym f ∙ ap (λ x. a == x) (eqb-true b a g) ∙ same_number a))
    by_test false g = refl

pub of_content : (s n : ℕ) (part : Layer) → (n == s) ≡ false → is_other n (Content s part) ≡ true
of_content s n part e = ap not e

pub of_frame : (s n : ℕ) → (n == s) ≡ false → is_other n (Frame s) ≡ true
of_frame s n e = ap not e

-- ---- what a plan that is drawn leaves

-- what is known where a call that arranges windows drew its plan
pub record IsReady (t : Touch) (before : FullState) (after : FullDesk) (desktop : Pixels) (olds : List Area) (plan : Plan) (old new : Bits) : Type 0 where
  pub screen : layered_desk after ≡ record (layered_desk before.desk) { windows = (layered_desk after).windows }
  pub distinct : layers.IsDesk (layered_desk after)
  pub on : (p : Point) → layers.on_screen (layered_desk before.desk) p ≡ on_map old p
  pub image : (p : Point) → before.image p ≡ bit old p
  pub shown : AreFramesShown before
  pub desktop_was : IsDesktop (layered_desk before.desk) desktop
  pub frames : (s : ℕ) (p : Point) → draws_whole t s ≡ false → own_bit (layered_desk before.desk) (Frame s) p ≡ own_bit (layered_desk after) (Frame s) p
  pub planned : IsPlan t (layered_state before) (layered_desk after) desktop olds after.windows plan
  pub drawn : IsPlanDrawn plan t.by after.font after.windows old new

module _ (t : Touch) (before : FullState) (after : FullDesk) (desktop : Pixels) (olds : List Area) (plan : Plan) (old new : Bits) (R : IsReady t before after desktop olds plan old new) where
  abbrev was : LayeredDesk
  was = layered_desk before.desk

  abbrev is : LayeredDesk
  is = layered_desk after

  pub on_same : (p : Point) → layers.on_screen is p ≡ layers.on_screen was p
  on_same p = ap (λ d. layers.on_screen d p) R.screen

  module _ (p : Point) (on : layers.on_screen was p ≡ true) where
    on_now : layers.on_screen is p ≡ true
    on_now = on_same p ∙ on

    -- before the parts are painted
    abbrev under : Bool
    under = uncovered_bit plan.uncovered (moved_bit plan.copied t.by old) p

    painted : bit new p ≡ painted_parts after.font after.windows plan.parts.items p under
    painted = R.drawn.pixels p (sym (R.on p) ∙ on)

    -- what was plain was as it was to be
    plain_was : (o : Owner) → owner was p ≡ o → is_content o ≡ false → bit old p ≡ own_bit was o p
    plain_was o e c = sym (R.image p) ∙ R.shown p on (ap is_content e ∙ c) ∙ ap (λ x. own_bit was x p) e

    pub copied_by : (o : Owner) → owner is p ≡ o → holds plan.copied p ≡ ((true && moves t o) && plain.had (change_of t) was o p)
    copied_by o e = R.planned.copied p ∙ (λ i. (on_now i && moves t (e i)) && plain.had (change_of t) was (e i) p)

    pub uncovered_by : (o : Owner) → owner is p ≡ o → holds plan.uncovered p ≡ ((true && same_owner o Desktop) && not (true && same_owner (owner was p) Desktop))
    uncovered_by o e = R.planned.uncovered p ∙ (λ i. (R.planned.desktop_is p ∙ (λ j. on_now j && same_owner (e j) Desktop)) i && not ((R.desktop_was p ∙ ap (λ b. b && same_owner (owner was p) Desktop) on) i))

    -- where nothing is copied, pixels stay
    stays : holds plan.copied p ≡ false → moved_bit plan.copied t.by old p ≡ bit old p
    stays e = by_way t.by
      where
        by_way : (by : Option Point) → moved_bit plan.copied by old p ≡ bit old p
        by_way None = refl
        by_way (Some by) = ap (λ b. if b && on_map old (minus p by) then bit old (minus p by) else bit old p) e

    -- no pixel of an owner that is no content and not the desktop is touched before parts are painted
    under_plain : (o : Owner) → owner is p ≡ o → moves t o ≡ false → same_owner o Desktop ≡ false → under ≡ bit old p
    under_plain o e still away =
        ap (λ b. if b then pattern_bit pattern p else moved_bit plan.copied t.by old p) (uncovered_by o e ∙ ap (λ b. (true && b) && not (true && same_owner (owner was p) Desktop)) away)
        ∙ stays (copied_by o e ∙ ap (λ b. (true && b) && plain.had (change_of t) was o p) still)

    -- ---- by the owner

    desktop_bit : owner is p ≡ Desktop → bit new p ≡ own_bit is Desktop p
    desktop_bit e =
        painted
        ∙ parts_elsewhere (look_of after) t (layered_state before) is p after.windows plan.parts.items under R.planned.parts (apart after.windows)
        ∙ ap (λ b. if b then pattern_bit pattern p else moved_bit plan.copied t.by old p) (uncovered_by Desktop e)
        ∙ by_test (same_owner (owner was p) Desktop) refl
      where
        apart : (ws : List WindowRecord) → AreApart (look_of after) t (layered_state before) is p ws
        apart [] = tt
        apart (w ∷ ws) = (ap (is_other w.serial) e, apart ws)

        by_test : (b : Bool) → same_owner (owner was p) Desktop ≡ b → (if not b then pattern_bit pattern p else moved_bit plan.copied t.by old p) ≡ own_bit is Desktop p
        by_test true f = stays (copied_by Desktop e) ∙ plain_was Desktop (same_owner-true (owner was p) Desktop f) refl
        by_test false f = refl

    bar_bit : owner is p ≡ Bar → bit new p ≡ own_bit is Bar p
    bar_bit e =
        painted
        ∙ parts_elsewhere (look_of after) t (layered_state before) is p after.windows plan.parts.items under R.planned.parts (apart after.windows)
        ∙ under_plain Bar e refl refl
        ∙ plain_was Bar (by_bar (layers.in_bar is p) refl) refl
        ∙ sym (ap (λ d. d.bar_picture p) R.screen)
      where
        apart : (ws : List WindowRecord) → AreApart (look_of after) t (layered_state before) is p ws
        apart [] = tt
        apart (w ∷ ws) = (ap (is_other w.serial) e, apart ws)

        by_bar : (b : Bool) → layers.in_bar is p ≡ b → owner was p ≡ Bar
        by_bar true f = ap (λ b. if b then Bar else owner_among was.windows p) (sym (ap (λ d. layers.in_bar d p) R.screen) ∙ f)
        by_bar false f = absurd (false≢true (sym (not_bar_among is.windows p) ∙ ap (λ o. same_owner o Bar) (ap (λ b. if b then Bar else owner_among is.windows p) (sym f) ∙ e)))

    -- the window of an owner that has a serial
    pub found : (s : ℕ) → is_other s (owner is p) ≡ false → (v : layers.LayeredWindow) × (layers.window_of s is.windows ≡ Some v)
    found s its = by_window (layers.window_of s is.windows) refl
      where
        by_bar : (b : Bool) (o : Owner) → is_other s o ≡ true → is_other s (if b then Bar else o) ≡ true
        by_bar true o e = refl
        by_bar false o e = e

        by_window : (v : Option layers.LayeredWindow) → layers.window_of s is.windows ≡ v → (v : layers.LayeredWindow) × (layers.window_of s is.windows ≡ Some v)
        by_window None e = absurd (false≢true (sym its ∙ by_bar (layers.in_bar is p) (owner_among is.windows p) (owner_is_other is.windows p s e)))
        by_window (Some v) e = (v, e)

    frame_is_bit : (s : ℕ) → owner is p ≡ Frame s → bit new p ≡ own_bit is (Frame s) p
    frame_is_bit s e =
        painted
        ∙ one.tells
        ∙ (λ i. if redraw i then one.window.definition.picture no_news after.font (minus p one.window.place) else (if erase i then false else under))
        ∙ table (draws_whole t s) (same_owner (owner was p) (Frame s)) refl refl
        ∙ shown
      where
        there : (v : layers.LayeredWindow) × (layers.window_of s is.windows ≡ Some v)
        there = found s (ap (is_other s) e ∙ ap not (same_number s))

        one : IsAlone (look_of after) t (layered_state before) is p s there.0 after.windows plan.parts.items under
        one = alone (look_of after) t (layered_state before) is p s there.0 after.windows plan.parts.items under (λ n away. ap (is_other n) e ∙ of_frame s n away) R.planned.parts R.distinct there.1

        redraw : holds one.part.redraw p ≡ (draws_whole t s || not (same_owner (owner was p) (Frame s)))
        redraw = one.its.redraw p ∙ (λ i. (on_now i && same_owner (e i) (Frame s)) && (draws_whole t s || not (on i && same_owner (owner was p) (Frame s)))) ∙ ap (λ b. (true && b) && (draws_whole t s || not (same_owner (owner was p) (Frame s)))) (same_number s)

        erase : holds one.part.erase p ≡ false
        erase = one.its.erase p ∙ (λ i. (on_now i && is_content_of s (e i)) && not (plain.had (change_of t) was (e i) p))

        shown : one.window.definition.picture no_news after.font (minus p one.window.place) ≡ own_bit is (Frame s) p
        shown = ap (λ (v : layers.LayeredWindow). v.frame (layers.local v p)) one.is ∙ ap (λ v. frame_bit v p) (sym there.1)

        table : (w b : Bool) → draws_whole t s ≡ w → same_owner (owner was p) (Frame s) ≡ b → (if w || not b then one.window.definition.picture no_news after.font (minus p one.window.place) else (if false then false else under)) ≡ one.window.definition.picture no_news after.font (minus p one.window.place)
        table true b ew eb = refl
        table false true ew eb = under_plain (Frame s) e refl refl ∙ plain_was (Frame s) (same_owner-true (owner was p) (Frame s) eb) refl ∙ R.frames s p ew ∙ sym shown
        table false false ew eb = refl

    -- content comes from where it came from, or is white
    content_is_bit : (s : ℕ) (part : Layer) → owner is p ≡ Content s part → bit new p ≡ (if not (plain.had (change_of t) was (Content s part) p) then false else before.image (moved_from t.window t.by (Content s part) p))
    content_is_bit s part e =
        painted
        ∙ one.tells
        ∙ (λ i. if redraw i then one.window.definition.picture no_news after.font (minus p one.window.place) else (if erase i then false else under))
        ∙ by_had (plain.had (change_of t) was (Content s part) p) refl
      where
        there : (v : layers.LayeredWindow) × (layers.window_of s is.windows ≡ Some v)
        there = found s (ap (is_other s) e ∙ ap not (same_number s))

        one : IsAlone (look_of after) t (layered_state before) is p s there.0 after.windows plan.parts.items under
        one = alone (look_of after) t (layered_state before) is p s there.0 after.windows plan.parts.items under (λ n away. ap (is_other n) e ∙ of_content s n part away) R.planned.parts R.distinct there.1

        redraw : holds one.part.redraw p ≡ false
        redraw = one.its.redraw p ∙ (λ i. (on_now i && same_owner (e i) (Frame s)) && (draws_whole t s || not (layers.on_screen was p && same_owner (owner was p) (Frame s))))

        erase : holds one.part.erase p ≡ not (plain.had (change_of t) was (Content s part) p)
        erase = one.its.erase p ∙ (λ i. (on_now i && is_content_of s (e i)) && not (plain.had (change_of t) was (e i) p)) ∙ ap (λ b. (true && b) && not (plain.had (change_of t) was (Content s part) p)) (same_number s)

        uncovered : holds plan.uncovered p ≡ false
        uncovered = uncovered_by (Content s part) e

        from_source : plain.had (change_of t) was (Content s part) p ≡ true → moved_bit plan.copied t.by old p ≡ bit old (moved_from t.window t.by (Content s part) p)
        from_source had = by_way t.by (copied_by (Content s part) e ∙ ap (λ h. (true && (s == t.window && is_some t.by)) && h) had) (sym (R.on (moved_from t.window t.by (Content s part) p)) ∙ (and_parts _ _ had).0)
          where
            by_test : (by : Point) (b : Bool) → holds plan.copied p ≡ ((true && (b && true)) && true) → on_map old (if b then minus p by else p) ≡ true → (if holds plan.copied p && on_map old (minus p by) then bit old (minus p by) else bit old p) ≡ bit old (if b then minus p by else p)
            by_test by true c m = λ i. if c i && m i then bit old (minus p by) else bit old p
            by_test by false c m = ap (λ x. if x && on_map old (minus p by) then bit old (minus p by) else bit old p) c

            by_way : (by : Option Point) → holds plan.copied p ≡ ((true && (s == t.window && is_some by)) && true) → on_map old (moved_from t.window by (Content s part) p) ≡ true → moved_bit plan.copied by old p ≡ bit old (moved_from t.window by (Content s part) p)
            by_way None c m = refl
            by_way (Some by) c m = by_test by (s == t.window) c m

        by_had : (b : Bool) → plain.had (change_of t) was (Content s part) p ≡ b → (if false then one.window.definition.picture no_news after.font (minus p one.window.place) else (if not b then false else under)) ≡ (if not b then false else before.image (moved_from t.window t.by (Content s part) p))
        by_had true f = ap (λ b. if b then pattern_bit pattern p else moved_bit plan.copied t.by old p) uncovered ∙ from_source f ∙ sym (R.image (moved_from t.window t.by (Content s part) p))
        by_had false f = refl

    -- ---- the whole

    pub plain_is : is_content (owner is p) ≡ false → bit new p ≡ own_bit is (owner is p) p
    plain_is c = by_owner (owner is p) refl c
      where
        by_owner : (o : Owner) → owner is p ≡ o → is_content o ≡ false → bit new p ≡ own_bit is o p
        by_owner Desktop e n = desktop_bit e
        by_owner Bar e n = bar_bit e
        by_owner (Frame s) e n = frame_is_bit s e
        by_owner (Content s part) e n = absurd (false≢true (sym n))

    pub image_is : bit new p ≡ plain.image_by (change_of t) (layered_state before) is (owner is p) p
    image_is = by_owner (owner is p) refl
      where
        from_scratch : (o : Owner) → owner is p ≡ o → own_bit is o p ≡ scratch is p
        from_scratch o e = sym (scratch_is_owners is p R.distinct ∙ ap (λ x. own_bit is x p) e)

        by_owner : (o : Owner) → owner is p ≡ o → bit new p ≡ plain.image_by (change_of t) (layered_state before) is o p
        by_owner Desktop e = desktop_bit e ∙ from_scratch Desktop e
        by_owner Bar e = bar_bit e ∙ from_scratch Bar e
        by_owner (Frame s) e = frame_is_bit s e ∙ from_scratch (Frame s) e
        by_owner (Content s part) e = content_is_bit s part e
