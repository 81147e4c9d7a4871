-- What a plan that is drawn writes, at the most.
use Rattle.std.proofs.Common.{◌≡◌, ℕ, ◌≤◌, Bool, true, false, ◌==◌, not, ◌&&◌, ◌||◌, if◌then◌else◌, List, [], ◌∷◌, map, Option, None, Some, refl, sym, ap, ◌∙◌, subst, arith}
use Rattle.std.specs.Prelude.{is_some}
use Rattle.std.proofs.lemmas.Bool.{false≢true, eqb-true}
use Rattle.tb_geom.specs.declared.point.Point.{Point}
use Rattle.tb_geom.specs.Points.{minus}
use Rattle.tb_geom.specs.Pixels.{Pixels, holds}
use Rattle.bit_map.specs.Bits.{Bits, on_map}
use Rattle.desk_layers.specs.Desk as layers
use Rattle.desk_layers.specs.Desk.{LayeredDesk}
use Rattle.desk_layers.specs.declared.part.Part.{Part as Layer}
use Rattle.desk_layers.specs.Owner.{Owner, owner, same_owner}
use Rattle.desk_layers.specs.Owner.Owner.{Desktop, Bar, Frame, Content}
use Rattle.desk_layers.specs.Change as plain
use Rattle.desk_layers.proofs.Owning.{same_number, is_other}
use Rattle.vis_update.specs.declared.plan.Repaint.{Repaint}
use Rattle.vis_update.specs.declared.plan.Plan.{Plan}
use Rattle.vis_update.specs.declared.plan.Touch.{Touch}
use Rattle.vis_update.specs.Records.{WindowRecord, Look, layered_window}
use Rattle.vis_update.specs.Touches.{change_of, draws_whole, moves, moved_from}
use Rattle.vis_update.specs.Plans.{IsPart, ArePlanParts}
use Rattle.vis_update.specs.declared.area.Area.{Area}
use Rattle.vis_update.specs.Areas.{is_content_of}
use Rattle.vis_update.proofs.Others.{not_content, not_same_frame}
use Rattle.window_paint.specs.Writes.{arrives, one}
use Rattle.window_mgr.specs.FullDesk.{FullDesk, FullState, layered_desk, layered_state, look_of}
use Rattle.window_mgr.specs.Commits.{erased, redrawn, planned_times}
use Rattle.window_mgr.specs.Sparing.{IsSparing, Spares, is_frame, moving_content}
use Rattle.def_iface.specs.Slots.{TakenBox}
use Rattle.def_iface.specs.WindowMeaning.{WindowLoan}
use Rattle.window_mgr.specs.declared.manager.WindowManager.{WindowManager}
use Rattle.window_mgr.proofs.Committing.{IsReady, AreApart, apart_from, copied_by, uncovered_by, found, of_content, of_frame, on_same}

one_low : (b : Bool) → one b ≤ 1
one_low true = omega arith
one_low false = omega arith

arrives_low : (arriving : Pixels) (by : Option Point) (p : Point) → arrives arriving by p ≤ one (holds arriving p)
arrives_low arriving None p = omega arith
arrives_low arriving (Some by) p = omega arith

none_and : (on x : Bool) → ((on && false) && x) ≡ false
none_and true x = refl
none_and false x = refl

-- ---- the parts of windows, at one pixel

module _ (look : Look) (t : Touch) (before : plain.State) (after : LayeredDesk) (p : Point) where
  -- a part whose window has not the pixel writes none
  erase_elsewhere : (w : WindowRecord) (part : Repaint) → IsPart t before after w.serial part → is_other w.serial (owner after p) ≡ true → holds part.erase p ≡ false
  erase_elsewhere w part its other =
      its.erase p ∙ ap (λ b. (layers.on_screen after p && b) && not (plain.had (change_of t) before.desk (owner after p) p)) (not_content w.serial (owner after p) other) ∙ none_and (layers.on_screen after p) _

  redraw_elsewhere : (w : WindowRecord) (part : Repaint) → IsPart t before after w.serial part → is_other w.serial (owner after p) ≡ true → holds part.redraw p ≡ false
  redraw_elsewhere w part its other =
      its.redraw p ∙ ap (λ b. (layers.on_screen after p && b) && (draws_whole t w.serial || not (layers.on_screen before.desk p && same_owner (owner before.desk p) (Frame w.serial)))) (not_same_frame w.serial (owner after p) other) ∙ none_and (layers.on_screen after p) _

  pub written_elsewhere : (ws : List WindowRecord) (parts : List Repaint) → ArePlanParts t before after ws parts → AreApart look t before after p ws → (erased parts p ≡ 0) × (redrawn parts p ≡ false)
  written_elsewhere [] [] its apart = (refl, refl)
  written_elsewhere (w ∷ ws) (part ∷ parts) its apart =
      let rest = written_elsewhere ws parts its.1 apart.1 in
      let none = erase_elsewhere w part its.0 apart.0 in
      let erase : one (holds part.erase p) ≡ 0 = ap one none in
      let more = rest.0 in
      (omega (arith, erase, more), ap (λ b. b || redrawn parts p) (redraw_elsewhere w part its.0 apart.0) ∙ rest.1)
  written_elsewhere [] (part ∷ parts) its apart = absurd its
  written_elsewhere (w ∷ ws) [] its apart = absurd its

  -- the window of this serial has the pixel: its part alone writes it
  pub record IsAlone (s : ℕ) (parts : List Repaint) : Type 0 where
    pub part : Repaint
    pub its : IsPart t before after s part
    pub erases : erased parts p ≡ one (holds part.erase p)
    pub redraws : redrawn parts p ≡ holds part.redraw p

  or_none : (a : Bool) → (a || false) ≡ a
  or_none true = refl
  or_none false = refl

  pub alone : (s : ℕ) (found : layers.LayeredWindow) (ws : List WindowRecord) (parts : List Repaint) → ((n : ℕ) → (n == s) ≡ false → is_other n (owner after p) ≡ true) → ArePlanParts t before after ws parts → layers.AreWindows (map (layered_window look) ws) → layers.window_of s (map (layered_window look) ws) ≡ Some found → IsAlone s parts
  alone s found [] [] of its distinct e = absurd (cc)
  alone s found (w ∷ ws) (part ∷ parts) of its distinct e = by_test (λ f. alone s found ws parts of its.1 distinct.1.1 f) (w.serial == s) refl e
    where
      by_test : (layers.window_of s (map (layered_window look) ws) ≡ Some found → IsAlone s parts) → (b : Bool) → (w.serial == s) ≡ b → (if b then Some (layered_window look w) else layers.window_of s (map (layered_window look) ws)) ≡ Some found → IsAlone s (part ∷ parts)
      by_test behind true here f =
          let serial : w.serial ≡ s = eqb-true w.serial s here in
          let rest = written_elsewhere ws parts its.1 (apart_from look t before after p s ws of (subst (λ n. layers.window_of n (map (layered_window look) ws) ≡ None) serial distinct.0)) in
          let none = rest.0 in
          record {
            part = part;
            its = subst (λ n. IsPart t before after n part) serial its.0;
            erases = omega (arith, none);
            redraws = ap (λ b. holds part.redraw p || b) rest.1 ∙ or_none (holds part.redraw p);
          }
      by_test behind false away f =
          let rest = behind f in
          let more = rest.erases in
          let none : one (holds part.erase p) ≡ 0 = ap one (erase_elsewhere w part its.0 (of w.serial away)) in
          record {
            part = rest.part;
            its = rest.its;
            erases = omega (arith, none, more);
            redraws = ap (λ b. b || redrawn parts p) (redraw_elsewhere w part its.0 (of w.serial away)) ∙ rest.redraws;
          }
  alone s found [] (part ∷ parts) of its distinct e = absurd its
  alone s found (w ∷ ws) [] of its distinct e = absurd its

-- ---- a pixel, by its owner

-- how often a pixel of this owner is written at the most, and whether a frame is drawn there; `same` says whose it was
record IsSpared (t : Touch) (was o : Owner) (times : ℕ) (drawn : Bool) : Type 0 where
  pub once : is_frame o ≡ false → (times ≤ 1) × (drawn ≡ false)
  pub spared : is_frame o ≡ false → same_owner was o ≡ true → moves t o ≡ false → times ≡ 0
  pub frames : (s : ℕ) → same_owner o (Frame s) ≡ true → same_owner was (Frame s) ≡ true → draws_whole t s ≡ false → (times ≡ 0) × (drawn ≡ false)

module _ (t : Touch) (before : FullState) (after : FullDesk) (desktop : Pixels) (olds : List Area) (plan : Plan) (old new : Bits) (R : IsReady t before after desktop olds plan old new) where
  abbrev was : LayeredDesk
  was = layered_desk before.desk

  abbrev is : LayeredDesk
  is = layered_desk after

  module _ (p : Point) (on : layers.on_screen was p ≡ true) where
    on_now : layers.on_screen is p ≡ true
    on_now = on_same t before after desktop olds plan old new R p ∙ on

    abbrev times : ℕ
    times = planned_times plan t.by p

    abbrev drawn : Bool
    drawn = redrawn plan.parts.items p

    copied : (o : Owner) → owner is p ≡ o → holds plan.copied p ≡ ((true && moves t o) && plain.had (change_of t) was o p)
    copied = copied_by t before after desktop olds plan old new R p on

    uncovered : (o : Owner) → owner is p ≡ o → holds plan.uncovered p ≡ ((true && same_owner o Desktop) && not (true && same_owner (owner was p) Desktop))
    uncovered = uncovered_by t before after desktop olds plan old new R p on

    low : arrives plan.copied t.by p ≤ one (holds plan.copied p)
    low = arrives_low plan.copied t.by p

    desktop_spared : owner is p ≡ Desktop → IsSpared t (owner was p) Desktop times drawn
    desktop_spared e =
        let none = written_elsewhere (look_of after) t (layered_state before) is p after.windows plan.parts.items R.planned.parts (apart after.windows) in
        let erases = none.0 in
        let copies : one (holds plan.copied p) ≡ 0 = ap one (copied Desktop e) in
        let least = one_low (holds plan.uncovered p) in
        let arriving = low in
        record {
          once = λ f. (omega (arith, erases, copies, least, arriving), none.1);
          spared = λ f same still. let fills : one (holds plan.uncovered p) ≡ 0 = ap one (uncovered Desktop e ∙ ap (λ b. not b) same) in omega (arith, erases, copies, fills, arriving);
          frames = λ s f g h. absurd (false≢true f);
        }
      where
        apart : (ws : List WindowRecord) → AreApart (look_of after) t (layered_state before) is p ws
        apart [] = tt
        apart (w ∷ ws) = (ap (is_other w.serial) e, apart ws)

    bar_spared : owner is p ≡ Bar → IsSpared t (owner was p) Bar times drawn
    bar_spared e =
        let none = written_elsewhere (look_of after) t (layered_state before) is p after.windows plan.parts.items R.planned.parts (apart after.windows) in
        let erases = none.0 in
        let copies : one (holds plan.copied p) ≡ 0 = ap one (copied Bar e) in
        let fills : one (holds plan.uncovered p) ≡ 0 = ap one (uncovered Bar e) in
        let arriving = low in
        record {
          once = λ f. (omega (arith, erases, copies, fills, arriving), none.1);
          spared = λ f same still. omega (arith, erases, copies, fills, arriving);
          frames = λ s f g h. absurd (false≢true f);
        }
      where
        apart : (ws : List WindowRecord) → AreApart (look_of after) t (layered_state before) is p ws
        apart [] = tt
        apart (w ∷ ws) = (ap (is_other w.serial) e, apart ws)

    frame_spared : (n : ℕ) → owner is p ≡ Frame n → IsSpared t (owner was p) (Frame n) times drawn
    frame_spared n e =
        let copies : one (holds plan.copied p) ≡ 0 = ap one (copied (Frame n) e) in
        let fills : one (holds plan.uncovered p) ≡ 0 = ap one (uncovered (Frame n) e) in
        let arriving = low in
        let erases = single.erases in
        let white : one (holds single.part.erase p) ≡ 0 = ap one erase in
        record {
          once = λ f. absurd (false≢true (sym f));
          spared = λ f same still. absurd (false≢true (sym f));
          frames = λ s f g h.
              let here : n ≡ s = eqb-true n s f in
              (omega (arith, copies, fills, arriving, erases, white), single.redraws ∙ redraw ∙ ap (λ b. b || not (same_owner (owner was p) (Frame n))) (ap (draws_whole t) here ∙ h) ∙ ap not (ap (λ m. same_owner (owner was p) (Frame m)) here ∙ g));
        }
      where
        there : (v : layers.LayeredWindow) × (layers.window_of n is.windows ≡ Some v)
        there = found t before after desktop olds plan old new R p on n (ap (is_other n) e ∙ ap not (same_number n))

        single : IsAlone (look_of after) t (layered_state before) is p n plan.parts.items
        single = alone (look_of after) t (layered_state before) is p n there.0 after.windows plan.parts.items (λ m away. ap (is_other m) e ∙ of_frame n m away) R.planned.parts R.distinct there.1

        redraw : holds single.part.redraw p ≡ (draws_whole t n || not (same_owner (owner was p) (Frame n)))
        redraw = single.its.redraw p ∙ (λ i. (on_now i && same_owner (e i) (Frame n)) && (draws_whole t n || not (on i && same_owner (owner was p) (Frame n)))) ∙ ap (λ b. (true && b) && (draws_whole t n || not (same_owner (owner was p) (Frame n)))) (same_number n)

        erase : holds single.part.erase p ≡ false
        erase = single.its.erase p ∙ (λ i. (on_now i && is_content_of n (e i)) && not (plain.had (change_of t) was (e i) p))

    content_spared : (n : ℕ) (part : Layer) → owner is p ≡ Content n part → IsSpared t (owner was p) (Content n part) times drawn
    content_spared n part e = record {
      once = λ f. (by_had (plain.had (change_of t) was (Content n part) p) refl, single.redraws ∙ redraw);
      spared = λ f same still.
          let had = stays still ∙ ap (λ b. b && same_owner (owner was p) (Content n part)) on ∙ same in
          let copies : one (holds plan.copied p) ≡ 0 = ap one (copied (Content n part) e ∙ ap (λ b. (true && b) && plain.had (change_of t) was (Content n part) p) still) in
          let arriving = low in
          let erases = single.erases in
          let white : one (holds single.part.erase p) ≡ 0 = ap one (erase ∙ ap not had) in
          let fills = unfilled in
          omega (arith, copies, arriving, erases, white, fills);
      frames = λ s f g h. absurd (false≢true f);
    }
      where
        there : (v : layers.LayeredWindow) × (layers.window_of n is.windows ≡ Some v)
        there = found t before after desktop olds plan old new R p on n (ap (is_other n) e ∙ ap not (same_number n))

        single : IsAlone (look_of after) t (layered_state before) is p n plan.parts.items
        single = alone (look_of after) t (layered_state before) is p n there.0 after.windows plan.parts.items (λ m away. ap (is_other m) e ∙ of_content n m part away) R.planned.parts R.distinct there.1

        redraw : holds single.part.redraw p ≡ false
        redraw = single.its.redraw p ∙ (λ i. (on_now i && same_owner (e i) (Frame n)) && (draws_whole t n || not (layers.on_screen was p && same_owner (owner was p) (Frame n))))

        erase : holds single.part.erase p ≡ not (plain.had (change_of t) was (Content n part) p)
        erase = single.its.erase p ∙ (λ i. (on_now i && is_content_of n (e i)) && not (plain.had (change_of t) was (e i) p)) ∙ ap (λ b. (true && b) && not (plain.had (change_of t) was (Content n part) p)) (same_number n)

        unfilled : one (holds plan.uncovered p) ≡ 0
        unfilled = ap one (uncovered (Content n part) e)

        by_had : (b : Bool) → plain.had (change_of t) was (Content n part) p ≡ b → times ≤ 1
        by_had true f =
            let white : one (holds single.part.erase p) ≡ 0 = ap one (erase ∙ ap not f) in
            let least = one_low (holds plan.copied p) in
            let arriving = low in
            let erases = single.erases in
            let fills = unfilled in
            omega (arith, white, least, arriving, erases, fills)
        by_had false f =
            let copies : one (holds plan.copied p) ≡ 0 = ap one (copied (Content n part) e ∙ ap (λ b. (true && moves t (Content n part)) && b) f ∙ none_had (true && moves t (Content n part))) in
            let least = one_low (holds single.part.erase p) in
            let arriving = low in
            let erases = single.erases in
            let fills = unfilled in
            omega (arith, copies, least, arriving, erases, fills)
          where
            none_had : (a : Bool) → (a && false) ≡ false
            none_had true = refl
            none_had false = refl

        -- content that does not move comes from where it is
        stays : moves t (Content n part) ≡ false → plain.had (change_of t) was (Content n part) p ≡ (layers.on_screen was p && same_owner (owner was p) (Content n part))
        stays still = by_way t.by still
          where
            by_test : (by : Point) (b : Bool) → (b && true) ≡ false → (if b then minus p by else p) ≡ p
            by_test by true f = absurd (false≢true (sym f))
            by_test by false f = refl

            by_way : (by : Option Point) → (n == t.window && is_some by) ≡ false → (layers.on_screen was (moved_from t.window by (Content n part) p) && same_owner (owner was (moved_from t.window by (Content n part) p)) (Content n part)) ≡ (layers.on_screen was p && same_owner (owner was p) (Content n part))
            by_way None f = refl
            by_way (Some by) f = ap (λ q. layers.on_screen was q && same_owner (owner was q) (Content n part)) (by_test by (n == t.window) f)

    spared_by : (o : Owner) → owner is p ≡ o → IsSpared t (owner was p) o times drawn
    spared_by Desktop e = desktop_spared e
    spared_by Bar e = bar_spared e
    spared_by (Frame n) e = frame_spared n e
    spared_by (Content n part) e = content_spared n part e

    is_spared : IsSpared t (owner was p) (owner is p) times drawn
    is_spared = spared_by (owner is p) refl

  -- ---- the whole

  pub is_sparing : IsSparing (moves t) (draws_whole t) was is old new
  is_sparing = record {
    once = λ p here f.
        let its = (is_spared p (then_on p here)).once f in
        let most = R.drawn.written.at_most p (on_map_of p here) its.1 in
        let few = its.0 in
        omega (arith, most, few);
    spared = λ p here f same still.
        let its = is_spared p (then_on p here) in
        let most = R.drawn.written.at_most p (on_map_of p here) (its.once f).1 in
        let none = its.spared f same still in
        let least = R.drawn.written.rises p (on_map_of p here) in
        omega (arith, most, none, least);
    frames = λ s p here f g h.
        let its = (is_spared p (then_on p here)).frames s f g h in
        let most = R.drawn.written.at_most p (on_map_of p here) its.1 in
        let none = its.0 in
        let least = R.drawn.written.rises p (on_map_of p here) in
        omega (arith, most, none, least);
    rises = λ p here. R.drawn.written.rises p (on_map_of p here);
    changed = λ p here ne. R.drawn.written.changed p (on_map_of p here) ne;
  }
    where
      then_on : (p : Point) → layers.on_screen is p ≡ true → layers.on_screen was p ≡ true
      then_on p here = sym (on_same t before after desktop olds plan old new R p) ∙ here

      on_map_of : (p : Point) → layers.on_screen is p ≡ true → on_map old p ≡ true
      on_map_of p here = sym (R.on p) ∙ then_on p here

-- ---- over window managers

-- the same, by another word for what moves
pub sparing_by : (t : Touch) (before after : LayeredDesk) (old new : Bits) → IsSparing (moves t) (draws_whole t) before after old new → IsSparing (moving_content t.window t.by) (λ n. n == t.window) before after old new
sparing_by t before after old new so = record {
  once = so.once;
  spared = λ p on f same still. so.spared p on f same (by_way t.by (owner after p) still);
  frames = λ s p here f g h. so.frames s p here f g (both (s == t.window) t.whole h);
  rises = so.rises;
  changed = so.changed;
}
  where
    both : (a b : Bool) → a ≡ false → (a && b) ≡ false
    both true b e = absurd (false≢true (sym e))
    both false b e = refl

    none : (a : Bool) → (a && false) ≡ false
    none true = refl
    none false = refl

    by_way : (by : Option Point) (o : Owner) → moving_content t.window by o ≡ false → moves (record { window = t.window; by = by; whole = t.whole }) o ≡ false
    by_way by Desktop e = refl
    by_way by Bar e = refl
    by_way by (Frame s) e = refl
    by_way None (Content s part) e = none (s == t.window)
    by_way (Some by) (Content s part) e = both (s == t.window) true e

-- nothing was written
pub sparing_none : (m : Owner → Bool) (d : ℕ → Bool) (before after : LayeredDesk) (a : Bits) → IsSparing m d before after a a
sparing_none m d before after a = record {
  once = λ p on f. omega arith;
  spared = λ p on f same still. refl;
  frames = λ s p on f g h. refl;
  rises = λ p on. omega arith;
  changed = λ p on ne. absurd (ne refl);
}

module _ {V : Type 0} {H : V → Type 0} (loan : TakenBox V H → WindowLoan) where
  pub spares_same : (s : ℕ) (by : Option Point) (t : WindowManager V H) → Spares loan s by t t
  spares_same s by t = sparing_none _ _ _ _ t.screen
