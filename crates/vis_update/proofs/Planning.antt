-- One sweep from front to back gives each window what it owns, and so makes the plan.
use Rattle.std.proofs.Common.{◌≡◌, ⊎_elim, ℕ, Bool, true, false, not, ◌&&◌, ◌||◌, if◌then◌else◌, List, [], ◌∷◌, length, take, map, Option, refl, sym, ap, ◌∙◌, subst}
use Rattle.std.specs.Prelude.{All, is_some}
use Rattle.std.specs.declared.vec.Vec.{Vec}
use Rattle.std.specs.declared.alloc.Global.{Global}
use Rattle.std.proofs.Math.Seq.{take-length}
use Rattle.std.proofs.lemmas.Bool.{false≢true, and_parts}
use Rattle.std.proofs.lemmas.List.Elements.{All-head, All-tail}
use Rattle.tb_geom.specs.declared.point.Point.{Point}
use Rattle.tb_geom.specs.Points.{PixelSet, minus}
use Rattle.tb_geom.specs.Pixels.{Pixels, holds}
use Rattle.def_iface.specs.Slots.{TakenBox}
use Rattle.def_iface.specs.WindowMeaning.{WindowLoan}
use Rattle.desk_layers.specs.Desk as layers
use Rattle.desk_layers.specs.Desk.{LayeredDesk}
use Rattle.desk_layers.specs.Owner.{Owner, owner, owner_among, same_owner, is_content}
use Rattle.desk_layers.specs.Owner.Owner.{Desktop, Bar, Frame, Content}
use Rattle.desk_layers.specs.Change.{State, had}
use Rattle.vis_update.specs.declared.area.Area.{Area}
use Rattle.vis_update.specs.declared.plan.Repaint.{Repaint}
use Rattle.vis_update.specs.declared.plan.Seat.{Seat}
use Rattle.vis_update.specs.declared.plan.Touch.{Touch}
use Rattle.window_list.specs.Holders.{part_at}
use Rattle.vis_update.specs.Records.{WindowRecord, Look, layered_window}
use Rattle.vis_update.specs.Areas.{IsArea, IsDesktop, is_content_of}
use Rattle.vis_update.specs.Seats.{Stand, stand_of, seat_stand, area_had, IsArranged, IsChangedArea}
use Rattle.vis_update.specs.Plans.{IsSwept, IsUpdateVisible, stale_after, area_then, areas_then, AreAreasAfter, IsPart, ArePlanParts, IsPlan}
use Rattle.vis_update.specs.Touches.{change_of, way_of, came_from, draws_whole, moves, KeepsLayers}
use Rattle.vis_update.proofs.LayerOwners.{owner_first}
use Rattle.vis_update.proofs.UpdateLemmas.{is_content_among, content_is_among}
use Rattle.vis_update.proofs.Sweeping.{AreSwept}
use Rattle.vis_update.proofs.Takings.{Reaches, Taking, taking, taken_is, around_is, reaches_behind}
use Rattle.vis_update.proofs.Sources.{kept_or_stale, stale_is, erase_is, copied_is}

module _ {V : Type 0} {H : V → Type 0} (loan : TakenBox V H → WindowLoan) (t : Touch) (look : Look) (before : State) (after : LayeredDesk) (changed : Pixels) (changes : IsChangedArea before.desk after changed) where
  -- outside the changed area nothing gets another owner
  same_outside : (is_its : Owner → Bool) (p : Point) → holds changed p ≡ false → (layers.on_screen before.desk p && is_its (owner before.desk p)) ≡ (layers.on_screen after p && is_its (owner after p))
  same_outside is_its p e = by_screen (layers.on_screen after p) refl
    where
      by_screen : (b : Bool) → layers.on_screen after p ≡ b → (layers.on_screen before.desk p && is_its (owner before.desk p)) ≡ (layers.on_screen after p && is_its (owner after p))
      by_screen true on = λ i. changes.screen p i && is_its (sym (changes.outside p e on) i)
      by_screen false off = (λ i. (changes.screen p ∙ off) i && is_its (owner before.desk p)) ∙ sym (λ i. off i && is_its (owner after p))

  -- what was before, and what is taken of the changed area and of nothing else
  joined_is : (its : Bool) (p : Point) (has old taken : Bool) → has ≡ ((old && not (holds changed p)) || taken) → (holds changed p ≡ true → taken ≡ its) → (holds changed p ≡ false → taken ≡ false) → (holds changed p ≡ false → old ≡ its) → has ≡ its
  joined_is its p has old taken has_is inside none outside = by_changed (holds changed p) refl
    where
      not_kept : (o t : Bool) → ((o && not true) || t) ≡ t
      not_kept true t = refl
      not_kept false t = refl

      kept : (o : Bool) → ((o && not false) || false) ≡ o
      kept true = refl
      kept false = refl

      by_changed : (c : Bool) → holds changed p ≡ c → has ≡ its
      by_changed true e = has_is ∙ (λ i. (old && not (e i)) || taken) ∙ not_kept old taken ∙ inside e
      by_changed false e = has_is ∙ (λ i. (old && not (e i)) || none e i) ∙ kept old ∙ outside e

  -- what one window has, where the windows in front left what they should
  area_is : (first middle : PixelSet) (w : WindowRecord) (ws : List WindowRecord) (s : Seat V H) (a : Area) (part : Repaint) → seat_stand loan s ≡ stand_of w → layers.AreWindows (map (layered_window look) (w ∷ ws)) → Reaches look after (w ∷ ws) (holds changed) first → IsArea before.desk before.stale s.serial s.area.now → KeepsLayers t before.desk after → IsSwept loan t (holds changed) first s a part middle → IsArea after (stale_after (change_of t) before after) w.serial a × IsPart t before after w.serial part × Reaches look after ws (holds changed) middle
  area_is first middle w ws s a part same distinct reach was keeps swept = (
    record {
      visible = visible_is;
      update = λ p.
          swept.update update_seen p
          ∙ (λ i. holds a.visible p && not (was.visible (q p) i && not ((was.update (q p) ∙ ap (λ b. b && before.stale (q p)) (was.visible (q p))) i)))
          ∙ kept_or_stale (holds a.visible p) _ (before.stale (q p))
          ∙ (λ i. holds a.visible p && (let r = came_from (way_of t (serial i)) p in if layers.on_screen before.desk r && is_content_of (serial i) (owner before.desk r) then before.stale r else true))
          ∙ stale_is t w.serial before after p (holds a.visible p) keeps (visible_is p);
      frame = frame_is;
    },
    record {
      erase = λ p.
          swept.erase p
          ∙ (λ i. holds a.visible p && not (was.visible (q p) i))
          ∙ (λ i. holds a.visible p && (let r = came_from (way_of t (serial i)) p in not (layers.on_screen before.desk r && is_content_of (serial i) (owner before.desk r))))
          ∙ erase_is t w.serial before.desk after p (holds a.visible p) keeps (visible_is p)
          ∙ ap (λ v. v && not (had (change_of t) before.desk (owner after p) p)) (visible_is p);
      redraw = λ p.
          swept.redraw p
          ∙ (λ i. frame_is p i && (draws_whole t s.serial || not (was.frame p i)))
          ∙ (λ i. (layers.on_screen after p && same_owner (owner after p) (Frame w.serial)) && (draws_whole t (serial i) || not (layers.on_screen before.desk p && same_owner (owner before.desk p) (Frame (serial i)))));
    },
    reaches_behind look after w ws (holds changed) first taken around middle distinct reach takes,
  )
    where
      q : Point → Point
      q p = came_from (way_of t s.serial) p

      update_seen : IsUpdateVisible s.area.now
      update_seen p e = (and_parts (holds s.area.now.visible p) (before.stale p) (sym (was.update p) ∙ e)).0

      serial : s.serial ≡ w.serial
      serial = ap (λ (x : Stand). x.serial) same

      -- what it takes, by its record
      taken : PixelSet
      taken p = w.definition.content w.size (minus p w.place) && (w.shown && first p)

      around : PixelSet
      around p = (w.definition.structure w.size (minus p w.place) && not (w.definition.content w.size (minus p w.place))) && (w.shown && first p)

      takes : (p : Point) → Taking w.serial (part_at w.layers (minus p w.place)) (first p) w.shown (w.definition.structure w.size (minus p w.place)) (w.definition.content w.size (minus p w.place)) (taken p) (around p) (middle p) (owner after p) (owner_among (map (layered_window look) ws) p)
      takes p = taking w.serial (part_at w.layers (minus p w.place)) (first p) w.shown _ _ (taken p) (around p) (middle p) (owner after p) (owner_among (map (layered_window look) ws) p)
          (λ shown e.
          let sh : s.shown ≡ true = ap (λ (x : Stand). x.shown) same ∙ shown in
          sym (ap (λ (x : Stand). x.structure (minus p x.place)) same) ∙ swept.within sh (minus p s.place) (ap (λ (x : Stand). x.content (minus p x.place)) same ∙ e))
          refl
          refl
          (swept.leaves p ∙ ap (λ (x : Stand). first p && not (x.shown && x.structure (minus p x.place))) same)
          (λ e. (reach.here p e).1 ∙ owner_first look w ws p)

      not_left : (p : Point) → holds changed p ≡ false → first p ≡ false
      not_left p e = by_left (first p) refl
        where
          by_left : (b : Bool) → first p ≡ b → first p ≡ false
          by_left true f = absurd (false≢true (sym e ∙ reach.inside p f))
          by_left false f = f

      no_content : (c s : Bool) → (c && (s && false)) ≡ false
      no_content true true = refl
      no_content true false = refl
      no_content false s = refl

      visible_is : (p : Point) → holds a.visible p ≡ (layers.on_screen after p && is_content_of w.serial (owner after p))
      visible_is p = joined_is _ p (holds a.visible p) (holds s.area.now.visible p) (taken p)
          (swept.visible p ∙ ap (λ (x : Stand). (holds s.area.now.visible p && not (holds changed p)) || (x.content (minus p x.place) && (x.shown && first p))) same)
          (taken_is look after w ws (holds changed) first taken around middle distinct reach takes p)
          (λ e. (λ i. w.definition.content w.size (minus p w.place) && (w.shown && not_left p e i)) ∙ no_content (w.definition.content w.size (minus p w.place)) w.shown)
          (λ e. was.visible p ∙ (λ i. layers.on_screen before.desk p && is_content_of (serial i) (owner before.desk p)) ∙ same_outside (is_content_of w.serial) p e)

      frame_is : (p : Point) → holds a.frame p ≡ (layers.on_screen after p && same_owner (owner after p) (Frame w.serial))
      frame_is p = joined_is _ p (holds a.frame p) (holds s.area.now.frame p) (around p)
          (swept.frame p ∙ ap (λ (x : Stand). (holds s.area.now.frame p && not (holds changed p)) || ((x.structure (minus p x.place) && not (x.content (minus p x.place))) && (x.shown && first p))) same)
          (around_is look after w ws (holds changed) first taken around middle distinct reach takes p)
          (λ e. (λ i. (w.definition.structure w.size (minus p w.place) && not (w.definition.content w.size (minus p w.place))) && (w.shown && not_left p e i)) ∙ no_content (w.definition.structure w.size (minus p w.place) && not (w.definition.content w.size (minus p w.place))) w.shown)
          (λ e. was.frame p ∙ (λ i. layers.on_screen before.desk p && same_owner (owner before.desk p) (Frame (serial i))) ∙ same_outside (λ o. same_owner o (Frame w.serial)) p e)

  stands_first : (s : Seat V H) (seats : List (Seat V H)) (w : WindowRecord) (ws : List WindowRecord) → map (seat_stand loan) (s ∷ seats) ≡ map stand_of (w ∷ ws) → (seat_stand loan s ≡ stand_of w) × (map (seat_stand loan) seats ≡ map stand_of ws)
  stands_first s seats w ws e = (cc, cc)

  -- what is copied where content moves
  abbrev moved_in : PixelSet
  moved_in p = layers.on_screen after p && (moves t (owner after p) && had (change_of t) before.desk (owner after p) p)

  -- all that the sweep gives
  record AllSwept (ws : List WindowRecord) (areas : List Area) (parts : List Repaint) (from upto last : PixelSet) : Type 0 where
    areas_are : AreAreasAfter (change_of t) before after ws areas
    parts_are : ArePlanParts t before after ws parts
    copied : (p : Point) → upto p ≡ (from p || (is_content_among ws (owner after p) && moved_in p))
    left : Reaches look after [] (holds changed) last

  all_areas : (first from last upto : PixelSet) (ws : List WindowRecord) (seats : List (Seat V H)) (areas : List (Option Area)) (parts : List Repaint) → map (seat_stand loan) seats ≡ map stand_of ws → layers.AreWindows (map (layered_window look) ws) → Reaches look after ws (holds changed) first → All (λ s. IsArea before.desk before.stale s.serial s.area.now) seats → KeepsLayers t before.desk after → AreSwept loan t (holds changed) first from seats areas parts last upto → AllSwept ws (areas_then (map area_had seats) areas) parts from upto last
  all_areas first from last upto [] [] [] [] same distinct reach was keeps swept = record {
    areas_are = tt;
    parts_are = tt;
    copied = λ p. swept.1 p ∙ sym (or_false (from p));
    left = record {
      inside = λ p e. reach.inside p (sym (swept.0 p) ∙ e);
      here = λ p e. reach.here p (sym (swept.0 p) ∙ e);
      elsewhere = λ p its e. reach.elsewhere p its (sym (swept.0 p) ∙ e);
    };
  }
    where
      or_false : (b : Bool) → (b || false) ≡ b
      or_false true = refl
      or_false false = refl
  all_areas first from last upto (w ∷ ws) (s ∷ seats) (a ∷ areas) (part ∷ parts) same distinct reach was keeps swept =
      let two = stands_first s seats w ws same in
      let one = area_is first swept.0 w ws s (area_then s.area.now a) part two.0 distinct reach (All-head (λ (v : Seat V H). IsArea before.desk before.stale v.serial v.area.now) s seats was) keeps swept.2 in
      let rest = all_areas swept.0 swept.1 last upto ws seats areas parts two.1 distinct.1.1 one.2 (All-tail (λ (v : Seat V H). IsArea before.desk before.stale v.serial v.area.now) s seats was) keeps swept.4 in
      record {
        areas_are = (one.0, rest.areas_are);
        parts_are = (one.1, rest.parts_are);
        copied = λ p.
            rest.copied p
            ∙ ap (λ b. b || (is_content_among ws (owner after p) && moved_in p))
            (swept.3 p
            ∙ (λ i. from p || (is_some (way_of t (ap (λ (x : Stand). x.serial) two.0 i)) && (one.0.visible p i && not ((one.1.erase p) i))))
            ∙ ap (λ b. from p || b) (copied_is t w.serial (owner after p) (layers.on_screen after p) (had (change_of t) before.desk (owner after p) p)))
            ∙ shared (from p) (is_content_of w.serial (owner after p)) (is_content_among ws (owner after p)) (moved_in p);
        left = rest.left;
      }
    where
      shared : (f x y k : Bool) → ((f || (x && k)) || (y && k)) ≡ (f || ((x || y) && k))
      shared true x y k = refl
      shared false true true true = refl
      shared false true true false = refl
      shared false true false true = refl
      shared false true false false = refl
      shared false false y k = refl
  all_areas first from last upto ws [] [] (part ∷ parts) same distinct reach was keeps swept = absurd swept
  all_areas first from last upto ws [] (a ∷ areas) parts same distinct reach was keeps swept = absurd swept
  all_areas first from last upto ws (s ∷ seats) [] parts same distinct reach was keeps swept = absurd swept
  all_areas first from last upto ws (s ∷ seats) (a ∷ areas) [] same distinct reach was keeps swept = absurd swept
  all_areas first from last upto (w ∷ ws) [] [] [] same distinct reach was keeps swept = absurd (cc)
  all_areas first from last upto [] (s ∷ seats) (a ∷ areas) (part ∷ parts) same distinct reach was keeps swept = absurd (cc)

  -- the sweep over the changed area makes the plan
  pub swept_plan : (ws : List WindowRecord) (desktop gone behind uncovered copied none : Pixels) (seats : List (Seat V H)) (areas : Vec (Option Area) Global) (parts : Vec Repaint Global) (i : ℕ) → IsArranged loan look before after ws changed seats → IsDesktop before.desk desktop → KeepsLayers t before.desk after → i ≡ length seats → ((p : Point) → holds none p ≡ false) → AreSwept loan t (holds changed) (holds changed) (holds none) (take i seats) areas.items parts.items (holds behind) (holds copied) → ((p : Point) → holds uncovered p ≡ (holds behind p && not (holds desktop p))) → ((p : Point) → holds gone p ≡ ((holds desktop p && not (holds changed p)) || holds behind p)) → IsPlan t before after desktop (map area_had seats) ws (record { areas = areas; parts = parts; desktop = gone; uncovered = uncovered; copied = copied })
  swept_plan ws desktop gone behind uncovered copied none seats areas parts i arranged was_desktop keeps all empty swept uncovered_is gone_is = record {
    areas = its.areas_are;
    parts = its.parts_are;
    desktop_is = λ p. joined_is _ p (holds gone p) (holds desktop p) (holds behind p) (gone_is p)
        (λ e. by_left p e (holds behind p) refl) (λ e. not_left p e (holds behind p) refl)
        (λ e. was_desktop p ∙ same_outside (λ o. same_owner o Desktop) p e);
    uncovered = λ p. uncovered_is p ∙ new_alone (holds desktop p) (holds changed p) (holds behind p) ∙ ap (λ b. b && not (holds desktop p)) (sym (gone_is p));
    copied = λ p.
        its.copied p
        ∙ ap (λ b. b || (is_content_among ws (owner after p) && moved_in p)) (empty p)
        ∙ ap (λ b. b && moved_in p) (among p)
        ∙ of_content (owner after p) (layers.on_screen after p) (had (change_of t) before.desk (owner after p) p);
  }
    where
      new_alone : (d c b : Bool) → (b && not d) ≡ (((d && not c) || b) && not d)
      new_alone true true true = refl
      new_alone true true false = refl
      new_alone true false true = refl
      new_alone true false false = refl
      new_alone false c b = refl

      by_bar : (on b : Bool) (o : Owner) → (on && not b) ≡ true → (on ≡ true) × ((if b then Bar else o) ≡ o)
      by_bar true true o e = absurd (cc)
      by_bar true false o e = (refl, refl)
      by_bar false b o e = absurd (cc)

      reach : Reaches look after ws (holds changed) (holds changed)
      reach = record {
        inside = λ p e. e;
        here = λ p e.
            let parts = by_bar (layers.on_screen after p) (layers.in_bar after p) (owner_among after.windows p) (changes.within p e) in
            (parts.0, parts.1 ∙ ap (λ vs. owner_among vs p) arranged.desk);
        elsewhere = λ p its e. absurd (false≢true (sym e ∙ its));
      }

      its : AllSwept ws (areas_then (map area_had seats) areas.items) parts.items (holds none) (holds copied) (holds behind)
      its = all_areas (holds changed) (holds none) (holds behind) (holds copied) ws seats areas.items parts.items arranged.stands (subst layers.AreWindows arranged.desk arranged.distinct) reach arranged.areas keeps (subst (λ (ss : List (Seat V H)). AreSwept loan t (holds changed) (holds changed) (holds none) ss areas.items parts.items (holds behind) (holds copied)) (ap (λ n. take n seats) all ∙ take-length seats) swept)

      not_left : (p : Point) → holds changed p ≡ false → (b : Bool) → holds behind p ≡ b → holds behind p ≡ false
      not_left p e true f = absurd (false≢true (sym e ∙ its.left.inside p f))
      not_left p e false f = f

      by_left : (p : Point) → holds changed p ≡ true → (b : Bool) → holds behind p ≡ b → holds behind p ≡ (layers.on_screen after p && same_owner (owner after p) Desktop)
      by_left p here true e = let found = its.left.here p e in e ∙ (λ i. sym found.0 i && same_owner (sym found.1 i) Desktop)
      by_left p here false e = e ∙ ⊎_elim (λ off. λ i. sym off i && same_owner (owner after p) Desktop) (λ other. sym (and_false (layers.on_screen after p)) ∙ ap (λ b. layers.on_screen after p && b) (sym other)) (its.left.elsewhere p here e)
        where
          and_false : (b : Bool) → (b && false) ≡ false
          and_false true = refl
          and_false false = refl

      among : (p : Point) → is_content_among ws (owner after p) ≡ is_content (owner after p)
      among p = content_is_among look after ws p arranged.desk

      of_content : (o : Owner) (on h : Bool) → (is_content o && (on && (moves t o && h))) ≡ ((on && moves t o) && h)
      of_content Desktop on h = off on
        where
          off : (b : Bool) → false ≡ ((b && false) && h)
          off true = refl
          off false = refl
      of_content Bar on h = off on
        where
          off : (b : Bool) → false ≡ ((b && false) && h)
          off true = refl
          off false = refl
      of_content (Frame s) on h = off on
        where
          off : (b : Bool) → false ≡ ((b && false) && h)
          off true = refl
          off false = refl
      of_content (Content s part) true h = refl
      of_content (Content s part) false h = refl
