-- The step of a picture that is moved in its window.
use Rattle.std.proofs.Common.{◌≡◌, inl, inr, ℕ, ◌<◌, not, ◌&&◌, Bool, true, false, if◌then◌else◌, List, [], length, map, get_or, None, Some, Result, Ok, Err, refl, sym, ap, ◌∙◌, subst}
use Rattle.std.specs.Prelude.{IfOk, slice_set}
use Rattle.std.specs.declared.alloc.AllocError.{AllocError}
use Rattle.std.proofs.lemmas.Bool.{and_parts}
use Rattle.std.proofs.lemmas.Option.{slice_get-get_or}
use Rattle.std.proofs.lemmas.Result.{IfOk-weaker}
use Rattle.tb_geom.specs.declared.point.Point.{Point}
use Rattle.tb_geom.specs.declared.refusal.Refusal.TheVariants.{OutOfRange, NoMemory}
use Rattle.tb_geom.specs.Points.{plus, minus}
use Rattle.tb_geom.specs.Pixels.{Pixels, holds}
use Rattle.tb_geom.specs.Rects.{in_plane}
use Rattle.tb_geom.specs.Refusals.{first_refusal}
use Rattle.bit_map.specs.Bits.{Bits, on_map, bit}
use Rattle.def_iface.specs.Slots.{TakenBox}
use Rattle.desk_layers.specs.declared.part.Part.TheVariants.{Picture}
use Rattle.def_iface.specs.WindowMeaning.{WindowLoan}
use Rattle.def_iface.specs.WindowSlots.{WindowSlot}
use Rattle.desk_layers.specs.Desk as layers
use Rattle.desk_layers.specs.Desk.{LayeredDesk}
use Rattle.desk_layers.specs.Owner.{Owner, owner, same_owner, is_content}
use Rattle.desk_layers.specs.Owner.Owner.{Content}
use Rattle.desk_layers.specs.Scratch.{scratch}
use Rattle.desk_layers.specs.Change as plain
use Rattle.desk_layers.proofs.Owning.{same_owner-self}
use Rattle.desk_call.specs.declared.window.ScrollPicture.{ScrollPicture}
use Rattle.desk_call.specs.declared.window.WindowCall.TheVariants.{Scroll}
use Rattle.desk_call.specs.declared.window.WindowReply.TheVariants.{Done}
use Rattle.vis_update.specs.declared.area.Area.{Area}
use Rattle.vis_update.specs.declared.scrolling.Scrolled.{Scrolled}
use Rattle.vis_update.specs.Areas.{IsArea, AreAreas, IsNear, is_content_of, stale_in}
use Rattle.vis_update.specs.Contents.{scroll_change, scrolled_from, IsCovered, IsScrollPlan}
use Rattle.vis_update.proofs.ScrollLemmas.{no_picture, other_stale}
use Rattle.vis_update.proofs.SeatLemmas as seats
use Rattle.window_list.specs.declared.window.Window.{Window}
use Rattle.window_list.specs.Lists.{edit_at, with_origin}
use Rattle.window_list.proofs.ListLemmas.{set_is_edit}
use Rattle.window_mgr.specs.declared.manager.WindowManager.{WindowManager}
use Rattle.window_paint.specs.Moves.{moved_bit}
use Rattle.window_mgr.specs.Edits.{StandsAt, IsWindowAt}
use Rattle.window_mgr.specs.Effects.{IsScrolled, with_scrolled}
use Rattle.window_mgr.specs.FullDesk.{FullDesk, layered_desk, layered_state}
use Rattle.window_mgr.specs.Kept.{IsKept}
use Rattle.window_mgr.specs.Records.{desk_of, state_of}
use Rattle.window_mgr.specs.Refused.{scroll_refusals, may_scroll}
use Rattle.window_mgr.specs.Scrolls.{IsPlanOfScroll, IsScrollDrawn}
use Rattle.window_paint.specs.Moves.{IsScrollPainted}
use Rattle.window_mgr.specs.Whole.{IsWholeManager}
use Rattle.window_mgr.proofs.Arranged.{between-is_below}
use Rattle.window_mgr.proofs.EditSeats.{there_is, same_at}
use Rattle.window_mgr.proofs.Remarked as remarked
use Rattle.window_mgr.proofs.Repicturing as anew
use Rattle.window_mgr.proofs.Repicturing.{IsRepictured}
use Rattle.window_mgr.proofs.SameDeskLemmas.{is_refused}
use Rattle.window_mgr.proofs.Seating.{sides}
use Rattle.window_mgr.proofs.Steps as steps
use Rattle.window_mgr.proofs.Covered.{covered_so}
use Rattle.window_paint.specs.Hidden.{is_hidden}
use Rattle.window_mgr.specs.Updating.{LeavesState}
use Rattle.window_mgr.specs.Step.{IsWindowStep}

module _ {V : Type 0} {H : V → Type 0} (loan : TakenBox V H → WindowLoan) (t : WindowManager V H) (slots : List WindowSlot) (whole : IsWholeManager loan t slots) (m : ScrollPicture) (at : ℕ) (low : at < length t.windows.records.items) (x : Window V H) (x_is : IsWindowAt t.windows.records.items at x)
    (a : Area) (read : a ≡ get_or t.areas.items at a) (s : Scrolled) (plan : IsScrollPlan x.serial m.by (layered_state (state_of loan t slots)) s) (screen : Bits) (painted : IsScrollPainted s.copied s.erase m.by t.screen screen) where
  abbrev before : plain.State
  before = layered_state (state_of loan t slots)

  abbrev desk : LayeredDesk
  desk = before.desk

  abbrev change : plain.Change
  change = scroll_change x.serial m.by

  -- ---- the pixels, once the scroll is drawn

  on_map_is : (p : Point) → layers.on_screen desk p ≡ on_map t.screen p
  unfolding on_map
  on_map_is p = λ i. between-is_below t.screen.width p.h i && between-is_below t.screen.height p.v i

  -- what is to be redrawn is content of the window
  within : (p : Point) → holds s.update p ≡ true → holds a.visible p ≡ true
  within p e =
      (remarked.area_is loan t slots whole at low x x_is a read).visible p
      ∙ (and_parts (layers.on_screen desk p && is_content_of x.serial (owner desk p)) _ (sym (plan.update p) ∙ e)).0

  module _ (p : Point) (on : layers.on_screen desk p ≡ true) where
    abbrev its : Owner
    its = owner desk p

    abbrev is_picture : Bool
    is_picture = same_owner its (Content x.serial Picture)

    abbrev source : Point
    source = minus p m.by

    bit_is : bit screen p ≡ (if holds s.erase p then false else moved_bit s.copied (Some m.by) t.screen p)
    bit_is = painted.pixels p (sym (on_map_is p) ∙ on)

    erase_is : (b : Bool) → is_picture ≡ b → holds s.erase p ≡ ((true && b) && not (plain.had change desk its p))
    erase_is b e = plan.erase p ∙ (λ i. (on i && e i) && not (plain.had change desk its p))

    copied_is : (b : Bool) → is_picture ≡ b → holds s.copied p ≡ ((true && b) && plain.had change desk its p)
    copied_is b e = plan.copied p ∙ (λ i. (on i && e i) && plain.had change desk its p)

    -- what is not the picture stays as it was
    still : is_picture ≡ false → bit screen p ≡ bit t.screen p
    still e =
        bit_is
        ∙ (λ i. if erase_is false e i then false else (if copied_is false e i && on_map t.screen source then bit t.screen source else bit t.screen p))

    -- each pixel of content has its value, whatever the desk is then
    image_is : (after : LayeredDesk) → is_content its ≡ true → bit screen p ≡ plain.image_by change before after its p
    image_is after c = by_picture is_picture refl
      where
        by_had : is_picture ≡ true → (h : Bool) → plain.had change desk its p ≡ h → bit screen p ≡ plain.image_by change before after its p
        by_had e true f =
            let there : on_map t.screen source ≡ true =
            sym (on_map_is source) ∙ (λ i. layers.on_screen desk (if sym e i then source else p)) ∙ (and_parts (layers.on_screen desk (scrolled_from x.serial m.by its p)) _ f).0 in
            bit_is
            ∙ (λ i. if (erase_is true e ∙ ap not f) i then false else (if (copied_is true e ∙ f) i && there i then bit t.screen source else bit t.screen p))
            ∙ sym (λ i. if not (c i) then scratch after p else (if not (f i) then false else bit t.screen (if e i then source else p)))
        by_had e false f =
            bit_is
            ∙ (λ i. if (erase_is true e ∙ ap not f) i then false else moved_bit s.copied (Some m.by) t.screen p)
            ∙ sym (λ i. if not (c i) then scratch after p else (if not (f i) then false else bit t.screen (scrolled_from x.serial m.by its p)))

        by_picture : (b : Bool) → is_picture ≡ b → bit screen p ≡ plain.image_by change before after its p
        by_picture true e = by_had e (plain.had change desk its p) refl
        by_picture false e =
            still e
            ∙ sym (
            (λ i. if not (c i) then scratch after p
            else (let q = if e i then source else p in if not (layers.on_screen desk q && same_owner (owner desk q) its) then false else bit t.screen q))
            ∙ (λ i. if not (on i && same_owner-self its i) then false else bit t.screen p))

    abbrev areas : List Area
    areas = slice_set t.areas.items at (record a { update = s.update })

    -- and is stale where it is to be
    stale_is : is_content its ≡ true → stale_in areas p ≡ plain.stale_by change before its p
    stale_is c = remarked.stale_is loan t slots whole at low x x_is a read s.update within p on ∙ by_window (is_content_of x.serial its) refl
      where
        by_window : (b : Bool) → is_content_of x.serial its ≡ b → (if is_content_of x.serial its then holds s.update p else stale_in t.areas.items p) ≡ plain.stale_by change before its p
        by_window true e = (λ i. if e i then holds s.update p else stale_in t.areas.items p) ∙ plan.update p ∙ (λ i. (on i && e i) && plain.stale_by change before its p)
        by_window false e = (λ i. if e i then holds s.update p else stale_in t.areas.items p) ∙ sym (other_stale before x.serial m.by p on c (no_picture x.serial its e))

  -- ---- the window manager in between: the scroll is drawn, and the picture lies where it lay

  abbrev drawn : WindowManager V H
  drawn = remarked.with_update loan t slots whole at low x x_is a read s.update screen

  outside : (p : Point) → layers.on_screen desk p ≡ true → is_content_of x.serial (owner desk p) ≡ false → bit screen p ≡ bit t.screen p
  outside p on e = still p on (no_picture x.serial (owner desk p) e)

  drawn_whole : IsWholeManager loan drawn slots
  drawn_whole = remarked.is_whole loan t slots whole at low x x_is a read s.update within screen painted.width painted.height outside

  same_desk : desk_of loan drawn slots ≡ desk_of loan t slots
  same_desk = remarked.desk_is loan t slots whole at low x x_is a read s.update within screen painted.width painted.height outside

  -- ---- the window manager afterwards

  module _ (serial : x.serial ≡ m.window) (placed : in_plane (plus x.origin m.by) ≡ true) (new : WindowManager V H)
      (windows : new.windows ≡ record t.windows { records = edit_at (with_origin (plus x.origin m.by)) at t.windows.records }) (others : new ≡ record drawn { windows = new.windows }) where
    repictured : IsRepictured loan m.window (λ w. w.picture) (λ w. plus w.origin m.by) at drawn new
    repictured = record {
      window = x;
      there = slice_get-get_or t.windows.records.items at x low ∙ ap Some (sym x_is);
      number = serial;
      placed = placed;
      windows = ap (λ l. l.records.items) windows ∙ sym (set_is_edit (with_origin (plus x.origin m.by)) t.windows.records.items at x x_is);
      width = ap (λ (u : WindowManager V H). u.screen.width) others;
      height = ap (λ (u : WindowManager V H). u.screen.height) others;
      bar = ap (λ (u : WindowManager V H). u.bar) others;
      font = ap (λ (u : WindowManager V H). u.font) others;
      gray = ap (λ (u : WindowManager V H). u.gray) others;
      desktop = ap (λ (u : WindowManager V H). u.desktop) others;
      active = ap (λ l. l.active) windows;
      next = ap (λ l. l.next) windows;
      frames = λ p on e. ap (λ (u : WindowManager V H). bit u.screen p) others;
      areas = subst (λ areas. AreAreas (layered_desk (desk_of loan drawn slots)) (stale_in areas) (desk_of loan drawn slots).windows areas) (sym (ap (λ (u : WindowManager V H). u.areas.items) others)) drawn_whole.areas;
    }

    pub is_whole : IsWholeManager loan new slots
    is_whole = anew.is_whole loan m.window (λ w. w.picture) (λ w. plus w.origin m.by) at drawn new slots drawn_whole repictured

    on_before : (p : Point) → layers.on_screen (layered_desk (desk_of loan drawn slots)) p ≡ true → layers.on_screen desk p ≡ true
    on_before p on = ap (λ (d : FullDesk). layers.on_screen (layered_desk d) p) (sym same_desk) ∙ on

    changed : plain.IsChanged change before (layered_state (state_of loan new slots))
    changed = anew.changed loan m.window (λ w. w.picture) (λ w. plus w.origin m.by) at drawn new slots drawn_whole repictured change before
        (λ p on e. ap (λ (u : WindowManager V H). stale_in u.areas.items p) others ∙ stale_is p (on_before p on) e)
        (λ p on e. ap (λ (u : WindowManager V H). bit u.screen p) others ∙ image_is p (on_before p on) (layered_desk (anew.after loan m.window (λ w. w.picture) (λ w. plus w.origin m.by) at drawn new slots drawn_whole repictured)) e)

    pub is_scrolled : IsScrolled m (state_of loan t slots) (state_of loan new slots)
    is_scrolled = record {
      desk =
          anew.desk_is loan m.window (λ w. w.picture) (λ w. plus w.origin m.by) at drawn new slots drawn_whole repictured
          ∙ ap (λ (d : FullDesk). record d { windows = map (with_scrolled m) d.windows }) same_desk;
      pixels = subst (λ (n : ℕ). plain.IsChanged (scroll_change n m.by) before (layered_state (state_of loan new slots))) serial changed;
    }

-- ---- the call

module _ {V : Type 0} {H : V → Type 0} (loan : TakenBox V H → WindowLoan) (t : WindowManager V H) (m : ScrollPicture) (at : ℕ) (stands : StandsAt t.windows.records.items m.window at) (x : Window V H) (x_is : IsWindowAt t.windows.records.items at x) where
  -- of a window that is there the new origin alone says whether the call is refused
  refusal_is : (slots : List WindowSlot) → IsWholeManager loan t slots → (b : Bool) → b ≡ in_plane (plus x.origin m.by) → first_refusal (scroll_refusals m (desk_of loan t slots)) ≡ (if b then None else Some OutOfRange)
  refusal_is slots whole b is = steps.may_stand loan t t slots whole at m.window x stands.0 x_is (stands.1 x x_is) (may_scroll m.by) b is

  pub out_of_range : in_plane (plus x.origin m.by) ≡ false → LeavesState loan (IsWindowStep (Scroll m) (Err OutOfRange)) t t
  out_of_range e = is_refused loan t (Scroll m) OutOfRange (λ slots whole. inl (refusal_is slots whole false (sym e)))

  -- where nothing but want of memory can refuse it
  module _ (placed : in_plane (plus x.origin m.by) ≡ true) where
    pub no_memory : LeavesState loan (IsWindowStep (Scroll m) (Err NoMemory)) t t
    no_memory = is_refused loan t (Scroll m) NoMemory (λ slots whole. inr (refusal_is slots whole true (sym placed), (refl, refl)))

    pub scrolls : (s : Scrolled) (u new : WindowManager V H) → IsPlanOfScroll loan at m.by t s → IsScrollDrawn at m.by s t u
        → new.windows ≡ record u.windows { records = edit_at (with_origin (plus x.origin m.by)) at u.windows.records } → new ≡ record u { windows = new.windows }
        → LeavesState loan (IsWindowStep (Scroll m) (Ok Done)) t new
    scrolls s u new plan done windows others slots whole =
        let its_windows : new.windows ≡ record t.windows { records = edit_at (with_origin (plus x.origin m.by)) at t.windows.records } =
        subst (λ (v : WindowManager V H). new.windows ≡ record v.windows { records = edit_at (with_origin (plus x.origin m.by)) at v.windows.records }) done.state windows in
        let its_others = subst (λ (v : WindowManager V H). new ≡ record v { windows = new.windows }) done.state others in (
          is_whole loan t slots whole m at stands.0 x x_is done.area done.there s (plan x x_is) u.screen done.painted (stands.1 x x_is) placed new its_windows its_others,
          (refusal_is slots whole true (sym placed), (refl, is_scrolled loan t slots whole m at stands.0 x x_is done.area done.there s (plan x x_is) u.screen done.painted (stands.1 x x_is) placed new its_windows its_others)),
        )

-- ---- the plan

module _ {V : Type 0} {H : V → Type 0} (loan : TakenBox V H → WindowLoan) (t : WindowManager V H) (held : IsKept loan t) (at : ℕ) (low : at < length t.windows.records.items) (a : Area) (read : a ≡ get_or t.areas.items at a) where
  area_is : (w : Window V H) → IsWindowAt t.windows.records.items at w → IsArea (layered_desk (desk_of loan t [])) (stale_in t.areas.items) w.serial a
  area_is w w_is = remarked.area_is loan t held.slots held.whole at low w w_is a read

  -- the pixels of the window's area are near
  pub area_near : IsNear a.visible × IsNear a.update
  area_near =
      let w = there_is t.windows.records.items at low in
      let side = sides loan t held in
      seats.area_near (layered_desk (desk_of loan t [])) (stale_in t.areas.items) w.0.serial a side.0 side.1 (area_is w.0 w.1)

  -- the plan of a picture that the window's layers cover is one of the window
  pub plan_is : (by : Point) (x : Window V H) (covered : Pixels) (result : Result Scrolled AllocError) → x ≡ get_or t.windows.records.items at x → ((p : Point) → holds covered p ≡ is_hidden x p)
      → IfOk result (λ s. (before : plain.State) (serial : ℕ) → IsArea before.desk before.stale serial a → IsCovered before.desk serial covered → IsScrollPlan serial by before s)
      → IfOk result (IsPlanOfScroll loan at by t)
  plan_is by x covered result read covers planned =
      IfOk-weaker result _ (IsPlanOfScroll loan at by t)
      (λ s its w w_is. its (layered_state (state_of loan t [])) w.serial (area_is w w_is) (covered_so loan t held.slots held.whole at low w w_is covered (λ p. covers p ∙ ap (λ (y : Window V H). is_hidden y p) (same_at t.windows.records.items at x w low read w_is)))) planned
