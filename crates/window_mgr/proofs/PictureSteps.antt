-- The step of a window that gets another picture.
use Rattle.std.proofs.Common.{◌≡◌, inl, inr, ℕ, ◌<◌, ◌&&◌, ◌||◌, Bool, true, false, if◌then◌else◌, List, length, get_or, set, None, Some, Ok, Err, refl, sym, ap, ◌∙◌, subst, arith, not}
use Rattle.std.specs.Prelude.{slice_get, IsSomeAnd}
use Rattle.std.specs.Option.{option_map}
use Rattle.std.proofs.lemmas.Option.{slice_get-map, slice_get-get_or, get_or_from_slice_get}
use Rattle.tb_geom.specs.declared.point.Point.{Point}
use Rattle.tb_geom.specs.declared.refusal.Refusal.TheVariants.{OutOfRange, NoMemory}
use Rattle.tb_geom.specs.Pixels.{Pixels, holds}
use Rattle.tb_geom.specs.Rects.{in_plane}
use Rattle.bit_map.specs.Bits.{Bits, bit}
use Rattle.def_iface.specs.Slots.{TakenBox}
use Rattle.def_iface.specs.WindowMeaning.{WindowLoan}
use Rattle.def_iface.specs.WindowSlots.{WindowSlot}
use Rattle.desk_layers.specs.Desk as layers
use Rattle.desk_layers.specs.declared.part.Part.TheVariants.{Picture}
use Rattle.desk_layers.specs.Owner.{owner, same_owner}
use Rattle.desk_layers.specs.Owner.Owner.{Content}
use Rattle.desk_layers.specs.Change as plain
use Rattle.desk_call.specs.declared.window.NewPicture.{NewPicture}
use Rattle.desk_call.specs.declared.window.WindowCall.TheVariants.{SetPicture}
use Rattle.desk_call.specs.declared.window.WindowReply.TheVariants.{Done}
use Rattle.vis_update.specs.declared.area.Area.{Area}
use Rattle.vis_update.specs.Records.{record_of}
use Rattle.vis_update.specs.Areas.{stale_in, IsArea, AreAreas, is_content_of}
use Rattle.window_list.specs.Lists.{edit_at, with_picture}
use Rattle.window_list.proofs.ListLemmas.{set_is_edit}
use Rattle.window_mgr.specs.declared.manager.WindowManager.{WindowManager}
use Rattle.window_mgr.specs.Edits.{StandsAt}
use Rattle.window_mgr.specs.Effects.{IsPictureSet, picture_change}
use Rattle.window_mgr.specs.FullDesk.{FullDesk, layered_desk, layered_state}
use Rattle.window_mgr.specs.Kept.{IsKept}
use Rattle.window_mgr.specs.Planned.{SameDesk, IsPictureAt}
use Rattle.window_mgr.specs.Records.{desk_of, state_of, look_on}
use Rattle.tb_geom.specs.Refusals.{first_refusal}
use Rattle.window_mgr.specs.Refused.{picture_refusals}
use Rattle.window_mgr.specs.Whole.{IsWholeManager}
use Rattle.window_mgr.proofs.EditSeats.{same_at, there_is}
use Rattle.window_mgr.proofs.Marking.{marked, stale_more, stale_marked, areas_marked}
use Rattle.window_mgr.proofs.Repicturing as anew
use Rattle.window_mgr.proofs.Repicturing.{IsRepictured}
use Rattle.window_mgr.proofs.SameDeskLemmas.{stays_refused}
use Rattle.window_mgr.proofs.Seating.{as_many}
use Rattle.window_mgr.proofs.Steps as steps
use Rattle.window_mgr.proofs.Covered.{picture_is}
use Rattle.window_paint.specs.Hidden.{is_hidden}
use Rattle.std.proofs.lemmas.Bool.{and_parts}
use Rattle.window_list.specs.declared.window.Window.{Window}
use Rattle.tb_geom.specs.Points.{PixelSet}
use Rattle.window_mgr.specs.Updating.{LeavesState}
use Rattle.window_mgr.specs.Step.{IsWindowStep}

-- ---- what the code did

module _ {V : Type 0} {H : V → Type 0} (loan : TakenBox V H → WindowLoan) (t : WindowManager V H) (held : IsKept loan t) (at s : ℕ) (stands : StandsAt t.windows.records.items s at) where
  -- the window's area is there
  pub area_low : at < length t.areas.items
  area_low =
      let long : length t.areas.items ≡ length t.windows.records.items = as_many loan t held in
      let low = stands.0 in
      omega arith

  pub is_picture_at : (n : NewPicture) (a b : Area) (x : Window V H) (covered shown update : Pixels) → a ≡ get_or t.areas.items at a → b ≡ get_or t.areas.items at b → x ≡ get_or t.windows.records.items at x
      → ((p : Point) → holds covered p ≡ is_hidden x p) → ((p : Point) → holds shown p ≡ (holds a.visible p && not (holds covered p))) → ((p : Point) → holds update p ≡ (holds a.update p || holds shown p)) → (new : WindowManager V H)
      → new.windows ≡ record t.windows { records = edit_at (with_picture n.picture n.origin) at t.windows.records } → new.areas.items ≡ set t.areas.items at (record b { update = update }) → new ≡ record t { windows = new.windows; areas = new.areas }
      → IsPictureAt at n t new
  is_picture_at n a b x covered shown update a_is b_is x_is covers shows updates new windows areas others =
      let found = there_is t.windows.records.items at stands.0 in
      let same : b ≡ a = same_at t.areas.items at b a area_low b_is a_is in
      let its : x ≡ found.0 = same_at t.windows.records.items at x found.0 stands.0 x_is found.1 in
      record {
        window = found.0;
        there = slice_get-get_or t.windows.records.items at found.0 stands.0 ∙ ap Some (sym found.1);
        windows = ap (λ l. l.records.items) windows ∙ sym (set_is_edit (with_picture n.picture n.origin) t.windows.records.items at found.0 found.1);
        areas = rw (slice_get-get_or t.areas.items at a area_low ∙ ap Some (sym a_is)) (
          update,
          (λ p. updates p ∙ ap (λ b. holds a.update p || b) (shows p ∙ ap (λ b. holds a.visible p && not b) (covers p ∙ ap (λ (y : Window V H). is_hidden y p) its))),
          areas ∙ (λ i. set t.areas.items at (record (same i) { update = update })),
        );
        screen = ap (λ (u : WindowManager V H). u.screen) others;
        bar = ap (λ (u : WindowManager V H). u.bar) others;
        font = ap (λ (u : WindowManager V H). u.font) others;
        gray = ap (λ (u : WindowManager V H). u.gray) others;
        desktop = ap (λ (u : WindowManager V H). u.desktop) others;
        active = ap (λ l. l.active) windows;
        next = ap (λ l. l.next) windows;
      }

-- ---- the desk before and after

module _ {V : Type 0} {H : V → Type 0} (loan : TakenBox V H → WindowLoan) (t new : WindowManager V H) (slots : List WindowSlot) (n : NewPicture) (at : ℕ) (whole : IsWholeManager loan t slots) (placed : in_plane n.origin ≡ true) (stands : StandsAt t.windows.records.items n.window at) (D : IsPictureAt at n t new) where
  abbrev before : FullDesk
  before = desk_of loan t slots

  number : D.window.serial ≡ n.window
  number = stands.1 D.window (sym (get_or_from_slice_get t.windows.records.items at D.window D.window D.there))

  -- what the window shows of its picture
  abbrev shown : Area → PixelSet
  shown a p = holds a.visible p && not (is_hidden D.window p)

  -- the area of the window, which was marked
  record IsMarked : Type 0 where
    its : Area
    update : Pixels
    area_is : IsArea (layered_desk before) (stale_in t.areas.items) n.window its
    there : slice_get t.areas.items at ≡ Some its
    grows : (p : Point) → holds update p ≡ (holds its.update p || shown its p)
    put : new.areas.items ≡ set t.areas.items at (marked update its)

  area : IsMarked
  area = by_get (slice_get t.areas.items at) refl D.areas
    where
      by_get : (o : _) → slice_get t.areas.items at ≡ o → IsSomeAnd o (λ a. (update : Pixels) × ((p : Point) → holds update p ≡ (holds a.update p || shown a p)) × (new.areas.items ≡ set t.areas.items at (record a { update = update }))) → IsMarked
      by_get None e h = absurd h
      by_get (Some a) e h = record { its = a; update = h.0; area_is = anew.area_is loan t slots whole at n.window D.window D.there number a e; there = e; grows = h.1; put = h.2 }

  within : (p : Point) → shown area.its p ≡ true → holds area.its.visible p ≡ true
  within p e = (and_parts (holds area.its.visible p) _ e).0

  -- all that it shows of its picture became stale
  stale_now : stale_more (layered_desk before) n.window area.its area.update (shown area.its) area.grows within (stale_in t.areas.items) ≡ stale_in new.areas.items
  stale_now = stale_marked (layered_desk before) n.window area.its area.update (shown area.its) area.grows within t.areas.items at area.there ∙ ap stale_in (sym area.put)

  areas_now : AreAreas (layered_desk before) (stale_in new.areas.items) before.windows new.areas.items
  areas_now =
      subst (λ (x : _ × List Area). AreAreas (layered_desk before) x.0 before.windows x.1) (λ i. (stale_now i, sym area.put i))
      (areas_marked (layered_desk before) n.window area.its area.update (shown area.its) area.grows within (stale_in t.areas.items) area.area_is (look_on t) before.windows t.areas.items at (record_of loan D.window) whole.sound.distinct (slice_get-map (record_of loan) t.windows.records.items at ∙ ap (option_map (record_of loan)) D.there) number area.there whole.areas)

  repictured : IsRepictured loan n.window (λ w. n.picture) (λ w. n.origin) at t new
  repictured = record {
    window = D.window;
    there = D.there;
    number = number;
    placed = placed;
    windows = D.windows;
    width = ap (λ (s : Bits). s.width) D.screen;
    height = ap (λ (s : Bits). s.height) D.screen;
    bar = D.bar;
    font = D.font;
    gray = D.gray;
    desktop = D.desktop;
    active = D.active;
    next = D.next;
    frames = λ p on e. ap (λ (s : Bits). bit s p) D.screen;
    areas = areas_now;
  }

  -- what it shows and what no layer hides is its picture
  its_picture : (p : Point) → (is_content_of n.window (owner (layered_desk before) p) && not (is_hidden D.window p)) ≡ same_owner (owner (layered_desk before) p) (Content n.window Picture)
  its_picture p = subst (λ k. (is_content_of k (owner (layered_desk before) p) && not (is_hidden D.window p)) ≡ same_owner (owner (layered_desk before) p) (Content k Picture)) number
      (picture_is loan t slots whole at stands.0 D.window (sym (get_or_from_slice_get t.windows.records.items at D.window D.window D.there)) p)

  changed : plain.IsChanged (picture_change n.window) (layered_state (state_of loan t slots)) (layered_state (state_of loan new slots))
  changed = anew.changed loan n.window (λ w. n.picture) (λ w. n.origin) at t new slots whole repictured (picture_change n.window) (layered_state (state_of loan t slots))
      (λ p on e. rw (e, had p on) (stale_there p on))
      (λ p on e. rw (e, had p on) (ap (λ (s : Bits). bit s p) D.screen))
    where
      had : (p : Point) → layers.on_screen (layered_desk before) p ≡ true → plain.had (picture_change n.window) (layered_desk before) (owner (layered_desk before) p) p ≡ true
      had p on = anew.had_is loan n.window (λ w. n.picture) (λ w. n.origin) at t new slots whole repictured (picture_change n.window) p refl on

      by_test : (b x : Bool) → (b || x) ≡ (if b then true else x)
      by_test true x = refl
      by_test false x = refl

      stale_there : (p : Point) → layers.on_screen (layered_desk before) p ≡ true → stale_in new.areas.items p ≡ (if same_owner (owner (layered_desk before) p) (Content n.window Picture) then true else stale_in t.areas.items p)
      stale_there p on =
          let its = owner (layered_desk before) p in
          sym (ap (λ (stale : Point → Bool). stale p) stale_now)
          ∙ ap (λ b. b || stale_in t.areas.items p) (ap (λ b. b && not (is_hidden D.window p)) (area.area_is.visible p ∙ ap (λ b. b && is_content_of n.window its) on) ∙ its_picture p)
          ∙ by_test (same_owner its (Content n.window Picture)) (stale_in t.areas.items p)

  is_set : IsPictureSet n (state_of loan t slots) (state_of loan new slots)
  is_set = record {
    desk = anew.desk_is loan n.window (λ w. n.picture) (λ w. n.origin) at t new slots whole repictured;
    pixels = changed;
  }

  is_whole : IsWholeManager loan new slots
  is_whole = anew.is_whole loan n.window (λ w. n.picture) (λ w. n.origin) at t new slots whole repictured

-- ---- the call

module _ {V : Type 0} {H : V → Type 0} (loan : TakenBox V H → WindowLoan) (t : WindowManager V H) (n : NewPicture) (at : ℕ) (stands : StandsAt t.windows.records.items n.window at) where
  -- of a window that is there the origin alone says whether the call is refused
  refusal_is : (slots : List WindowSlot) → IsWholeManager loan t slots → (b : Bool) → b ≡ in_plane n.origin → first_refusal (picture_refusals n (desk_of loan t slots)) ≡ (if b then None else Some OutOfRange)
  refusal_is slots whole b is =
      let found = there_is t.windows.records.items at stands.0 in
      steps.may_stand loan t t slots whole at n.window found.0 stands.0 found.1 (stands.1 found.0 found.1) (λ w. in_plane n.origin) b is

  pub out_of_range : in_plane n.origin ≡ false → LeavesState loan (IsWindowStep (SetPicture n) (Err OutOfRange)) t t
  out_of_range e = stays_refused loan t t (record { screen = refl; bar = refl; font = refl; gray = refl; desktop = refl; windows = refl; areas = refl; active = refl; next = refl }) (SetPicture n) OutOfRange (λ slots whole. inl (refusal_is slots whole false (sym e)))

  -- where nothing but want of memory can refuse it
  module _ (u : WindowManager V H) (placed : in_plane n.origin ≡ true) where
    pub sets : IsPictureAt at n t u → LeavesState loan (IsWindowStep (SetPicture n) (Ok Done)) t u
    sets done slots whole = (
      is_whole loan t u slots n at whole placed stands done,
      (refusal_is slots whole true (sym placed), (refl, is_set loan t u slots n at whole placed stands done)),
    )

    pub no_memory : SameDesk t u → LeavesState loan (IsWindowStep (SetPicture n) (Err NoMemory)) t u
    no_memory same = stays_refused loan t u same (SetPicture n) NoMemory (λ slots whole. inr (refusal_is slots whole true (sym placed), (refl, refl)))
