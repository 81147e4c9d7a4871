-- The step of an operation that is drawn.
use Rattle.std.proofs.Common.{◌≡◌, inr, ℕ, ◌&&◌, Bool, true, if◌then◌else◌, List, [], ◌∷◌, ◌++◌, None, Some, Ok, Err, refl, sym, ap, ◌∙◌, subst, not}
use Rattle.std.specs.Prelude.{slice_get, IsSomeAnd}
use Rattle.tb_geom.specs.declared.point.Point.{Point}
use Rattle.tb_geom.specs.declared.refusal.Refusal.TheVariants.{NoMemory}
use Rattle.tb_geom.specs.Points.{minus}
use Rattle.tb_geom.specs.Pixels.{holds}
use Rattle.bit_map.specs.Bits.{on_map, bit}
use Rattle.bit_blit.specs.Draws.{Draws}
use Rattle.draw_port.specs.Ops.{op_value}
use Rattle.def_iface.specs.Slots.{TakenBox}
use Rattle.def_iface.specs.WindowMeaning.{WindowLoan}
use Rattle.def_iface.specs.WindowSlots.{WindowSlot}
use Rattle.desk_layers.specs.Desk as layers
use Rattle.desk_layers.specs.declared.part.Part.TheVariants.{Picture}
use Rattle.desk_layers.specs.Owner.{owner, same_owner}
use Rattle.desk_layers.specs.Owner.Owner.{Content}
use Rattle.desk_layers.specs.Change as plain
use Rattle.desk_call.specs.declared.window.Drawing.{Drawing}
use Rattle.desk_call.specs.declared.window.WindowCall.TheVariants.{Draw}
use Rattle.desk_call.specs.declared.window.WindowReply.TheVariants.{Done}
use Rattle.window_mgr.specs.declared.manager.WindowManager.{WindowManager}
use Rattle.vis_update.specs.declared.area.Area.{Area}
use Rattle.window_list.specs.declared.window.Window.{Window}
use Rattle.vis_update.specs.Records.{record_of}
use Rattle.vis_update.specs.Areas.{stale_in, IsArea, AreAreas, is_content_of}
use Rattle.window_mgr.specs.FullDesk.{FullDesk, layered_desk, layered_state}
use Rattle.window_mgr.specs.Planned.{SameDesk, MayDraw, IsDrawnAt}
use Rattle.window_mgr.specs.Records.{desk_of, state_of}
use Rattle.window_mgr.specs.Effects.{IsDrawn, draw_change}
use Rattle.window_mgr.specs.Whole.{IsWholeManager}
use Rattle.window_mgr.proofs.DrawLemmas.{window_settled}
use Rattle.window_mgr.proofs.DrawRefusals.{unrefused}
use Rattle.window_mgr.proofs.KeptLemmas.{kept}
use Rattle.window_mgr.proofs.Arranged.{between-is_below}
use Rattle.window_mgr.proofs.Repicturing as anew
use Rattle.window_mgr.proofs.Repicturing.{IsRepictured, no_layer}
use Rattle.window_mgr.proofs.SameDeskLemmas.{stays_refused}
use Rattle.window_mgr.proofs.Covered.{picture_is}
use Rattle.window_paint.specs.Hidden.{is_hidden}
use Rattle.std.proofs.lemmas.Option.{slice_get_within, get_or_from_slice_get}
use Rattle.window_mgr.specs.Updating.{LeavesState}
use Rattle.window_mgr.specs.Step.{IsWindowStep}

-- ---- the desk before and after

module _ {V : Type 0} {H : V → Type 0} (loan : TakenBox V H → WindowLoan) (t new : WindowManager V H) (slots : List WindowSlot) (d : Drawing) (at : ℕ) (whole : IsWholeManager loan t slots) (may : MayDraw d t at) (D : IsDrawnAt at d t new) where
  abbrev before : FullDesk
  before = desk_of loan t slots

  number : D.window.serial ≡ d.window
  number =
      let both : Some may.window ≡ Some D.window = sym may.there ∙ D.there in
      let same : may.window ≡ D.window = cc in
      sym (ap (λ (w : Window V H). w.serial) same) ∙ may.serial

  -- the area of the window, and what was drawn there
  abbrev IsShown : Area → Type 0
  IsShown a = IsArea (layered_desk before) (stale_in t.areas.items) d.window a × Draws (λ p. holds a.visible p && not (is_hidden D.window p)) (λ p value. op_value t.font D.operation (minus (minus p D.window.place) D.window.origin) value) t.screen new.screen

  shown : (a : Area) × IsShown a
  shown = by_get (slice_get t.areas.items at) refl D.pixels
    where
      by_get : (o : _) → slice_get t.areas.items at ≡ o → IsSomeAnd o (λ area. Draws (λ p. holds area.visible p && not (is_hidden D.window p)) (λ p value. op_value t.font D.operation (minus (minus p D.window.place) D.window.origin) value) t.screen new.screen) → (a : Area) × IsShown a
      by_get None e h = absurd h
      by_get (Some a) e h = (a, (anew.area_is loan t slots whole at d.window D.window D.there number a e, h))

  on_before : (p : Point) → layers.on_screen (layered_desk before) p ≡ on_map t.screen p
  unfolding on_map
  on_before p = λ i. between-is_below t.screen.width p.h i && between-is_below t.screen.height p.v i

  -- ---- the pixels

  -- what it shows and what no layer hides is its picture
  its_picture : (p : Point) → (is_content_of d.window (owner (layered_desk before) p) && not (is_hidden D.window p)) ≡ same_owner (owner (layered_desk before) p) (Content d.window Picture)
  its_picture p = subst (λ k. (is_content_of k (owner (layered_desk before) p) && not (is_hidden D.window p)) ≡ same_owner (owner (layered_desk before) p) (Content k Picture)) number
      (picture_is loan t slots whole at (slice_get_within t.windows.records.items at D.window D.there) D.window (sym (get_or_from_slice_get t.windows.records.items at D.window D.window D.there)) p)

  abbrev value : Point → Bool → Bool
  value p old = op_value t.font D.operation (minus (minus p D.window.place) D.window.origin) old

  bit_is : (p : Point) → layers.on_screen (layered_desk before) p ≡ true → bit new.screen p ≡ (if same_owner (owner (layered_desk before) p) (Content d.window Picture) then value p (bit t.screen p) else bit t.screen p)
  bit_is p on =
      let its = owner (layered_desk before) p in
      shown.1.1.pixels p (sym (on_before p) ∙ on)
      ∙ ap (λ b. if b then value p (bit t.screen p) else bit t.screen p) (ap (λ b. b && not (is_hidden D.window p)) (shown.1.0.visible p ∙ ap (λ b. b && is_content_of d.window its) on) ∙ its_picture p)

  repictured : IsRepictured loan d.window (λ w. w.picture ++ D.operation ∷ []) (λ w. w.origin) at t new
  repictured = record {
    window = D.window;
    there = D.there;
    number = number;
    placed = (window_settled loan t (kept loan t slots whole) at D.window D.there).origin;
    windows = D.windows;
    width = shown.1.1.width;
    height = shown.1.1.height;
    bar = D.bar;
    font = D.font;
    gray = D.gray;
    desktop = D.desktop;
    active = D.active;
    next = D.next;
    frames = λ p on e. bit_is p on ∙ ap (λ b. if b then value p (bit t.screen p) else bit t.screen p) (no_layer d.window Picture (owner (layered_desk before) p) e);
    areas = subst (λ areas. AreAreas (layered_desk before) (stale_in areas) before.windows areas) (sym D.areas) whole.areas;
  }

  abbrev change : plain.Change
  change = draw_change t.font d.window (record_of loan D.window) D.operation

  changed : plain.IsChanged change (layered_state (state_of loan t slots)) (layered_state (state_of loan new slots))
  changed = anew.changed loan d.window (λ w. w.picture ++ D.operation ∷ []) (λ w. w.origin) at t new slots whole repictured change (layered_state (state_of loan t slots))
      (λ p on e. rw (e, had p on) (ap (λ areas. stale_in areas p) D.areas))
      (λ p on e. rw (e, had p on) (bit_is p on))
    where
      had : (p : Point) → layers.on_screen (layered_desk before) p ≡ true → plain.had change (layered_desk before) (owner (layered_desk before) p) p ≡ true
      had p on = anew.had_is loan d.window (λ w. w.picture ++ D.operation ∷ []) (λ w. w.origin) at t new slots whole repictured change p refl on

  is_drawn : IsDrawn d (state_of loan t slots) (state_of loan new slots)
  unfolding repictured
  is_drawn = record {
    window = record_of loan D.window;
    operation = D.operation;
    found = anew.found loan d.window (λ w. w.picture ++ D.operation ∷ []) (λ w. w.origin) at t new slots whole repictured;
    meant = D.meant;
    desk = anew.desk_is loan d.window (λ w. w.picture ++ D.operation ∷ []) (λ w. w.origin) at t new slots whole repictured;
    pixels = changed;
  }

  is_whole : IsWholeManager loan new slots
  is_whole = anew.is_whole loan d.window (λ w. w.picture ++ D.operation ∷ []) (λ w. w.origin) at t new slots whole repictured

-- ---- the call, where nothing but want of memory can refuse it

module _ {V : Type 0} {H : V → Type 0} (loan : TakenBox V H → WindowLoan) (t u : WindowManager V H) (d : Drawing) (at : ℕ) (may : MayDraw d t at) where
  pub draws : IsDrawnAt at d t u → LeavesState loan (IsWindowStep (Draw d) (Ok Done)) t u
  draws drawn slots whole = (
    is_whole loan t u slots d at whole may drawn,
    (unrefused loan t (kept loan t slots whole) d at may, (refl, is_drawn loan t u slots d at whole may drawn)),
  )

  pub no_memory : SameDesk t u → LeavesState loan (IsWindowStep (Draw d) (Err NoMemory)) t u
  no_memory same = stays_refused loan t u same (Draw d) NoMemory (λ slots whole. inr (unrefused loan t (kept loan t slots whole) d at may, (refl, refl)))
