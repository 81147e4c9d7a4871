-- An operation that is drawn in a window and kept.
use Rattle.std.proofs.Common.{◌≡◌, ℕ, ◌<◌, ◌&&◌, false, List, [], ◌∷◌, ◌++◌, length, get_or, set, Some, Result, Ok, Err, pos, sym, ap, ◌∙◌, subst, arith, not}
use Rattle.std.specs.Prelude.{slice_get}
use Rattle.std.specs.Result.{is_err, OnOk}
use Rattle.std.proofs.lemmas.List.{get_or-set_same, length-set}
use Rattle.std.proofs.lemmas.Option.{slice_get-get_or, slice_get_within, get_or_from_slice_get}
use Rattle.tb_geom.specs.Points.{minus}
use Rattle.tb_geom.specs.Pixels.{holds}
use Rattle.bit_map.specs.Bits.{Bits}
use Rattle.bit_blit.specs.Draws.{Draws}
use Rattle.draw_port.specs.declared.shapes.Op.{Op}
use Rattle.draw_port.specs.Ops.{op_value}
use Rattle.lent_ops.specs.OpRefs.{IsMeant}
use Rattle.def_iface.specs.Slots.{TakenBox}
use Rattle.def_iface.specs.WindowMeaning.{WindowLoan}
use Rattle.desk_call.specs.declared.window.Drawing.{Drawing}
use Rattle.window_mgr.specs.declared.manager.WindowManager.{WindowManager}
use Rattle.vis_update.specs.declared.area.Area.{Area}
use Rattle.window_list.specs.declared.window.Window.{Window}
use Rattle.window_list.specs.Lists.{edit, edit_at, with_operation}
use Rattle.window_list.proofs.ListLemmas.{set_is_edit}
use Rattle.window_mgr.specs.Kept.{IsKept}
use Rattle.window_mgr.specs.Planned.{IsDrawnAt}
use Rattle.vis_update.specs.Records.{record_of}
use Rattle.window_mgr.specs.Whole.{IsSettled}
use Rattle.window_mgr.proofs.Seating.{as_many}
use Rattle.window_mgr.proofs.FindLemmas.{settled_at}
use Rattle.window_paint.specs.Hidden.{is_hidden}

-- what holds of a result that is no error
pub when_ok : {X E P : Type 0} (r : Result X E) → is_err r ≡ false → OnOk r P → P
when_ok (Ok x) e h = h
when_ok (Err x) e h = absurd (cc)

-- ---- the window that is drawn in, and its area

module _ {V : Type 0} {H : V → Type 0} (loan : TakenBox V H → WindowLoan) (t : WindowManager V H) (kept : IsKept loan t) (at : ℕ) (w : Window V H) (there : slice_get t.windows.records.items at ≡ Some w) where
  pub window_low : at < length t.windows.records.items
  window_low = slice_get_within t.windows.records.items at w there

  pub area_low : at < length t.areas.items
  area_low =
      let long : length t.areas.items ≡ length t.windows.records.items = as_many loan t kept in
      let low = window_low in
      omega arith

  pub window_settled : IsSettled (record_of loan w)
  window_settled = settled_at loan t kept (record { h = pos 0; v = pos 0 }) at w window_low (sym (get_or_from_slice_get t.windows.records.items at w w there))

  edited : (f : Window V H → Window V H) → edit f at t.windows.records.items ≡ set t.windows.records.items at (f w)
  edited f = sym (set_is_edit f t.windows.records.items at w (sym (get_or_from_slice_get t.windows.records.items at w w there)))

  -- the list has its place still
  pub still_low : (f : Window V H → Window V H) → at < length (edit f at t.windows.records.items)
  still_low f =
      let long = ap length (edited f) ∙ length-set t.windows.records.items at (f w) in
      let low = window_low in
      omega arith

  -- a window that was changed there is read there changed
  pub changed_there : (f : Window V H → Window V H) (x : Window V H) → x ≡ get_or (edit f at t.windows.records.items) at x → x ≡ f w
  changed_there f x read = read ∙ ap (λ ws. get_or ws at x) (edited f) ∙ get_or-set_same t.windows.records.items at (f w) x window_low

  -- its picture has one operation more, and that was drawn
  pub is_drawn_at : (d : Drawing) (op : Op) (y : Window V H) (a : Area) (screen : Bits)
      → y ≡ get_or (edit (with_operation op) at t.windows.records.items) at y
      → a ≡ get_or t.areas.items at a
      → IsMeant d.operation op
      → ((before : List Op) (last : Op) → y.picture ≡ before ++ last ∷ [] → Draws (λ p. holds a.visible p && not (is_hidden y p)) (λ p value. op_value t.font last (minus (minus p y.place) y.origin) value) t.screen screen)
      → (new : WindowManager V H) → new ≡ record t { windows = record t.windows { records = edit_at (with_operation op) at t.windows.records }; screen = screen }
      → IsDrawnAt at d t new
  is_drawn_at d op y a screen y_is a_is meant drawn new same = record {
    window = w;
    operation = op;
    there = there;
    meant = meant;
    windows = ap (λ (u : WindowManager V H). u.windows.records.items) same ∙ edited (with_operation op);
    pixels = rw (slice_get-get_or t.areas.items at a area_low ∙ ap Some (sym a_is)) (subst (λ (u : WindowManager V H). Draws (λ p. holds a.visible p && not (is_hidden w p)) (λ p value. op_value t.font op (minus (minus p w.place) w.origin) value) t.screen u.screen) (sym same) shown);
    areas = ap (λ (u : WindowManager V H). u.areas.items) same;
    bar = ap (λ (u : WindowManager V H). u.bar) same;
    font = ap (λ (u : WindowManager V H). u.font) same;
    gray = ap (λ (u : WindowManager V H). u.gray) same;
    desktop = ap (λ (u : WindowManager V H). u.desktop) same;
    active = ap (λ (u : WindowManager V H). u.windows.active) same;
    next = ap (λ (u : WindowManager V H). u.windows.next) same;
  }
    where
      y_same : y ≡ with_operation op w
      y_same = changed_there (with_operation op) y y_is

      shown : Draws (λ p. holds a.visible p && not (is_hidden w p)) (λ p value. op_value t.font op (minus (minus p w.place) w.origin) value) t.screen screen
      shown = subst (λ (z : Window V H). Draws (λ p. holds a.visible p && not (is_hidden z p)) (λ p value. op_value t.font op (minus (minus p z.place) z.origin) value) t.screen screen) y_same
          (drawn w.picture op (ap (λ (z : Window V H). z.picture) y_same))
