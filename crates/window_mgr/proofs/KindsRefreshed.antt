-- A window manager that drew what was to be redrawn of the layers of one kind, or of all of a window's content.
use Rattle.std.proofs.Common.{◌≡◌, ℕ, ◌<◌, ◌&&◌, not, Bool, true, false, List, length, refl, sym, ◌∙◌, subst}
use Rattle.std.specs.Prelude.{get_or}
use Rattle.tb_geom.specs.declared.point.Point.{Point}
use Rattle.tb_geom.specs.Points.{PixelSet}
use Rattle.tb_geom.specs.Pixels.{Pixels, holds}
use Rattle.bit_map.specs.Bits.{Bits}
use Rattle.bit_blit.specs.Draws.{Draws}
use Rattle.bit_blit.proofs.DrawsLemmas.{Draws-where}
use Rattle.desk_layers.specs.declared.part.Part.{Part}
use Rattle.def_iface.specs.Slots.{TakenBox}
use Rattle.def_iface.specs.WindowMeaning.{WindowLoan}
use Rattle.def_iface.specs.WindowSlots.{WindowSlot}
use Rattle.desk_call.specs.declared.update.LayerKind.{LayerKind}
use Rattle.vis_update.specs.declared.area.Area.{Area}
use Rattle.vis_update.specs.Areas.{is_content_of}
use Rattle.window_list.specs.declared.window.Window.{Window}
use Rattle.window_paint.specs.Shown.{content_shown}
use Rattle.window_mgr.specs.declared.manager.WindowManager.{WindowManager}
use Rattle.window_mgr.specs.Edits.{IsWindowAt}
use Rattle.window_mgr.specs.Records.{state_of, state_showing}
use Rattle.window_paint.specs.Kinds.{is_kind_there}
use Rattle.window_mgr.specs.Updating.{IsRefreshed, is_of_kind}
use Rattle.window_mgr.specs.Whole.{IsWholeManager}
use Rattle.window_mgr.proofs.Contents.{no_kind, kind_content, kind_is, content_right}
use Rattle.window_mgr.proofs.EditSeats.{same_at}
use Rattle.window_mgr.proofs.Refreshed.{refreshed}
use Rattle.window_mgr.proofs.Remarked as remarked

module _ {V : Type 0} {H : V → Type 0} (loan : TakenBox V H → WindowLoan) (t : WindowManager V H) (slots : List WindowSlot) (whole : IsWholeManager loan t slots) (at : ℕ) (low : at < length t.windows.records.items) (w : Window V H) (there : IsWindowAt t.windows.records.items at w) (a : Area) (read : a ≡ get_or t.areas.items at a) (shows : List ℕ → Part → PixelSet) where
  -- the layers of a kind were drawn, where the area and the window go by other names
  pub kind_refreshed : (kind : LayerKind) (update : Pixels) → ((p : Point) → holds update p ≡ (holds a.update p && not (is_kind_there kind w p))) → (screen : Bits)
      → (b : Area) → b ≡ get_or t.areas.items at b → (v : Window V H) → IsWindowAt t.windows.records.items at v
      → Draws (λ p. holds b.update p && is_kind_there kind v p) (λ p _. content_shown t.font (shows t.font) v p) t.screen screen
      → IsWholeManager loan (remarked.with_update loan t slots whole at low w there a read update screen) slots
      × IsRefreshed (is_of_kind kind w.serial) (state_showing shows (state_of loan t slots)) (state_showing shows (state_of loan (remarked.with_update loan t slots whole at low w there a read update screen) slots))
  kind_refreshed kind update left screen b b_read v v_read drawn =
      refreshed loan t slots whole at low w there a read shows (is_of_kind kind w.serial) (no_kind kind w.serial)
      (is_kind_there kind w) (content_shown t.font (shows t.font) w)
      (kind_is loan t slots whole at low w there shows kind)
      (λ p its. content_right loan t slots whole at low w there shows p (kind_content kind w.serial _ its))
      update left screen
      (subst (λ (k : Area × Window V H). Draws (λ p. holds k.0.update p && is_kind_there kind k.1 p) (λ p _. content_shown t.font (shows t.font) k.1 p) t.screen screen)
      (λ i. (same_at t.areas.items at b a (remarked.area_low loan t slots whole at low) b_read read i, same_at t.windows.records.items at v w low v_read there i)) drawn)

  -- all of the content was
  pub content_refreshed : (update : Pixels) → ((p : Point) → holds update p ≡ false) → (screen : Bits)
      → (b : Area) → b ≡ get_or t.areas.items at b → (v : Window V H) → IsWindowAt t.windows.records.items at v
      → Draws (holds b.update) (λ p _. content_shown t.font (shows t.font) v p) t.screen screen
      → IsWholeManager loan (remarked.with_update loan t slots whole at low w there a read update screen) slots
      × IsRefreshed (is_content_of w.serial) (state_showing shows (state_of loan t slots)) (state_showing shows (state_of loan (remarked.with_update loan t slots whole at low w there a read update screen) slots))
  content_refreshed update none screen b b_read v v_read drawn =
      refreshed loan t slots whole at low w there a read shows (is_content_of w.serial) (λ o e. e)
      (λ p. true) (content_shown t.font (shows t.font) w)
      (λ p its. sym its)
      (content_right loan t slots whole at low w there shows)
      update (λ p. none p ∙ sym (never (holds a.update p))) screen
      (Draws-where (holds a.update) (λ p. holds a.update p && true) (λ p _. content_shown t.font (shows t.font) w p) t.screen screen (λ p on. sym (always (holds a.update p)))
      (subst (λ (k : Area × Window V H). Draws (holds k.0.update) (λ p _. content_shown t.font (shows t.font) k.1 p) t.screen screen)
      (λ i. (same_at t.areas.items at b a (remarked.area_low loan t slots whole at low) b_read read i, same_at t.windows.records.items at v w low v_read there i)) drawn))
    where
      never : (x : Bool) → (x && false) ≡ false
      never true = refl
      never false = refl

      always : (x : Bool) → (x && true) ≡ x
      always true = refl
      always false = refl
