-- A right state stays right where a window's definition was told something and the frame drawn.
use Rattle.std.proofs.Common.{◌≡◌, ℕ, ◌==◌, Bool, true, false, if◌then◌else◌, List, [], ◌∷◌, map, None, Some, refl, sym, ap, ◌∙◌, subst}
use Rattle.tb_geom.specs.declared.point.Point.{Point}
use Rattle.tb_geom.specs.Points.{minus}
use Rattle.draw_port.specs.Ops.{picture_bit}
use Rattle.def_iface.specs.WindowNews.{WindowNews}
use Rattle.def_iface.specs.WindowMeaning.{WindowHears}
use Rattle.def_iface.specs.declared.window_def.WindowChange.{WindowChange}
use Rattle.desk_layers.specs.declared.part.Part.{Part}
use Rattle.desk_layers.specs.Desk as layers
use Rattle.desk_layers.specs.Owner.{layer_bit, content_bit}
use Rattle.desk_layers.specs.Change as plain
use Rattle.desk_layers.proofs.Changing.{stays_right}
use Rattle.vis_update.specs.Records.{WindowRecord, layered_window}
use Rattle.window_mgr.specs.declared.arrange.Activation.TheVariants.{Stays}
use Rattle.window_mgr.specs.Arrange.{changed}
use Rattle.window_mgr.specs.FrameNotices.{IsFrameNotified, notified_record}
use Rattle.window_mgr.specs.Finding.{record_with}
use Rattle.window_mgr.specs.FullDesk.{FullDesk, FullState, IsRightState, AreSerials, layered_desk, layered_state, look_of}
use Rattle.window_mgr.proofs.FrameSteps.{told_keeps}
use Rattle.window_mgr.proofs.LayerParts.{shown_alike}
use Rattle.window_mgr.proofs.PutIn.{IsFree, is_put, IsTakenOut, out_of, distinct_out}
use Rattle.window_mgr.proofs.Rearranged.{IsEdit, edited, edit_is_sound, numbered_now}

-- what of a record makes the layers of its window stays, the definition aside
pub record KeepsLayers (kept : WindowRecord → WindowRecord) : Type 0 where
  pub serial : (w : WindowRecord) → (kept w).serial ≡ w.serial
  pub place : (w : WindowRecord) → (kept w).place ≡ w.place
  pub size : (w : WindowRecord) → (kept w).size ≡ w.size
  pub shown : (w : WindowRecord) → (kept w).shown ≡ w.shown
  pub picture : (w : WindowRecord) → (kept w).picture ≡ w.picture
  pub origin : (w : WindowRecord) → (kept w).origin ≡ w.origin
  pub layers : (w : WindowRecord) → (kept w).layers ≡ w.layers

pub told_keeps_layers : (change : WindowChange) → KeepsLayers (notified_record change)
told_keeps_layers change = record {
  serial = λ w. ap (λ (v : WindowRecord). v.serial) (told_keeps change w);
  place = λ w. ap (λ (v : WindowRecord). v.place) (told_keeps change w);
  size = λ w. ap (λ (v : WindowRecord). v.size) (told_keeps change w);
  shown = λ w. ap (λ (v : WindowRecord). v.shown) (told_keeps change w);
  picture = λ w. ap (λ (v : WindowRecord). v.picture) (told_keeps change w);
  origin = λ w. ap (λ (v : WindowRecord). v.origin) (told_keeps change w);
  layers = λ w. ap (λ (v : WindowRecord). v.layers) (told_keeps change w);
}

-- ---- a right state stays right

module _ (s : ℕ) (news : WindowRecord → WindowNews → WindowNews) (kept : WindowRecord → WindowRecord) (before after : FullState) (keeps : KeepsLayers kept) (right : IsRightState before) (done : IsFrameNotified s news kept before after) where
  abbrev w : WindowRecord
  w = done.window

  abbrev v : WindowRecord
  v = record (kept w) { definition = done.definition }

  out : IsTakenOut s before.desk.windows w
  out = out_of s before.desk.windows w done.found

  free : IsFree (look_of before.desk) s out.rest
  free = subst (λ n. IsFree (look_of before.desk) n out.rest) out.serial (distinct_out (look_of before.desk) out.place w out.rest (subst (λ ws. layers.AreWindows (map (layered_window (look_of before.desk)) ws)) out.is right.plain.desk)).0

  edit : IsEdit before.desk w.serial out.place out.place w v out.rest
  edit = record { windows = out.is; serial = refl; same_serial = keeps.serial w; same_layers = keeps.layers w }

  desk_is : after.desk ≡ edited before.desk w.serial out.place out.place w v out.rest edit Stays
  desk_is =
      done.desk
      ∙ ap (λ ws. record before.desk { windows = ws })
      (ap (changed s (λ x. record (kept x) { definition = done.definition })) out.is
      ∙ (is_put (look_of before.desk) s out.place w out.rest out.serial free).changed_is (λ x. record (kept x) { definition = done.definition }))

  -- its content shows what it showed
  same_content : (part : Part) (p : Point) → content_bit (Some (layered_window (look_of before.desk) w)) part p ≡ content_bit (Some (layered_window (look_of before.desk) v)) part p
  same_content part p =
      ap (λ place. layer_bit (layers.layer_of part (layered_window (look_of before.desk) w).layers) (minus p place)) (sym (keeps.place w))
      ∙ shown_alike (look_of before.desk) w v part (minus p v.place) (minus p v.place) (keeps.layers w) (λ other. refl)
      (λ e k. picture_bit before.desk.font (sym (keeps.picture w) k) (minus (minus p v.place) (sym (keeps.origin w) k)))

  told_right : IsRightState after
  told_right = record {
    plain = stays_right plain.no_change (layered_state before) (layered_state after) right.plain
        (subst (plain.IsSound plain.no_change (layered_state before)) (sym (ap layered_desk desk_is))
        (edit_is_sound before.desk w.serial out.place out.place w v out.rest edit Stays right.plain.desk before.stale before.image None same_content))
        done.pixels;
    serials = subst (λ (x : FullDesk). AreSerials x.next x.windows) (sym desk_is) (numbered_now before.desk w.serial out.place out.place w v out.rest edit Stays right.serials);
  }

pub frame_told_stays_right : (s : ℕ) (news : WindowRecord → WindowNews → WindowNews) (kept : WindowRecord → WindowRecord) (before after : FullState) → KeepsLayers kept → IsRightState before → IsFrameNotified s news kept before after → IsRightState after
frame_told_stays_right s news kept before after keeps right done = told_right s news kept before after keeps right done

-- ---- what the record keeps

-- of the windows only the one that is found is changed
changed_alike : (s : ℕ) (f g : WindowRecord → WindowRecord) (w : WindowRecord) (ws : List WindowRecord) → record_with s ws ≡ Some w → f w ≡ g w → changed s f ws ≡ changed s g ws
changed_alike s f g w [] found same = refl
changed_alike s f g w (y ∷ ys) found same = by_test (λ e. changed_alike s f g w ys e same) (y.serial == s) found
  where
    by_test : (record_with s ys ≡ Some w → changed s f ys ≡ changed s g ys) → (b : Bool) → (if b then Some y else record_with s ys) ≡ Some w
        → (if b then f y ∷ ys else y ∷ changed s f ys) ≡ (if b then g y ∷ ys else y ∷ changed s g ys)
    by_test behind true e =
        let first : y ≡ w = cc in
        ap (λ x. x ∷ ys) (ap f first ∙ same ∙ ap g (sym first))
    by_test behind false e = ap (λ xs. y ∷ xs) (behind e)

-- so what its record keeps is told by that record alone
pub told_alike : (s : ℕ) {news : WindowRecord → WindowNews → WindowNews} (f g : WindowRecord → WindowRecord) (w : WindowRecord) (before after : FullState) → record_with s before.desk.windows ≡ Some w → f w ≡ g w → IsFrameNotified s news f before after → IsFrameNotified s news g before after
told_alike s f g w before after found same done = record {
  window = done.window;
  definition = done.definition;
  found = done.found;
  told = done.told;
  desk = done.desk
      ∙ ap (λ ws. record before.desk { windows = ws })
      (changed_alike s (λ x. record (f x) { definition = done.definition }) (λ x. record (g x) { definition = done.definition }) w before.desk.windows found (ap (λ (x : WindowRecord). record x { definition = done.definition }) same));
  pixels = done.pixels;
}

-- what its definition is told is told by the record alone
pub told_likewise : (s : ℕ) (f : WindowNews → WindowNews) (g : WindowRecord → WindowNews → WindowNews) (kept : WindowRecord → WindowRecord) (w : WindowRecord) (before after : FullState) → record_with s before.desk.windows ≡ Some w → f ≡ g w → IsFrameNotified s (λ _. f) kept before after → IsFrameNotified s g kept before after
told_likewise s f g kept w before after found same done =
    let its : w ≡ done.window = cc in
    record {
      window = done.window;
      definition = done.definition;
      found = done.found;
      told = record {
        live = done.told.live;
        told = done.told.told;
        regions = done.told.regions;
        heard = subst (λ (h : WindowNews → WindowNews). WindowHears h done.window.definition done.definition) (same ∙ ap g its) done.told.heard;
      };
      desk = done.desk;
      pixels = done.pixels;
    }
