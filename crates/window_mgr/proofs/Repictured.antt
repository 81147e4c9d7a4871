-- A desk of which one window has another picture, or has it elsewhere, as layers.
use Rattle.std.proofs.Common.{◌≡◌, ℕ, ◌==◌, ◌&&◌, Bool, true, false, if◌then◌else◌, List, [], ◌∷◌, map, Option, None, Some, refl, sym, ap, ◌∙◌}
use Rattle.std.proofs.lemmas.Bool.{eqb-true, false≢true}
use Rattle.tb_geom.specs.declared.point.Point.{Point}
use Rattle.tb_geom.specs.Points.{minus}
use Rattle.draw_port.specs.declared.shapes.Op.{Op}
use Rattle.draw_port.specs.Ops.{picture_bit}
use Rattle.desk_layers.specs.declared.part.Part.{Part}
use Rattle.desk_layers.specs.declared.part.Part.TheVariants as part
use Rattle.desk_layers.specs.Desk as layers
use Rattle.desk_layers.specs.Desk.{same_part}
use Rattle.desk_layers.specs.declared.part.Part.TheVariants.{Picture}
use Rattle.desk_layers.specs.Owner.{Owner, owner, owner_among, owner_within, own_bit, frame_bit, content_bit, same_owner}
use Rattle.desk_layers.specs.Owner.Owner.{Desktop, Bar, Frame, Content}
use Rattle.desk_layers.proofs.Owning.{same_number, not_first}
use Rattle.vis_update.specs.Records.{WindowRecord, Look, layered_window}
use Rattle.window_mgr.specs.FullDesk.{FullDesk, layered_desk, look_of}
use Rattle.window_mgr.specs.Finding.{record_with}
use Rattle.vis_update.proofs.LayerOwners.{first_owner, owner_first}
use Rattle.window_mgr.proofs.LayerParts.{parts_alike, shown_alike, picture_shown}

-- the window has the picture that is made of it, and that lies where it is put, if it is the one of this serial
module _ (s : ℕ) (picture : WindowRecord → List Op) (origin : WindowRecord → Point) where
  abbrev pub repictured : WindowRecord → WindowRecord
  repictured w = if w.serial == s then record w { picture = picture w; origin = origin w } else w

  pub repictured_serial : (w : WindowRecord) → (repictured w).serial ≡ w.serial
  repictured_serial w = by_test (w.serial == s)
    where
      by_test : (b : Bool) → (if b then record w { picture = picture w; origin = origin w } else w).serial ≡ w.serial
      by_test true = refl
      by_test false = refl

  pub repictured_slot : (w : WindowRecord) → (repictured w).slot ≡ w.slot
  repictured_slot w = by_test (w.serial == s)
    where
      by_test : (b : Bool) → (if b then record w { picture = picture w; origin = origin w } else w).slot ≡ w.slot
      by_test true = refl
      by_test false = refl

module _ (look : Look) (s : ℕ) (picture : WindowRecord → List Op) (origin : WindowRecord → Point) where
  -- the windows as layers, and those of which one has the other picture
  abbrev bare : List WindowRecord → List layers.LayeredWindow
  bare ws = map (layered_window look) ws

  abbrev anew : List WindowRecord → List layers.LayeredWindow
  anew ws = map (layered_window look) (map (repictured s picture origin) ws)

  abbrev one : Bool → WindowRecord → WindowRecord
  one b w = if b then record w { picture = picture w; origin = origin w } else w

  -- ---- whose the pixels are

  among_same : (ws : List WindowRecord) (p : Point) → owner_among (anew ws) p ≡ owner_among (bare ws) p
  among_same [] p = refl
  among_same (w ∷ ws) p = by_test (w.serial == s) (among_same ws p)
    where
      by_test : (b : Bool) → owner_among (anew ws) p ≡ owner_among (bare ws) p → owner_among (layered_window look (one b w) ∷ anew ws) p ≡ owner_among (bare (w ∷ ws)) p
      by_test true rest =
          owner_first look (one true w) (map (repictured s picture origin) ws) p
          ∙ ap (first_owner w p (layers.in_structure (layered_window look w) p)) rest
          ∙ sym (owner_first look w ws p)
      by_test false rest = ap (λ o. if layers.in_structure (layered_window look w) p then owner_within (layered_window look w) (layered_window look w).layers p else o) rest

  none_same : (t : ℕ) (ws : List WindowRecord) → layers.window_of t (bare ws) ≡ None → layers.window_of t (anew ws) ≡ None
  none_same t [] e = refl
  none_same t (w ∷ ws) e =
      let first = not_first (w.serial == t) (layered_window look w) (layers.window_of t (bare ws)) e in
      by_test (w.serial == s) first.0 (none_same t ws first.1)
    where
      by_test : (b : Bool) → (w.serial == t) ≡ false → layers.window_of t (anew ws) ≡ None → layers.window_of t (layered_window look (one b w) ∷ anew ws) ≡ None
      by_test true other rest = rw other rest
      by_test false other rest = rw other rest

  windows_same : (ws : List WindowRecord) → layers.AreWindows (bare ws) → layers.AreWindows (anew ws)
  windows_same [] distinct = tt
  windows_same (w ∷ ws) distinct = by_test (w.serial == s) (windows_same ws distinct.1.1)
    where
      by_test : (b : Bool) → layers.AreWindows (anew ws) → layers.AreWindows (layered_window look (one b w) ∷ anew ws)
      by_test true rest = (none_same w.serial ws distinct.0, (parts_alike look look w (one true w) refl distinct.1.0, rest))
      by_test false rest = (none_same w.serial ws distinct.0, (distinct.1.0, rest))

  -- ---- what the owners show

  -- where a window is found or not, and in both cases shows the same
  found_or : {X : Type 0} (f : Option layers.LayeredWindow → X) (c : Bool) (v w : layers.LayeredWindow) (behind behind_w : Option layers.LayeredWindow) → f (Some v) ≡ f (Some w) → f behind ≡ f behind_w → f (if c then Some v else behind) ≡ f (if c then Some w else behind_w)
  found_or f true v w behind behind_w here rest = here
  found_or f false v w behind behind_w here rest = rest

  frame_same : (t : ℕ) (ws : List WindowRecord) (p : Point) → frame_bit (layers.window_of t (anew ws)) p ≡ frame_bit (layers.window_of t (bare ws)) p
  frame_same t [] p = refl
  frame_same t (w ∷ ws) p = by_test (w.serial == s) (frame_same t ws p)
    where
      by_test : (b : Bool) → frame_bit (layers.window_of t (anew ws)) p ≡ frame_bit (layers.window_of t (bare ws)) p → frame_bit (layers.window_of t (layered_window look (one b w) ∷ anew ws)) p ≡ frame_bit (layers.window_of t (bare (w ∷ ws))) p
      by_test true rest = found_or (λ o. frame_bit o p) (w.serial == t) _ (layered_window look w) (layers.window_of t (anew ws)) (layers.window_of t (bare ws)) refl rest
      by_test false rest = found_or (λ o. frame_bit o p) (w.serial == t) _ (layered_window look w) (layers.window_of t (anew ws)) (layers.window_of t (bare ws)) refl rest

  -- another window's content shows what it showed
  content_same : (t : ℕ) (layer : Part) (ws : List WindowRecord) (p : Point) → (t == s) ≡ false → content_bit (layers.window_of t (anew ws)) layer p ≡ content_bit (layers.window_of t (bare ws)) layer p
  content_same t layer [] p other = refl
  content_same t layer (w ∷ ws) p other = by_test (w.serial == s) refl (content_same t layer ws p other)
    where
      by_number : (c : Bool) → (w.serial == t) ≡ c → (w.serial == s) ≡ true → c ≡ false
      by_number true found its =
          let same : t ≡ s = sym (eqb-true w.serial t found) ∙ eqb-true w.serial s its in
          absurd (false≢true (sym other ∙ ap (λ n. n == s) same ∙ same_number s))
      by_number false found its = refl

      by_test : (b : Bool) → (w.serial == s) ≡ b → content_bit (layers.window_of t (anew ws)) layer p ≡ content_bit (layers.window_of t (bare ws)) layer p → content_bit (layers.window_of t (layered_window look (one b w) ∷ anew ws)) layer p ≡ content_bit (layers.window_of t (bare (w ∷ ws))) layer p
      by_test true its rest = rw (by_number (w.serial == t) refl its) rest
      by_test false its rest = found_or (λ o. content_bit o layer p) (w.serial == t) _ (layered_window look w) (layers.window_of t (anew ws)) (layers.window_of t (bare ws)) refl rest

  -- and so do the layers of this window that are not its picture
  layer_same : (t : ℕ) (layer : Part) (ws : List WindowRecord) (p : Point) → same_part Picture layer ≡ false → content_bit (layers.window_of t (anew ws)) layer p ≡ content_bit (layers.window_of t (bare ws)) layer p
  layer_same t layer [] p other = refl
  layer_same t layer (w ∷ ws) p other = by_test (w.serial == s) (layer_same t layer ws p other)
    where
      by_test : (b : Bool) → content_bit (layers.window_of t (anew ws)) layer p ≡ content_bit (layers.window_of t (bare ws)) layer p → content_bit (layers.window_of t (layered_window look (one b w) ∷ anew ws)) layer p ≡ content_bit (layers.window_of t (bare (w ∷ ws))) layer p
      by_test true rest = found_or (λ o. content_bit o layer p) (w.serial == t) (layered_window look (one true w)) (layered_window look w) (layers.window_of t (anew ws)) (layers.window_of t (bare ws)) (shown_alike look (one true w) w layer (minus p w.place) (minus p w.place) refl (λ part. refl) (λ its. absurd (false≢true (sym other ∙ its)))) rest
      by_test false rest = found_or (λ o. content_bit o layer p) (w.serial == t) (layered_window look w) (layered_window look w) (layers.window_of t (anew ws)) (layers.window_of t (bare ws)) refl rest

  content_own : (v : WindowRecord) (ws : List WindowRecord) (p : Point) → layers.AreWindows (bare ws) → record_with s ws ≡ Some v → content_bit (layers.window_of s (anew ws)) Picture p ≡ picture_bit look.font (picture v) (minus (minus p v.place) (origin v))
  content_own v [] p distinct found = absurd (cc)
  content_own v (w ∷ ws) p distinct found = by_test (w.serial == s) refl (λ e. content_own v ws p distinct.1.1 e) found
    where
      by_test : (b : Bool) → (w.serial == s) ≡ b → (record_with s ws ≡ Some v → content_bit (layers.window_of s (anew ws)) Picture p ≡ picture_bit look.font (picture v) (minus (minus p v.place) (origin v))) → (if b then Some w else record_with s ws) ≡ Some v → content_bit (layers.window_of s (layered_window look (one b w) ∷ anew ws)) Picture p ≡ picture_bit look.font (picture v) (minus (minus p v.place) (origin v))
      by_test true its rest e =
          let same : w ≡ v = cc in
          rw its (picture_shown look (one true w) (minus p w.place) (parts_alike look look w (one true w) refl distinct.1.0) ∙ ap (λ (x : WindowRecord). picture_bit look.font (picture x) (minus (minus p x.place) (origin x))) same)
      by_test false its rest e = rw its (rest e)

  content_was : (v : WindowRecord) (ws : List WindowRecord) (p : Point) → layers.AreWindows (bare ws) → record_with s ws ≡ Some v → content_bit (layers.window_of s (bare ws)) Picture p ≡ picture_bit look.font v.picture (minus (minus p v.place) v.origin)
  content_was v [] p distinct found = absurd (cc)
  content_was v (w ∷ ws) p distinct found = by_test (w.serial == s) (λ e. content_was v ws p distinct.1.1 e) found
    where
      by_test : (b : Bool) → (record_with s ws ≡ Some v → content_bit (layers.window_of s (bare ws)) Picture p ≡ picture_bit look.font v.picture (minus (minus p v.place) v.origin)) → (if b then Some w else record_with s ws) ≡ Some v → content_bit (if b then Some (layered_window look w) else layers.window_of s (bare ws)) Picture p ≡ picture_bit look.font v.picture (minus (minus p v.place) v.origin)
      by_test true rest e =
          let same : w ≡ v = cc in
          picture_shown look w (minus p w.place) distinct.1.0 ∙ ap (λ (x : WindowRecord). picture_bit look.font x.picture (minus (minus p x.place) x.origin)) same
      by_test false rest e = rest e

-- ---- the whole desk

module _ (desk : FullDesk) (s : ℕ) (picture : WindowRecord → List Op) (origin : WindowRecord → Point) where
  abbrev pub after : FullDesk
  after = record desk { windows = map (repictured s picture origin) desk.windows }

  -- each pixel has the owner that it had
  pub owner_same : (p : Point) → owner (layered_desk after) p ≡ owner (layered_desk desk) p
  owner_same p = ap (λ o. if layers.in_bar (layered_desk desk) p then Bar else o) (among_same (look_of desk) s picture origin desk.windows p)

  -- what is no content of the window shows what it showed
  pub others_show : (o : Owner) (p : Point) → same_owner o (Content s Picture) ≡ false → own_bit (layered_desk after) o p ≡ own_bit (layered_desk desk) o p
  others_show Desktop p e = refl
  others_show Bar p e = refl
  others_show (Frame t) p e = frame_same (look_of desk) s picture origin t desk.windows p
  others_show (Content t part.Picture) p e = content_same (look_of desk) s picture origin t Picture desk.windows p (sym (and_true (t == s)) ∙ e)
    where
      and_true : (b : Bool) → (b && true) ≡ b
      and_true true = refl
      and_true false = refl
  others_show (Content t (part.Control n)) p e = layer_same (look_of desk) s picture origin t (part.Control n) desk.windows p refl
  others_show (Content t (part.List n)) p e = layer_same (look_of desk) s picture origin t (part.List n) desk.windows p refl
  others_show (Content t (part.Text n)) p e = layer_same (look_of desk) s picture origin t (part.Text n) desk.windows p refl

  pub after_is_desk : layers.IsDesk (layered_desk desk) → layers.IsDesk (layered_desk after)
  after_is_desk distinct = windows_same (look_of desk) s picture origin desk.windows distinct

  module _ (distinct : layers.IsDesk (layered_desk desk)) (v : WindowRecord) (found : record_with s desk.windows ≡ Some v) where
    -- its content shows its picture
    pub content_showed : (p : Point) → own_bit (layered_desk desk) (Content s Picture) p ≡ picture_bit desk.font v.picture (minus (minus p v.place) v.origin)
    content_showed p = content_was (look_of desk) s picture origin v desk.windows p distinct found

    -- and then the other, or where it is put
    pub content_shows : (p : Point) → own_bit (layered_desk after) (Content s Picture) p ≡ picture_bit desk.font (picture v) (minus (minus p v.place) (origin v))
    content_shows p = content_own (look_of desk) s picture origin v desk.windows p distinct found
