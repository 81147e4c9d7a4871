-- Desks that differ in what their controls and lists show alone: whose the pixels are, and what frames show, is the same.
use Rattle.std.proofs.Common.{◌≡◌, ℕ, ◌==◌, ◌&&◌, Bool, true, false, if◌then◌else◌, List, [], ◌∷◌, map, None, Some, refl, sym, ap, ◌∙◌}
use Rattle.std.proofs.lemmas.Bool.{false≢true}
use Rattle.tb_geom.specs.declared.point.Point.{Point}
use Rattle.tb_geom.specs.Points.{PixelSet}
use Rattle.desk_layers.specs.declared.part.Part.{Part}
use Rattle.desk_layers.specs.Desk as layers
use Rattle.desk_layers.specs.Desk.{LayeredDesk}
use Rattle.desk_layers.specs.Owner.{Owner, owner, own_bit, frame_bit, is_content}
use Rattle.desk_layers.specs.Owner.Owner.{Desktop, Bar, Frame, Content}
use Rattle.vis_update.specs.Areas.{is_content_of}
use Rattle.vis_update.specs.Records.{WindowRecord, Look, layered_window}
use Rattle.vis_update.proofs.LayerOwners.{owner_of_any_look}
use Rattle.window_mgr.specs.FullDesk.{FullDesk, FullState, layered_desk, look_of}
use Rattle.window_mgr.specs.Records.{desk_showing, state_showing}
use Rattle.window_mgr.specs.Finding.{record_with}
use Rattle.window_mgr.specs.Telling.{seen_from, update_of}
use Rattle.window_mgr.specs.Whole.{AreFramesShown}
use Rattle.window_mgr.proofs.LayerParts.{parts_alike}

-- ---- windows as layers, by two looks

-- a window is missing among them alike
missing_alike : (look other : Look) (s : ℕ) (ws : List WindowRecord) → layers.window_of s (map (layered_window look) ws) ≡ None → layers.window_of s (map (layered_window other) ws) ≡ None
missing_alike look other s [] e = refl
missing_alike look other s (w ∷ ws) e = by_test (w.serial == s) e (missing_alike look other s ws)
  where
    by_test : (b : Bool) → (if b then Some (layered_window look w) else layers.window_of s (map (layered_window look) ws)) ≡ None
        → (layers.window_of s (map (layered_window look) ws) ≡ None → layers.window_of s (map (layered_window other) ws) ≡ None)
        → (if b then Some (layered_window other w) else layers.window_of s (map (layered_window other) ws)) ≡ None
    by_test true h rest = absurd (cc)
    by_test false h rest = rest h

-- they are told apart alike
apart_alike : (look other : Look) (ws : List WindowRecord) → layers.AreWindows (map (layered_window look) ws) → layers.AreWindows (map (layered_window other) ws)
apart_alike look other [] apart = tt
apart_alike look other (w ∷ ws) apart = (missing_alike look other w.serial ws apart.0, (parts_alike look other w w refl apart.1.0, apart_alike look other ws apart.1.1))

-- in one font their frames show the same
frames_alike : (font : List ℕ) (shows other : Part → PixelSet) (s : ℕ) (ws : List WindowRecord) (p : Point)
    → frame_bit (layers.window_of s (map (layered_window (record { font = font; shows = shows })) ws)) p ≡ frame_bit (layers.window_of s (map (layered_window (record { font = font; shows = other })) ws)) p
frames_alike font shows other s [] p = refl
frames_alike font shows other s (w ∷ ws) p = by_test (w.serial == s) (frames_alike font shows other s ws p)
  where
    by_test : (b : Bool) → frame_bit (layers.window_of s (map (layered_window (record { font = font; shows = shows })) ws)) p ≡ frame_bit (layers.window_of s (map (layered_window (record { font = font; shows = other })) ws)) p
        → frame_bit (if b then Some (layered_window (record { font = font; shows = shows }) w) else layers.window_of s (map (layered_window (record { font = font; shows = shows })) ws)) p
        ≡ frame_bit (if b then Some (layered_window (record { font = font; shows = other }) w) else layers.window_of s (map (layered_window (record { font = font; shows = other })) ws)) p
    by_test true rest = refl
    by_test false rest = rest

-- ---- a desk whose controls and lists show something else

module _ (shows : List ℕ → Part → PixelSet) (desk : FullDesk) where
  abbrev was : LayeredDesk
  was = layered_desk desk

  abbrev now : LayeredDesk
  now = layered_desk (desk_showing shows desk)

  pub owner_showing : (p : Point) → owner now p ≡ owner was p
  owner_showing p = owner_of_any_look (look_of (desk_showing shows desk)) (look_of desk) now was desk.windows p refl refl refl

  pub distinct_showing : layers.IsDesk was → layers.IsDesk now
  distinct_showing distinct = apart_alike (look_of desk) (look_of (desk_showing shows desk)) desk.windows distinct

  -- what is no content looks the same
  pub bit_showing : (o : Owner) (p : Point) → is_content o ≡ false → own_bit now o p ≡ own_bit was o p
  bit_showing Desktop p e = refl
  bit_showing Bar p e = refl
  bit_showing (Frame s) p e = frames_alike desk.font (shows desk.font) desk.shows s desk.windows p
  bit_showing (Content s part) p e = absurd (false≢true (sym e))

module _ (shows : List ℕ → Part → PixelSet) (state : FullState) where
  -- what is to be redrawn of a window is the same
  pub update_showing : (s : ℕ) (p : Point) → update_of s (state_showing shows state) p ≡ update_of s state p
  update_showing s p = λ i. seen_from (record_with s state.desk.windows) (λ q. (layers.on_screen (layered_desk state.desk) q && is_content_of s (owner_showing shows state.desk q i)) && state.stale q) p

  -- frames, menu bar and desktop show what they are to show
  pub frames_showing : AreFramesShown state → AreFramesShown (state_showing shows state)
  frames_showing frames p on content =
      let plain : is_content (owner (layered_desk state.desk) p) ≡ false = ap is_content (sym (owner_showing shows state.desk p)) ∙ content in
      frames p on plain
      ∙ sym (ap (λ o. own_bit (layered_desk (desk_showing shows state.desk)) o p) (owner_showing shows state.desk p) ∙ bit_showing shows state.desk (owner (layered_desk state.desk) p) p plain)
