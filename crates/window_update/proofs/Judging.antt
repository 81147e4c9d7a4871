-- What the content of a window is to show, and whether it does.
use Rattle.std.proofs.Common.{◌≡◌, ℕ, ◌<◌, Bool, true, false, ◌&&◌, if◌then◌else◌, List, [], length, Some, refl, sym, ap, ◌∙◌, subst}
use Rattle.std.specs.Prelude.{slice_index_or}
use Rattle.std.proofs.lemmas.Bool.{and_parts}
use Rattle.tb_geom.specs.declared.point.Point.{Point}
use Rattle.tb_geom.specs.Points.{PixelSet, minus}
use Rattle.tb_geom.specs.Pixels.{holds}
use Rattle.bit_map.specs.Bits.{Bits, on_map, bit}
use Rattle.bit_blit.specs.Draws.{Draws}
use Rattle.desk_layers.specs.declared.part.Part.{Part}
use Rattle.def_iface.specs.Slots.{TakenBox}
use Rattle.def_iface.specs.WindowMeaning.{WindowLoan}
use Rattle.desk_layers.specs.Desk as layers
use Rattle.desk_layers.specs.Owner.{Owner, owner}
use Rattle.desk_layers.specs.Scratch.{scratch}
use Rattle.window_list.specs.declared.window.Window.{Window}
use Rattle.window_paint.specs.Shown.{content_shown}
use Rattle.vis_update.specs.declared.area.Area.{Area}
use Rattle.vis_update.specs.Areas.{is_content_of}
use Rattle.vis_update.specs.Records.{record_of}
use Rattle.window_mgr.specs.declared.manager.WindowManager.{WindowManager}
use Rattle.window_mgr.specs.Edits.{IsWindowAt}
use Rattle.window_mgr.specs.Finding.{record_with}
use Rattle.window_mgr.specs.FullDesk.{FullDesk, layered_desk}
use Rattle.window_mgr.specs.Kept.{IsKept}
use Rattle.window_mgr.specs.Records.{desk_of, desk_showing, state_of, state_showing}
use Rattle.window_mgr.proofs.Arranged.{between-is_below}
use Rattle.window_mgr.proofs.Contents.{content_right}
use Rattle.window_mgr.proofs.EditSeats.{same_at}
use Rattle.window_mgr.proofs.Showing.{owner_showing}
use Rattle.window_mgr.proofs.TellLemmas as telling
use Rattle.window_update.specs.Sets.{marked_in, on_place}
use Rattle.window_update.specs.Rightness.{IsAgreement, IsJudgement}
use Rattle.window_update.proofs.MarkLemmas.{its_area}

module _ {V : Type 0} {H : V → Type 0} (loan : TakenBox V H → WindowLoan) (shows : List ℕ → Part → PixelSet) (t : WindowManager V H) (kept : IsKept loan t) (at : ℕ) (low : at < length t.windows.records.items)
    (x : Window V H) (x_is : IsWindowAt t.windows.records.items at x) where
  abbrev desk : FullDesk
  desk = desk_showing shows (desk_of loan t [])

  found : record_with x.serial desk.windows ≡ Some (record_of loan x)
  found = telling.found loan t kept x.serial at x low x_is refl

  -- what painting from nothing gives a pixel that the window's content owns
  right_is : (p : Point) → is_content_of x.serial (owner (layered_desk desk) p) ≡ true → content_shown t.font (shows t.font) x p ≡ scratch (layered_desk desk) p
  right_is = content_right loan t kept.slots kept.whole at low x x_is shows

  pub on_map_is : (p : Point) → layers.on_screen (layered_desk desk) p ≡ on_map t.screen p
  unfolding on_map
  on_map_is p = λ i. between-is_below t.screen.width p.h i && between-is_below t.screen.height p.v i

  module _ (a : Area) (a_is : a ≡ slice_index_or t.areas.items at a) (buffer image : Bits) (width : buffer.width ≡ t.screen.width) (height : buffer.height ≡ t.screen.height)
      (drawn : Draws (holds a.visible) (λ p _. content_shown t.font (shows t.font) x p) buffer image) where
    visible_is : (p : Point) → holds a.visible p ≡ (layers.on_screen (layered_desk desk) p && is_content_of x.serial (owner (layered_desk desk) p))
    visible_is p =
        (its_area loan t kept at low x a x_is a_is).visible p
        ∙ ap (λ o. layers.on_screen (layered_desk desk) p && is_content_of x.serial o) (sym (owner_showing shows (desk_of loan t []) p))

    -- what shows of the content lies on the screen, and on the map for comparing
    pub shows_on : (p : Point) → holds a.visible p ≡ true → on_map t.screen p ≡ true
    shows_on p e = sym (on_map_is p) ∙ (and_parts (layers.on_screen (layered_desk desk) p) _ (sym (visible_is p) ∙ e)).0

    pub on_buffer : (p : Point) → on_map t.screen p ≡ true → on_map buffer p ≡ true
    unfolding on_map
    on_buffer p e = (λ i. on_map (record { width = width i; height = height i; black = buffer.black; counts = buffer.counts }) p) ∙ e

    pub on_image : (p : Point) → holds a.visible p ≡ true → on_map image p ≡ true
    unfolding on_map
    on_image p e = (λ i. on_map (record { width = (drawn.width ∙ width) i; height = (drawn.height ∙ height) i; black = image.black; counts = image.counts }) p) ∙ shows_on p e

    -- there the map shows what painting from nothing gives
    image_is : (p : Point) → holds a.visible p ≡ true → is_content_of x.serial (owner (layered_desk desk) p) ≡ true → bit image p ≡ scratch (layered_desk desk) p
    image_is p e own =
        drawn.pixels p (on_buffer p (shows_on p e))
        ∙ ap (λ b. if b then content_shown t.font (shows t.font) x p else bit buffer p) e
        ∙ right_is p own

    module _ (set : PixelSet) where
      marked_is : (o : Owner) (p : Point) → marked_in x.serial set desk o p ≡ (is_content_of x.serial o && set (minus p x.place))
      marked_is o p = ap (λ w. is_content_of x.serial o && on_place w set p) found

      pub judged : (result : Bool) → IsAgreement (λ p. holds a.visible p && set (minus p x.place)) t.screen image result → IsJudgement x.serial set (state_showing shows (state_of loan t [])) result
      judged true agree = λ p on marked.
          let parts = and_parts (is_content_of x.serial (owner (layered_desk desk) p)) (set (minus p x.place)) (sym (marked_is (owner (layered_desk desk) p) p) ∙ marked) in
          let shown : holds a.visible p ≡ true = visible_is p ∙ (λ i. on i && parts.0 i) in
          agree p (λ i. shown i && parts.1 i) ∙ image_is p shown parts.0
      judged false (p, within, apart) = λ right.
          let parts = and_parts (holds a.visible p) (set (minus p x.place)) within in
          let own = and_parts (layers.on_screen (layered_desk desk) p) _ (sym (visible_is p) ∙ parts.0) in
          apart (right p own.0 (marked_is (owner (layered_desk desk) p) p ∙ (λ i. own.1 i && parts.1 i)) ∙ sym (image_is p parts.0 own.1))

      -- the same, where the window goes by another name
      pub judged_as : (w : Window V H) → IsWindowAt t.windows.records.items at w → (result : Bool) → IsAgreement (λ p. holds a.visible p && set (minus p x.place)) t.screen image result → IsJudgement w.serial set (state_showing shows (state_of loan t [])) result
      judged_as w w_is result agree = subst (λ (v : Window V H). IsJudgement v.serial set (state_showing shows (state_of loan t [])) result) (same_at t.windows.records.items at x w low x_is w_is) (judged result agree)
