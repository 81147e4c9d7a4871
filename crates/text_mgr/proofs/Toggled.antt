-- A text record whose selection was inverted where it stands: where the screen was right, and none of it is to be redrawn, it was
-- shown anew.
use Rattle.std.proofs.Common.{◌≡◌, ℕ, Bool, true, false, not, ◌&&◌, cond, List, Option, Some, refl, sym, ap, ◌∙◌, subst}
use Rattle.tb_geom.specs.declared.point.Point.{Point}
use Rattle.tb_geom.specs.Points.{PixelSet, minus}
use Rattle.desk_layers.specs.declared.part.Part.TheVariants as part
use Rattle.desk_layers.specs.Change as plain
use Rattle.desk_layers.specs.Desk as layers
use Rattle.desk_layers.specs.Desk.{LayeredDesk}
use Rattle.desk_layers.specs.Owner.{Owner, is_content, own_bit, owner, same_owner}
use Rattle.desk_layers.specs.Owner.Owner.{Content}
use Rattle.desk_layers.specs.Scratch.{scratch}
use Rattle.desk_layers.proofs.Owning.{same_owner-true}
use Rattle.desk_layers.proofs.Painting.{scratch_is_owners}
use Rattle.vis_update.specs.Records.{WindowRecord}
use Rattle.window_mgr.specs.Finding.{record_with}
use Rattle.window_mgr.specs.FullDesk.{FullDesk, FullState, IsRightState, layered_desk, layered_state}
use Rattle.window_mgr.specs.Relayered.{IsLayerRedrawn, IsLayerToggled, redrawn_change, toggled_change}
use Rattle.window_mgr.proofs.Showing.{distinct_showing, owner_showing}
use Rattle.control_mgr.proofs.ControlBits.{shown_by}

module _ (s n : ℕ) (w : WindowRecord) (toggles : List ℕ → PixelSet) (before after : FullState) (right : IsRightState before) (found : record_with s before.desk.windows ≡ Some w)
    (fresh : (p : Point) → layers.on_screen (layered_desk after.desk) p ≡ true → owner (layered_desk after.desk) p ≡ Content s (part.Text n) → before.stale p ≡ false)
    (shown : (p : Point) → after.desk.shows (part.Text n) p ≡ cond (toggles before.desk.font p) (not (before.desk.shows (part.Text n) p)) (before.desk.shows (part.Text n) p))
    (toggled : IsLayerToggled s w.place (part.Text n) toggles before after) where
  abbrev its : Owner
  its = Content s (part.Text n)

  abbrev d : LayeredDesk
  d = layered_desk before.desk

  abbrev e : LayeredDesk
  e = layered_desk after.desk

  owners : (p : Point) → owner d p ≡ owner e p
  owners p =
      sym (owner_showing (λ font. after.desk.shows) before.desk p)
      ∙ ap (λ (x : FullDesk). owner (layered_desk x) p) (sym toggled.desk)

  distinct : layers.IsDesk e
  distinct = subst (λ (x : FullDesk). layers.IsDesk (layered_desk x)) (sym toggled.desk) (distinct_showing (λ font. after.desk.shows) before.desk right.plain.desk)

  on_before : (p : Point) → layers.on_screen e p ≡ true → layers.on_screen d p ≡ true
  on_before p on = ap (λ (x : FullDesk). layers.on_screen (layered_desk x) p) (sym toggled.desk) ∙ on

  same_window : (o : Option WindowRecord) (v : WindowRecord) → o ≡ Some v → o ≡ Some w → v ≡ w
  same_window o v e f = cc

  -- what it showed at a pixel, and what it shows
  value_was : (p : Point) → owner e p ≡ its → own_bit d its p ≡ before.desk.shows (part.Text n) (minus p w.place)
  value_was p here =
      let by = shown_by before.desk s (part.Text n) p right.plain.desk (owners p ∙ here) in
      by.bit_is ∙ ap (λ (v : WindowRecord). before.desk.shows (part.Text n) (minus p v.place)) (same_window (record_with s before.desk.windows) by.window by.found found)

  value_is : (p : Point) → owner e p ≡ its → own_bit e its p ≡ after.desk.shows (part.Text n) (minus p w.place)
  value_is p here =
      let by = shown_by after.desk s (part.Text n) p distinct here in
      by.bit_is
      ∙ ap (λ (v : WindowRecord). after.desk.shows (part.Text n) (minus p v.place))
      (same_window (record_with s after.desk.windows) by.window by.found (ap (λ (x : FullDesk). record_with s x.windows) toggled.desk ∙ found))

  -- what is inverted of the screen is what painting from nothing gives
  anew : (p : Point) → layers.on_screen e p ≡ true → owner e p ≡ its → cond (toggles before.desk.font (minus p w.place)) (not (before.image p)) (before.image p) ≡ scratch e p
  anew p on here =
      let was : before.image p ≡ before.desk.shows (part.Text n) (minus p w.place) =
      right.plain.right p (on_before p on) (fresh p on here) ∙ scratch_is_owners d p right.plain.desk ∙ ap (λ o. own_bit d o p) (owners p ∙ here) ∙ value_was p here in
      ap (λ b. cond (toggles before.desk.font (minus p w.place)) (not b) b) was
      ∙ sym (shown (minus p w.place))
      ∙ sym (value_is p here)
      ∙ sym (ap (λ o. own_bit e o p) here)
      ∙ sym (scratch_is_owners e p distinct)

  module _ (p : Point) (on : layers.on_screen e p ≡ true) where
    abbrev o : Owner
    o = owner e p

    choose : (content had mine toggle image scratched stale : Bool) → (mine ≡ true → stale ≡ false) → (mine ≡ true → cond toggle (not image) image ≡ scratched)
        → cond (not content) scratched (cond (not had) false (cond (mine && toggle) (not image) image))
        ≡ cond (not content) scratched (cond (not had) false (cond mine (cond (cond (not content) false (cond had stale true)) image scratched) image))
    choose false had mine toggle image scratched stale f g = refl
    choose true false mine toggle image scratched stale f g = refl
    choose true true false toggle image scratched stale f g = refl
    choose true true true toggle image scratched stale f g = rw (f refl) (g refl)

    image_is : plain.image_by (toggled_change s w.place (part.Text n) (toggles before.desk.font)) (layered_state before) e o p ≡ plain.image_by (redrawn_change s (part.Text n)) (layered_state before) e o p
    image_is =
        choose (is_content o) (plain.had plain.no_change d o p) (same_owner o its) (toggles before.desk.font (minus p w.place)) (before.image p) (scratch e p) (before.stale p)
        (λ mine. fresh p on (same_owner-true o its mine))
        (λ mine. anew p on (same_owner-true o its mine))

  pub toggled_redrawn : IsLayerRedrawn s (part.Text n) before after
  toggled_redrawn = record {
    desk = toggled.desk;
    pixels = record {
      stale = toggled.pixels.stale;
      image = λ p on. toggled.pixels.image p on ∙ image_is p on;
    };
  }
