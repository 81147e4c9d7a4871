-- The regions of windows are what their contents own on the screen.
use Rattle.std.proofs.Common.{◌≡◌, ℕ, ◌↔◌, true, ◌&&◌, Option, Some, sym, ap, ◌∙◌}
use Rattle.std.proofs.lemmas.Bool.{and_parts, eqb-true, false≢true}
use Rattle.tb_geom.specs.declared.point.Point.{Point}
use Rattle.tb_geom.specs.Points.{PixelSet, minus}
use Rattle.desk_layers.specs.declared.part.Part.{Part}
use Rattle.desk_layers.specs.Desk.{on_screen}
use Rattle.desk_layers.specs.Owner.{Owner, owner}
use Rattle.desk_layers.specs.Owner.Owner.{Desktop, Bar, Frame, Content}
use Rattle.desk_layers.proofs.Owning.{same_number}
use Rattle.vis_update.specs.Areas.{is_content_of}
use Rattle.vis_update.specs.Records.{WindowRecord}
use Rattle.window_mgr.specs.Finding.{record_with}
use Rattle.window_mgr.specs.FullDesk.{FullState, IsRightState, layered_desk}
use Rattle.window_mgr.specs.Telling.{seen_from, update_of, visible_of}
use Rattle.window_mgr.proofs.TellLemmas.{again_there}
use Rattle.window_update.proofs.ServedLaws.{is_there, whose}
use Rattle.desk_laws.specs.Regions.{IsInRegion, IsOfContent}

content_layer : (s : ℕ) (o : Owner) → is_content_of s o ≡ true → (layer : Part) × (o ≡ Content s layer)
content_layer s Desktop e = absurd (false≢true e)
content_layer s Bar e = absurd (false≢true e)
content_layer s (Frame t) e = absurd (false≢true e)
content_layer s (Content t layer) e = (layer, ap (λ n. Content n layer) (eqb-true t s e))

module _ (s : ℕ) (x : FullState) (p : Point) where
  abbrev owns : PixelSet
  owns q = on_screen (layered_desk x.desk) q && is_content_of s (owner (layered_desk x.desk) q)

  -- what a window sees of a set at a pixel of the screen
  seen_at : (set : PixelSet) (w : WindowRecord) → record_with s x.desk.windows ≡ Some w → seen_from (record_with s x.desk.windows) set (minus p w.place) ≡ set p
  seen_at set w found = ap (λ (o : Option WindowRecord). seen_from o set (minus p w.place)) found ∙ ap set (again_there p w.place)

  owned : owns p ≡ true → IsOfContent s x p
  owned e = let parts = and_parts (on_screen (layered_desk x.desk) p) (is_content_of s (owner (layered_desk x.desk) p)) e in (parts.0, content_layer s (owner (layered_desk x.desk) p) parts.1)

  its : IsOfContent s x p → is_content_of s (owner (layered_desk x.desk) p) ≡ true
  its (on, (layer, is)) = ap (is_content_of s) is ∙ same_number s

  owned_so : IsOfContent s x p → owns p ≡ true
  owned_so h = λ i. h.0 i && its h i

  pub visible_where_owned : IsInRegion visible_of s x p ↔ IsOfContent s x p
  visible_where_owned = (
    λ (w, found, inside). owned (sym (seen_at owns w found) ∙ inside),
    λ h. let w = is_there x.desk s p (its h) in (w.0, w.1, seen_at owns w.0 w.1 ∙ owned_so h),
  )

  pub update_where_stale : IsInRegion update_of s x p ↔ (IsOfContent s x p × (x.stale p ≡ true))
  update_where_stale = (
    λ (w, found, inside). let parts = and_parts (owns p) (x.stale p) (sym (seen_at (λ q. owns q && x.stale q) w found) ∙ inside) in (owned parts.0, parts.1),
    λ (h, old). let w = is_there x.desk s p (its h) in (w.0, w.1, seen_at (λ q. owns q && x.stale q) w.0 w.1 ∙ (λ i. owned_so h i && old i)),
  )

pub updates_are_apart : (v w : ℕ) (x : FullState) (p : Point) → IsInRegion update_of v x p → IsInRegion update_of w x p → v ≡ w
updates_are_apart v w x p one other =
    let mine = ((update_where_stale v x p).0 one).0.1 in
    let its_own = ((update_where_stale w x p).0 other).0.1 in
    let same : Content v mine.0 ≡ Content w its_own.0 = sym mine.1 ∙ its_own.1 in
    cc

pub stale_is_in_one : (x : FullState) (p : Point) → IsRightState x → on_screen (layered_desk x.desk) p ≡ true → x.stale p ≡ true → (window : ℕ) × IsInRegion update_of window x p
stale_is_in_one x p right on old =
    let s = whose (owner (layered_desk x.desk) p) (right.plain.content p on old) in
    (s.0, (update_where_stale s.0 x p).1 ((on, content_layer s.0 (owner (layered_desk x.desk) p) s.1), old))
