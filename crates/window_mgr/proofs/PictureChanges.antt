-- The changes of one window's picture, as layers: an operation more, another picture, and one that lies elsewhere.
use Rattle.std.proofs.Common.{◌≡◌, ℕ, Bool, true, false, if◌then◌else◌, [], ◌∷◌, ◌++◌, Some, ℤ, ◌-ℤ◌, ◌+ℤ◌, refl, sym, ap, ◌∙◌, arith}
use Rattle.std.proofs.lemmas.Int.{ints}
use Rattle.tb_geom.specs.declared.point.Point.{Point}
use Rattle.tb_geom.specs.Points.{PixelSet, minus, plus}
use Rattle.draw_port.specs.declared.shapes.Op.{Op}
use Rattle.draw_port.specs.Ops.{op_value, picture_bit}
use Rattle.draw_port.proofs.PictureLemmas.{one_more}
use Rattle.desk_layers.specs.Desk as layers
use Rattle.desk_layers.specs.declared.part.Part.TheVariants.{Picture}
use Rattle.desk_layers.specs.Owner.{Owner, owner, own_bit, same_owner}
use Rattle.desk_layers.specs.Owner.Owner.{Content}
use Rattle.desk_layers.specs.Change as plain
use Rattle.desk_layers.proofs.Owning.{same_owner-true}
use Rattle.desk_call.specs.declared.window.NewPicture.{NewPicture}
use Rattle.desk_call.specs.declared.window.ScrollPicture.{ScrollPicture}
use Rattle.vis_update.specs.Contents.{scroll_change, scrolled_from}
use Rattle.vis_update.specs.Records.{WindowRecord}
use Rattle.window_mgr.specs.FullDesk.{FullDesk, layered_desk}
use Rattle.window_mgr.specs.Finding.{record_with}
use Rattle.window_mgr.specs.Effects.{draw_change, picture_change}
use Rattle.window_mgr.proofs.Repictured as repictured

-- ---- an operation more

module _ (desk : FullDesk) (s : ℕ) (v : WindowRecord) (op : Op) (found : record_with s desk.windows ≡ Some v) where
  abbrev drawn : FullDesk
  drawn = repictured.after desk s (λ w. w.picture ++ op ∷ []) (λ w. w.origin)

  -- the window's content shows what the operation makes of what it showed
  drawn_shows : layers.IsDesk (layered_desk desk) → (p : Point) → own_bit (layered_desk drawn) (Content s Picture) p ≡ op_value desk.font op (minus (minus p v.place) v.origin) (own_bit (layered_desk desk) (Content s Picture) p)
  drawn_shows distinct p =
      repictured.content_shows desk s (λ w. w.picture ++ op ∷ []) (λ w. w.origin) distinct v found p
      ∙ one_more desk.font v.picture op (minus (minus p v.place) v.origin) false
      ∙ ap (op_value desk.font op (minus (minus p v.place) v.origin)) (sym (repictured.content_showed desk s (λ w. w.picture ++ op ∷ []) (λ w. w.origin) distinct v found p))

  -- what the call makes of a value that was right is right
  shows_drawn : layers.IsDesk (layered_desk desk) → (o : Owner) (p : Point) → (draw_change desk.font s v op).drawn o p (own_bit (layered_desk desk) o p) ≡ own_bit (layered_desk drawn) o p
  shows_drawn distinct o p = by_test (same_owner o (Content s Picture)) refl
    where
      by_test : (b : Bool) → same_owner o (Content s Picture) ≡ b → (if b then op_value desk.font op (minus (minus p v.place) v.origin) (own_bit (layered_desk desk) o p) else own_bit (layered_desk desk) o p) ≡ own_bit (layered_desk drawn) o p
      by_test true e =
          let same : o ≡ Content s Picture = same_owner-true o (Content s Picture) e in
          ap (λ q. op_value desk.font op (minus (minus p v.place) v.origin) (own_bit (layered_desk desk) q p)) same
          ∙ sym (drawn_shows distinct p)
          ∙ ap (λ q. own_bit (layered_desk drawn) q p) (sym same)
      by_test false e = sym (repictured.others_show desk s (λ w. w.picture ++ op ∷ []) (λ w. w.origin) o p e)

  pub draw_is_sound : (stale image : PixelSet) → layers.IsDesk (layered_desk desk) → plain.IsSound (draw_change desk.font s v op) (record { desk = layered_desk desk; stale = stale; image = image }) (layered_desk drawn)
  draw_is_sound stale image distinct = record {
    desk = repictured.after_is_desk desk s (λ w. w.picture ++ op ∷ []) (λ w. w.origin) distinct;
    kept = λ p on content afresh taken put redrawn there. shows_drawn distinct (owner (layered_desk drawn) p) p;
    right = λ p on taken. absurd (cc);
  }

-- ---- another picture

pub picture_is_sound : (desk : FullDesk) (n : NewPicture) (stale image : PixelSet) → layers.IsDesk (layered_desk desk)
    → plain.IsSound (picture_change n.window) (record { desk = layered_desk desk; stale = stale; image = image }) (layered_desk (repictured.after desk n.window (λ w. n.picture) (λ w. n.origin)))
picture_is_sound desk n stale image distinct = record {
  desk = repictured.after_is_desk desk n.window (λ w. n.picture) (λ w. n.origin) distinct;
  kept = λ p on content afresh taken put redrawn there.
      sym (repictured.others_show desk n.window (λ w. n.picture) (λ w. n.origin) (owner (layered_desk (repictured.after desk n.window (λ w. n.picture) (λ w. n.origin))) p) p put);
  right = λ p on taken. absurd (cc);
}

-- ---- a picture that lies elsewhere

same_local : (x by place origin : ℤ) → ((x -ℤ by) -ℤ place) -ℤ origin ≡ (x -ℤ place) -ℤ (origin +ℤ by)
same_local x by place origin = omega (arith, ints)

-- a pixel of the picture, before it was moved and then
pub local_same : (p by place origin : Point) → minus (minus (minus p by) place) origin ≡ minus (minus p place) (plus origin by)
local_same p by place origin = λ i. record { h = same_local p.h by.h place.h origin.h i; v = same_local p.v by.v place.v origin.v i }

module _ (desk : FullDesk) (m : ScrollPicture) (v : WindowRecord) (found : record_with m.window desk.windows ≡ Some v) where
  abbrev scrolled : FullDesk
  scrolled = repictured.after desk m.window (λ w. w.picture) (λ w. plus w.origin m.by)

  -- what came from elsewhere is what is to be there
  came : layers.IsDesk (layered_desk desk) → (p : Point) → own_bit (layered_desk desk) (Content m.window Picture) (minus p m.by) ≡ own_bit (layered_desk scrolled) (Content m.window Picture) p
  came distinct p =
      repictured.content_showed desk m.window (λ w. w.picture) (λ w. plus w.origin m.by) distinct v found (minus p m.by)
      ∙ ap (picture_bit desk.font v.picture) (local_same p m.by v.place v.origin)
      ∙ sym (repictured.content_shows desk m.window (λ w. w.picture) (λ w. plus w.origin m.by) distinct v found p)

  shows_scrolled : layers.IsDesk (layered_desk desk) → (o : Owner) (p : Point) → own_bit (layered_desk desk) o (scrolled_from m.window m.by o p) ≡ own_bit (layered_desk scrolled) o p
  shows_scrolled distinct o p = by_test (same_owner o (Content m.window Picture)) refl
    where
      by_test : (b : Bool) → same_owner o (Content m.window Picture) ≡ b → own_bit (layered_desk desk) o (if b then minus p m.by else p) ≡ own_bit (layered_desk scrolled) o p
      by_test true e =
          let same : o ≡ Content m.window Picture = same_owner-true o (Content m.window Picture) e in
          ap (λ q. own_bit (layered_desk desk) q (minus p m.by)) same
          ∙ came distinct p
          ∙ ap (λ q. own_bit (layered_desk scrolled) q p) (sym same)
      by_test false e = sym (repictured.others_show desk m.window (λ w. w.picture) (λ w. plus w.origin m.by) o p e)

  pub scroll_is_sound : (stale image : PixelSet) → layers.IsDesk (layered_desk desk) → plain.IsSound (scroll_change m.window m.by) (record { desk = layered_desk desk; stale = stale; image = image }) (layered_desk scrolled)
  scroll_is_sound stale image distinct = record {
    desk = repictured.after_is_desk desk m.window (λ w. w.picture) (λ w. plus w.origin m.by) distinct;
    kept = λ p on content afresh taken put redrawn there. shows_scrolled distinct (owner (layered_desk scrolled) p) p;
    right = λ p on taken. absurd (cc);
  }
