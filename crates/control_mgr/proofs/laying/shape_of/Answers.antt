use Rattle.std.proofs.Common.{rules, ◌≡◌, true, SFits, w32, Result, Ok, Err, refl, ap, sym, ◌∙◌}
use Rattle.std.specs.Result.{IsOk, is_ok}
use Rattle.std.proofs.lemmas.Bool.{and_parts}
use Rattle.std.proofs.lemmas.Int.{to_z-of_z}
use Rattle.tb_geom.specs.declared.point.Point.{Point}
use Rattle.tb_geom.specs.declared.rect.Rect.{Rect}
use Rattle.tb_geom.specs.Points.{minus}
use Rattle.tb_geom.specs.Rects.{is_in_range, moved_rect, rect_holds}
use Rattle.def_iface.specs.ControlMeaning.{is_control_size}
use Rattle.window_list.proofs.Moved.{stays_with_box}
use Rattle.control_mgr.proofs.laying.shape_of.Goals as goal

pub move_by-requires : goal.move_by-requires
move_by-requires g c = stays_with_box _ _ _ c.in_ok-region.ensures.boxed c.requires.inside

pub bounds-bounds-requires : goal.bounds-bounds-requires
bounds-bounds-requires g c = (and_parts (is_control_size c.args.lie.size) _ c.requires.fits).0

is_made : {X E : Type 0} (r : Result X E) → is_ok r ≡ true → IsOk r
is_made (Ok x) e = refl
is_made (Err x) e = absurd (cc)

pub unwrap-requires : goal.unwrap-requires
unwrap-requires g c =
    let across : SFits w32 c.args.lie.place.h = search rules in
    let down : SFits w32 c.args.lie.place.v = search rules in
    let in_range : is_ok c.offset.result ≡ is_in_range (moved_rect c.bounds-bounds.result c.args.lie.place.h c.args.lie.place.v) = simp to_z-of_z at c.offset.ensures.in_range in
    is_made c.offset.result
    (in_range ∙ ap (λ (b : Rect). is_in_range (moved_rect b c.args.lie.place.h c.args.lie.place.v)) c.bounds-bounds.ensures.value ∙ c.requires.inside)

pub returns : goal.returns
returns g c =
    let across : SFits w32 c.args.lie.place.h = search rules in
    let down : SFits w32 c.args.lie.place.v = search rules in
    let lies = rw c.unwrap.ensures at c.offset.ensures.sides in
    let sides : c.unwrap.result ≡ moved_rect c.bounds-bounds.result c.args.lie.place.h c.args.lie.place.v = simp to_z-of_z at lies in
    let had = rw c.unwrap.ensures at c.offset.ensures.pixels in
    let pixels : (p : Point) → rect_holds c.unwrap.result p ≡ rect_holds c.bounds-bounds.result (minus p c.args.lie.place) = simp to_z-of_z at had in
    record {
      shown = refl;
      region = λ p. c.move_by.ensures p ∙ c.in_ok-region.ensures.region (minus p c.args.lie.place);
      bounds = sides ∙ ap (λ (b : Rect). moved_rect b c.args.lie.place.h c.args.lie.place.v) c.bounds-bounds.ensures.value;
      boxed = λ p e. pixels p ∙ ap (λ (b : Rect). rect_holds b (minus p c.args.lie.place)) c.bounds-bounds.ensures.value
          ∙ c.in_ok-region.ensures.boxed (minus p c.args.lie.place) (sym (c.move_by.ensures p) ∙ e);
    }
