use Rattle.std.proofs.Common.{rules, ◌≡◌, true, SFits, w32, Result, Ok, Err, refl, ap, ◌∙◌}
use Rattle.std.specs.Result.{IsOk, is_ok}
use Rattle.std.proofs.lemmas.Int.{to_z-of_z}
use Rattle.tb_geom.specs.declared.point.Point.{Point}
use Rattle.tb_geom.specs.declared.rect.Rect.{Rect}
use Rattle.tb_geom.specs.Points.{minus}
use Rattle.tb_geom.specs.Rects.{is_in_range, moved_rect, rect_holds}
use Rattle.vis_update.proofs.PlaceLemmas.{placed_parts}
use Rattle.vis_update.proofs.plan.Seat.boxed.Goals as goal

pub bounds-judged-requires : goal.bounds-judged-requires
bounds-judged-requires g c = (placed_parts _ _ _ c.requires.placed).size_in

is_made : {X E : Type 0} (r : Result X E) → is_ok r ≡ true → IsOk r
is_made (Ok x) e = refl
is_made (Err x) e = absurd (cc)

pub unwrap-requires : goal.unwrap-requires
unwrap-requires g c =
    let across : SFits w32 c.args.self.now.place.h = search rules in
    let down : SFits w32 c.args.self.now.place.v = search rules in
    let in_range : is_ok c.offset.result ≡ is_in_range (moved_rect c.bounds-judged.result c.args.self.now.place.h c.args.self.now.place.v) = simp to_z-of_z at c.offset.ensures.in_range in
    is_made c.offset.result
    (in_range ∙ ap (λ (b : Rect). is_in_range (moved_rect b c.args.self.now.place.h c.args.self.now.place.v)) c.bounds-judged.ensures.value ∙ (placed_parts _ _ _ c.requires.placed).moved)

pub returns-clause-holds : goal.returns-clause-holds
returns-clause-holds g c p has =
    let across : SFits w32 c.args.self.now.place.h = search rules in
    let down : SFits w32 c.args.self.now.place.v = search rules in
    let had = rw c.unwrap.ensures at c.offset.ensures.pixels in
    let pixels : (q : Point) → rect_holds c.unwrap.result q ≡ rect_holds c.bounds-judged.result (minus q c.args.self.now.place) = simp to_z-of_z at had in
    pixels p ∙ c.bounds-judged.ensures.exact.holds (minus p c.args.self.now.place) has
