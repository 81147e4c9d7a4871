use Rattle.std.proofs.Common.{◌≡◌, pos, inl, inr, sym, ap, ◌∙◌, rules, SFits, w32, to_z, of_z}
use Rattle.std.proofs.lemmas.Int.{to_z-of_z}
use Rattle.shape_arcs.proofs.SightLemmas.{are_placed, seen_middle, seen_beside}
use Rattle.shape_arcs.proofs.sight.seen.Goals.{else-h-eq0-via-then-h-eq0+else-v-eq0, else-h-eq0-via-else-h-eq0}
use Rattle.shape_arcs.proofs.sight.seen.Goals as goal

pub stretched-h-requires-clause-low_in : goal.stretched-h-requires-clause-low_in
stretched-h-requires-clause-low_in c =
    let fits : SFits w32 c.args.rect.left = search rules in
    simp to_z-of_z (are_placed c.args.rect c.args.pixel c.requires.in_range c.requires.pixel_in).left

pub stretched-h-requires-clause-high_in : goal.stretched-h-requires-clause-high_in
stretched-h-requires-clause-high_in c =
    let fits : SFits w32 c.args.rect.right = search rules in
    simp to_z-of_z (are_placed c.args.rect c.args.pixel c.requires.in_range c.requires.pixel_in).right

pub stretched-h-requires-clause-at_in : goal.stretched-h-requires-clause-at_in
stretched-h-requires-clause-at_in c =
    let fits : SFits w32 c.args.pixel.h = search rules in
    simp to_z-of_z (are_placed c.args.rect c.args.pixel c.requires.in_range c.requires.pixel_in).h

pub stretched-h-requires-clause-first_in : goal.stretched-h-requires-clause-first_in
stretched-h-requires-clause-first_in c =
    let fits : SFits w32 c.args.rect.top = search rules in
    simp to_z-of_z (are_placed c.args.rect c.args.pixel c.requires.in_range c.requires.pixel_in).top

pub stretched-h-requires-clause-last_in : goal.stretched-h-requires-clause-last_in
stretched-h-requires-clause-last_in c =
    let fits : SFits w32 c.args.rect.bottom = search rules in
    simp to_z-of_z (are_placed c.args.rect c.args.pixel c.requires.in_range c.requires.pixel_in).bottom

pub stretched-v-requires-clause-low_in : goal.stretched-v-requires-clause-low_in
stretched-v-requires-clause-low_in c =
    let fits : SFits w32 c.args.rect.top = search rules in
    simp to_z-of_z (are_placed c.args.rect c.args.pixel c.requires.in_range c.requires.pixel_in).top

pub stretched-v-requires-clause-high_in : goal.stretched-v-requires-clause-high_in
stretched-v-requires-clause-high_in c =
    let fits : SFits w32 c.args.rect.bottom = search rules in
    simp to_z-of_z (are_placed c.args.rect c.args.pixel c.requires.in_range c.requires.pixel_in).bottom

pub stretched-v-requires-clause-at_in : goal.stretched-v-requires-clause-at_in
stretched-v-requires-clause-at_in c =
    let fits : SFits w32 c.args.pixel.v = search rules in
    simp to_z-of_z (are_placed c.args.rect c.args.pixel c.requires.in_range c.requires.pixel_in).v

pub stretched-v-requires-clause-first_in : goal.stretched-v-requires-clause-first_in
stretched-v-requires-clause-first_in c =
    let fits : SFits w32 c.args.rect.left = search rules in
    simp to_z-of_z (are_placed c.args.rect c.args.pixel c.requires.in_range c.requires.pixel_in).left

pub stretched-v-requires-clause-last_in : goal.stretched-v-requires-clause-last_in
stretched-v-requires-clause-last_in c =
    let fits : SFits w32 c.args.rect.right = search rules in
    simp to_z-of_z (are_placed c.args.rect c.args.pixel c.requires.in_range c.requires.pixel_in).right

pub returns-then-v-eq0 : goal.returns-then-v-eq0
returns-then-v-eq0 c =
    let fits_left : SFits w32 c.args.rect.left = search rules in
    let fits_top : SFits w32 c.args.rect.top = search rules in
    let fits_right : SFits w32 c.args.rect.right = search rules in
    let fits_bottom : SFits w32 c.args.rect.bottom = search rules in
    let fits_h : SFits w32 c.args.pixel.h = search rules in
    let fits_v : SFits w32 c.args.pixel.v = search rules in
    let fits_a : SFits w32 c.stretched-h.result = search rules in
    let fits_b : SFits w32 c.stretched-v.result = search rules in
    let a = simp to_z-of_z at c.stretched-h.ensures in
    let b = simp to_z-of_z at c.stretched-v.ensures in
    let no_h : c.stretched-h.result ≡ pos 0 = sym (to_z-of_z w32 c.stretched-h.result fits_a) ∙ ap (to_z w32) c.if-h-eq0.true in
    let no_v : c.stretched-v.result ≡ pos 0 = sym (to_z-of_z w32 c.stretched-v.result fits_b) ∙ ap (to_z w32) c.if-v-eq0.true in
    seen_middle c.args.rect c.args.pixel c.stretched-h.result c.stretched-v.result a b no_h no_v

pub returns : goal.returns
returns c =
    let fits_left : SFits w32 c.args.rect.left = search rules in
    let fits_top : SFits w32 c.args.rect.top = search rules in
    let fits_right : SFits w32 c.args.rect.right = search rules in
    let fits_bottom : SFits w32 c.args.rect.bottom = search rules in
    let fits_h : SFits w32 c.args.pixel.h = search rules in
    let fits_v : SFits w32 c.args.pixel.v = search rules in
    let fits_a : SFits w32 c.stretched-h.result = search rules in
    let fits_b : SFits w32 c.stretched-v.result = search rules in
    let a = simp to_z-of_z at c.stretched-h.ensures in
    let b = simp to_z-of_z at c.stretched-v.ensures in
    simp to_z-of_z (seen_beside c.args.rect c.args.pixel c.stretched-h.result c.stretched-v.result a b (elim c.else-h-eq0.branch [
      | else-h-eq0-via-then-h-eq0+else-v-eq0 w ↦ inr (λ e. w.if-v-eq0.false (ap (of_z w32) e))
      | else-h-eq0-via-else-h-eq0 w ↦ inl (λ e. w.if-h-eq0.false (ap (of_z w32) e))
    ]))
