-- Outside the cells of two items, a strip looks alike whichever of them is highlighted.
use Rattle.std.proofs.Common.{◌≡◌, ℕ, Bool, false, List, [], Option, sym, ◌∙◌}
use Rattle.tb_geom.specs.declared.point.Point.{Point}
use Rattle.tb_geom.specs.declared.rect.Rect.{Rect}
use Rattle.tb_geom.specs.Rects.{rect_holds}
use Rattle.looks.specs.Letters.{lettering}
use Rattle.looks.specs.Marks.{step_value, inverted}
use Rattle.looks.proofs.DamageLemmas.{none_cut_off, step_outside}
use Rattle.menu_record.specs.declared.menu.Menu.{Menu}
use Rattle.own_kind.specs.Strips.{is_lit, lit_cell, strip_bit}

-- inverting draws nothing outside its rectangle
stays : (font : List ℕ) (r : Rect) (p : Point) (d : Bool) → rect_holds r p ≡ false → step_value (lettering font []) p d (inverted r) ≡ d
stays font r p d out = step_outside (lettering font []) p d (inverted r) (none_cut_off (lettering font []) (inverted r) p out)

pub strips_alike : (font : List ℕ) (menu : Menu) (a b : Option ℕ) (p : Point) → is_lit a p ≡ false → is_lit b p ≡ false
    → strip_bit a font menu p ≡ strip_bit b font menu p
unfolding is_lit
strips_alike font menu a b p out_a out_b = stays font (lit_cell a) p _ out_a ∙ sym (stays font (lit_cell b) p _ out_b)
