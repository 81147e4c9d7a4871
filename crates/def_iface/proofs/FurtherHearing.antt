-- What definitions of controls, menus and lists answer that were told things one after another.
use Rattle.std.proofs.Common.{◌≡◌, ℕ, List, ◌∙◌, subst}
use Rattle.control_values.specs.Settings.{Setting}
use Rattle.def_iface.specs.declared.size.Size.{Size}
use Rattle.def_iface.specs.ControlNews.{ControlNews, told_all_of_control, new_control_news}
use Rattle.def_iface.specs.ControlMeaning.{ControlDefinition, SameControlRegions, ControlHears}
use Rattle.def_iface.specs.MenuMeaning.{MenuNews, MenuDefinition, SameMeasures, MenuHears}
use Rattle.def_iface.specs.ListMeaning.{ListNews, ListDefinition, ListHears}

-- a control's definition was told one thing, and then another
pub control_hears_then : {one other : ControlNews → ControlNews} {old middle new : ControlDefinition} → ControlHears one old middle → ControlHears other middle new → ControlHears (λ n. one (other n)) old new
control_hears_then {one} {other} first second = record {
  picture = λ n font p. second.picture n font p ∙ first.picture (other n) font p;
  hit = λ n p. second.hit n p ∙ first.hit (other n) p;
  thumb_value = λ n p q. second.thumb_value n p q ∙ first.thumb_value (other n) p q;
  damage = λ n more p. second.damage n more p ∙ first.damage (other n) more p;
}

-- and its region stayed each time
pub control_regions_then : {old middle new : ControlDefinition} → SameControlRegions old middle → SameControlRegions middle new → SameControlRegions old new
control_regions_then first second = record {
  region = second.region ∙ first.region;
  bounds = second.bounds ∙ first.bounds;
}

-- a menu's definition was told one thing, and then another
pub menu_hears_then : {one other : MenuNews → MenuNews} {old middle new : MenuDefinition} → MenuHears one old middle → MenuHears other middle new → MenuHears (λ n. one (other n)) old new
menu_hears_then {one} {other} first second = record { picture = λ n font menu p. second.picture n font menu p ∙ first.picture (other n) font menu p }

-- and its measures stayed each time
pub measures_then : {old middle new : MenuDefinition} → SameMeasures old middle → SameMeasures middle new → SameMeasures old new
measures_then first second = record {
  size = second.size ∙ first.size;
  choose = second.choose ∙ first.choose;
}

-- a list's definition was told one thing, and then another
pub list_hears_then : {one other : ListNews → ListNews} {old middle new : ListDefinition} → ListHears one old middle → ListHears other middle new → ListHears (λ n. one (other n)) old new
list_hears_then {one} {other} first second = record {
  picture = λ n font bytes p. second.picture n font bytes p ∙ first.picture (other n) font bytes p;
  highlight = λ n font bytes p. second.highlight n font bytes p ∙ first.highlight (other n) font bytes p;
}

-- a new control's definition was told all there is to tell, at last that this is its highlighting: none
pub new_control_hears : (size : Size) (title : List ℕ) (setting : Setting) (h : ℕ) (old new : ControlDefinition) → h ≡ 0
    → ControlHears (told_all_of_control (record { size = size; title = title; setting = setting; highlight = h })) old new
    → ControlHears (told_all_of_control (new_control_news size title setting)) old new
new_control_hears size title setting h old new e heard =
    subst (λ (x : ℕ). ControlHears (told_all_of_control (record { size = size; title = title; setting = setting; highlight = x })) old new) e heard
