-- What a control's definition is told, as plain data.
use Rattle.std.specs.Prelude.{ℕ, List, Option, None, Some}
use Rattle.std.specs.Option.{unwrap_or}
use Rattle.control_values.specs.Settings.{Setting}
use Rattle.def_iface.specs.declared.size.Size.{Size}
use Rattle.def_iface.specs.declared.control_def.ControlChange.{ControlChange}
use Rattle.def_iface.specs.declared.control_def.ControlChange.TheVariants.{Resized, Titled, Set, Highlighted}

-- of each thing that a control's definition can be told what it was told last, if it was
pub record ControlNews : Type 0 where
  pub size : Option Size
  pub title : Option (List ℕ)
  pub setting : Option Setting
  pub highlight : Option ℕ

-- it is told nothing
abbrev pub no_control_news : ControlNews
no_control_news = record { size = None; title = None; setting = None; highlight = None }

-- it is told of the change, and then the rest: what comes later counts
abbrev pub told_control : ControlChange → ControlNews → ControlNews
told_control (Resized s) n = record n { size = Some (unwrap_or n.size s) }
told_control (Titled t) n = record n { title = Some (unwrap_or n.title t.now) }
told_control (Set v) n = record n { setting = Some (unwrap_or n.setting v) }
told_control (Highlighted h) n = record n { highlight = Some (unwrap_or n.highlight h) }

-- it is told one thing
abbrev pub size_news : Size → ControlNews
size_news s = record no_control_news { size = Some s }

abbrev pub title_news : List ℕ → ControlNews
title_news t = record no_control_news { title = Some t }

abbrev pub setting_news : Setting → ControlNews
setting_news v = record no_control_news { setting = Some v }

abbrev pub highlight_news : ℕ → ControlNews
highlight_news h = record no_control_news { highlight = Some h }

-- all that a control's definition can be told
pub record AllControlNews : Type 0 where
  pub size : Size
  pub title : List ℕ
  pub setting : Setting
  pub highlight : ℕ

-- it is told all of this, and then the rest
abbrev pub told_all_of_control : AllControlNews → ControlNews → ControlNews
told_all_of_control a n = record {
  size = Some (unwrap_or n.size a.size);
  title = Some (unwrap_or n.title a.title);
  setting = Some (unwrap_or n.setting a.setting);
  highlight = Some (unwrap_or n.highlight a.highlight);
}

-- all there is to tell of a new control: it is not highlighted
abbrev pub new_control_news : Size → List ℕ → Setting → AllControlNews
new_control_news size title setting = record { size = size; title = title; setting = setting; highlight = 0 }
