-- What a definition is told, as plain data.
use Rattle.std.specs.Prelude.{ℕ, Bool, false, List, Option, None, Some}
use Rattle.std.specs.Option.{unwrap_or}
use Rattle.def_iface.specs.declared.size.Size.{Size}
use Rattle.def_iface.specs.declared.window_def.WindowChange.{WindowChange}
use Rattle.def_iface.specs.declared.window_def.WindowChange.TheVariants.{Resized, Titled, Highlighted, Closable, Zoomed, Tracked}

-- of each thing that a definition can be told what it was told last, if it was
pub record WindowNews : Type 0 where
  pub size : Option Size
  pub title : Option (List ℕ)
  pub highlighted : Option Bool
  pub closable : Option Bool
  pub zoomed : Option Bool
  pub tracked : Option Bool

-- it is told nothing
abbrev pub no_news : WindowNews
no_news = record { size = None; title = None; highlighted = None; closable = None; zoomed = None; tracked = None }

-- it is told this, and then the rest: what comes later counts
abbrev pub told_size : Size → WindowNews → WindowNews
told_size s n = record n { size = Some (unwrap_or n.size s) }

abbrev pub told_title : List ℕ → WindowNews → WindowNews
told_title t n = record n { title = Some (unwrap_or n.title t) }

abbrev pub told_highlighted : Bool → WindowNews → WindowNews
told_highlighted b n = record n { highlighted = Some (unwrap_or n.highlighted b) }

abbrev pub told_closable : Bool → WindowNews → WindowNews
told_closable b n = record n { closable = Some (unwrap_or n.closable b) }

abbrev pub told_zoomed : Bool → WindowNews → WindowNews
told_zoomed b n = record n { zoomed = Some (unwrap_or n.zoomed b) }

abbrev pub told_tracked : Bool → WindowNews → WindowNews
told_tracked b n = record n { tracked = Some (unwrap_or n.tracked b) }

-- it is told of the change, and then the rest
abbrev pub told_change : WindowChange → WindowNews → WindowNews
told_change (Resized s) n = told_size s n
told_change (Titled t) n = told_title t.now n
told_change (Highlighted b) n = told_highlighted b n
told_change (Closable b) n = told_closable b n
told_change (Zoomed b) n = told_zoomed b n
told_change (Tracked b) n = told_tracked b n

-- all that a definition can be told
pub record AllWindowNews : Type 0 where
  pub size : Size
  pub title : List ℕ
  pub highlighted : Bool
  pub closable : Bool
  pub zoomed : Bool
  pub tracked : Bool

-- it is told all of this, and then the rest
abbrev pub told_all : AllWindowNews → WindowNews → WindowNews
told_all a n =
    told_size a.size (told_title a.title (told_closable a.closable
    (told_highlighted a.highlighted (told_zoomed a.zoomed (told_tracked a.tracked n)))))

-- all there is to tell of a new window: it is not zoomed, and its go-away box is not tracked
abbrev pub new_window_news : Size → List ℕ → Bool → Bool → AllWindowNews
new_window_news size title go_away highlighted = record {
  size = size;
  title = title;
  highlighted = highlighted;
  closable = go_away;
  zoomed = false;
  tracked = false;
}

-- it is told how a window lies, and then the rest
abbrev pub told_placed : Size → Bool → WindowNews → WindowNews
told_placed size zoomed n = told_size size (told_zoomed zoomed n)
