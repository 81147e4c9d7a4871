-- What a standard window shows once it was told of a change.
use Rattle.std.proofs.Common.{◌≡◌, ℕ, Bool, true, List, [], refl, sym, ap, ◌∙◌}
use Rattle.std.specs.Prelude.{is_none}
use Rattle.tb_geom.specs.declared.point.Point.{Point}
use Rattle.tb_geom.specs.declared.rect.Rect.{Rect}
use Rattle.tb_geom.specs.Points.{PixelSet}
use Rattle.tb_geom.specs.Rects.{rect_holds}
use Rattle.def_iface.specs.declared.keeping.Flags.{Flags}
use Rattle.def_iface.specs.declared.size.Size.{Size}
use Rattle.def_iface.specs.declared.window_def.WindowChange.{WindowChange}
use Rattle.def_iface.specs.WindowNews.{no_news, told_change}
use Rattle.def_iface.specs.WindowMeaning.{WindowHears, size_after}
use Rattle.def_iface.specs.WindowKeeping.{no_flags, flags_after, flags_in, keeps_title, size_in, title_after, title_in}
use Rattle.def_iface.proofs.KeptLemmas.{flags_told, kept_hears, kept_title_told, size_told, title_told}
use Rattle.looks.specs.Letters.{lettering}
use Rattle.looks.specs.Marks.{look_bit}
use Rattle.std_wdef.specs.declared.notched_window.NotchedWindow.{NotchedWindow}
use Rattle.std_wdef.specs.declared.kind.Shown.{Shown}
use Rattle.std_wdef.specs.declared.round_window.RoundWindow.{RoundWindow}
use Rattle.std_wdef.specs.declared.std_window.StdWindow.{StdWindow}
use Rattle.std_wdef.specs.Windows.{shown}
use Rattle.std_wdef.specs.Kinds.{is_titled}
use Rattle.std_wdef.specs.Looks.{look_of}
use Rattle.std_wdef.specs.Hits.{std_hit}
use Rattle.std_wdef.specs.Notched.{notched_look, notched_hit, notched_meaning, told_notched}
use Rattle.std_wdef.specs.Rounded.{round_look, round_hit, round_meaning, told_round}
use Rattle.std_wdef.specs.Told.{window_meaning, told_window}

pub std_hears : (change : WindowChange) (w : StdWindow) → WindowHears (told_change change) (window_meaning w) (window_meaning (told_window change w))
std_hears change w = kept_hears
    (λ f title size font. look_bit (lettering font title) (look_of w.variation f (is_titled title) size)) (std_hit w.variation)
    w.flags w.title w.size change (window_meaning w) (window_meaning (told_window change w)) refl refl refl refl

pub notched_hears : (change : WindowChange) (w : NotchedWindow) → WindowHears (told_change change) (notched_meaning w) (notched_meaning (told_notched change w))
notched_hears change w = kept_hears
    (λ f title size font. look_bit (lettering font []) (notched_look size)) (λ f size. notched_hit size)
    no_flags [] w.size change (notched_meaning w) (notched_meaning (told_notched change w)) refl refl refl refl

pub round_hears : (change : WindowChange) (w : RoundWindow) → WindowHears (told_change change) (round_meaning w) (round_meaning (told_round change w))
round_hears change w = kept_hears
    (λ f title size font. look_bit (lettering font title) (round_look f (is_titled title) size)) round_hit
    w.flags w.title w.size change (round_meaning w) (round_meaning (told_round change w)) refl refl refl refl

-- the damage that a window with a title answers has no pixel that it may not have
pub answered : (may : (same_title : Bool) → (old new : Shown) → PixelSet) (change : WindowChange) (f : Flags) (title : List ℕ) (size : Size) (damage : Rect) (same a b : Bool) (g : Flags) (u : List ℕ) (z : Size)
    → same ≡ keeps_title change → a ≡ is_titled title → b ≡ is_titled u → g ≡ flags_after change f → u ≡ title_after change title → z ≡ size_after change size
    → ((p : Point) → rect_holds damage p ≡ true → may same (record { flags = f; titled = a; size = size }) (record { flags = g; titled = b; size = z }) p ≡ true)
    → (p : Point) → rect_holds damage p ≡ true
    → may (is_none (told_change change no_news).title) (shown f title size)
    (shown (flags_in (told_change change no_news) f) (title_in (told_change change no_news) title) (size_in (told_change change no_news) size)) p ≡ true
answered may change f title size damage same a b g u z keeps was is flags titles sizes small p e =
    sym (λ i.
    may ((keeps ∙ sym (title_told change)) i) (record { flags = f; titled = was i; size = size })
    (record {
      flags = (flags ∙ sym (flags_told change f)) i;
      titled = (is ∙ ap is_titled (titles ∙ sym (kept_title_told change title))) i;
      size = (sizes ∙ sym (size_told change size)) i;
    }) p)
    ∙ small p e
