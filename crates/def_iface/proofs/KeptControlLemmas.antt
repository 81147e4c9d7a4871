-- A control's definition that keeps all that it is told answers as one that is told it later.
use Rattle.std.proofs.Common.{◌≡◌, ℕ, ℤ, List, Option, refl, sym, ap, ◌∙◌}
use Rattle.tb_geom.specs.declared.point.Point.{Point}
use Rattle.tb_geom.specs.Points.{PixelSet}
use Rattle.control_values.specs.declared.part.ControlPart.{ControlPart}
use Rattle.def_iface.specs.declared.control_def.ControlChange.{ControlChange}
use Rattle.def_iface.specs.declared.control_def.ControlChange.TheVariants.{Resized, Titled, Set, Highlighted}
use Rattle.def_iface.specs.declared.control_keeping.KeptControl.{KeptControl}
use Rattle.def_iface.specs.ControlNews.{ControlNews, no_control_news, told_control}
use Rattle.def_iface.specs.ControlMeaning.{ControlDefinition, ControlHears}
use Rattle.def_iface.specs.ControlKeeping.{kept_after, kept_in, kept_control_picture, kept_control_hit, kept_thumb_value, kept_control_damage}
use Rattle.def_iface.proofs.KeptLemmas.{later_title}

-- what is kept of a change and of what is told later
pub kept_then : (k : KeptControl) (change : ControlChange) (n : ControlNews) → kept_in n (kept_after change k) ≡ kept_in (told_control change n) k
kept_then k (Resized s) n = refl
kept_then k (Titled t) n = ap (λ x. record (kept_in n k) { title = x }) (later_title n.title t.now k.title)
kept_then k (Set v) n = refl
kept_then k (Highlighted h) n = refl

-- what is kept once one thing was told
pub kept_told : (change : ControlChange) (k : KeptControl) → kept_in (told_control change no_control_news) k ≡ kept_after change k
kept_told (Resized s) k = refl
kept_told (Titled t) k = refl
kept_told (Set v) k = refl
kept_told (Highlighted h) k = refl

-- what was told is not forgotten, where the new definition keeps what the old one kept, after the change
pub kept_control_hears : (look : KeptControl → List ℕ → PixelSet) (part : KeptControl → Point → Option ControlPart) (value : KeptControl → Point → Point → ℤ)
    (damage : KeptControl → KeptControl → PixelSet) (k : KeptControl) (change : ControlChange) (old new : ControlDefinition)
    → old.picture ≡ kept_control_picture look k
    → old.hit ≡ kept_control_hit part k
    → old.thumb_value ≡ kept_thumb_value value k
    → old.damage ≡ kept_control_damage damage k
    → new.picture ≡ kept_control_picture look (kept_after change k)
    → new.hit ≡ kept_control_hit part (kept_after change k)
    → new.thumb_value ≡ kept_thumb_value value (kept_after change k)
    → new.damage ≡ kept_control_damage damage (kept_after change k)
    → ControlHears (told_control change) old new
kept_control_hears look part value damage k change old new a b d e x y z w = record {
  picture = λ n font p. ap (λ f. f n font p) x ∙ ap (λ c. look c font p) (kept_then k change n) ∙ ap (λ f. f (told_control change n) font p) (sym a);
  hit = λ n p. ap (λ f. f n p) y ∙ ap (λ c. part c p) (kept_then k change n) ∙ ap (λ f. f (told_control change n) p) (sym b);
  thumb_value = λ n p q. ap (λ f. f n p q) z ∙ ap (λ c. value c p q) (kept_then k change n) ∙ ap (λ f. f (told_control change n) p q) (sym d);
  damage = λ n more p. ap (λ f. f n more p) w ∙ ap (λ c. damage c (kept_in more c) p) (kept_then k change n) ∙ ap (λ f. f (told_control change n) more p) (sym e);
}
