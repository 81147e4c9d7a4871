-- A window whose definition was told of a change.
use Rattle.std.proofs.Common.{◌≡◌, ℕ, Bool, true, List, refl, ap, ◌∙◌, subst}
use Rattle.std.specs.Prelude.{slice_set}
use Rattle.tb_geom.specs.declared.rect.Rect.{Rect}
use Rattle.tb_geom.specs.Rects.{rect_holds}
use Rattle.def_iface.specs.declared.size.Size.{Size}
use Rattle.def_iface.specs.Slots.{TakenBox}
use Rattle.def_iface.specs.declared.window_def.Stage.TheVariants.{Live}
use Rattle.def_iface.specs.declared.window_def.WindowChange.{WindowChange}
use Rattle.def_iface.specs.declared.window_def.WindowChange.TheVariants.{Resized, Titled, Highlighted, Closable, Zoomed, Tracked}
use Rattle.def_iface.specs.WindowNews.{no_news, told_change, told_placed}
use Rattle.def_iface.specs.WindowMeaning.{WindowDefinition, WindowLoan, SameRegions, WindowHears, IsDamage, IsWithin, size_after}
use Rattle.window_list.specs.declared.window.Window.{Window}
use Rattle.window_list.specs.Changes.{keeps_size, with_change, IsNotifiedAt}

-- a change that is none of the size leaves it
pub same_size : (change : WindowChange) (s : Size) → keeps_size change ≡ true → size_after change s ≡ s
same_size (Resized z) s e = absurd (cc)
same_size (Titled t) s e = refl
same_size (Highlighted b) s e = refl
same_size (Closable b) s e = refl
same_size (Zoomed b) s e = refl
same_size (Tracked b) s e = refl

-- a definition was told a size, and then whether its window is zoomed
pub heard_placed : (size : Size) (a b : Bool) → a ≡ b → {old middle new : WindowDefinition}
    → WindowHears (told_change (Resized size)) old middle → WindowHears (told_change (Zoomed a)) middle new → WindowHears (told_placed size b) old new
heard_placed size a b e {old} {middle} {new} one two = subst (λ (z : Bool). WindowHears (told_placed size z) old new) e (record {
  picture = λ n font p. two.picture n font p ∙ one.picture (told_change (Zoomed a) n) font p;
  hit = λ n p. two.hit n p ∙ one.hit (told_change (Zoomed a) n) p;
})

module _ {V : Type 0} {H : V → Type 0} where
  -- the definition stays the record's
  pub same_taken : (change : WindowChange) (w : Window V H) → (with_change change w).taken ≡ w.taken
  same_taken (Resized z) w = refl
  same_taken (Titled t) w = refl
  same_taken (Highlighted b) w = refl
  same_taken (Closable b) w = refl
  same_taken (Zoomed b) w = refl
  same_taken (Tracked b) w = refl

  -- the record was changed, and then its definition was told
  pub told_at : (loan : TakenBox V H → WindowLoan) (i : ℕ) (change : WindowChange) (damage : Rect) (w kept : Window V H) (taken : TakenBox V H) (old : List (Window V H))
      → keeps_size change ≡ true
      → kept ≡ with_change change w
      → (loan taken).definition.stage ≡ Live
      → (loan taken).definition.size ≡ size_after change (loan kept.taken).definition.size
      → SameRegions (loan kept.taken).definition (loan taken).definition
      → WindowHears (told_change change) (loan kept.taken).definition (loan taken).definition
      → (loan taken).slot ≡ (loan kept.taken).slot
      → IsDamage damage (loan kept.taken).definition (loan taken).definition
      → IsWithin (rect_holds damage) ((loan kept.taken).definition.damage (told_change change no_news))
      → IsNotifiedAt loan i change damage w old (slice_set old i (record kept { taken = taken }))
  told_at loan i change damage w kept taken old keeps is live size regions heard slot damaged answered =
      let was : kept.taken ≡ w.taken = ap (λ (x : Window V H). x.taken) is ∙ same_taken change w in
      record {
        taken = taken;
        items = ap (λ (x : Window V H). slice_set old i (record x { taken = taken })) is;
        live = live;
        size = size ∙ same_size change (loan kept.taken).definition.size keeps ∙ ap (λ x. (loan x).definition.size) was;
        regions = subst (λ x. SameRegions (loan x).definition (loan taken).definition) was regions;
        heard = subst (λ x. WindowHears (told_change change) (loan x).definition (loan taken).definition) was heard;
        slot = slot ∙ ap (λ x. (loan x).slot) was;
        damaged = subst (λ x. IsDamage damage (loan x).definition (loan taken).definition) was damaged;
        answered = subst (λ x. IsWithin (rect_holds damage) ((loan x).definition.damage (told_change change no_news))) was answered;
      }
