-- A definition that keeps all that it is told shows and is hit as one that is told it later.
use Rattle.std.proofs.Common.{◌≡◌, ℕ, List, Option, None, Some, refl, sym, ap, ◌∙◌, true}
use Rattle.std.specs.Prelude.{take, is_none}
use Rattle.std.specs.Option.{unwrap_or, option_map_or}
use Rattle.tb_geom.specs.declared.point.Point.{Point}
use Rattle.tb_geom.specs.Points.{PixelSet}
use Rattle.def_iface.specs.declared.keeping.Flags.{Flags}
use Rattle.def_iface.specs.declared.size.Size.{Size}
use Rattle.def_iface.specs.declared.window_def.Hit.{Hit}
use Rattle.def_iface.specs.declared.window_def.WindowChange.{WindowChange}
use Rattle.def_iface.specs.declared.window_def.WindowChange.TheVariants.{Resized, Titled, Highlighted, Closable, Zoomed, Tracked}
use Rattle.def_iface.specs.WindowNews.{WindowNews, no_news, told_change}
use Rattle.def_iface.specs.WindowMeaning.{WindowDefinition, WindowHears, size_after}
use Rattle.def_iface.specs.WindowKeeping.{flags_after, title_after, keeps_title, flags_in, title_in, size_in, kept_picture, kept_hit}

-- of two titles the later one is kept
pub later_title : (o : Option (List ℕ)) (t title : List ℕ)
    → option_map_or (λ x. take 255 x) o (take 255 t) ≡ option_map_or (λ x. take 255 x) (Some (unwrap_or o t)) title
later_title None t title = refl
later_title (Some x) t title = refl

module _ (look : Flags → List ℕ → Size → List ℕ → PixelSet) (part : Flags → Size → Point → Hit) (f : Flags) (title : List ℕ) (size : Size) where
  shown : (change : WindowChange) (n : WindowNews)
      → kept_picture look (flags_after change f) (title_after change title) (size_after change size) n ≡ kept_picture look f title size (told_change change n)
  shown (Resized s) n = refl
  shown (Titled t) n = ap (λ x. look (flags_in n f) x (size_in n size)) (later_title n.title t.now title)
  shown (Highlighted b) n = refl
  shown (Closable b) n = refl
  shown (Zoomed b) n = refl
  shown (Tracked b) n = refl

  parted : (change : WindowChange) (n : WindowNews)
      → kept_hit part (flags_after change f) (size_after change size) n ≡ kept_hit part f size (told_change change n)
  parted (Resized s) n = refl
  parted (Titled t) n = refl
  parted (Highlighted b) n = refl
  parted (Closable b) n = refl
  parted (Zoomed b) n = refl
  parted (Tracked b) n = refl

  -- what was told is not forgotten, where the new definition keeps what the old one kept, after the change
  pub kept_hears : (change : WindowChange) (old new : WindowDefinition)
      → old.picture ≡ kept_picture look f title size
      → old.hit ≡ kept_hit part f size
      → new.picture ≡ kept_picture look (flags_after change f) (title_after change title) (size_after change size)
      → new.hit ≡ kept_hit part (flags_after change f) (size_after change size)
      → WindowHears (told_change change) old new
  kept_hears change old new a b c d = record {
    picture = λ n font p. ap (λ picture. picture n font p) c ∙ ap (λ s. s font p) (shown change n) ∙ ap (λ picture. picture (told_change change n) font p) (sym a);
    hit = λ n p. ap (λ hit. hit n p) d ∙ ap (λ s. s p) (parted change n) ∙ ap (λ hit. hit (told_change change n) p) (sym b);
  }

-- a change that brings no title leaves it
pub kept_title : (change : WindowChange) (title : List ℕ) → keeps_title change ≡ true → title_after change title ≡ title
kept_title (Resized s) title e = refl
kept_title (Titled t) title e = absurd (cc)
kept_title (Highlighted b) title e = refl
kept_title (Closable b) title e = refl
kept_title (Zoomed b) title e = refl
kept_title (Tracked b) title e = refl

-- ---- what is kept once one thing was told

pub flags_told : (change : WindowChange) (f : Flags) → flags_in (told_change change no_news) f ≡ flags_after change f
flags_told (Resized s) f = refl
flags_told (Titled t) f = refl
flags_told (Highlighted b) f = refl
flags_told (Closable b) f = refl
flags_told (Zoomed b) f = refl
flags_told (Tracked b) f = refl

pub kept_title_told : (change : WindowChange) (title : List ℕ) → title_in (told_change change no_news) title ≡ title_after change title
kept_title_told (Resized s) title = refl
kept_title_told (Titled t) title = refl
kept_title_told (Highlighted b) title = refl
kept_title_told (Closable b) title = refl
kept_title_told (Zoomed b) title = refl
kept_title_told (Tracked b) title = refl

pub size_told : (change : WindowChange) (size : Size) → size_in (told_change change no_news) size ≡ size_after change size
size_told (Resized s) size = refl
size_told (Titled t) size = refl
size_told (Highlighted b) size = refl
size_told (Closable b) size = refl
size_told (Zoomed b) size = refl
size_told (Tracked b) size = refl

-- a title was told, or none
pub title_told : (change : WindowChange) → is_none (told_change change no_news).title ≡ keeps_title change
title_told (Resized s) = refl
title_told (Titled t) = refl
title_told (Highlighted b) = refl
title_told (Closable b) = refl
title_told (Zoomed b) = refl
title_told (Tracked b) = refl
