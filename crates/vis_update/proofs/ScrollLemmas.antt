-- The plan of a scroll, pixel by pixel.
use Rattle.std.proofs.Common.{◌≡◌, ℕ, ◌==◌, Bool, true, false, not, ◌&&◌, ◌||◌, if◌then◌else◌, refl, sym, ap, ◌∙◌}
use Rattle.std.proofs.lemmas.Bool.{false≢true, and_parts}
use Rattle.tb_geom.specs.declared.point.Point.{Point}
use Rattle.tb_geom.specs.Points.{minus}
use Rattle.tb_geom.specs.Pixels.{Pixels, holds}
use Rattle.desk_layers.specs.declared.part.Part.TheVariants.{Picture}
use Rattle.desk_layers.specs.Desk.{LayeredDesk, on_screen, same_part}
use Rattle.desk_layers.specs.Owner.{Owner, owner, same_owner, is_content}
use Rattle.desk_layers.specs.Owner.Owner.{Desktop, Bar, Frame, Content}
use Rattle.desk_layers.specs.Change.{State, had, stale_by}
use Rattle.desk_layers.proofs.Owning.{same_owner-true, same_owner-self}
use Rattle.vis_update.specs.declared.area.Area.{Area}
use Rattle.vis_update.specs.Areas.{IsArea, is_content_of}
use Rattle.vis_update.specs.Contents.{scroll_change, IsCovered, IsScrollPlan}

-- ---- owners

-- what is no content of a window is not its picture
pub no_picture : (s : ℕ) (o : Owner) → is_content_of s o ≡ false → same_owner o (Content s Picture) ≡ false
no_picture s Desktop e = refl
no_picture s Bar e = refl
no_picture s (Frame t) e = refl
no_picture s (Content t part) e = ap (λ b. b && same_part part Picture) e

pub picture_is_content : (s : ℕ) (o : Owner) → same_owner o (Content s Picture) ≡ true → is_content_of s o ≡ true
picture_is_content s Desktop e = e
picture_is_content s Bar e = e
picture_is_content s (Frame t) e = e
picture_is_content s (Content t part) e = (and_parts (t == s) (same_part part Picture) e).0

pub its_content : (s : ℕ) (o : Owner) → is_content_of s o ≡ true → is_content o ≡ true
its_content s Desktop e = e
its_content s Bar e = e
its_content s (Frame t) e = e
its_content s (Content t part) e = refl

-- ---- where pixels came from

module _ (before : State) (s : ℕ) (by : Point) (p : Point) where
  abbrev desk : LayeredDesk
  desk = before.desk

  abbrev the_picture : Owner
  the_picture = Content s Picture

  -- the picture had the pixel so far away
  abbrev was_there : Bool
  was_there = on_screen desk (minus p by) && same_owner (owner desk (minus p by)) the_picture

  picture_had : had (scroll_change s by) desk the_picture p ≡ was_there
  picture_had = ap (λ b. let q = if b then minus p by else p in on_screen desk q && same_owner (owner desk q) the_picture) (same_owner-self the_picture)

  picture_stale : stale_by (scroll_change s by) before the_picture p ≡ (if was_there then before.stale (minus p by) else true)
  picture_stale = ap (λ b. let q = if b then minus p by else p in if on_screen desk q && same_owner (owner desk q) the_picture then before.stale q else true) (same_owner-self the_picture)

  -- other content is stale where it was
  pub other_stale : on_screen desk p ≡ true → is_content (owner desk p) ≡ true → same_owner (owner desk p) the_picture ≡ false → stale_by (scroll_change s by) before (owner desk p) p ≡ before.stale p
  other_stale on its other =
      (λ i. if not (its i) then false
      else (let q = if other i then minus p by else p in if on_screen desk q && same_owner (owner desk q) (owner desk p) then before.stale q else true))
      ∙ (λ i. if on i && same_owner-self (owner desk p) i then before.stale p else true)

-- ---- the plan

module _ (before : State) (s : ℕ) (by : Point) (a : Area) (covered picture copied erase others moved fresh update : Pixels)
    (was : IsArea before.desk before.stale s a) (is_covered : IsCovered before.desk s covered)
    (picture_is : (p : Point) → holds picture p ≡ (holds a.visible p && not (holds covered p)))
    (copied_is : (p : Point) → holds copied p ≡ (holds picture p && holds picture (minus p by)))
    (erase_is : (p : Point) → holds erase p ≡ (holds picture p && not (holds copied p)))
    (others_are : (p : Point) → holds others p ≡ (holds a.update p && not (holds picture p)))
    (moved_is : (p : Point) → holds moved p ≡ (holds copied p && holds a.update (minus p by)))
    (fresh_is : (p : Point) → holds fresh p ≡ (holds others p || holds erase p))
    (update_is : (p : Point) → holds update p ≡ (holds fresh p || holds moved p)) where
  abbrev on : Point → Bool
  on p = on_screen before.desk p

  abbrev its : Point → Owner
  its p = owner before.desk p

  abbrev pictured : Point → Bool
  pictured p = on p && same_owner (its p) (Content s Picture)

  abbrev seen : Point → Bool
  seen p = on p && is_content_of s (its p)

  has_picture : (p : Point) → holds picture p ≡ pictured p
  has_picture p = picture_is p ∙ ap (λ v. v && not (holds covered p)) (was.visible p) ∙ by_test (on p) (is_content_of s (its p)) refl refl
    where
      twice : (b : Bool) → not (not b) ≡ b
      twice true = refl
      twice false = refl

      by_test : (b c : Bool) → on p ≡ b → is_content_of s (its p) ≡ c → ((b && c) && not (holds covered p)) ≡ (b && same_owner (its p) (Content s Picture))
      by_test true true e f = ap not (is_covered p e f) ∙ twice (same_owner (its p) (Content s Picture))
      by_test true false e f = sym (no_picture s (its p) f)
      by_test false c e f = refl

  copied_had : (p : Point) → holds copied p ≡ (pictured p && had (scroll_change s by) before.desk (its p) p)
  copied_had p = copied_is p ∙ (λ i. has_picture p i && has_picture (minus p by) i) ∙ by_test (same_owner (its p) (Content s Picture)) refl
    where
      none : (b x y : Bool) → ((b && false) && x) ≡ ((b && false) && y)
      none true x y = refl
      none false x y = refl

      by_test : (b : Bool) → same_owner (its p) (Content s Picture) ≡ b → ((on p && b) && pictured (minus p by)) ≡ ((on p && b) && had (scroll_change s by) before.desk (its p) p)
      by_test true e =
          ap (λ h. (on p && true) && h)
          (sym (ap (λ o. had (scroll_change s by) before.desk o p) (same_owner-true (its p) (Content s Picture) e) ∙ picture_had before s by p))
      by_test false e = none (on p) (pictured (minus p by)) (had (scroll_change s by) before.desk (its p) p)

  erase_had : (p : Point) → holds erase p ≡ (pictured p && not (had (scroll_change s by) before.desk (its p) p))
  erase_had p = erase_is p ∙ (λ i. has_picture p i && not (copied_had p i)) ∙ once (pictured p) (had (scroll_change s by) before.desk (its p) p)
    where
      once : (v h : Bool) → (v && not (v && h)) ≡ (v && not h)
      once true h = refl
      once false h = refl

  was_stale : (p : Point) → holds a.update p ≡ (seen p && before.stale p)
  was_stale p = was.update p ∙ ap (λ v. v && before.stale p) (was.visible p)

  update_stale : (p : Point) → holds update p ≡ (seen p && stale_by (scroll_change s by) before (its p) p)
  update_stale p =
      update_is p
      ∙ (λ i. (fresh_is p ∙ (λ j. others_are p j || erase_is p j)) i || moved_is p i)
      ∙ (λ i. ((was_stale p i && not (has_picture p i)) || (has_picture p i && not (arrives i))) || (arrives i && was_stale (minus p by) i))
      ∙ by_test (on p) (is_content_of s (its p)) (same_owner (its p) (Content s Picture)) refl refl refl
    where
      arrives : holds copied p ≡ (pictured p && pictured (minus p by))
      arrives = copied_is p ∙ (λ i. has_picture p i && has_picture (minus p by) i)

      -- k: the picture was there; v: content of the window was; t and x: the pixel was stale, there and here
      moved_table : (k v t x : Bool) → (k ≡ true → v ≡ true) → (((x && false) || not k) || (k && (v && t))) ≡ (if k then t else true)
      moved_table true true t true e = refl
      moved_table true true t false e = refl
      moved_table true false t x e = absurd (false≢true (e refl))
      moved_table false v t true e = refl
      moved_table false v t false e = refl

      still_table : (x : Bool) → (((x && true) || false) || false) ≡ x
      still_table true = refl
      still_table false = refl

      seen_there : pictured (minus p by) ≡ true → seen (minus p by) ≡ true
      seen_there e =
          let parts = and_parts (on (minus p by)) (same_owner (its (minus p by)) (Content s Picture)) e in
          λ i. parts.0 i && picture_is_content s (its (minus p by)) parts.1 i

      by_test : (b c m : Bool) → on p ≡ b → is_content_of s (its p) ≡ c → same_owner (its p) (Content s Picture) ≡ m
          → (((((b && c) && before.stale p) && not (b && m)) || ((b && m) && not ((b && m) && pictured (minus p by)))) || (((b && m) && pictured (minus p by)) && (seen (minus p by) && before.stale (minus p by))))
          ≡ ((b && c) && stale_by (scroll_change s by) before (its p) p)
      by_test true true true e f g =
          moved_table (pictured (minus p by)) (seen (minus p by)) (before.stale (minus p by)) (before.stale p) seen_there
          ∙ sym (ap (λ o. stale_by (scroll_change s by) before o p) (same_owner-true (its p) (Content s Picture) g) ∙ picture_stale before s by p)
      by_test true true false e f g = still_table (before.stale p) ∙ sym (other_stale before s by p e (its_content s (its p) f) g)
      by_test true false true e f g = absurd (false≢true (sym f ∙ picture_is_content s (its p) g))
      by_test true false false e f g = refl
      by_test false c m e f g = refl

  pub scroll_plan : IsScrollPlan s by before (record { erase = erase; update = update; copied = copied })
  scroll_plan = record { erase = erase_had; update = update_stale; copied = copied_had }
