-- What a call does to pixels that changes or draws the update region of one window.
use Rattle.std.proofs.Common.{◌≡◌, ℕ, ◌&&◌, ◌||◌, not, Bool, true, false, if◌then◌else◌, List, refl, sym, ap, ◌∙◌, subst}
use Rattle.std.proofs.lemmas.Bool.{false≢true}
use Rattle.tb_geom.specs.declared.point.Point.{Point}
use Rattle.tb_geom.specs.Points.{PixelSet}
use Rattle.tb_geom.specs.Pixels.{Pixels, holds}
use Rattle.desk_layers.specs.declared.part.Part.{Part}
use Rattle.def_iface.specs.Slots.{TakenBox}
use Rattle.def_iface.specs.WindowMeaning.{WindowLoan}
use Rattle.def_iface.specs.WindowSlots.{WindowSlot}
use Rattle.desk_layers.specs.Desk as layers
use Rattle.desk_layers.specs.Desk.{LayeredDesk}
use Rattle.desk_layers.specs.Owner.{Owner, owner, is_content}
use Rattle.desk_layers.specs.Scratch.{scratch}
use Rattle.desk_layers.specs.Change as plain
use Rattle.desk_layers.proofs.Changing.{stays_right}
use Rattle.desk_layers.proofs.Owning.{same_owner-self}
use Rattle.desk_layers.proofs.Painting.{scratch_is_owners}
use Rattle.vis_update.specs.Areas.{is_content_of, stale_in}
use Rattle.window_mgr.specs.declared.manager.WindowManager.{WindowManager}
use Rattle.window_mgr.specs.FullDesk.{FullDesk, FullState, IsRightState, AreSerials, layered_desk, layered_state}
use Rattle.window_mgr.specs.Records.{desk_of, desk_showing, state_of, state_showing}
use Rattle.window_mgr.specs.Updating.{IsRemarked, IsRefreshed, refresh_change}
use Rattle.window_mgr.specs.Whole.{IsWholeManager, AreFramesShown}
use Rattle.window_mgr.proofs.Repicturing.{no_content, not_stale}
use Rattle.window_mgr.proofs.Remarked.{unless}
use Rattle.window_mgr.proofs.Showing.{owner_showing, distinct_showing, frames_showing}

-- a change of these pixels alone: they are put into the update sets, or taken out
abbrev pub adding : (Owner → Point → Bool) → plain.Change
adding these = record plain.no_change { added = these }

abbrev pub taking : (Owner → Point → Bool) → plain.Change
taking these = record plain.no_change { taken = these }

-- ---- a desk that stays as it is

-- a sound change that leaves the desk keeps a right state right
same_desk_stays_right : (c : plain.Change) (before after : FullState) → after.desk ≡ before.desk → IsRightState before → plain.IsSound c (layered_state before) (layered_desk before.desk) → plain.IsChanged c (layered_state before) (layered_state after) → IsRightState after
same_desk_stays_right c before after same right sound changed = record {
  plain = stays_right c (layered_state before) (layered_state after) right.plain (subst (plain.IsSound c (layered_state before)) (sym (ap layered_desk same)) sound) changed;
  serials = subst (λ (d : FullDesk). AreSerials d.next d.windows) (sym same) right.serials;
}

module _ (before : FullState) (distinct : layers.IsDesk (layered_desk before.desk)) where
  abbrev desk : LayeredDesk
  desk = layered_desk before.desk

  pub refreshed_is_sound : (these : Owner → Bool) → plain.IsSound (refresh_change these before) (layered_state before) desk
  refreshed_is_sound these = record { desk = distinct; kept = λ p on content afresh taken put drawn there. refl; right = λ p on taken. absurd (false≢true taken) }

  pub added_is_sound : (these : Owner → Point → Bool) → plain.IsSound (adding these) (layered_state before) desk
  added_is_sound these = record { desk = distinct; kept = λ p on content afresh taken put drawn there. refl; right = λ p on taken. absurd (false≢true taken) }

  pub taken_is_sound : (these : Owner → Point → Bool) → ((p : Point) → layers.on_screen desk p ≡ true → these (owner desk p) p ≡ true → before.image p ≡ scratch desk p) → plain.IsSound (taking these) (layered_state before) desk
  taken_is_sound these shown = record {
    desk = distinct;
    kept = λ p on content afresh taken put drawn there. refl;
    right = λ p on taken. by_content p on (shown p on taken) (is_content (owner desk p)) refl;
  }
    where
      by_content : (p : Point) → layers.on_screen desk p ≡ true → before.image p ≡ scratch desk p → (b : Bool) → is_content (owner desk p) ≡ b → plain.image_by (taking these) (layered_state before) desk (owner desk p) p ≡ scratch desk p
      by_content p on is false c = unless (is_content (owner desk p)) (scratch desk p) _ c
      by_content p on is true c = (λ i. if not (c i) then scratch desk p else (if not (on i && same_owner-self (owner desk p) i) then false else before.image p)) ∙ is

-- ---- a right state stays right

-- where what was stale of content layers was drawn
pub refreshed_stays_right : (these : Owner → Bool) (before after : FullState) → IsRightState before → IsRefreshed these before after → IsRightState after
refreshed_stays_right these before after right done = same_desk_stays_right (refresh_change these before) before after done.desk right (refreshed_is_sound before right.plain.desk these) done.pixels

-- where pixels were put into update sets
pub added_stays_right : (these : Owner → Point → Bool) (before after : FullState) → after.desk ≡ before.desk → plain.IsChanged (adding these) (layered_state before) (layered_state after) → IsRightState before → IsRightState after
added_stays_right these before after same changed right = same_desk_stays_right (adding these) before after same right (added_is_sound before right.plain.desk these) changed

-- where pixels were taken out that are right
pub taken_stays_right : (these : Owner → Point → Bool) (before after : FullState) → after.desk ≡ before.desk → plain.IsChanged (taking these) (layered_state before) (layered_state after)
    → ((p : Point) → layers.on_screen (layered_desk before.desk) p ≡ true → these (owner (layered_desk before.desk) p) p ≡ true → before.image p ≡ scratch (layered_desk before.desk) p)
    → IsRightState before → IsRightState after
taken_stays_right these before after same changed shown right = same_desk_stays_right (taking these) before after same right (taken_is_sound before right.plain.desk these shown) changed

-- ---- the update region of a window, made another

-- frames are shown, and only content is stale
record IsOrdered (before : FullState) : Type 0 where
  distinct : layers.IsDesk (layered_desk before.desk)
  frames : AreFramesShown before
  fresh : (p : Point) → layers.on_screen (layered_desk before.desk) p ≡ true → is_content (owner (layered_desk before.desk) p) ≡ false → before.stale p ≡ false

ordered : {V : Type 0} {H : V → Type 0} (loan : TakenBox V H → WindowLoan) (t : WindowManager V H) (slots : List WindowSlot) → IsWholeManager loan t slots → (shows : List ℕ → Part → PixelSet) → IsOrdered (state_showing shows (state_of loan t slots))
ordered loan t slots whole shows = record {
  distinct = distinct_showing shows (desk_of loan t slots) whole.sound.distinct;
  frames = frames_showing shows (state_of loan t slots) whole.frames;
  fresh = λ p on c. not_stale (layered_desk (desk_of loan t slots)) (stale_in t.areas.items) (desk_of loan t slots).windows t.areas.items p whole.areas (ap is_content (sym (owner_showing shows (desk_of loan t slots) p)) ∙ c);
}

-- where nothing is stale of layers, drawing what is changes nothing
nothing_refreshed : (before : FullState) → IsOrdered before → (these : Owner → Bool) → ((p : Point) → layers.on_screen (layered_desk before.desk) p ≡ true → these (owner (layered_desk before.desk) p) ≡ true → before.stale p ≡ false) → IsRefreshed these before before
nothing_refreshed before is these none = record { desk = refl; pixels = record { stale = λ p on. stale_is p on (is_content (its p)) refl; image = λ p on. image_is p on (is_content (its p)) refl } }
  where
    its : Point → Owner
    its p = owner (layered_desk before.desk) p

    had_is : (p : Point) → layers.on_screen (layered_desk before.desk) p ≡ true → plain.had (refresh_change these before) (layered_desk before.desk) (its p) p ≡ true
    had_is p on = λ i. on i && same_owner-self (its p) i

    not_drawn : (p : Point) → layers.on_screen (layered_desk before.desk) p ≡ true → (b : Bool) → these (its p) ≡ b → (b && before.stale p) ≡ false
    not_drawn p on true e = none p on e
    not_drawn p on false e = refl

    stale_is : (p : Point) → layers.on_screen (layered_desk before.desk) p ≡ true → (b : Bool) → is_content (its p) ≡ b → before.stale p ≡ plain.stale_by (refresh_change these before) (layered_state before) (its p) p
    stale_is p on false c = is.fresh p on c ∙ sym (unless (is_content (its p)) false _ c)
    stale_is p on true c = sym (λ i. if not (c i) then false else (if not_drawn p on (these (its p)) refl i then false else (if had_is p on i then before.stale p else true)))

    image_is : (p : Point) → layers.on_screen (layered_desk before.desk) p ≡ true → (b : Bool) → is_content (its p) ≡ b → before.image p ≡ plain.image_by (refresh_change these before) (layered_state before) (layered_desk before.desk) (its p) p
    image_is p on false c = is.frames p on c ∙ sym (scratch_is_owners (layered_desk before.desk) p is.distinct) ∙ sym (unless (is_content (its p)) (scratch (layered_desk before.desk) p) _ c)
    image_is p on true c = sym (λ i. if not (c i) then scratch (layered_desk before.desk) p else (if not_drawn p on (these (its p)) refl i then scratch (layered_desk before.desk) p else (if not (had_is p on i) then false else before.image p)))

-- so a window manager none of whose layers of these is stale
pub stays_refreshed : {V : Type 0} {H : V → Type 0} (loan : TakenBox V H → WindowLoan) (t : WindowManager V H) (slots : List WindowSlot) → IsWholeManager loan t slots → (shows : List ℕ → Part → PixelSet) (these : Owner → Bool)
    → ((p : Point) → layers.on_screen (layered_desk (desk_of loan t slots)) p ≡ true → these (owner (layered_desk (desk_of loan t slots)) p) ≡ true → stale_in t.areas.items p ≡ false)
    → IsRefreshed these (state_showing shows (state_of loan t slots)) (state_showing shows (state_of loan t slots))
stays_refreshed loan t slots whole shows these none = nothing_refreshed (state_showing shows (state_of loan t slots)) (ordered loan t slots whole shows) these (λ p on e. none p on (ap these (sym (owner_showing shows (desk_of loan t slots) p)) ∙ e))

-- a window whose update region was made another was so whatever its controls and lists show
pub remarked_showing : (shows : List ℕ → Part → PixelSet) (s : ℕ) (update : Pixels) (before after : FullState) → IsRemarked s update before after → IsRemarked s update (state_showing shows before) (state_showing shows after)
remarked_showing shows s update before after done = record {
  desk = ap (desk_showing shows) done.desk;
  image = done.image;
  stale = λ p on. done.stale p on ∙ ap (λ o. if is_content_of s o then holds update p else before.stale p) (sym (owner_showing shows before.desk p));
}

module _ (s : ℕ) (update : Pixels) (before after : FullState) (is : IsOrdered before) (done : IsRemarked s update before after) where
  abbrev was : LayeredDesk
  was = layered_desk before.desk

  -- the pixels of this window's content that the owner gives
  abbrev OfContent : (Owner → Point → Bool) → Type 0
  OfContent these = (o : Owner) (p : Point) → these o p ≡ true → is_content_of s o ≡ true

  -- the region is this, where the window's content shows
  abbrev IsRegion : (Point → Bool) → Type 0
  IsRegion pixels = (p : Point) → layers.on_screen was p ≡ true → is_content_of s (owner was p) ≡ true → holds update p ≡ pixels p

  -- a change that moves no pixel and draws on none leaves the image
  image_stays : (c : plain.Change) → ((p : Point) → layers.on_screen was p ≡ true → before.image p ≡ plain.image_by c (layered_state before) was (owner was p) p)
      → ((p : Point) → layers.on_screen was p ≡ true → after.stale p ≡ plain.stale_by c (layered_state before) (owner was p) p) → plain.IsChanged c (layered_state before) (layered_state after)
  image_stays c image stale = record {
    stale = subst (λ (k : LayeredDesk). (p : Point) → layers.on_screen k p ≡ true → after.stale p ≡ plain.stale_by c (layered_state before) (owner k p) p) (sym (ap layered_desk done.desk)) stale;
    image = subst (λ (k : LayeredDesk). (p : Point) → layers.on_screen k p ≡ true → after.image p ≡ plain.image_by c (layered_state before) k (owner k p) p) (sym (ap layered_desk done.desk))
        (λ p on. ap (λ f. f p) done.image ∙ image p on);
  }

  module _ (p : Point) (on : layers.on_screen was p ≡ true) where
    abbrev its : Owner
    its = owner was p

    had_is : plain.had plain.no_change was its p ≡ true
    had_is = λ i. on i && same_owner-self its i

    frame_is : is_content its ≡ false → before.image p ≡ scratch was p
    frame_is c = is.frames p on c ∙ sym (scratch_is_owners was p is.distinct)

    image_is : (b : Bool) → is_content its ≡ b → before.image p ≡ (if not (is_content its) then scratch was p else (if not (plain.had plain.no_change was its p) then false else before.image p))
    image_is false c = frame_is c ∙ sym (unless (is_content its) (scratch was p) _ c)
    image_is true c = sym (λ i. if not (c i) then scratch was p else (if not (had_is i) then false else before.image p))

    -- outside content nothing is stale
    stays_fresh : is_content its ≡ false → after.stale p ≡ false
    stays_fresh c = done.stale p on ∙ (λ i. if no_content s its c i then holds update p else before.stale p) ∙ is.fresh p on c

    -- none of these pixels is another's
    away : (these : Owner → Point → Bool) → OfContent these → is_content_of s its ≡ false → these its p ≡ false
    away these of other = by_test (these its p) refl
      where
        by_test : (b : Bool) → these its p ≡ b → b ≡ false
        by_test true e = absurd (false≢true (sym other ∙ of its p e))
        by_test false e = refl

    added_is : (these : Owner → Point → Bool) → OfContent these → IsRegion (λ q. before.stale q || these (owner was q) q) → (b : Bool) → is_content its ≡ b → after.stale p ≡ plain.stale_by (adding these) (layered_state before) its p
    added_is these of region false c = stays_fresh c ∙ sym (unless (is_content its) false _ c)
    added_is these of region true c =
        done.stale p on
        ∙ by_window (is_content_of s its) refl
        ∙ sym (λ i. if not (c i) then false else (if these its p then true else (if had_is i then before.stale p else true)))
      where
        either : (old now : Bool) → (old || now) ≡ (if now then true else old)
        either true true = refl
        either true false = refl
        either false true = refl
        either false false = refl

        by_window : (m : Bool) → is_content_of s its ≡ m → (if is_content_of s its then holds update p else before.stale p) ≡ (if these its p then true else before.stale p)
        by_window true e = (λ i. if e i then holds update p else before.stale p) ∙ region p on e ∙ either (before.stale p) (these its p)
        by_window false e = (λ i. if e i then holds update p else before.stale p) ∙ sym (ap (λ b. if b then true else before.stale p) (away these of e))

    taken_is : (these : Owner → Point → Bool) → OfContent these → IsRegion (λ q. before.stale q && not (these (owner was q) q)) → (b : Bool) → is_content its ≡ b → after.stale p ≡ plain.stale_by (taking these) (layered_state before) its p
    taken_is these of region false c = stays_fresh c ∙ sym (unless (is_content its) false _ c)
    taken_is these of region true c =
        done.stale p on
        ∙ by_window (is_content_of s its) refl
        ∙ sym (λ i. if not (c i) then false else (if these its p then false else (if had_is i then before.stale p else true)))
      where
        without : (old now : Bool) → (old && not now) ≡ (if now then false else old)
        without true true = refl
        without true false = refl
        without false true = refl
        without false false = refl

        by_window : (m : Bool) → is_content_of s its ≡ m → (if is_content_of s its then holds update p else before.stale p) ≡ (if these its p then false else before.stale p)
        by_window true e = (λ i. if e i then holds update p else before.stale p) ∙ region p on e ∙ without (before.stale p) (these its p)
        by_window false e = (λ i. if e i then holds update p else before.stale p) ∙ sym (ap (λ b. if b then false else before.stale p) (away these of e))

module _ {V : Type 0} {H : V → Type 0} (loan : TakenBox V H → WindowLoan) (t : WindowManager V H) (slots : List WindowSlot) (whole : IsWholeManager loan t slots) (shows : List ℕ → Part → PixelSet) (s : ℕ) (update : Pixels) (after : FullState) (done : IsRemarked s update (state_showing shows (state_of loan t slots)) after) (these : Owner → Point → Bool) (of : (o : Owner) (p : Point) → these o p ≡ true → is_content_of s o ≡ true) where
  abbrev was_so : FullState
  was_so = state_showing shows (state_of loan t slots)

  abbrev now : LayeredDesk
  now = layered_desk was_so.desk

  -- pixels of the window's content were put into its update region
  pub added_is_changed : ((p : Point) → layers.on_screen now p ≡ true → is_content_of s (owner now p) ≡ true → holds update p ≡ (stale_in t.areas.items p || these (owner now p) p)) → plain.IsChanged (adding these) (layered_state was_so) (layered_state after)
  added_is_changed region =
      let is = ordered loan t slots whole shows in
      image_stays s update was_so after is done (adding these) (λ p on. image_is s update was_so after is done p on (is_content (owner now p)) refl)
      (λ p on. added_is s update was_so after is done p on these of region (is_content (owner now p)) refl)

  -- pixels of the window's content were taken out of its update region
  pub taken_is_changed : ((p : Point) → layers.on_screen now p ≡ true → is_content_of s (owner now p) ≡ true → holds update p ≡ (stale_in t.areas.items p && not (these (owner now p) p))) → plain.IsChanged (taking these) (layered_state was_so) (layered_state after)
  taken_is_changed region =
      let is = ordered loan t slots whole shows in
      image_stays s update was_so after is done (taking these) (λ p on. image_is s update was_so after is done p on (is_content (owner now p)) refl)
      (λ p on. taken_is s update was_so after is done p on these of region (is_content (owner now p)) refl)
