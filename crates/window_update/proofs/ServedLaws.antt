-- A window whose update was served has nothing to be redrawn, and a desk on which no window has is right.
use Rattle.std.proofs.Common.{◌≡◌, ℕ, ◌==◌, Bool, true, false, not, ◌&&◌, ◌||◌, if◌then◌else◌, List, [], ◌∷◌, map, Option, None, Some, Ok, refl, sym, ap, ◌∙◌, subst}
use Rattle.std.proofs.lemmas.Bool.{false≢true, and_parts, eqb-true}
use Rattle.tb_geom.specs.declared.point.Point.{Point}
use Rattle.tb_geom.specs.Points.{PixelSet, plus, minus}
use Rattle.desk_layers.specs.Desk as layers
use Rattle.desk_layers.specs.Desk.{LayeredDesk, on_screen}
use Rattle.desk_layers.specs.Owner.{Owner, owner, owner_among, is_content}
use Rattle.desk_layers.specs.Owner.Owner.{Desktop, Bar, Frame, Content}
use Rattle.desk_layers.specs.Change.{stale_by, image_by}
use Rattle.desk_layers.specs.Scratch.{scratch}
use Rattle.desk_layers.proofs.Owning.{is_other, owner_is_other, same_number, same_owner-self}
use Rattle.desk_call.specs.declared.update.UpdateCall.TheVariants.{Serve}
use Rattle.desk_call.specs.declared.window.WindowReply.TheVariants.{Done}
use Rattle.vis_update.specs.Areas.{is_content_of}
use Rattle.vis_update.specs.Records.{WindowRecord, Look, layered_window}
use Rattle.window_mgr.specs.Effects.{IsUnchanged}
use Rattle.window_mgr.specs.Finding.{record_with}
use Rattle.window_mgr.specs.FullDesk.{FullDesk, FullState, IsRightState, layered_desk, layered_state, look_of}
use Rattle.window_mgr.specs.Telling.{seen_from, update_of}
use Rattle.window_mgr.specs.Updating.{IsRefreshed, refresh_change}
use Rattle.window_mgr.proofs.Remarked.{unless}
use Rattle.window_mgr.proofs.TellLemmas.{again_there}
use Rattle.window_mgr.specs.DeskStates.{DeskState}
use Rattle.window_update.specs.Served.{AreAllServed, IsAllRight}
use Rattle.window_update.specs.UpdateSteps.{IsUpdateStep}
use Rattle.window_update.specs.Waiting.{IsEmpty}

-- ---- owners that are a window's content

is_its : (s : ℕ) (o : Owner) → is_content_of s o ≡ true → is_content o ≡ true
is_its s Desktop e = absurd (false≢true e)
is_its s Bar e = absurd (false≢true e)
is_its s (Frame t) e = absurd (false≢true e)
is_its s (Content t part) e = refl

-- what is one window's content is not another's
not_its : (s t : ℕ) (o : Owner) → (t ≡ s → ⊥) → is_content_of t o ≡ true → is_content_of s o ≡ false
not_its s t Desktop away e = refl
not_its s t Bar away e = refl
not_its s t (Frame n) away e = refl
not_its s t (Content n part) away e = by_test (n == s) refl
  where
    by_test : (b : Bool) → (n == s) ≡ b → b ≡ false
    by_test true same = absurd (away (sym (eqb-true n t e) ∙ eqb-true n s same))
    by_test false same = refl

-- what is content is some window's
pub whose : (o : Owner) → is_content o ≡ true → (s : ℕ) × (is_content_of s o ≡ true)
whose Desktop e = absurd (false≢true e)
whose Bar e = absurd (false≢true e)
whose (Frame t) e = absurd (false≢true e)
whose (Content s part) e = (s, same_number s)

not_other : (s : ℕ) (o : Owner) → is_content_of s o ≡ true → is_other s o ≡ true → ⊥
not_other s Desktop e other = false≢true e
not_other s Bar e other = false≢true e
not_other s (Frame t) e other = false≢true e
not_other s (Content t part) e other = false≢true (sym (λ i. not (same_number s i)) ∙ ap (λ n. not (s == n)) (sym (eqb-true t s e)) ∙ other)

-- ---- a window's update, served

-- what a window sees of two sets is alike where they are
seen_alike : (o : Option WindowRecord) (a b : PixelSet) → ((q : Point) → a q ≡ b q) → (p : Point) → seen_from o a p ≡ seen_from o b p
seen_alike None a b alike p = refl
seen_alike (Some w) a b alike p = alike (plus p w.place)

none_seen : (o : Option WindowRecord) (p : Point) → seen_from o (λ q. false) p ≡ false
none_seen None p = refl
none_seen (Some w) p = refl

-- sets are alike in part where they are so in this part
alike_within : (within a b : Bool) → (within ≡ true → a ≡ b) → (within && a) ≡ (within && b)
alike_within true a b alike = alike refl
alike_within false a b alike = refl

never_within : (within : Bool) → (within && false) ≡ false
never_within true = refl
never_within false = refl

module _ (s : ℕ) (before after : FullState) (done : IsRefreshed (is_content_of s) before after) where
  abbrev was : LayeredDesk
  was = layered_desk before.desk

  -- what shows of a window's content
  abbrev shown : ℕ → PixelSet
  shown t q = on_screen was q && is_content_of t (owner was q)

  stale_after : (q : Point) → on_screen was q ≡ true → after.stale q ≡ stale_by (refresh_change (is_content_of s) before) (layered_state before) (owner was q) q
  stale_after = subst (λ (d : FullDesk). (q : Point) → on_screen (layered_desk d) q ≡ true → after.stale q ≡ stale_by (refresh_change (is_content_of s) before) (layered_state before) (owner (layered_desk d) q) q) done.desk done.pixels.stale

  -- of the content that shows, what was drawn is not stale any more, and the rest is stale where it was
  stale_is : (t : ℕ) (b : Bool) (q : Point) → on_screen was q ≡ true → is_content_of t (owner was q) ≡ true → is_content_of s (owner was q) ≡ b → after.stale q ≡ (if b && before.stale q then false else before.stale q)
  stale_is t b q on its served =
      let content : is_content (owner was q) ≡ true = is_its t (owner was q) its in
      stale_after q on
      ∙ (λ i. if not (content i) then false else (if served i && before.stale q then false else (if on i && same_owner-self (owner was q) i then before.stale q else true)))

  update_is : (t : ℕ) (p : Point) → update_of t after p ≡ seen_from (record_with t before.desk.windows) (λ q. shown t q && after.stale q) p
  update_is t p = ap (λ (d : FullDesk). seen_from (record_with t d.windows) (λ q. (on_screen (layered_desk d) q && is_content_of t (owner (layered_desk d) q)) && after.stale q) p) done.desk

  -- nothing is left of its own update region
  nothing_left : IsEmpty (update_of s after)
  nothing_left p =
      update_is s p
      ∙ seen_alike (record_with s before.desk.windows) (λ q. shown s q && after.stale q) (λ q. false) (λ q. alike_within (shown s q) (after.stale q) false (fresh q) ∙ never_within (shown s q)) p
      ∙ none_seen (record_with s before.desk.windows) p
    where
      either : (b : Bool) → (if b then false else b) ≡ false
      either true = refl
      either false = refl

      fresh : (q : Point) → shown s q ≡ true → after.stale q ≡ false
      fresh q e =
          let parts = and_parts (on_screen was q) (is_content_of s (owner was q)) e in
          stale_is s true q parts.0 parts.1 parts.1 ∙ either (before.stale q)

  -- and those of the others are as they were
  others_stay : (t : ℕ) → (t ≡ s → ⊥) → (p : Point) → update_of t after p ≡ update_of t before p
  others_stay t away p =
      update_is t p
      ∙ seen_alike (record_with t before.desk.windows) (λ q. shown t q && after.stale q) (λ q. shown t q && before.stale q) (λ q. alike_within (shown t q) (after.stale q) (before.stale q) (same q)) p
    where
      same : (q : Point) → shown t q ≡ true → after.stale q ≡ before.stale q
      same q e =
          let parts = and_parts (on_screen was q) (is_content_of t (owner was q)) e in
          stale_is t false q parts.0 parts.1 (not_its s t (owner was q) away parts.1)

pub served_has_nothing : (s : ℕ) (before after : DeskState) → IsUpdateStep (Serve s) (Ok Done) before after → IsEmpty (update_of s after.windows)
served_has_nothing s before after (free, (done, (idle, drawn))) = nothing_left s before.windows after.windows drawn

pub served_leaves_others : (s t : ℕ) (before after : DeskState) → IsUpdateStep (Serve s) (Ok Done) before after → (t ≡ s → ⊥) → (p : Point) → update_of t after.windows p ≡ update_of t before.windows p
served_leaves_others s t before after (free, (done, (idle, drawn))) = others_stay s before.windows after.windows drawn t

-- ---- what was drawn of layers

-- what was drawn stays so
pub refreshed_stays : (these : Owner → Bool) (a b c : FullState) → IsRefreshed these a b → IsUnchanged b c → IsRefreshed these a c
refreshed_stays these a b c done same = record {
  desk = same.desk ∙ done.desk;
  pixels = record {
    stale = subst (λ (d : FullDesk). (p : Point) → on_screen (layered_desk d) p ≡ true → c.stale p ≡ stale_by (refresh_change these a) (layered_state a) (owner (layered_desk d) p) p) (sym same.desk)
        (λ p on. same.stale p on ∙ done.pixels.stale p on);
    image = subst (λ (d : FullDesk). (p : Point) → on_screen (layered_desk d) p ≡ true → c.image p ≡ image_by (refresh_change these a) (layered_state a) (layered_desk d) (owner (layered_desk d) p) p) (sym same.desk)
        (λ p on. same.image p on ∙ done.pixels.image p on);
  };
}

-- a state, as far as this pixel goes
abbrev at : FullState → Point → FullState
at x p = record { desk = x.desk; stale = λ q. x.stale p; image = λ q. x.image p }

-- and is what it was when the update began
pub refreshed_since : (these : Owner → Bool) (a b c : FullState) → IsUnchanged a b → IsRefreshed these b c → IsRefreshed these a c
refreshed_since these a b c same done = record {
  desk = done.desk ∙ same.desk;
  pixels = record {
    stale = λ p on. done.pixels.stale p on ∙ ap (λ (x : FullState). stale_by (refresh_change these x) (layered_state x) (owner (layered_desk c.desk) p) p) (as_was p on);
    image = λ p on. done.pixels.image p on ∙ ap (λ (x : FullState). image_by (refresh_change these x) (layered_state x) (layered_desk c.desk) (owner (layered_desk c.desk) p) p) (as_was p on);
  };
}
  where
    on_before : (p : Point) → on_screen (layered_desk c.desk) p ≡ true → on_screen (layered_desk a.desk) p ≡ true
    on_before p on = sym (ap (λ (d : FullDesk). on_screen (layered_desk d) p) (done.desk ∙ same.desk)) ∙ on

    as_was : (p : Point) → on_screen (layered_desk c.desk) p ≡ true → at b p ≡ at a p
    as_was p on = λ i. record { desk = same.desk i; stale = λ q. same.stale p (on_before p on) i; image = λ q. same.image p (on_before p on) i }

-- layers that each pixel of the screen is of, or is not, alike
pub refreshed_alike : (these others : Owner → Bool) (a b : FullState) → ((p : Point) → on_screen (layered_desk a.desk) p ≡ true → these (owner (layered_desk a.desk) p) ≡ others (owner (layered_desk a.desk) p)) → IsRefreshed these a b → IsRefreshed others a b
refreshed_alike these others a b alike done = record {
  desk = done.desk;
  pixels = record {
    stale = λ p on. done.pixels.stale p on ∙ ap (λ (drawn : Bool). stale_by (refresh_change (λ o. drawn) a) (layered_state a) (owner (layered_desk b.desk) p) p) (there p on);
    image = λ p on. done.pixels.image p on ∙ ap (λ (drawn : Bool). image_by (refresh_change (λ o. drawn) a) (layered_state a) (layered_desk b.desk) (owner (layered_desk b.desk) p) p) (there p on);
  };
}
  where
    there : (p : Point) → on_screen (layered_desk b.desk) p ≡ true → these (owner (layered_desk b.desk) p) ≡ others (owner (layered_desk b.desk) p)
    there = subst (λ (d : FullDesk). (p : Point) → on_screen (layered_desk d) p ≡ true → these (owner (layered_desk d) p) ≡ others (owner (layered_desk d) p)) (sym done.desk) alike

-- what is stale of content, and what it shows, once these layers are drawn
module _ (these : Owner → Bool) (x : FullState) (p : Point) (on : on_screen (layered_desk x.desk) p ≡ true) (content : is_content (owner (layered_desk x.desk) p) ≡ true) where
  abbrev its : Owner
  its = owner (layered_desk x.desk) p

  stale_drawn : stale_by (refresh_change these x) (layered_state x) its p ≡ (if these its && x.stale p then false else x.stale p)
  stale_drawn = λ i. if not (content i) then false else (if these its && x.stale p then false else (if on i && same_owner-self its i then x.stale p else true))

  image_drawn : image_by (refresh_change these x) (layered_state x) (layered_desk x.desk) its p ≡ (if these its && x.stale p then scratch (layered_desk x.desk) p else x.image p)
  image_drawn = λ i. if not (content i) then scratch (layered_desk x.desk) p else (if these its && x.stale p then scratch (layered_desk x.desk) p else (if not (on i && same_owner-self its i) then false else x.image p))

-- layers drawn and then others, on one desk, are both drawn
module _ (these others : Owner → Bool) (desk : FullDesk) (stale mid rest image half whole : PixelSet)
    (first : IsRefreshed these (record { desk = desk; stale = stale; image = image }) (record { desk = desk; stale = mid; image = half }))
    (second : IsRefreshed others (record { desk = desk; stale = mid; image = half }) (record { desk = desk; stale = rest; image = whole })) where
  abbrev before : FullState
  before = record { desk = desk; stale = stale; image = image }

  abbrev between : FullState
  between = record { desk = desk; stale = mid; image = half }

  abbrev both : Owner → Bool
  both o = these o || others o

  abbrev now : LayeredDesk
  now = layered_desk desk

  twice : (f g old : Bool) → (if g && (if f && old then false else old) then false else (if f && old then false else old)) ≡ (if (f || g) && old then false else old)
  twice true true true = refl
  twice true false true = refl
  twice false true true = refl
  twice false false true = refl
  twice true true false = refl
  twice true false false = refl
  twice false true false = refl
  twice false false false = refl

  twice_shown : (f g old : Bool) (drawn left : Bool) → (if g && (if f && old then false else old) then drawn else (if f && old then drawn else left)) ≡ (if (f || g) && old then drawn else left)
  twice_shown true true true drawn left = refl
  twice_shown true false true drawn left = refl
  twice_shown false true true drawn left = refl
  twice_shown false false true drawn left = refl
  twice_shown true true false drawn left = refl
  twice_shown true false false drawn left = refl
  twice_shown false true false drawn left = refl
  twice_shown false false false drawn left = refl

  stale_both : (p : Point) → on_screen now p ≡ true → (b : Bool) → is_content (owner now p) ≡ b → rest p ≡ stale_by (refresh_change both before) (layered_state before) (owner now p) p
  stale_both p on false c = second.pixels.stale p on ∙ unless (is_content (owner now p)) false _ c ∙ sym (unless (is_content (owner now p)) false _ c)
  stale_both p on true c =
      second.pixels.stale p on
      ∙ stale_drawn others between p on c
      ∙ ap (λ b. if others (owner now p) && b then false else b) (first.pixels.stale p on ∙ stale_drawn these before p on c)
      ∙ twice (these (owner now p)) (others (owner now p)) (stale p)
      ∙ sym (stale_drawn both before p on c)

  image_both : (p : Point) → on_screen now p ≡ true → (b : Bool) → is_content (owner now p) ≡ b → whole p ≡ image_by (refresh_change both before) (layered_state before) now (owner now p) p
  image_both p on false c = second.pixels.image p on ∙ unless (is_content (owner now p)) (scratch now p) _ c ∙ sym (unless (is_content (owner now p)) (scratch now p) _ c)
  image_both p on true c =
      second.pixels.image p on
      ∙ image_drawn others between p on c
      ∙ (λ i. if others (owner now p) && (first.pixels.stale p on ∙ stale_drawn these before p on c) i then scratch now p else (first.pixels.image p on ∙ image_drawn these before p on c) i)
      ∙ twice_shown (these (owner now p)) (others (owner now p)) (stale p) (scratch now p) (image p)
      ∙ sym (image_drawn both before p on c)

  both_drawn : IsRefreshed both before (record { desk = desk; stale = rest; image = whole })
  both_drawn = record { desk = refl; pixels = record { stale = λ p on. stale_both p on (is_content (owner now p)) refl; image = λ p on. image_both p on (is_content (owner now p)) refl } }

-- so on any desks
pub drawn_then : (these others : Owner → Bool) (a b c : FullState) → IsRefreshed these a b → IsRefreshed others b c → IsRefreshed (λ o. these o || others o) a c
drawn_then these others a b c first second =
    subst (λ (d : FullDesk). IsRefreshed (λ o. these o || others o) a (record c { desk = d })) (sym (second.desk ∙ first.desk))
    (both_drawn these others a.desk a.stale b.stale c.stale a.image b.image c.image
    (subst (λ (d : FullDesk). IsRefreshed these a (record b { desk = d })) first.desk first)
    (subst (λ (d : FullDesk). IsRefreshed others (record b { desk = d }) (record c { desk = d })) first.desk
    (subst (λ (d : FullDesk). IsRefreshed others b (record c { desk = d })) second.desk second)))

-- ---- a desk with nothing to be redrawn

-- the window whose content has a pixel is there
missing : (look : Look) (s : ℕ) (ws : List WindowRecord) → record_with s ws ≡ None → layers.window_of s (map (layered_window look) ws) ≡ None
missing look s [] e = refl
missing look s (w ∷ ws) e = by_test (w.serial == s) e (λ k. missing look s ws k)
  where
    by_test : (b : Bool) → (if b then Some w else record_with s ws) ≡ None → (record_with s ws ≡ None → layers.window_of s (map (layered_window look) ws) ≡ None) → (if b then Some (layered_window look w) else layers.window_of s (map (layered_window look) ws)) ≡ None
    by_test true h rest = absurd (cc)
    by_test false h rest = rest h

pub is_there : (desk : FullDesk) (s : ℕ) (p : Point) → is_content_of s (owner (layered_desk desk) p) ≡ true → (w : WindowRecord) × (record_with s desk.windows ≡ Some w)
is_there desk s p its = by_bar (layers.in_bar (layered_desk desk) p) its
  where
    by_found : (o : Option WindowRecord) → record_with s desk.windows ≡ o → is_content_of s (owner_among (layered_desk desk).windows p) ≡ true → (w : WindowRecord) × (record_with s desk.windows ≡ Some w)
    by_found None none e = absurd (not_other s (owner_among (layered_desk desk).windows p) e (owner_is_other (layered_desk desk).windows p s (missing (look_of desk) s desk.windows none)))
    by_found (Some w) found e = (w, found)

    by_bar : (b : Bool) → is_content_of s (if b then Bar else owner_among (layered_desk desk).windows p) ≡ true → (w : WindowRecord) × (record_with s desk.windows ≡ Some w)
    by_bar true e = absurd (false≢true e)
    by_bar false e = by_found (record_with s desk.windows) refl e

module _ (state : FullState) (right : IsRightState state) (none : AreAllServed state) (p : Point) (on : on_screen (layered_desk state.desk) p ≡ true) where
  abbrev desk : LayeredDesk
  desk = layered_desk state.desk

  not_stale : state.stale p ≡ true → ⊥
  not_stale old =
      let its = whose (owner desk p) (right.plain.content p on old) in
      let w = is_there state.desk its.0 p its.1 in
      let set = λ (q : Point). (on_screen desk q && is_content_of its.0 (owner desk q)) && state.stale q in
      let told : update_of its.0 state (minus p w.0.place) ≡ true =
      ap (λ (o : Option WindowRecord). seen_from o set (minus p w.0.place)) w.1 ∙ ap set (again_there p w.0.place) ∙ (λ i. (on i && its.1 i) && old i) in
      false≢true (sym (none its.0 (minus p w.0.place)) ∙ told)

  right_there : (b : Bool) → state.stale p ≡ b → state.image p ≡ scratch desk p
  right_there true old = absurd (not_stale old)
  right_there false fresh = right.plain.right p on fresh

pub all_served_is_right : (state : FullState) → IsRightState state → AreAllServed state → IsAllRight state
all_served_is_right state right none p on = right_there state right none p on (state.stale p) refl
