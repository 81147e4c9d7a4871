-- Which frames a call on windows draws.
use Rattle.std.proofs.Common.{◌≡◌, ℕ, zero, suc, ◌==◌, ◌||◌, ◌&&◌, not, Bool, true, false, List, [], ◌∷◌, map, Option, None, Some, if◌then◌else◌, refl, sym, ap, ◌∙◌, subst}
use Rattle.std.specs.List.{insert}
use Rattle.std.specs.Option.{is_some}
use Rattle.std.proofs.Math.Bool.{beq}
use Rattle.std.proofs.lemmas.Bool.{false≢true, eqb-true}
use Rattle.std.proofs.lemmas.List.Elements.{All-head, All-tail}
use Rattle.bit_map.specs.Bits.{Bits}
use Rattle.desk_layers.specs.Desk as layers
use Rattle.desk_layers.specs.Desk.{LayeredDesk}
use Rattle.desk_layers.specs.Owner.{Owner}
use Rattle.desk_layers.proofs.Owning.{same_number, not_first}
use Rattle.desk_call.specs.declared.window.SendBehind.{SendBehind}
use Rattle.vis_update.specs.Records.{WindowRecord, Look, is_floating, layered_window}
use Rattle.vis_update.specs.Touches.{is_this}
use Rattle.window_list.specs.Classes.{back_place, front_place}
use Rattle.window_mgr.specs.declared.arrange.Activation.{Activation}
use Rattle.window_mgr.specs.declared.arrange.Activation.TheVariants.{Stays, Becomes}
use Rattle.window_mgr.specs.Arrange.{activated, behind_this, brought, changed, in_front, put_behind, put_next, sent, with_highlighting, without}
use Rattle.window_mgr.specs.Finding.{record_with}
use Rattle.window_mgr.specs.FrameNotices.{IsFrameNotified}
use Rattle.window_mgr.specs.FullDesk.{FullState}
use Rattle.window_mgr.specs.Sparing.{IsSparing}
use Rattle.window_frame.specs.Economy.{dark, darkened, light, same_light}
use Rattle.window_frame.specs.Followers.{AreInformed, Flag, Knows, is_behind, is_informed, told_flag, with_heard}
use Rattle.window_frame.specs.Followers.Flag.{Highlighting, Zooming}

-- ---- what is not about a window's highlighting

-- another window than this
skips : (n s : ℕ) (w : WindowRecord) (ws : List WindowRecord) → w.serial ≡ s → (n == s) ≡ false → record_with n (w ∷ ws) ≡ record_with n ws
skips n s w ws its away = ap (λ b. if b then Some w else record_with n ws) (ap (λ k. k == n) its ∙ turned n s away)
  where
    turned : (a b : ℕ) → (a == b) ≡ false → (b == a) ≡ false
    turned a b f = by_test (b == a) refl
      where
        by_test : (c : Bool) → (b == a) ≡ c → c ≡ false
        by_test true g = absurd (false≢true (sym f ∙ ap (λ x. a == x) (eqb-true b a g) ∙ same_number a))
        by_test false g = refl

-- the same window of two lists that go on alike
goes_on : (n : ℕ) (w : WindowRecord) (ws vs : List WindowRecord) → record_with n ws ≡ record_with n vs → record_with n (w ∷ ws) ≡ record_with n (w ∷ vs)
goes_on n w ws vs e = ap (λ r. if w.serial == n then Some w else r) e

pub without_other : (n s : ℕ) (ws : List WindowRecord) → (n == s) ≡ false → record_with n (without s ws) ≡ record_with n ws
without_other n s [] away = refl
without_other n s (w ∷ ws) away = by_test (w.serial == s) refl (without_other n s ws away)
  where
    by_test : (b : Bool) → (w.serial == s) ≡ b → record_with n (without s ws) ≡ record_with n ws → record_with n (if b then ws else w ∷ without s ws) ≡ record_with n (w ∷ ws)
    by_test true e rest = sym (skips n s w ws (eqb-true w.serial s e) away)
    by_test false e rest = goes_on n w (without s ws) ws rest

found_serial : (s : ℕ) (ws : List WindowRecord) (w : WindowRecord) → record_with s ws ≡ Some w → w.serial ≡ s
found_serial s [] w e = absurd (cc)
found_serial s (v ∷ vs) w e = by_test (v.serial == s) refl e (λ f. found_serial s vs w f)
  where
    by_test : (b : Bool) → (v.serial == s) ≡ b → (if b then Some v else record_with s vs) ≡ Some w → (record_with s vs ≡ Some w → w.serial ≡ s) → w.serial ≡ s
    by_test true f g rest = let same : v ≡ w = cc in ap (λ (x : WindowRecord). x.serial) (sym same) ∙ eqb-true v.serial s f
    by_test false f g rest = rest g

-- another window than one that was put in
insert_other : (n s k : ℕ) (w : WindowRecord) (vs : List WindowRecord) → w.serial ≡ s → (n == s) ≡ false → record_with n (insert vs k w) ≡ record_with n vs
insert_other n s zero w vs its away = skips n s w vs its away
insert_other n s (suc k) w [] its away = skips n s w [] its away
insert_other n s (suc k) w (v ∷ vs) its away = goes_on n v (insert vs k w) vs (insert_other n s k w vs its away)

pub brought_other : (n s : ℕ) (ws : List WindowRecord) → (n == s) ≡ false → record_with n (brought s ws) ≡ record_with n ws
brought_other n s ws away = by_found (record_with s ws) refl
  where
    by_found : (r : Option WindowRecord) → record_with s ws ≡ r → record_with n (in_front r (without s ws)) ≡ record_with n ws
    by_found None e = without_other n s ws away
    by_found (Some w) e = insert_other n s (front_place is_floating (is_floating w) (without s ws)) w (without s ws) (found_serial s ws w e) away ∙ without_other n s ws away

put_next_other : (n s k : ℕ) (w : WindowRecord) (vs : List WindowRecord) → w.serial ≡ s → (n == s) ≡ false → record_with n (put_next k w vs) ≡ record_with n vs
put_next_other n s k w [] its away = skips n s w [] its away
put_next_other n s k w (v ∷ vs) its away = by_test (v.serial == k) (put_next_other n s k w vs its away)
  where
    by_test : (b : Bool) → record_with n (put_next k w vs) ≡ record_with n vs → record_with n (if b then v ∷ w ∷ vs else v ∷ put_next k w vs) ≡ record_with n (v ∷ vs)
    by_test true rest = goes_on n v (w ∷ vs) vs (skips n s w vs its away)
    by_test false rest = goes_on n v (put_next k w vs) vs rest

put_behind_other : (n s : ℕ) (k : Option ℕ) (w : WindowRecord) (vs : List WindowRecord) → w.serial ≡ s → (n == s) ≡ false → record_with n (put_behind k w vs) ≡ record_with n vs
put_behind_other n s None w vs its away = insert_other n s (back_place is_floating (is_floating w) vs) w vs its away
put_behind_other n s (Some k) w vs its away = put_next_other n s k w vs its away

pub sent_other : (n : ℕ) (b : SendBehind) (ws : List WindowRecord) → (n == b.window) ≡ false → record_with n (sent b ws) ≡ record_with n ws
sent_other n b ws away = by_found (record_with b.window ws) refl
  where
    by_found : (r : Option WindowRecord) → record_with b.window ws ≡ r → record_with n (behind_this b.behind r (without b.window ws)) ≡ record_with n ws
    by_found None e = without_other n b.window ws away
    by_found (Some w) e = put_behind_other n b.window b.behind w (without b.window ws) (found_serial b.window ws w e) away ∙ without_other n b.window ws away

pub changed_other : (n s : ℕ) (f : WindowRecord → WindowRecord) (ws : List WindowRecord) → ((w : WindowRecord) → (f w).serial ≡ w.serial) → (n == s) ≡ false → record_with n (changed s f ws) ≡ record_with n ws
changed_other n s f [] same away = refl
changed_other n s f (w ∷ ws) same away = by_test (w.serial == s) refl (changed_other n s f ws same away)
  where
    by_test : (b : Bool) → (w.serial == s) ≡ b → record_with n (changed s f ws) ≡ record_with n ws → record_with n (if b then f w ∷ ws else w ∷ changed s f ws) ≡ record_with n (w ∷ ws)
    by_test true e rest = skips n s (f w) ws (same w ∙ eqb-true w.serial s e) away ∙ sym (skips n s w ws (eqb-true w.serial s e) away)
    by_test false e rest = goes_on n w (changed s f ws) ws rest

-- a change of highlighting alone
dark_same : (on : Bool) (s : Option ℕ) (w : WindowRecord) → dark (with_highlighting on s w) ≡ dark w
dark_same on s w = by_test (is_this s w.serial)
  where
    by_test : (b : Bool) → dark (if b then record w { highlighted = on } else w) ≡ dark w
    by_test true = refl
    by_test false = refl

serial_same : (on : Bool) (s : Option ℕ) (w : WindowRecord) → (with_highlighting on s w).serial ≡ w.serial
serial_same on s w = by_test (is_this s w.serial)
  where
    by_test : (b : Bool) → (if b then record w { highlighted = on } else w).serial ≡ w.serial
    by_test true = refl
    by_test false = refl

mapped_dark : (n : ℕ) (f : WindowRecord → WindowRecord) (ws : List WindowRecord) → ((w : WindowRecord) → (f w).serial ≡ w.serial) → ((w : WindowRecord) → dark (f w) ≡ dark w) → darkened (record_with n (map f ws)) ≡ darkened (record_with n ws)
mapped_dark n f [] same alike = refl
mapped_dark n f (w ∷ ws) same alike = ap (λ k. darkened (if k == n then Some (f w) else record_with n (map f ws))) (same w) ∙ by_test (w.serial == n) (mapped_dark n f ws same alike)
  where
    by_test : (b : Bool) → darkened (record_with n (map f ws)) ≡ darkened (record_with n ws) → darkened (if b then Some (f w) else record_with n (map f ws)) ≡ darkened (if b then Some w else record_with n ws)
    by_test true rest = ap Some (alike w)
    by_test false rest = rest

pub activated_dark : (n : ℕ) (a : Activation) (former : Option ℕ) (ws : List WindowRecord) → darkened (record_with n (activated a former ws)) ≡ darkened (record_with n ws)
activated_dark n Stays former ws = refl
activated_dark n (Becomes s) former ws =
    mapped_dark n (λ w. with_highlighting true s (with_highlighting false former w)) ws
    (λ w. serial_same true s (with_highlighting false former w) ∙ serial_same false former w)
    (λ w. dark_same true s (with_highlighting false former w) ∙ dark_same false former w)

-- ---- lights, and who is behind

-- what is told leaves the lights
heard_light : (n s : ℕ) (f : WindowRecord → WindowRecord) (ws : List WindowRecord) → ((w : WindowRecord) → (f w).serial ≡ w.serial) → ((w : WindowRecord) → (f w).highlighted ≡ w.highlighted) → light (record_with n (changed s f ws)) ≡ light (record_with n ws)
heard_light n s f [] same alike = refl
heard_light n s f (w ∷ ws) same alike = by_test (w.serial == s) (heard_light n s f ws same alike)
  where
    by_number : (b : Bool) → light (if b then Some (f w) else record_with n ws) ≡ light (if b then Some w else record_with n ws)
    by_number true = ap Some (alike w)
    by_number false = refl

    rest_light : (b : Bool) → light (record_with n (changed s f ws)) ≡ light (record_with n ws) → light (if b then Some w else record_with n (changed s f ws)) ≡ light (if b then Some w else record_with n ws)
    rest_light true e = refl
    rest_light false e = e

    by_test : (b : Bool) → light (record_with n (changed s f ws)) ≡ light (record_with n ws) → light (record_with n (if b then f w ∷ ws else w ∷ changed s f ws)) ≡ light (record_with n (w ∷ ws))
    by_test true rest = ap (λ k. light (if k == n then Some (f w) else record_with n ws)) (same w) ∙ by_number (w.serial == n)
    by_test false rest = rest_light (w.serial == n) rest

-- a definition that is told how its window stands leaves the lights
pub told_light : (n : ℕ) (flag : Flag) (s : ℕ) (before after : FullState) → IsFrameNotified s (told_flag flag) (with_heard flag) before after → light (record_with n after.desk.windows) ≡ light (record_with n before.desk.windows)
told_light n flag s before after told =
    ap (λ d. light (record_with n d.windows)) told.desk
    ∙ heard_light n s (λ w. record (with_heard flag w) { definition = told.definition }) before.desk.windows (λ w. serial_of flag w) (λ w. light_of flag w)
  where
    serial_of : (g : Flag) (w : WindowRecord) → (with_heard g w).serial ≡ w.serial
    serial_of Highlighting w = refl
    serial_of Zooming w = refl

    light_of : (g : Flag) (w : WindowRecord) → (with_heard g w).highlighted ≡ w.highlighted
    light_of Highlighting w = refl
    light_of Zooming w = refl

abbrev behind_of : Option WindowRecord → Bool
behind_of None = false
behind_of (Some w) = not (is_informed w)

-- windows of different serials
none_behind : (look : Look) (n : ℕ) (ws : List WindowRecord) → layers.window_of n (map (layered_window look) ws) ≡ None → is_behind ws n ≡ false
none_behind look n [] none = refl
none_behind look n (w ∷ ws) none =
    let first = not_first (w.serial == n) (layered_window look w) (layers.window_of n (map (layered_window look) ws)) none in
    ap (λ b. (b && not (is_informed w)) || is_behind ws n) first.0 ∙ none_behind look n ws first.1

or_none : (a : Bool) → (a || false) ≡ a
or_none true = refl
or_none false = refl

found_behind : (look : Look) (n : ℕ) (ws : List WindowRecord) → layers.AreWindows (map (layered_window look) ws) → is_behind ws n ≡ behind_of (record_with n ws)
found_behind look n [] distinct = refl
found_behind look n (w ∷ ws) distinct = by_test (w.serial == n) refl (found_behind look n ws distinct.1.1)
  where
    by_test : (b : Bool) → (w.serial == n) ≡ b → is_behind ws n ≡ behind_of (record_with n ws) → ((b && not (is_informed w)) || is_behind ws n) ≡ behind_of (if b then Some w else record_with n ws)
    by_test true e rest = ap (λ b. not (is_informed w) || b) (none_behind look n ws (subst (λ k. layers.window_of k (map (layered_window look) ws) ≡ None) (eqb-true w.serial n e) distinct.0)) ∙ or_none (not (is_informed w))
    by_test false e rest = rest

is_beq : (a b : Bool) → a ≡ b → beq a b ≡ true
is_beq true true e = refl
is_beq true false e = absurd (cc e)
is_beq false true e = absurd (cc e)
is_beq false false e = refl

beq_is : (a b : Bool) → beq a b ≡ true → a ≡ b
beq_is true true e = refl
beq_is true false e = absurd (cc e)
beq_is false true e = absurd (cc e)
beq_is false false e = refl

informed_found : (n : ℕ) (ws : List WindowRecord) (u : WindowRecord) → AreInformed ws → record_with n ws ≡ Some u → is_informed u ≡ true
informed_found n [] u all e = absurd (cc)
informed_found n (w ∷ ws) u all e = by_test (w.serial == n) e (λ f. informed_found n ws u (All-tail (λ w. Knows Highlighting w × Knows Zooming w) w ws all) f)
  where
    by_test : (b : Bool) → (if b then Some w else record_with n ws) ≡ Some u → (record_with n ws ≡ Some u → is_informed u ≡ true) → is_informed u ≡ true
    by_test true e rest =
        let its = All-head (λ w. Knows Highlighting w × Knows Zooming w) w ws all in
        let same : w ≡ u = cc in
        subst (λ v. is_informed v ≡ true) same (λ i. is_beq w.heard.highlighted w.highlighted its.0 i && is_beq w.heard.zoomed (is_some w.user_state) its.1 i)
    by_test false e rest = rest e

-- a window that is as it was but for its highlighting, which is as it was too, is not behind where none was
pub not_behind_then : (look : Look) (n : ℕ) (before middle : List WindowRecord) → layers.AreWindows (map (layered_window look) middle) → AreInformed before
    → darkened (record_with n middle) ≡ darkened (record_with n before) → same_light (light (record_with n before)) (light (record_with n middle)) ≡ true → is_behind middle n ≡ false
not_behind_then look n before middle distinct all same lights = found_behind look n middle distinct ∙ by_found (record_with n before) (record_with n middle) refl same lights
  where
    by_found : (u v : Option WindowRecord) → record_with n before ≡ u → darkened v ≡ darkened u → same_light (light u) (light v) ≡ true → behind_of v ≡ false
    by_found None None e f g = refl
    by_found (Some u) None e f g = refl
    by_found None (Some v) e f g = absurd (cc f)
    by_found (Some u) (Some v) e f g =
        let alike : dark v ≡ dark u = cc in
        let lit : u.highlighted ≡ v.highlighted = beq_is u.highlighted v.highlighted g in
        ap not ((λ i. beq ((alike i).heard.highlighted) (sym lit i) && beq ((alike i).heard.zoomed) (is_some (alike i).user_state)) ∙ informed_found n before u all e)

-- ---- fewer frames

or_parts : (a b : Bool) → (a || b) ≡ false → (a ≡ false) × (b ≡ false)
or_parts true b e = absurd (false≢true (sym e))
or_parts false b e = (refl, e)

pub sparing_in : (moves : Owner → Bool) (d e : ℕ → Bool) (before after : LayeredDesk) (a b : Bits) → ((n : ℕ) → e n ≡ false → d n ≡ false) → IsSparing moves d before after a b → IsSparing moves e before after a b
sparing_in moves d e before after a b wider so = record { once = so.once; spared = so.spared; frames = λ s p on f g h. so.frames s p on f g (wider s h); rises = so.rises; changed = so.changed }
