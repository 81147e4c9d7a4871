-- Frames that are drawn anew, window by window.
use Rattle.std.proofs.Common.{◌≡◌, ◌≢◌, ℕ, zero, suc, ◌<◌, ◌⊎◌, inl, inr, ◌==◌, Bool, true, false, not, ◌&&◌, ◌||◌, List, [], ◌∷◌, length, get_or, refl, sym, ap, ◌∙◌, arith}
use Rattle.std.specs.Option.{is_some}
use Rattle.std.proofs.Math.Bool.{beq}
use Rattle.std.proofs.lemmas.Bool.{false≢true, eqb-true, and_parts}
use Rattle.tb_geom.specs.declared.point.Point.{Point}
use Rattle.bit_map.specs.Bits.{Bits, bit, count}
use Rattle.desk_layers.specs.Desk.{LayeredDesk, on_screen}
use Rattle.desk_layers.specs.Owner.{Owner, owner, same_owner}
use Rattle.desk_layers.specs.Owner.Owner.{Desktop, Bar, Frame, Content}
use Rattle.desk_layers.proofs.Owning.{same_number}
use Rattle.vis_update.specs.Records.{WindowRecord}
use Rattle.window_mgr.specs.Sparing.{IsRepainted, IsSparing, is_frame}
use Rattle.window_frame.specs.Followers.{Flag, Knows, draws_told, is_behind, is_informed, knows}
use Rattle.window_frame.specs.Followers.Flag.{Highlighting, Zooming}

-- nothing was drawn
pub repainted_none : (draws : ℕ → Bool) (desk : LayeredDesk) (a : Bits) → IsRepainted draws desk desk a a
repainted_none draws desk a = record { owners = λ p. refl; screens = λ p. refl; others = λ p on none. refl; rises = λ p on. omega arith; changed = λ p on ne. absurd (ne refl) }

-- a bit that changed in the end changed at first or later
changed_when : (s t u : Bool) → u ≢ s → (t ≢ s) ⊎ (u ≢ t)
changed_when true true u ne = inr ne
changed_when true false u ne = inl (λ e. absurd (cc e))
changed_when false false u ne = inr ne
changed_when false true u ne = inl (λ e. absurd (cc e))

-- some frames, and then others
pub repainted_then : (d e f : ℕ → Bool) (first middle last : LayeredDesk) (a b c : Bits) → ((n : ℕ) → f n ≡ false → (d n ≡ false) × (e n ≡ false))
    → IsRepainted d first middle a b → IsRepainted e middle last b c → IsRepainted f first last a c
repainted_then d e f first middle last a b c wider one two = record {
  owners = λ p. two.owners p ∙ one.owners p;
  screens = λ p. two.screens p ∙ one.screens p;
  others = λ p on none.
      two.others p (one.screens p ∙ on) (λ s its. (wider s (none s (ap (λ o. same_owner o (Frame s)) (sym (one.owners p)) ∙ its))).1)
      ∙ one.others p on (λ s its. (wider s (none s its)).0);
  rises = λ p on. omega (arith, one.rises p on, two.rises p (one.screens p ∙ on));
  changed = λ p on ne. grows p on (changed_when (bit a p) (bit b p) (bit c p) ne);
}
  where
    grows : (p : Point) → on_screen first p ≡ true → (bit b p ≢ bit a p) ⊎ (bit c p ≢ bit b p) → count a p < count c p
    grows p on (inl ne) = omega (arith, one.changed p on ne, two.rises p (one.screens p ∙ on))
    grows p on (inr ne) = omega (arith, one.rises p on, two.changed p (one.screens p ∙ on) ne)

-- fewer frames
pub repainted_in : (d e : ℕ → Bool) (before after : LayeredDesk) (a b : Bits) → ((n : ℕ) → e n ≡ false → d n ≡ false) → IsRepainted d before after a b → IsRepainted e before after a b
repainted_in d e before after a b wider so = record { owners = so.owners; screens = so.screens; others = λ p on none. so.others p on (λ s its. wider s (none s its)); rises = so.rises; changed = so.changed }

-- ---- which windows are behind

or_parts : (a b : Bool) → (a || b) ≡ false → (a ≡ false) × (b ≡ false)
or_parts true b e = absurd (cc e)
or_parts false b e = (refl, e)

-- a window that is not behind is informed
pub not_behind : (ws : List WindowRecord) (i : ℕ) (d : WindowRecord) → i < length ws → is_behind ws (get_or ws i d).serial ≡ false → is_informed (get_or ws i d) ≡ true
not_behind [] i d low e = absurd (omega (arith, low))
not_behind (w ∷ ws) zero d low e = here (w.serial == w.serial) (is_informed w) (same_number w.serial) (or_parts _ _ e).0
  where
    here : (a b : Bool) → a ≡ true → (a && not b) ≡ false → b ≡ true
    here true true e f = refl
    here true false e f = absurd (false≢true (sym f))
    here false b e f = absurd (false≢true e)
not_behind (w ∷ ws) (suc i) d low e = not_behind ws i d (omega (arith, low)) (or_parts _ _ e).1

beq_is : (a b : Bool) → beq a b ≡ true → a ≡ b
beq_is true true e = refl
beq_is true false e = absurd (cc e)
beq_is false true e = absurd (cc e)
beq_is false false e = refl

is_beq : (a b : Bool) → a ≡ b → beq a b ≡ true
is_beq true true e = refl
is_beq true false e = absurd (cc e)
is_beq false true e = absurd (cc e)
is_beq false false e = refl

-- one that is informed knows each
pub informed_knows : (flag : Flag) (w : WindowRecord) → is_informed w ≡ true → Knows flag w
informed_knows Highlighting w e = beq_is w.heard.highlighted w.highlighted (and_parts _ _ e).0
informed_knows Zooming w e = beq_is w.heard.zoomed (is_some w.user_state) (and_parts _ _ e).1

-- and of one that knows nothing is drawn
pub knows_draws_none : (flag : Flag) (w : WindowRecord) (n : ℕ) → (n ≡ w.serial → Knows flag w) → draws_told flag w n ≡ false
knows_draws_none flag w n its = by_test (n == w.serial) refl
  where
    known : Knows flag w → knows flag w ≡ true
    known k = by_flag flag k
      where
        by_flag : (g : Flag) → Knows g w → knows g w ≡ true
        by_flag Highlighting k = is_beq w.heard.highlighted w.highlighted k
        by_flag Zooming k = is_beq w.heard.zoomed (is_some w.user_state) k

    by_test : (b : Bool) → (n == w.serial) ≡ b → (b && not (knows flag w)) ≡ false
    by_test true e = ap not (known (its (eqb-true n w.serial e)))
    by_test false e = refl

-- the frame of a window whose definition heard otherwise
pub draws_only : (flag : Flag) (w : WindowRecord) → (Knows flag w → ⊥) → (n : ℕ) → draws_told flag w n ≡ false → (n == w.serial) ≡ false
draws_only flag w otherwise n e = by_test (n == w.serial) (knows flag w) refl e
  where
    known : (g : Flag) → knows g w ≡ true → Knows g w
    known Highlighting e = beq_is w.heard.highlighted w.highlighted e
    known Zooming e = beq_is w.heard.zoomed (is_some w.user_state) e

    by_test : (a b : Bool) → knows flag w ≡ b → (a && not b) ≡ false → a ≡ false
    by_test true true k e = absurd (otherwise (known flag k))
    by_test true false k e = absurd (false≢true (sym e))
    by_test false b k e = refl

-- ---- after a call that arranges windows

is_frame_of : (o : Owner) → is_frame o ≡ false → (s : ℕ) → same_owner o (Frame s) ≡ false
is_frame_of Desktop e s = refl
is_frame_of Bar e s = refl
is_frame_of (Frame t) e s = absurd (false≢true (sym e))
is_frame_of (Content t part) e s = refl

-- a call that arranges windows, and then frames that are drawn anew
pub sparing_then : (moves : Owner → Bool) (d e : ℕ → Bool) (before middle after : LayeredDesk) (a b c : Bits)
    → IsSparing moves d before middle a b → IsRepainted e middle after b c → IsSparing moves (λ n. d n || e n) before after a c
sparing_then moves d e before middle after a b c one two = record {
  once = λ p on f. let first = one.once p (on_middle p on) (frame_middle p f) in let second = unwritten p on f in omega (arith, first, second);
  spared = λ p on f same still. unwritten p on f ∙ one.spared p (on_middle p on) (frame_middle p f) (ap (same_owner (owner before p)) (sym (two.owners p)) ∙ same) (ap moves (sym (two.owners p)) ∙ still);
  frames = λ s p on f g h.
      let neither = or_parts (d s) (e s) h in
      let here : same_owner (owner middle p) (Frame s) ≡ true = ap (λ o. same_owner o (Frame s)) (sym (two.owners p)) ∙ f in
      two.others p (on_middle p on) (λ t its. ap e (same_frame (owner middle p) t s its here) ∙ neither.1) ∙ one.frames s p (on_middle p on) here g neither.0;
  rises = λ p on. let first = one.rises p (on_middle p on) in let second = two.rises p (on_middle p on) in omega (arith, first, second);
  changed = λ p on ne. grows p on (changed_when (bit a p) (bit b p) (bit c p) ne);
}
  where
    on_middle : (p : Point) → on_screen after p ≡ true → on_screen middle p ≡ true
    on_middle p on = sym (two.screens p) ∙ on

    frame_middle : (p : Point) → is_frame (owner after p) ≡ false → is_frame (owner middle p) ≡ false
    frame_middle p f = ap is_frame (sym (two.owners p)) ∙ f

    unwritten : (p : Point) → on_screen after p ≡ true → is_frame (owner after p) ≡ false → count c p ≡ count b p
    unwritten p on f = two.others p (on_middle p on) (λ s its. absurd (false≢true (sym (is_frame_of (owner middle p) (frame_middle p f) s) ∙ its)))

    same_frame : (o : Owner) (t s : ℕ) → same_owner o (Frame t) ≡ true → same_owner o (Frame s) ≡ true → t ≡ s
    same_frame Desktop t s f g = absurd (false≢true f)
    same_frame Bar t s f g = absurd (false≢true f)
    same_frame (Frame n) t s f g = sym (eqb-true n t f) ∙ eqb-true n s g
    same_frame (Content n part) t s f g = absurd (false≢true f)

    grows : (p : Point) → on_screen after p ≡ true → (bit b p ≢ bit a p) ⊎ (bit c p ≢ bit b p) → count a p < count c p
    grows p on (inl ne) = let first = one.changed p (on_middle p on) ne in let second = two.rises p (on_middle p on) in omega (arith, first, second)
    grows p on (inr ne) = let first = one.rises p (on_middle p on) in let second = two.changed p (on_middle p on) ne in omega (arith, first, second)
