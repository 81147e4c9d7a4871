-- An update whose layers were all drawn, in whichever order, is served.
use Rattle.std.proofs.Common.{◌≡◌, ◌⊎◌, ⊎_elim, inl, inr, ℕ, zero, suc, ◌==◌, Bool, true, false, ◌&&◌, ◌||◌, List, [], ◌∷◌, ◌++◌, map, Ok, refl, sym, ap, ◌∙◌, subst, arith}
use Rattle.std.specs.Prelude.{Contains}
use Rattle.std.proofs.lemmas.Bool.{false≢true}
use Rattle.desk_layers.specs.declared.part.Part.{Part}
use Rattle.desk_layers.specs.declared.part.Part.TheVariants as part
use Rattle.desk_layers.specs.Desk.{on_screen}
use Rattle.desk_layers.specs.Owner.{Owner, owner}
use Rattle.desk_layers.specs.Owner.Owner.{Desktop, Bar, Frame, Content}
use Rattle.desk_call.specs.declared.activity.Activity.TheVariants.{Idle}
use Rattle.desk_call.specs.declared.update.LayerKind.{LayerKind}
use Rattle.desk_call.specs.declared.update.LayerKind.TheVariants.{Picture, Texts, Lists, Controls}
use Rattle.desk_call.specs.declared.update.UpdateCall.TheVariants.{Serve, End}
use Rattle.desk_call.specs.declared.window.WindowReply.TheVariants.{Done}
use Rattle.vis_update.specs.Areas.{is_content_of}
use Rattle.window_paint.specs.Kinds.{is_of}
use Rattle.window_mgr.specs.DeskStates.{DeskState}
use Rattle.window_mgr.specs.Effects.{IsUnchanged}
use Rattle.window_mgr.specs.FullDesk.{FullState, layered_desk}
use Rattle.window_mgr.specs.Updating.{IsRefreshed, is_of_kind}
use Rattle.window_update.specs.Served.{AreAllKinds, AreDone, ShowsNone, drawing, update_drawing}
use Rattle.window_update.specs.UpdateSteps.{IsUpdateStep}
use Rattle.window_update.proofs.ServedLaws.{drawn_then, refreshed_alike, refreshed_since, refreshed_stays}

-- ---- kinds of layers

-- the kind is one of these
abbrev pub IsAmong : LayerKind → List LayerKind → Type 0
IsAmong kind [] = ⊥
IsAmong kind (k ∷ kinds) = (k ≡ kind) ⊎ IsAmong kind kinds

contains_cases : (k : LayerKind) (kinds : List LayerKind) (kind : LayerKind) → Contains (k ∷ kinds) kind → (k ≡ kind) ⊎ Contains kinds kind
contains_cases k kinds kind (zero, within, is) = inl is
contains_cases k kinds kind (suc i, within, is) = inr (i, omega arith, is)

-- the part is of one of these kinds
abbrev is_of_these : List LayerKind → Part → Bool
is_of_these [] a = false
is_of_these (k ∷ kinds) a = is_of_these kinds a || is_of k a

-- the owner is a content layer of this window of one of these kinds
abbrev is_drawn : List LayerKind → ℕ → Owner → Bool
is_drawn [] s o = false
is_drawn (k ∷ kinds) s o = is_drawn kinds s o || is_of_kind k s o

or_right : (a b : Bool) → b ≡ true → (a || b) ≡ true
or_right true b e = refl
or_right false b e = e

or_left : (a b : Bool) → a ≡ true → (a || b) ≡ true
or_left true b e = refl
or_left false b e = absurd (cc)

among_is_of : (kinds : List LayerKind) (kind : LayerKind) (a : Part) → is_of kind a ≡ true → IsAmong kind kinds → is_of_these kinds a ≡ true
among_is_of (k ∷ kinds) kind a e (inl is) = or_right (is_of_these kinds a) (is_of k a) (subst (λ l. is_of l a ≡ true) (sym is) e)
among_is_of (k ∷ kinds) kind a e (inr more) = or_left (is_of_these kinds a) (is_of k a) (among_is_of kinds kind a e more)
among_is_of [] kind a e wrong = absurd wrong

drawn_parts : (kinds : List LayerKind) (s t : ℕ) (a : Part) → is_drawn kinds s (Content t a) ≡ (t == s && is_of_these kinds a)
drawn_parts [] s t a = by_test (t == s)
  where
    by_test : (b : Bool) → false ≡ (b && false)
    by_test true = refl
    by_test false = refl
drawn_parts (k ∷ kinds) s t a = ap (λ b. b || (t == s && is_of k a)) (drawn_parts kinds s t a) ∙ by_test (t == s) (is_of_these kinds a) (is_of k a)
  where
    by_test : (b more one : Bool) → ((b && more) || (b && one)) ≡ (b && (more || one))
    by_test true more one = refl
    by_test false more one = refl

no_content : (kinds : List LayerKind) (s : ℕ) (o : Owner) → ((k : LayerKind) → is_of_kind k s o ≡ false) → is_drawn kinds s o ≡ false
no_content [] s o none = refl
no_content (k ∷ kinds) s o none = λ i. no_content kinds s o none i || none k i

-- all kinds that an owner may be of are all of a window's content
abbrev IsDrawnIfOf : List LayerKind → ℕ → Owner → Type 0
IsDrawnIfOf kinds s o = (kind : LayerKind) → IsAmong kind kinds ⊎ (is_of_kind kind s o ≡ false)

none_of : (its drawn kind : Bool) → kind ≡ true → (its && kind) ≡ false → (its && drawn) ≡ its
none_of false drawn kind is none = refl
none_of true drawn kind is none = absurd (false≢true (sym none ∙ is))

with_true : (b : Bool) → (b && true) ≡ b
with_true true = refl
with_true false = refl

content_drawn : (kinds : List LayerKind) (s t : ℕ) (a : Part) → IsDrawnIfOf kinds s (Content t a) → (t == s && is_of_these kinds a) ≡ (t == s)
content_drawn kinds s t a all = by_part a refl
  where
    by_kind : (kind : LayerKind) → is_of kind a ≡ true → (t == s && is_of_these kinds a) ≡ (t == s)
    by_kind kind is = ⊎_elim
        (λ here. ap (λ b. t == s && b) (among_is_of kinds kind a is here) ∙ with_true (t == s))
        (λ none. none_of (t == s) (is_of_these kinds a) (is_of kind a) is none) (all kind)

    by_part : (b : Part) → b ≡ a → (t == s && is_of_these kinds a) ≡ (t == s)
    by_part part.Picture is = by_kind Picture (ap (is_of Picture) (sym is))
    by_part (part.Text n) is = by_kind Texts (ap (is_of Texts) (sym is))
    by_part (part.List n) is = by_kind Lists (ap (is_of Lists) (sym is))
    by_part (part.Control n) is = by_kind Controls (ap (is_of Controls) (sym is))

all_content : (kinds : List LayerKind) (s : ℕ) (o : Owner) → IsDrawnIfOf kinds s o → is_drawn kinds s o ≡ is_content_of s o
all_content kinds s Desktop all = no_content kinds s Desktop (λ k. refl)
all_content kinds s Bar all = no_content kinds s Bar (λ k. refl)
all_content kinds s (Frame t) all = no_content kinds s (Frame t) (λ k. refl)
all_content kinds s (Content t a) all = drawn_parts kinds s t a ∙ content_drawn kinds s t a all

-- ---- an update while it is open

-- since its begin these kinds of layers of a window were drawn, and nothing else changed
abbrev pub AreDrawnSince : ℕ → List LayerKind → FullState → FullState → Type 0
AreDrawnSince s [] before after = IsUnchanged before after
AreDrawnSince s (k ∷ kinds) before after = IsRefreshed (is_drawn (k ∷ kinds) s) before after

unchanged_twice : (a b c : FullState) → IsUnchanged a b → IsUnchanged b c → IsUnchanged a c
unchanged_twice a b c one two = record {
  desk = two.desk ∙ one.desk;
  stale = λ p on. two.stale p (subst (λ d. on_screen (layered_desk d) p ≡ true) (sym one.desk) on) ∙ one.stale p on;
  image = λ p on. two.image p (subst (λ d. on_screen (layered_desk d) p ≡ true) (sym one.desk) on) ∙ one.image p on;
}

pub drawn_stay : (s : ℕ) (kinds : List LayerKind) (a b c : FullState) → AreDrawnSince s kinds a b → IsUnchanged b c → AreDrawnSince s kinds a c
drawn_stay s [] a b c one same = unchanged_twice a b c one same
drawn_stay s (k ∷ kinds) a b c one same = refreshed_stays (is_drawn (k ∷ kinds) s) a b c one same

pub drawn_more : (s : ℕ) (k : LayerKind) (kinds : List LayerKind) (a b c : FullState) → AreDrawnSince s kinds a b → IsRefreshed (is_of_kind k s) b c → AreDrawnSince s (k ∷ kinds) a c
drawn_more s k [] a b c same done = refreshed_since (is_of_kind k s) a b c same done
drawn_more s k (l ∷ kinds) a b c drawn done = drawn_then (is_drawn (l ∷ kinds) s) (is_of_kind k s) a b c drawn done

-- the picture was drawn, and what other layers of the window show any
pub all_drawn : (s : ℕ) (kinds : List LayerKind) (a b : FullState) → IsAmong Picture kinds → ((kind : LayerKind) → IsAmong kind kinds ⊎ ShowsNone s kind a) → AreDrawnSince s kinds a b → IsRefreshed (is_content_of s) a b
all_drawn s [] a b picture all drawn = absurd picture
all_drawn s (k ∷ kinds) a b picture all drawn =
    refreshed_alike (is_drawn (k ∷ kinds) s) (is_content_of s) a b
    (λ p on. all_content (k ∷ kinds) s (owner (layered_desk a.desk) p) (λ kind. ⊎_elim (λ here. inl here) (λ none. inr (none p on)) (all kind))) drawn

-- ---- calls one after another

-- a kind that was drawn, or is yet to be
abbrev IsSome : LayerKind → List LayerKind → List LayerKind → Type 0
IsSome kind done kinds = IsAmong kind done ⊎ Contains kinds kind

some_more : (k : LayerKind) (kinds done : List LayerKind) (kind : LayerKind) → IsSome kind done (k ∷ kinds) → IsSome kind (k ∷ done) kinds
some_more k kinds done kind some =
    ⊎_elim (λ here. inl (inr here)) (λ later. ⊎_elim (λ is. inl (inl is)) (λ more. inr more) (contains_cases k kinds kind later)) some

some_done : (done : List LayerKind) (kind : LayerKind) → IsSome kind done [] → IsAmong kind done
some_done done kind some = ⊎_elim (λ here. here) (λ (i, within, is). absurd (omega arith)) some

drawn_and_ended : (s : ℕ) (kinds done : List LayerKind) (first before after : DeskState) → IsSome Picture done kinds → ((kind : LayerKind) → IsSome kind done kinds ⊎ ShowsNone s kind first.windows)
    → AreDrawnSince s done first.windows before.windows → AreDone (map (drawing s) kinds ++ End s ∷ []) before after → (after.activity ≡ Idle) × IsRefreshed (is_content_of s) first.windows after.windows
drawn_and_ended s [] done first before after picture all drawn (next, ended, same) =
    subst (λ (x : DeskState). (x.activity ≡ Idle) × IsRefreshed (is_content_of s) first.windows x.windows) (sym same) (
      ended.1.1.0,
      refreshed_stays (is_content_of s) first.windows before.windows next.windows
          (all_drawn s done first.windows before.windows (some_done done Picture picture) (λ kind. ⊎_elim (λ some. inl (some_done done kind some)) (λ none. inr none) (all kind)) drawn) ended.1.1.1,
    )
drawn_and_ended s (k ∷ kinds) done first before after picture all drawn (next, draw, rest) =
    drawn_and_ended s kinds (k ∷ done) first next after (some_more k kinds done Picture picture)
    (λ kind. ⊎_elim (λ some. inl (some_more k kinds done kind some)) (λ none. inr none) (all kind))
    (drawn_more s k done first.windows before.windows next.windows drawn draw.1.1.1) rest

pub drawn_in_any_order_is_served : (s : ℕ) (kinds : List LayerKind) (before after : DeskState) → AreAllKinds s before.windows kinds → AreDone (update_drawing s kinds) before after → IsUpdateStep (Serve s) (Ok Done) before after
drawn_in_any_order_is_served s kinds before after all (a, begun, rest) =
    (begun.0, (refl, drawn_and_ended s kinds [] before a after (inr all.picture) (λ kind. ⊎_elim (λ some. inl (inr some)) (λ none. inr none) (all.others kind)) begun.1.1.windows rest))
