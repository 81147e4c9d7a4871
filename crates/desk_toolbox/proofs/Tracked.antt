-- A window's definition heard last that its go-away box is tracked only while it is.
use Rattle.std.proofs.Common.{◌≡◌, inl, inr, ℕ, ◌+◌, ◌≤◌, ◌==◌, Bool, true, false, if◌then◌else◌, List, [], ◌∷◌, refl, sym, ap, ◌∙◌, subst, arith}
use Rattle.std.proofs.lemmas.Bool.{eqb-true}
use Rattle.std.proofs.lemmas.Bool.Decides.{nat_tests}
use Rattle.std.proofs.lemmas.List.Elements.{All-nil, All-cons, All-head, All-tail}
use Rattle.std.specs.Prelude.{All}
use Rattle.def_iface.specs.WindowNews.{told_tracked}
use Rattle.desk_call.specs.declared.activity.Activity.{Activity}
use Rattle.desk_call.specs.declared.activity.Activity.TheVariants.{Idle, Updating, Tracking, Pulling, TrackingControl, Dragging, Growing, Selecting}
use Rattle.vis_update.specs.Records.{WindowRecord}
use Rattle.window_mgr.specs.Arrange.{changed}
use Rattle.window_mgr.specs.Effects.{Effect}
use Rattle.window_mgr.specs.Effects.Effect.{Makes, Disposes, Draws, Pictures, Scrolls, Arranges, Places, Tells, Describes}
use Rattle.window_mgr.specs.FullDesk.{FullDesk, FullState, IsRightState, look_of}
use Rattle.window_frame.specs.FrameSteps.{IsTrackingNotified, with_tracked}
use Rattle.desk_toolbox.specs.Reached.{IsTrackedIfHeard}
use Rattle.desk_toolbox.proofs.Totals.{Weight, total, copies, missing_counts, distinct_counts}
use Rattle.desk_toolbox.proofs.Recounts.{Counts}
use Rattle.desk_toolbox.proofs.StepCounts.{told_total}

-- the go-away box of this window is tracked
abbrev pub tracks : ℕ → Activity → Bool
tracks n Idle = false
tracks n (Updating s) = false
tracks n (Tracking s) = s == n
tracks n (TrackingControl c) = false
tracks n (Dragging d) = false
tracks n (Growing g) = false
tracks n (Selecting k) = false
tracks n (Pulling m) = false

-- windows whose definitions heard wrongly that it is
abbrev pub misled_by : Activity → ℕ → Bool → ℕ
misled_by activity n tracked = if tracked then (if tracks n activity then 0 else 1) else 0

abbrev pub misled : Activity → Weight
misled activity n tracked floating = misled_by activity n tracked

-- ---- in words of each window, and counted

tracks_this : (n : ℕ) (activity : Activity) → activity ≡ Tracking n → tracks n activity ≡ true
tracks_this n activity e = subst (λ a. tracks n a ≡ true) (sym e) (itself n)
  where
    itself : (k : ℕ) → (k == k) ≡ true
    itself k = grind (arith, nat_tests)

this_is_tracked : (n : ℕ) (activity : Activity) → tracks n activity ≡ true → activity ≡ Tracking n
this_is_tracked n Idle e = absurd (cc)
this_is_tracked n (Updating s) e = absurd (cc)
this_is_tracked n (Pulling m) e = absurd (cc)
this_is_tracked n (Tracking s) e = ap Tracking (eqb-true s n e)
this_is_tracked n (TrackingControl c) e = absurd (cc)
this_is_tracked n (Dragging d) e = absurd (cc)
this_is_tracked n (Growing g) e = absurd (cc)
this_is_tracked n (Selecting k) e = absurd (cc)

not_misled : (activity : Activity) (n : ℕ) (tracked : Bool) → (tracked ≡ true → activity ≡ Tracking n) → misled_by activity n tracked ≡ 0
not_misled activity n true h = ap (λ (b : Bool). if b then 0 else 1) (tracks_this n activity (h refl))
not_misled activity n false h = refl

rightly_heard : (activity : Activity) (n : ℕ) (tracked : Bool) → misled_by activity n tracked ≡ 0 → tracked ≡ true → activity ≡ Tracking n
rightly_heard activity n true none e = this_is_tracked n activity (by_test (tracks n activity) none)
  where
    by_test : (b : Bool) → ◌≡◌ {A = ℕ} (if b then 0 else 1) 0 → b ≡ true
    by_test true none = refl
    by_test false none = absurd (omega arith)
rightly_heard activity n false none e = absurd (cc)

pub none_misled : (activity : Activity) (ws : List WindowRecord) → All (IsTrackedIfHeard activity) ws → total (misled activity) ws ≡ 0
none_misled activity [] h = refl
none_misled activity (w ∷ ws) h =
    let first = not_misled activity w.serial w.heard.tracked (All-head (IsTrackedIfHeard activity) w ws h) in
    let rest = none_misled activity ws (All-tail (IsTrackedIfHeard activity) w ws h) in
    omega arith

pub all_heard_rightly : (activity : Activity) (ws : List WindowRecord) → total (misled activity) ws ≡ 0 → All (IsTrackedIfHeard activity) ws
all_heard_rightly activity [] none = All-nil (IsTrackedIfHeard activity)
all_heard_rightly activity (w ∷ ws) none =
    All-cons (IsTrackedIfHeard activity) w ws (rightly_heard activity w.serial w.heard.tracked (omega arith)) (all_heard_rightly activity ws (omega arith))

-- ---- what calls on windows leave

pub counted_none : (g : Weight) (effect : Effect) (before after : FullDesk) → ((n : ℕ) (floating : Bool) → g n false floating ≡ 0) → Counts effect before after → total g before.windows ≡ 0 → total g after.windows ≡ 0
counted_none g (Makes floating w) before after new (n, added, its) none = let all = added.all g in let first = new n added.floating in omega arith
counted_none g (Draws d) before after new kept none = kept.all g ∙ none
counted_none g (Pictures n) before after new kept none = kept.all g ∙ none
counted_none g (Scrolls m) before after new kept none = kept.all g ∙ none
counted_none g (Arranges a) before after new kept none = kept.all g ∙ none
counted_none g (Disposes s) before after new removed none = let all = removed.all g in omega arith
counted_none g (Places p) before after new kept none = kept.all g ∙ none
counted_none g (Tells r) before after new kept none = kept.all g ∙ none
counted_none g (Describes region) before after new kept none = kept.all g ∙ none

-- ---- what calls on go-away boxes leave

-- nothing was tracked, so whatever is then, no definition is misled
misled_by_less : (activity : Activity) (ws : List WindowRecord) → total (misled activity) ws ≤ total (misled Idle) ws
misled_by_less activity [] = omega arith
misled_by_less activity (w ∷ ws) = let rest = misled_by_less activity ws in let first = less w.serial w.heard.tracked in omega arith
  where
    by_test : (b : Bool) → (if b then 0 else 1) ≤ 1
    by_test true = omega arith
    by_test false = omega arith

    less : (n : ℕ) (tracked : Bool) → misled_by activity n tracked ≤ misled_by Idle n tracked
    less n true = by_test (tracks n activity)
    less n false = omega arith

-- what the definition of the window that is tracked is told is right
tracked_is_right : (s n : ℕ) (now was : Bool) → n ≡ s → misled_by (Tracking s) n now ≡ misled_by (Tracking s) n was
tracked_is_right s n now was its = always now ∙ sym (always was)
  where
    same : (s == n) ≡ true
    same = grind (arith, nat_tests)

    always : (b : Bool) → misled_by (Tracking s) n b ≡ 0
    always true = ap (λ (b : Bool). if b then 0 else 1) same
    always false = refl

pub tracking_told : (inside : Bool) (s : ℕ) (before after : FullState) → IsTrackingNotified inside s before after → total (misled (Tracking s)) after.desk.windows ≡ total (misled (Tracking s)) before.desk.windows
tracking_told inside s before after (inl (missing, same)) = ap (λ (x : FullState). total (misled (Tracking s)) x.desk.windows) same
tracking_told inside s before after (inr told) =
    told_total (misled (Tracking s)) s (λ _. told_tracked inside) (with_tracked inside) (λ w its. tracked_is_right s w.serial inside w.heard.tracked its) before after told

pub tracking_begins : (inside : Bool) (s : ℕ) (before after : FullState) → IsTrackingNotified inside s before after → total (misled Idle) before.desk.windows ≡ 0 → total (misled (Tracking s)) after.desk.windows ≡ 0
tracking_begins inside s before after told none =
    let same = tracking_told inside s before after told in
    let less = misled_by_less (Tracking s) before.desk.windows in
    omega arith

-- once nothing is tracked, only definitions of the window that was can be misled
misled_or_this : (s : ℕ) (ws : List WindowRecord) → total (misled Idle) ws ≤ total (misled (Tracking s)) ws + copies s ws
misled_or_this s [] = omega arith
misled_or_this s (w ∷ ws) = let rest = misled_or_this s ws in let first = this s w.serial w.heard.tracked in omega arith
  where
    this : (s n : ℕ) (tracked : Bool) → misled_by Idle n tracked ≤ misled_by (Tracking s) n tracked + (if n == s then 1 else 0)
    this s n true = grind (arith, nat_tests)
    this s n false = omega arith

other_as_before : (s n : ℕ) (tracked : Bool) → (n == s) ≡ false → misled_by Idle n tracked ≡ misled_by (Tracking s) n tracked
other_as_before s n true other = let same : (s == n) ≡ false = grind (arith, nat_tests) in ap (λ (b : Bool). if b then 0 else 1) (sym same)
other_as_before s n false other = refl

-- the one that was is told so
one_is_told : (s : ℕ) (f : WindowRecord → WindowRecord) → ((w : WindowRecord) → (f w).heard.tracked ≡ false) → (ws : List WindowRecord) → copies s ws ≤ 1 → total (misled (Tracking s)) ws ≡ 0 → total (misled Idle) (changed s f ws) ≡ 0
one_is_told s f off [] most none = refl
one_is_told s f off (w ∷ ws) most none = by_this (w.serial == s) refl most (one_is_told s f off ws)
  where
    by_this : (b : Bool) → (w.serial == s) ≡ b → (if b then 1 else 0) + copies s ws ≤ 1 → (copies s ws ≤ 1 → total (misled (Tracking s)) ws ≡ 0 → total (misled Idle) (changed s f ws) ≡ 0) → total (misled Idle) (if b then f w ∷ ws else w ∷ changed s f ws) ≡ 0
    by_this true e most rest =
        let first : misled_by Idle (f w).serial (f w).heard.tracked ≡ 0 = ap (misled_by Idle (f w).serial) (off w) in
        let others = misled_or_this s ws in
        omega arith
    by_this false e most rest =
        let first = other_as_before s w.serial w.heard.tracked e in
        let others = rest (omega arith) (omega arith) in
        omega arith

pub tracking_ends : (s : ℕ) (before after : FullState) → IsRightState before → IsTrackingNotified false s before after → total (misled (Tracking s)) before.desk.windows ≡ 0 → total (misled Idle) after.desk.windows ≡ 0
tracking_ends s before after right (inl (missing, same)) none =
    let gone = missing_counts s before.desk.windows missing in
    let others = misled_or_this s before.desk.windows in
    let is : total (misled Idle) after.desk.windows ≡ total (misled Idle) before.desk.windows = ap (λ (x : FullState). total (misled Idle) x.desk.windows) same in
    omega arith
tracking_ends s before after right (inr told) none =
    ap (λ (d : FullDesk). total (misled Idle) d.windows) told.desk
    ∙ one_is_told s (λ w. record (with_tracked false w) { definition = told.definition }) (λ w. refl) before.desk.windows (distinct_counts (look_of before.desk) s before.desk.windows right.plain.desk) none
