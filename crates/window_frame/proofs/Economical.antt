-- A call that arranges windows, with all that follows it, writes no more than it has to.
use Rattle.std.proofs.Common.{◌≡◌, ℕ, ◌==◌, ◌||◌, not, Bool, true, false, List, Option, None, Some, Ok, Err, Result, IfOk, if◌then◌else◌, refl, sym, ap, ◌∙◌}
use Rattle.std.proofs.lemmas.Bool.{false≢true}
use Rattle.tb_geom.specs.declared.point.Point.{Point}
use Rattle.tb_geom.specs.declared.refusal.Refusal.{Refusal}
use Rattle.def_iface.specs.Slots.{TakenBox}
use Rattle.def_iface.specs.WindowMeaning.{WindowLoan}
use Rattle.desk_call.specs.declared.activity.Standing.{Standing}
use Rattle.desk_call.specs.declared.window.WindowCall.{WindowCall}
use Rattle.desk_call.specs.declared.window.WindowCall.TheVariants.{Dispose, Show, Hide, ShowHide, Select, BringToFront, SendBehind, Move, Size}
use Rattle.desk_call.specs.declared.window.WindowReply.{WindowReply}
use Rattle.desk_call.specs.Gates.{window_standing}
use Rattle.vis_update.specs.Records.{WindowRecord}
use Rattle.window_mgr.specs.declared.manager.WindowManager.{WindowManager}
use Rattle.window_mgr.specs.Arrange.{Arrangement, activation_of, at_place, brought, changed, way_to, without}
use Rattle.window_mgr.specs.declared.arrange.Activates.TheVariants.{FrontInItsPlace}
use Rattle.window_mgr.specs.Effects.{IsArrangement, IsEffect, IsWindowDisposed, places}
use Rattle.window_mgr.specs.Placings.{sized}
use Rattle.window_mgr.specs.Finding.{front_of, record_with}
use Rattle.window_mgr.specs.FullDesk.{FullState}
use Rattle.window_mgr.specs.Kept.{IsKept}
use Rattle.window_mgr.specs.Records.{look_on}
use Rattle.window_mgr.specs.Sparing.{IsSparingCall, Repaints, Spares, moving_content}
use Rattle.window_mgr.specs.Step.{IsWindowStep}
use Rattle.window_mgr.specs.Updating.{LeavesState}
use Rattle.window_frame.specs.Economy.{AreOthersLeft, Economical, IsEconomical, LeavesOthers, darkened, light, relit, same_light, windows_of}
use Rattle.window_frame.specs.Followers.{AreInformed, IsCaughtUpBy, is_behind}
use Rattle.window_frame.proofs.Relighting.{activated_dark, brought_other, changed_other, not_behind_then, sent_other, sparing_in, told_light, without_other}
use Rattle.window_frame.proofs.Repainting.{sparing_then}
use Rattle.window_frame.proofs.ToldSteps.{of_caught_up}
use Rattle.window_mgr.proofs.Sparing.{spares_same}

-- ---- what a call leaves of other windows' records

arranged_dark : (a : Arrangement) (before middle : FullState) → IsArrangement a before middle → (n : ℕ) → record_with n a.windows ≡ record_with n before.desk.windows → darkened (record_with n middle.desk.windows) ≡ darkened (record_with n before.desk.windows)
arranged_dark a before middle its n e =
    ap (λ d. darkened (record_with n d.windows)) its.desk
    ∙ activated_dark n (activation_of a.activates a.window before.desk.active (front_of a.windows)) before.desk.active a.windows
    ∙ ap darkened e

-- definitions that are told how their windows stand leave the lights
caught_up_light : (n : ℕ) (standing : Standing) (before after : FullState) → IsCaughtUpBy standing before after → light (record_with n after.desk.windows) ≡ light (record_with n before.desk.windows)
caught_up_light n =
    of_caught_up (λ before after. light (record_with n after.desk.windows) ≡ light (record_with n before.desk.windows))
    (record { same = λ s. refl; joined = λ first middle last one next. next ∙ one; told = told_light n })

or_parts : (a b : Bool) → (a || b) ≡ false → (a ≡ false) × (b ≡ false)
or_parts true b e = absurd (false≢true (sym e))
or_parts false b e = (refl, e)

or_none : (a b : Bool) → a ≡ false → b ≡ false → (a || b) ≡ false
or_none true b e f = absurd (false≢true (sym e))
or_none false b e f = f

lit_so : (b : Bool) → not b ≡ false → b ≡ true
lit_so true e = refl
lit_so false e = absurd (false≢true (sym e))

-- a call leaves the windows that it is not about
others_left : (call : WindowCall) (answer : WindowReply) (before middle : FullState) → IsWindowStep call (Ok answer) before middle → LeavesOthers call before.desk.windows middle.desk.windows
others_left (Dispose s) answer before middle step = λ n away. disposed n away step.1.1
  where
    disposed : (n : ℕ) → (n == s) ≡ false → IsWindowDisposed s before middle → darkened (record_with n middle.desk.windows) ≡ darkened (record_with n before.desk.windows)
    disposed n away gone =
        ap (λ d. darkened (record_with n d.windows)) gone.desk
        ∙ activated_dark n (activation_of FrontInItsPlace s before.desk.active (front_of (without s before.desk.windows))) before.desk.active (without s before.desk.windows)
        ∙ ap darkened (without_other n s before.desk.windows away)
others_left (Show s) answer before middle step = λ n away. arranged_dark _ before middle step.1.1 n (changed_other n s _ before.desk.windows (λ w. refl) away)
others_left (Hide s) answer before middle step = λ n away. arranged_dark _ before middle step.1.1 n (changed_other n s _ before.desk.windows (λ w. refl) away)
others_left (ShowHide c) answer before middle step = λ n away. arranged_dark _ before middle step.1.1 n (changed_other n c.window _ before.desk.windows (λ w. refl) away)
others_left (Select s) answer before middle step = λ n away. arranged_dark _ before middle step.1.1 n (brought_other n s before.desk.windows away)
others_left (BringToFront s) answer before middle step = λ n away. arranged_dark _ before middle step.1.1 n (brought_other n s before.desk.windows away)
others_left (SendBehind b) answer before middle step = λ n away. arranged_dark _ before middle step.1.1 n (sent_other n b before.desk.windows away)
others_left (Move m) answer before middle step = λ n away. arranged_dark _ before middle step.1.1 n (by_flag m.select n away)
  where
    there : List WindowRecord
    there = changed m.window (at_place m.place) before.desk.windows

    by_flag : (b : Bool) (n : ℕ) → (n == m.window) ≡ false → record_with n (if b then brought m.window there else there) ≡ record_with n before.desk.windows
    by_flag true n away = brought_other n m.window there away ∙ changed_other n m.window (at_place m.place) before.desk.windows (λ w. refl) away
    by_flag false n away = changed_other n m.window (at_place m.place) before.desk.windows (λ w. refl) away
others_left (Size z) answer before middle step = λ n away. by_found (record_with z.window before.desk.windows) n away step.1
  where
    by_found : (r : Option WindowRecord) (n : ℕ) → (n == z.window) ≡ false → IsEffect (places (sized z r)) answer before middle → darkened (record_with n middle.desk.windows) ≡ darkened (record_with n before.desk.windows)
    by_found None n away its = ap (λ d. darkened (record_with n d.windows)) its.1.desk
    by_found (Some w) n away its = arranged_dark _ before middle its.1.arranged n (changed_other n z.window _ before.desk.windows (λ w. refl) away)
others_left _ answer before middle step = tt

-- where it was done
pub others_if_done : (call : WindowCall) (result : Result WindowReply Refusal) (before middle : FullState) → IsWindowStep call result before middle → IfOk result (λ answer. LeavesOthers call before.desk.windows middle.desk.windows)
others_if_done call (Ok answer) before middle step = others_left call answer before middle step
others_if_done call (Err e) before middle step = tt

same_others : (call : WindowCall) (ws : List WindowRecord) → LeavesOthers call ws ws
same_others (Dispose s) ws = λ n away. refl
same_others (Show s) ws = λ n away. refl
same_others (Hide s) ws = λ n away. refl
same_others (ShowHide c) ws = λ n away. refl
same_others (Select s) ws = λ n away. refl
same_others (BringToFront s) ws = λ n away. refl
same_others (SendBehind b) ws = λ n away. refl
same_others (Move m) ws = λ n away. refl
same_others (Size z) ws = λ n away. refl
same_others _ ws = tt

-- and where nothing was done
pub others_untouched : (call : WindowCall) (result : Result WindowReply Refusal) (ws : List WindowRecord) → IfOk result (λ answer. LeavesOthers call ws ws)
others_untouched call (Ok answer) ws = same_others call ws
others_untouched call (Err e) ws = tt

module _ {V : Type 0} {H : V → Type 0} (loan : TakenBox V H → WindowLoan) where
  -- all that is known where a call about the window of this serial was made, and definitions were told how windows stand
  record IsFollowed (s : ℕ) (by : Option Point) (standing : Standing) (old middle new : WindowManager V H) : Type 0 where
    pub spares : Spares loan s by old middle
    pub kept : IsKept loan middle
    pub told : LeavesState loan (IsCaughtUpBy standing) middle new
    pub repaints : Repaints loan (is_behind (windows_of loan middle)) middle new
    pub others : AreOthersLeft s (windows_of loan old) (windows_of loan middle)
    pub informed : AreInformed (windows_of loan old)

  economical : (s : ℕ) (by : Option Point) (standing : Standing) (old middle new : WindowManager V H) → IsFollowed s by standing old middle new → Economical loan s by old new
  economical s by standing old middle new F =
      sparing_in (moving_content s by) (λ n. n == s || is_behind (windows_of loan middle) n) (λ n. n == s || relit (windows_of loan old) (windows_of loan new) n) _ _ old.screen new.screen
      (λ n quiet.
      let parts = or_parts (n == s) (relit (windows_of loan old) (windows_of loan new) n) quiet in
      let lights : same_light (light (record_with n (windows_of loan old))) (light (record_with n (windows_of loan middle))) ≡ true =
      ap (same_light (light (record_with n (windows_of loan old)))) (sym (caught_up_light n standing _ _ (F.told F.kept.slots F.kept.whole).1)) ∙ lit_so _ parts.1 in
      or_none (n == s) (is_behind (windows_of loan middle) n) parts.0
      (not_behind_then (look_on middle) n (windows_of loan old) (windows_of loan middle) F.kept.whole.sound.distinct F.informed (F.others n parts.0) lights))
      (sparing_then (moving_content s by) (λ n. n == s) (is_behind (windows_of loan middle)) _ _ _ old.screen middle.screen new.screen F.spares F.repaints)

  weaker : (s : ℕ) (by : Option Point) (old new : WindowManager V H) → Spares loan s by old new → Economical loan s by old new
  weaker s by old new spares = sparing_in (moving_content s by) (λ n. n == s) (λ n. n == s || relit (windows_of loan old) (windows_of loan new) n) _ _ old.screen new.screen (λ n quiet. (or_parts (n == s) _ quiet).0) spares

  -- of whichever call
  pub all_economical : (call : WindowCall) (old middle new : WindowManager V H) → LeavesOthers call (windows_of loan old) (windows_of loan middle)
      → IsSparingCall loan call old middle → IsKept loan middle
      → LeavesState loan (IsCaughtUpBy (window_standing call)) middle new → Repaints loan (is_behind (windows_of loan middle)) middle new → AreInformed (windows_of loan old)
      → IsEconomical loan call old new
  all_economical (Dispose s) old middle new others spares kept told repaints informed =
      economical s None (window_standing (Dispose s)) old middle new (record { spares = spares; kept = kept; told = told; repaints = repaints; informed = informed; others = others })
  all_economical (Show s) old middle new others spares kept told repaints informed =
      economical s None (window_standing (Show s)) old middle new (record { spares = spares; kept = kept; told = told; repaints = repaints; informed = informed; others = others })
  all_economical (Hide s) old middle new others spares kept told repaints informed =
      economical s None (window_standing (Hide s)) old middle new (record { spares = spares; kept = kept; told = told; repaints = repaints; informed = informed; others = others })
  all_economical (ShowHide c) old middle new others spares kept told repaints informed =
      economical c.window None (window_standing (ShowHide c)) old middle new (record { spares = spares; kept = kept; told = told; repaints = repaints; informed = informed; others = others })
  all_economical (Select s) old middle new others spares kept told repaints informed =
      economical s None (window_standing (Select s)) old middle new (record { spares = spares; kept = kept; told = told; repaints = repaints; informed = informed; others = others })
  all_economical (BringToFront s) old middle new others spares kept told repaints informed =
      economical s None (window_standing (BringToFront s)) old middle new (record { spares = spares; kept = kept; told = told; repaints = repaints; informed = informed; others = others })
  all_economical (SendBehind b) old middle new others spares kept told repaints informed =
      economical b.window None (window_standing (SendBehind b)) old middle new (record { spares = spares; kept = kept; told = told; repaints = repaints; informed = informed; others = others })
  all_economical (Move m) old middle new others spares kept told repaints informed =
      economical m.window (way_to m.place (record_with m.window (windows_of loan old))) (window_standing (Move m)) old middle new (record { spares = spares; kept = kept; told = told; repaints = repaints; informed = informed; others = others })
  all_economical (Size z) old middle new others spares kept told repaints informed =
      economical z.window None (window_standing (Size z)) old middle new (record { spares = spares; kept = kept; told = told; repaints = repaints; informed = informed; others = others })
  all_economical _ old middle new others spares kept told repaints informed = tt

  -- of a refused one too
  pub refused_economical : (call : WindowCall) (old new : WindowManager V H) → IsSparingCall loan call old new → IsEconomical loan call old new
  refused_economical (Dispose s) old new spares = weaker s None old new spares
  refused_economical (Show s) old new spares = weaker s None old new spares
  refused_economical (Hide s) old new spares = weaker s None old new spares
  refused_economical (ShowHide c) old new spares = weaker c.window None old new spares
  refused_economical (Select s) old new spares = weaker s None old new spares
  refused_economical (BringToFront s) old new spares = weaker s None old new spares
  refused_economical (SendBehind b) old new spares = weaker b.window None old new spares
  refused_economical (Move m) old new spares = weaker m.window (way_to m.place (record_with m.window (windows_of loan old))) old new spares
  refused_economical (Size z) old new spares = weaker z.window None old new spares
  refused_economical _ old new spares = tt

  -- a call that changes nothing writes nothing
  pub call_spares_same : (call : WindowCall) (t : WindowManager V H) → IsSparingCall loan call t t
  call_spares_same (Dispose s) t = spares_same loan s None t
  call_spares_same (Show s) t = spares_same loan s None t
  call_spares_same (Hide s) t = spares_same loan s None t
  call_spares_same (ShowHide c) t = spares_same loan c.window None t
  call_spares_same (Select s) t = spares_same loan s None t
  call_spares_same (BringToFront s) t = spares_same loan s None t
  call_spares_same (SendBehind b) t = spares_same loan b.window None t
  call_spares_same (Move m) t = spares_same loan m.window (way_to m.place (record_with m.window (windows_of loan t))) t
  call_spares_same (Size z) t = spares_same loan z.window None t
  call_spares_same _ t = tt

  pub economical_untouched : (call : WindowCall) (t : WindowManager V H) → IsEconomical loan call t t
  economical_untouched call t = refused_economical call t t (call_spares_same call t)
