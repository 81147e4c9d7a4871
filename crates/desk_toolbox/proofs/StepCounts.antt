-- What any call does to the count of windows, to the next number, and to the active window.
use Rattle.std.proofs.Common.{◌≡◌, ◌⊎◌, inl, inr, ℕ, ◌+◌, ◌≤◌, ◌^◌, ◌==◌, nat_lt, Bool, true, false, if◌then◌else◌, List, map, Option, None, Some, Result, Ok, refl, sym, ap, ◌∙◌, subst, arith}
use Rattle.std.proofs.lemmas.Bool.Decides.{nat_tests}
use Rattle.tb_geom.specs.declared.refusal.Refusal.{Refusal}
use Rattle.tb_geom.specs.Points.{PixelSet}
use Rattle.def_iface.specs.WindowNews.{WindowNews, told_title, told_highlighted, told_tracked}
use Rattle.desk_call.specs.declared.activity.Activity.{Activity}
use Rattle.desk_call.specs.declared.activity.Standing.{Standing}
use Rattle.desk_call.specs.declared.frame.FrameCall.{FrameCall}
use Rattle.desk_call.specs.declared.frame.FrameReply.{FrameReply}
use Rattle.desk_call.specs.declared.menu.MenuCall.{MenuCall}
use Rattle.desk_call.specs.declared.menu.MenuReply.{MenuReply}
use Rattle.desk_call.specs.declared.window.WindowCall.{WindowCall}
use Rattle.desk_call.specs.declared.window.WindowCall.TheVariants as asks
use Rattle.desk_call.specs.declared.window.WindowReply.{WindowReply}
use Rattle.desk_call.specs.Gates.{window_standing}
use Rattle.window_list.specs.Lists.{serial_after}
use Rattle.desk_layers.specs.Desk as layers
use Rattle.vis_update.specs.Records.{Look, WindowRecord, layered_window}
use Rattle.vis_update.specs.Touches.{is_this}
use Rattle.window_mgr.specs.Effects.{effect_of, places}
use Rattle.window_mgr.specs.Finding.{record_with}
use Rattle.window_mgr.specs.FrameNotices.{IsFrameNotified}
use Rattle.window_mgr.specs.FullDesk.{AreSerials, FullDesk, FullState, IsGiven, IsRightState, look_of}
use Rattle.window_mgr.specs.Placings.{Placing, sized, zoomed}
use Rattle.window_mgr.specs.Refused.{is_missing}
use Rattle.window_mgr.specs.DeskStates.{DeskState, narrowed}
use Rattle.window_frame.specs.Followers.{Flag, IsCaughtUpBy, told_flag, with_heard}
use Rattle.window_frame.specs.Followers.Flag.{Highlighting, Zooming}
use Rattle.window_frame.proofs.FrameKeeps.{caught_up_keeps}
use Rattle.window_frame.specs.FrameSteps.{IsFrameStep, with_flag, with_title, with_tracked}
use Rattle.window_frame.proofs.ToldSteps.{HoldsOfFrames, of_caught_up, of_frame}
use Rattle.control_mgr.specs.ControlDesks.{ControlRecord}
use Rattle.list_mgr.specs.ListDesks.{KeptList}
use Rattle.text_mgr.specs.TextDesks.{KeptText}
use Rattle.menu_mgr.specs.MenuDesks.{MenuDesk}
use Rattle.menu_mgr.specs.MenuSteps.{IsMenuStep}
use Rattle.menu_mgr.proofs.MenuKeeps.{menu_keeps}
use Rattle.desk_toolbox.specs.Activations.{to_dispose}
use Rattle.desk_toolbox.specs.Run.{IsWindowAnswer, IsWindowAnswered, shown_with}
use Rattle.desk_toolbox.proofs.Totals.{Classing, Has, Present, Weight, copies, counted, counting, distinct_counts, either_class, found_counts, has_when, serial_of_counted, total, total_changed, weight_of}
use Rattle.desk_toolbox.proofs.Recounts.{IsKept, Counts, done_counts}

-- there are the same windows, by their serials
pub record HasSame (before after : FullDesk) : Type 0 where
  pub next : after.next ≡ before.next
  pub count : (c : Classing) (s : ℕ) → counted c s after.windows ≡ counted c s before.windows

-- there is one more, of the next number
pub record HasMore (n : ℕ) (before after : FullDesk) : Type 0 where
  pub floating : Bool
  pub serials : before.next ≡ Some n
  pub next : after.next ≡ serial_after n
  pub count : (c : Classing) (s : ℕ) → counted c s after.windows ≡ (if n == s then c floating else 0) + counted c s before.windows

-- there is one less, which was of this number
pub record HasLess (d : ℕ) (before after : FullDesk) : Type 0 where
  pub floating : Bool
  pub found : is_missing d before.windows ≡ false
  pub next : after.next ≡ before.next
  pub count : (c : Classing) (s : ℕ) → counted c s before.windows ≡ (if d == s then c floating else 0) + counted c s after.windows

-- this window is gone, if one is, and else there are the same or one more
abbrev pub Recount : Option ℕ → FullDesk → FullDesk → Type 0
Recount None before after = HasSame before after ⊎ ((n : ℕ) × HasMore n before after)
Recount (Some d) before after = HasLess d before after

pub same_desk : (before after : FullDesk) → after ≡ before → HasSame before after
same_desk before after same = record { next = ap (λ (d : FullDesk). d.next) same; count = λ c s. ap (λ (d : FullDesk). counted c s d.windows) same }

pub same_and_same : (a b c : FullDesk) → HasSame a b → HasSame b c → HasSame a c
same_and_same a b c first rest = record { next = rest.next ∙ first.next; count = λ c s. rest.count c s ∙ first.count c s }

recount_and_same : (o : Option ℕ) (a b c : FullDesk) → Recount o a b → HasSame b c → Recount o a c
recount_and_same None a b c (inl first) rest = inl (same_and_same a b c first rest)
recount_and_same None a b c (inr (n, first)) rest = inr (n, record { floating = first.floating; serials = first.serials; next = rest.next ∙ first.next; count = λ c s. rest.count c s ∙ first.count c s })
recount_and_same (Some d) a b c first rest = record { floating = first.floating; found = first.found; next = rest.next ∙ first.next; count = λ c s. let f = first.count c s in let r = rest.count c s in cc }

-- ---- definitions that are told

module _ (g : Weight) where
  pub told_total : (s : ℕ) (news : WindowRecord → WindowNews → WindowNews) (kept : WindowRecord → WindowRecord) → ((w : WindowRecord) → w.serial ≡ s → weight_of g (kept w) ≡ weight_of g w) → (before after : FullState) → IsFrameNotified s news kept before after → total g after.desk.windows ≡ total g before.desk.windows
  told_total s news kept same before after told =
      ap (λ (d : FullDesk). total g d.windows) told.desk ∙ total_changed g s (λ w. record (kept w) { definition = told.definition }) same before.desk.windows

  heard_weight : (flag : Flag) (w : WindowRecord) → weight_of g (with_heard flag w) ≡ weight_of g w
  heard_weight Highlighting w = refl
  heard_weight Zooming w = refl

  abbrev StaysTotal : FullState → FullState → Type 0
  StaysTotal before after = total g after.desk.windows ≡ total g before.desk.windows

  pub caught_up_total : (standing : Standing) (before after : FullState) → IsCaughtUpBy standing before after → total g after.desk.windows ≡ total g before.desk.windows
  caught_up_total = of_caught_up StaysTotal (record {
    same = λ s. refl;
    joined = λ first middle last one next. next ∙ one;
    told = λ flag s before after told. told_total s (told_flag flag) (with_heard flag) (λ w its. heard_weight flag w) before after told;
  })

pub caught_up_counts : (standing : Standing) (before after : FullState) → IsCaughtUpBy standing before after → HasSame before.desk after.desk
caught_up_counts standing before after told = record {
  next = caught_up_keeps (λ d. d.next) (λ d ws. refl) standing before after told;
  count = λ c s. caught_up_total (counting c s) standing before after told;
}

told_counts : (s : ℕ) (news : WindowRecord → WindowNews → WindowNews) (kept : WindowRecord → WindowRecord) → ((c : Classing) (x : ℕ) (w : WindowRecord) → weight_of (counting c x) (kept w) ≡ weight_of (counting c x) w) → (before after : FullState) → IsFrameNotified s news kept before after → HasSame before.desk after.desk
told_counts s news kept same before after told = record {
  next = ap (λ (d : FullDesk). d.next) told.desk;
  count = λ c x. told_total (counting c x) s news kept (λ w its. same c x w) before after told;
}

-- ---- calls about frames

abbrev StaysCounted : FullState → FullState → Type 0
StaysCounted before after = HasSame before.desk after.desk

frames_counted : HoldsOfFrames StaysCounted
frames_counted = record {
  unchanged = λ before after same. same_desk before.desk after.desk same.desk;
  titled = λ title s before after told. told_counts s (λ _. told_title title) (with_title title) (λ c x w. refl) before after told;
  highlighted = λ on s before after told. told_counts s (λ _. told_highlighted on) (with_flag on) (λ c x w. refl) before after told;
  tracked = λ inside s before after told. told_counts s (λ _. told_tracked inside) (with_tracked inside) (λ c x w. refl) before after told;
}

pub frame_counts : (call : FrameCall) (answer : Result FrameReply Refusal) (before after : DeskState) → IsFrameStep call answer before after → HasSame before.windows.desk after.windows.desk
frame_counts = of_frame StaysCounted frames_counted

-- ---- calls about menus

pub menu_counts : (call : MenuCall) (answer : Result MenuReply Refusal) (before after : MenuDesk) → IsMenuStep call answer before after → HasSame before.desk.windows.desk after.desk.windows.desk
menu_counts call answer before after step = record {
  next = menu_keeps (λ d. d.next) (λ d titles. refl) call answer before after step;
  count = λ c s. menu_keeps (λ d. counted c s d.windows) (λ d titles. refl) call answer before after step;
}

-- ---- calls on windows

kept_is_same : (before after : FullDesk) → IsKept before after → Recount None before after
kept_is_same before after kept = inl (record { next = kept.next; count = λ c s. kept.all (counting c s) })

placed_recounts : (o : Option Placing) (before after : FullDesk) → Counts (places o) before after → Recount None before after
placed_recounts None before after kept = kept_is_same before after kept
placed_recounts (Some p) before after kept = kept_is_same before after kept

call_recounts : (call : WindowCall) (desk before after : FullDesk) → Counts (effect_of call desk) before after → Recount (to_dispose call) before after
call_recounts (asks.New w) desk before after (n, added, its) = inr (n, record { floating = added.floating; serials = added.serials; next = added.next; count = λ c s. added.all (counting c s) })
call_recounts (asks.NewFloating w) desk before after (n, added, its) = inr (n, record { floating = added.floating; serials = added.serials; next = added.next; count = λ c s. added.all (counting c s) })
call_recounts (asks.Dispose s) desk before after removed = record { floating = removed.floating; found = removed.found; next = removed.next; count = λ c x. removed.all (counting c x) }
call_recounts (asks.Size z) desk before after kept = placed_recounts (sized z (record_with z.window desk.windows)) before after kept
call_recounts (asks.Zoom z) desk before after kept = placed_recounts (zoomed z (record_with z.window desk.windows) desk) before after kept
call_recounts _ desk before after kept = kept_is_same before after kept

-- what is narrowed disposes of nothing
pub narrowed_keeps : (call : WindowCall) (activity : Activity) (begun set : PixelSet) → narrowed call activity begun ≡ Some set → to_dispose call ≡ None
narrowed_keeps (asks.Dispose s) activity begun set e = absurd (cc)
narrowed_keeps _ activity begun set e = refl

answer_recounts : (asked : Option PixelSet) (call : WindowCall) (answer : WindowReply) (before after : DeskState) → ((set : PixelSet) → asked ≡ Some set → to_dispose call ≡ None) → IsWindowAnswer asked call (Ok answer) before after → Recount (to_dispose call) before.windows.desk after.windows.desk
answer_recounts None call answer before after none step =
    call_recounts call before.windows.desk before.windows.desk after.windows.desk (done_counts call answer before.windows after.windows step.1.1)
answer_recounts (Some set) call answer before after none step =
    subst (λ o. Recount o before.windows.desk after.windows.desk) (sym (none set refl)) (inl (same_desk before.windows.desk after.windows.desk step.1.windows.desk))

-- a call on windows that was done, and after which definitions were told how their windows stand
pub told_recounts : (call : WindowCall) (answer : WindowReply) (before middle : DeskState) (told : FullState) → IsWindowAnswered call (Ok answer) before middle → IsCaughtUpBy (window_standing call) middle.windows told → Recount (to_dispose call) before.windows.desk told.desk
told_recounts call answer before middle told answered caught =
    recount_and_same (to_dispose call) before.windows.desk middle.windows.desk told.desk
    (answer_recounts (narrowed call before.activity before.begun) call answer before middle (narrowed_keeps call before.activity before.begun) answered)
    (caught_up_counts (window_standing call) middle.windows told caught)

-- whatever is shown of controls, lists and text records then
pub shown_counts : (cs : List ControlRecord) (ls : List KeptList) (ts : List KeptText) (told after : FullState) → after ≡ shown_with cs ls ts told → HasSame told.desk after.desk
shown_counts cs ls ts told after shown = record {
  next = ap (λ (s : FullState). s.desk.next) shown;
  count = λ c s. ap (λ (x : FullState). counted c s x.desk.windows) shown;
}

pub window_recounts : (call : WindowCall) (answer : WindowReply) (before middle : DeskState) (told after : FullState) (cs : List ControlRecord) (ls : List KeptList) (ts : List KeptText) → IsWindowAnswered call (Ok answer) before middle → IsCaughtUpBy (window_standing call) middle.windows told
    → after ≡ shown_with cs ls ts told → Recount (to_dispose call) before.windows.desk after.desk
window_recounts call answer before middle told after cs ls ts answered caught shown =
    recount_and_same (to_dispose call) before.windows.desk told.desk after.desk (told_recounts call answer before middle told answered caught) (shown_counts cs ls ts told after shown)

-- ---- which windows stay, and which are gone

-- none is gone, or another than this
abbrev pub Apart : Option ℕ → Option ℕ → Type 0
Apart None x = Unit {0}
Apart (Some d) x = is_this x d ≡ false

pub stays : (c : Classing) (o x : Option ℕ) (before after : FullDesk) → Recount o before after → Apart o x → Has c x before.windows → Has c x after.windows
stays c None x before after (inl same) apart h = has_when c x before.windows after.windows (λ s. let count = same.count c s in omega arith) h
stays c None x before after (inr (n, more)) apart h = has_when c x before.windows after.windows (λ s. let count = more.count c s in omega arith) h
stays c (Some d) None before after less apart h = tt
stays c (Some d) (Some t) before after less apart h =
    let all : counted c t before.windows ≡ 0 + counted c t after.windows = subst (λ (b : Bool). counted c t before.windows ≡ (if b then c less.floating else 0) + counted c t after.windows) apart (less.count c t) in
    omega arith

-- no window has this number, nor will one have it
pub record IsGone (w : ℕ) (desk : FullDesk) : Type 0 where
  pub none : copies w desk.windows ≡ 0
  pub given : IsGiven desk.next w

given_after : (n w : ℕ) (b : Bool) → IsGiven (Some n) w → IsGiven (if b then Some (n + 1) else None) w
given_after n w true given = let first = given.0 in let below = given.1 in (first, omega arith)
given_after n w false given = given.0

pub gone_stays : (o : Option ℕ) (w : ℕ) (before after : FullDesk) → Recount o before after → IsGone w before → IsGone w after
gone_stays None w before after (inl same) gone = record { none = same.count either_class w ∙ gone.none; given = subst (λ o. IsGiven o w) (sym same.next) gone.given }
gone_stays None w before after (inr (n, more)) gone =
    let given : IsGiven (Some n) w = subst (λ o. IsGiven o w) more.serials gone.given in
    record {
      none = let below = given.1 in let was = gone.none in let count = more.count either_class w in grind (arith, nat_tests);
      given = subst (λ o. IsGiven o w) (sym more.next) (given_after n w (nat_lt (n + 1) (2 ^ 64)) given);
    }
gone_stays (Some d) w before after less gone = record {
  none = let was = gone.none in let count = less.count either_class w in omega arith;
  given = subst (λ o. IsGiven o w) (sym less.next) gone.given;
}

-- each window has another serial, and all were given before
pub record AreNumbered (d : FullDesk) : Type 0 where
  pub look : Look
  pub distinct : layers.AreWindows (map (layered_window look) d.windows)
  pub serials : AreSerials d.next d.windows

pub right_is_numbered : (s : FullState) → IsRightState s → AreNumbered s.desk
right_is_numbered s right = record { look = look_of s.desk; distinct = right.plain.desk; serials = right.serials }

pub disposed_is_gone : (d : ℕ) (before after : FullDesk) → AreNumbered before → HasLess d before after → IsGone d after
disposed_is_gone d before after numbered less = record {
  none =
      let all : copies d before.windows ≡ (if d == d then 1 else 0) + copies d after.windows = less.count either_class d in
      let most : copies d before.windows ≤ 1 = distinct_counts numbered.look d before.windows numbered.distinct in
      let itself : (d == d) ≡ true = grind (arith, nat_tests) in
      let is : copies d before.windows ≡ 1 + copies d after.windows = subst (λ (b : Bool). copies d before.windows ≡ (if b then 1 else 0) + copies d after.windows) itself all in
      omega arith;
  given = subst (λ o. IsGiven o d) (sym less.next) (serial_of_counted (IsGiven before.next) d before.windows numbered.serials.1 (found_counts d before.windows less.found));
}

-- a window that is present is not gone
pub present_is_not_gone : (o : Option ℕ) (w : ℕ) (desk : FullDesk) → IsGone w desk → Present o desk.windows → o ≡ Some w → ⊥
present_is_not_gone o w desk gone h e = let here : 1 ≤ copies w desk.windows = subst (λ x. Present x desk.windows) e h in let none = gone.none in absurd (omega arith)
