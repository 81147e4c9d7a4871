-- A call, by what it asks.
use Rattle.std.proofs.Common.{◌≡◌, List, Some, None, Result, refl, sym, subst}
use Rattle.tb_geom.specs.declared.refusal.Refusal.{Refusal}
use Rattle.tb_geom.specs.Points.{PixelSet}
use Rattle.def_iface.specs.Slots.{TakenBox}
use Rattle.def_iface.specs.WindowMeaning.{WindowLoan}
use Rattle.desk_call.specs.declared.activity.Activity.{Activity}
use Rattle.desk_call.specs.declared.activity.Activity.TheVariants as activity
use Rattle.desk_call.specs.declared.activity.Standing.TheVariants.{Changes}
use Rattle.desk_call.specs.declared.text.TextCall.{TextCall}
use Rattle.desk_call.specs.declared.text.TextCall.TheVariants as call
use Rattle.desk_call.specs.declared.text.TextOf.{TextOf}
use Rattle.desk_call.specs.declared.text.TextReply.{TextReply}
use Rattle.desk_call.specs.Gates.{gate, text_standing}
use Rattle.window_mgr.specs.declared.manager.WindowManager.{WindowManager}
use Rattle.window_mgr.specs.DeskStates.{Opened}
use Rattle.text_mgr.specs.declared.texts.Texts.{Texts}
use Rattle.text_mgr.specs.CallEdits.{text_edited}
use Rattle.text_mgr.specs.Spots.{opened}
use Rattle.text_mgr.specs.TextDesks.{KeptText}
use Rattle.text_mgr.specs.TextSteps.{IsTextStep, IsWhereRight}
use Rattle.text_mgr.specs.WholeTexts.{IsSelectable, LeavesTexts}
use Rattle.text_mgr.proofs.Steps.{where_right}

module _ {V : Type 0} {H : V → Type 0} (loan : TakenBox V H → WindowLoan) where
  -- a step that is made, also where the screen is not right
  pub asked_by : (c asked : TextCall) (result : Result TextReply Refusal) (t u : WindowManager V H) (m n : Texts) (o r : Opened) → c ≡ asked
      → LeavesTexts loan (IsTextStep asked result) t o m u r n → LeavesTexts loan (IsWhereRight (IsTextStep c result)) t o m u r n
  asked_by c asked result t u m n o r is leaves =
      where_right loan (IsTextStep c result) t u m n o r (subst (λ x. LeavesTexts loan (IsTextStep x result) t o m u r n) (sym is) leaves)

  pub by_call : (c asked : TextCall) (result : Result TextReply Refusal) (t u : WindowManager V H) (m n : Texts) (o r : Opened) → c ≡ asked
      → LeavesTexts loan (IsWhereRight (IsTextStep asked result)) t o m u r n → LeavesTexts loan (IsWhereRight (IsTextStep c result)) t o m u r n
  by_call c asked result t u m n o r is leaves = subst (λ x. LeavesTexts loan (IsWhereRight (IsTextStep x result)) t o m u r n) (sym is) leaves

  -- while this stays open
  pub while_open : (c asked : TextCall) (result : Result TextReply Refusal) (t u : WindowManager V H) (m n : Texts) (a b : Activity) (begun : PixelSet) → c ≡ asked → a ≡ b
      → LeavesTexts loan (IsWhereRight (IsTextStep asked result)) t (opened b begun) m u (opened b begun) n → LeavesTexts loan (IsWhereRight (IsTextStep c result)) t (opened a begun) m u (opened a begun) n
  while_open c asked result t u m n a b begun is stays leaves =
      by_call c asked result t u m n (opened a begun) (opened a begun) is
      (subst (λ x. LeavesTexts loan (IsWhereRight (IsTextStep asked result)) t (opened x begun) m u (opened x begun) n) (sym stays) leaves)

-- ---- what is open

-- nothing is open where what changes may come
pub idle : (a : Activity) → gate a Changes ≡ None → a ≡ activity.Idle
idle activity.Idle e = refl
idle (activity.Updating s) e = absurd (cc)
idle (activity.Tracking s) e = absurd (cc)
idle (activity.Pulling m) e = absurd (cc)
idle (activity.TrackingControl k) e = absurd (cc)
idle (activity.Dragging d) e = absurd (cc)
idle (activity.Growing g) e = absurd (cc)
idle (activity.Selecting k) e = absurd (cc)

pub idle_selectable : (a : Activity) (ts : List KeptText) → a ≡ activity.Idle → IsSelectable a ts
idle_selectable a ts e = subst (λ b. IsSelectable b ts) (sym e) tt

-- nor where a call may come that edits
pub edits_idle : (c : TextCall) (t : TextOf) (a : Activity) → text_edited c ≡ Some t → gate a (text_standing c) ≡ None → a ≡ activity.Idle
edits_idle (call.Set b) t a e g = idle a g
edits_idle (call.Insert b) t a e g = idle a g
edits_idle (call.Delete x) t a e g = idle a g
edits_idle (call.Key n) t a e g = idle a g
edits_idle (call.Cut x) t a e g = idle a g
edits_idle (call.Paste x) t a e g = idle a g
edits_idle (call.Select z) t a e g = idle a g
edits_idle (call.Activate f) t a e g = idle a g
edits_idle (call.Idle n) t a e g = idle a g
edits_idle (call.Justify n) t a e g = idle a g
edits_idle (call.Scroll z) t a e g = idle a g
edits_idle (call.ShowSelection x) t a e g = idle a g
edits_idle c t a e g = absurd (cc)
