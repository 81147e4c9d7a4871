-- What events, controls and lists forget once a call was done.
use Rattle.std.proofs.Common.{◌≡◌, ℕ, Option, Some, refl, sym, ap, ◌∙◌, subst}
use Rattle.desk_call.specs.declared.window.WindowCall.{WindowCall}
use Rattle.desk_call.specs.declared.window.WindowCall.TheVariants.{Dispose}
use Rattle.desk_call.specs.Natures.{window_ends}
use Rattle.control_mgr.specs.ControlClosing.{IsWindowLeft}
use Rattle.control_mgr.specs.ControlDesks.{ControlsState}
use Rattle.list_mgr.specs.ListClosing.{AreListsOfLeft}
use Rattle.list_mgr.specs.ListDesks.{ListsState}
use Rattle.text_mgr.specs.declared.texts.Texts.{Texts}
use Rattle.text_mgr.specs.TextClosing as text_mgr
use Rattle.text_mgr.specs.TextDesks.{TextsState}
use Rattle.text_mgr.specs.WholeTexts.{texts_state}
use Rattle.desk_toolbox.specs.TextsLeft.{AreTextsOfLeft}
use Rattle.desk_toolbox.specs.declared.events.Events.{Events}
use Rattle.desk_toolbox.specs.EventSteps.{events_left}
use Rattle.desk_toolbox.specs.Run.{AreControlsLeft, AreListsLeft, AreTextsLeft}

-- of all calls the end of a window alone ends it
ended_by_dispose : (call : WindowCall) (s : ℕ) → window_ends call ≡ Some s → call ≡ Dispose s
ended_by_dispose (Dispose t) s is = ap Dispose (cc)
ended_by_dispose _ s is = absurd (cc)

-- what holds of the call that ends the window holds of the one after which the window is gone
pub of_the_end : (P : WindowCall → Type 0) (call : WindowCall) (ends : Option ℕ) (s : ℕ) → window_ends call ≡ ends → ends ≡ Some s → P (Dispose s) → P call
of_the_end P call ends s is ended h = subst P (sym (ended_by_dispose call s (is ∙ ended))) h

pub controls_end : (call : WindowCall) (ends : Option ℕ) (s : ℕ) (before after : ControlsState) → window_ends call ≡ ends → ends ≡ Some s → IsWindowLeft s before after → AreControlsLeft call before after
controls_end call ends s before after is ended left = of_the_end (λ k. AreControlsLeft k before after) call ends s is ended left

pub lists_end : (call : WindowCall) (ends : Option ℕ) (s : ℕ) (before after : ListsState) → window_ends call ≡ ends → ends ≡ Some s → AreListsOfLeft s before after → AreListsLeft call before after
lists_end call ends s before after is ended left = of_the_end (λ k. AreListsLeft k before after) call ends s is ended left

-- so do its text records
texts_of_left : (s : ℕ) (before after : Texts) → text_mgr.AreTextsLeft s before after → AreTextsOfLeft s (texts_state before) (texts_state after)
texts_of_left s before after left = record { gone = left.gone; others = left.others; within = left.within; apart = left.apart; next = left.next; scrap = left.scrap }

pub texts_end : (call : WindowCall) (ends : Option ℕ) (s : ℕ) (before after : Texts) → window_ends call ≡ ends → ends ≡ Some s → text_mgr.AreTextsLeft s before after → AreTextsLeft call (texts_state before) (texts_state after)
texts_end call ends s before after is ended left = of_the_end (λ k. AreTextsLeft k (texts_state before) (texts_state after)) call ends s is ended (texts_of_left s before after left)

-- and after others nothing is forgotten
pub events_stay : (call : WindowCall) (ends : Option ℕ) (e : Events) → window_ends call ≡ ends → ((s : ℕ) → ends ≡ Some s → ⊥) → e ≡ events_left call e
events_stay (Dispose s) ends e is none = absurd (none s (sym is))
events_stay _ ends e is none = refl

pub controls_stay : (call : WindowCall) (ends : Option ℕ) (s : ControlsState) → window_ends call ≡ ends → ((w : ℕ) → ends ≡ Some w → ⊥) → AreControlsLeft call s s
controls_stay (Dispose w) ends s is none = absurd (none w (sym is))
controls_stay _ ends s is none = refl

pub lists_stay : (call : WindowCall) (ends : Option ℕ) (s : ListsState) → window_ends call ≡ ends → ((w : ℕ) → ends ≡ Some w → ⊥) → AreListsLeft call s s
lists_stay (Dispose w) ends s is none = absurd (none w (sym is))
lists_stay _ ends s is none = refl

pub texts_stay : (call : WindowCall) (ends : Option ℕ) (s : TextsState) → window_ends call ≡ ends → ((w : ℕ) → ends ≡ Some w → ⊥) → AreTextsLeft call s s
texts_stay (Dispose w) ends s is none = absurd (none w (sym is))
texts_stay _ ends s is none = refl
