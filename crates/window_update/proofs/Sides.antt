-- What is kept for updates stays whole.
use Rattle.std.proofs.Common.{◌≡◌, ℕ, Bool, true, false, ◌&&◌, not, List, [], refl, sym, ap, ◌∙◌, nat_abs, subst}
use Rattle.tb_geom.specs.declared.point.Point.{Point}
use Rattle.tb_geom.specs.Points.{PixelSet}
use Rattle.def_iface.specs.Slots.{TakenBox}
use Rattle.def_iface.specs.WindowMeaning.{WindowLoan}
use Rattle.def_iface.specs.WindowSlots.{WindowSlot}
use Rattle.desk_layers.specs.Desk.{LayeredDesk, on_screen}
use Rattle.desk_layers.specs.Owner.{owner}
use Rattle.desk_call.specs.declared.activity.Activity.{Activity}
use Rattle.desk_call.specs.declared.activity.Activity.TheVariants.{Updating}
use Rattle.vis_update.specs.Areas.{is_content_of, stale_in}
use Rattle.window_mgr.specs.declared.manager.WindowManager.{WindowManager}
use Rattle.window_mgr.specs.Effects.{IsUnchanged}
use Rattle.window_mgr.specs.FullDesk.{FullDesk, layered_desk}
use Rattle.window_mgr.proofs.ScreenSides.{SameSides}
use Rattle.window_mgr.specs.Records.{desk_of, state_of}
use Rattle.window_update.specs.declared.choices.Choices.{Choices}
use Rattle.window_update.specs.declared.updates.Updates.{Updates}
use Rattle.window_update.specs.Choosing.{AreChoices, is_chosen_of}
use Rattle.window_update.specs.WholeUpdates.{IsWholeUpdates}

-- what the draws of an update leave is the same where owners and update sets are
pub choices_stay : (s : ℕ) (desk other : LayeredDesk) (stale rest : PixelSet) (c : Choices) → ((p : Point) → on_screen other p ≡ on_screen desk p) → ((p : Point) → owner other p ≡ owner desk p) → ((p : Point) → on_screen desk p ≡ true → rest p ≡ stale p)
    → AreChoices s desk stale c → AreChoices s other rest c
choices_stay s desk other stale rest c sides owners sets kept = record {
  fresh = λ p on e. sets p (sym (sides p) ∙ on) ∙ kept.fresh p (sym (sides p) ∙ on) (ap (is_chosen_of c.drawn s) (sym (owners p)) ∙ e);
  left = λ k further p. kept.left k further p ∙ by_side k p (on_screen desk p) refl ∙ sym (λ i. (sides p i && is_content_of s (owners p i)) && (rest p && not (is_chosen_of k s (owners p i))));
}
  where
    by_side : (k : _) (p : Point) (b : Bool) → on_screen desk p ≡ b → ((b && is_content_of s (owner desk p)) && (stale p && not (is_chosen_of k s (owner desk p)))) ≡ ((b && is_content_of s (owner desk p)) && (rest p && not (is_chosen_of k s (owner desk p))))
    by_side k p true on = ap (λ x. is_content_of s (owner desk p) && (x && not (is_chosen_of k s (owner desk p)))) (sym (sets p on))
    by_side k p false on = refl

module _ {V : Type 0} {H : V → Type 0} (loan : TakenBox V H → WindowLoan) where
  -- while no update is open, the sides are all
  pub closed_whole : (activity : Activity) (t : WindowManager V H) (u : Updates) → ((s : ℕ) → activity ≡ Updating s → ⊥) → u.buffer.width ≡ t.screen.width → u.buffer.height ≡ t.screen.height → IsWholeUpdates loan activity t u
  closed_whole activity t u closed width height = record { width = width; height = height; choices = λ s is. absurd (closed s is) }

  -- another map for comparing of the same sides
  pub buffer_whole : (activity : Activity) (t : WindowManager V H) (u other : Updates) → other ≡ record u { buffer = other.buffer } → other.buffer.width ≡ t.screen.width → other.buffer.height ≡ t.screen.height
      → IsWholeUpdates loan activity t u → IsWholeUpdates loan activity t other
  buffer_whole activity t u other same width height whole = record {
    width = width;
    height = height;
    choices = λ s is. subst (λ (n : Updates). AreChoices s (layered_desk (desk_of loan t [])) (stale_in t.areas.items) n.choices) (sym same) (whole.choices s is);
  }

  -- the maps for comparing stay as large as the screen, and where an update is open, what its draws leave is the same where
  -- owners and update sets are
  pub stays_whole : (activity : Activity) (old new : WindowManager V H) (u : Updates) (before after : List WindowSlot) → IsWholeUpdates loan activity old u → SameSides (desk_of loan old before) (desk_of loan new after)
      → ((s : ℕ) → activity ≡ Updating s → AreChoices s (layered_desk (desk_of loan old [])) (stale_in old.areas.items) u.choices → AreChoices s (layered_desk (desk_of loan new [])) (stale_in new.areas.items) u.choices)
      → IsWholeUpdates loan activity new u
  stays_whole activity old new u before after whole same keeps = record {
    width = whole.width ∙ sym (ap nat_abs same.width);
    height = whole.height ∙ sym (ap nat_abs same.height);
    choices = λ s is. keeps s is (whole.choices s is);
  }

  -- the update of a window began, or goes on
  pub begun_whole : (t : WindowManager V H) (s : ℕ) (u : Updates) → u.buffer.width ≡ t.screen.width → u.buffer.height ≡ t.screen.height
      → AreChoices s (layered_desk (desk_of loan t [])) (stale_in t.areas.items) u.choices → IsWholeUpdates loan (Updating s) t u
  begun_whole t s u width height choices = record {
    width = width;
    height = height;
    choices = λ n is. subst (λ m. AreChoices m (layered_desk (desk_of loan t [])) (stale_in t.areas.items) u.choices) (same s n is) choices;
  }
    where
      same : (m n : ℕ) → Updating m ≡ Updating n → m ≡ n
      same m n e = cc

  -- windows that did not change
  pub unchanged_whole : (activity : Activity) (old new : WindowManager V H) (u : Updates) (slots : List WindowSlot) → IsWholeUpdates loan activity old u → IsUnchanged (state_of loan old slots) (state_of loan new slots) → IsWholeUpdates loan activity new u
  unchanged_whole activity old new u slots whole same = record {
    width = whole.width ∙ sym (ap (λ (d : FullDesk). nat_abs d.width) same.desk);
    height = whole.height ∙ sym (ap (λ (d : FullDesk). nat_abs d.height) same.desk);
    choices = λ s is.
        choices_stay s (layered_desk (desk_of loan old [])) (layered_desk (desk_of loan new [])) (stale_in old.areas.items) (stale_in new.areas.items) u.choices
        (λ p. ap (λ (d : FullDesk). on_screen (layered_desk d) p) same.desk) (λ p. ap (λ (d : FullDesk). owner (layered_desk d) p) same.desk) same.stale (whole.choices s is);
  }
