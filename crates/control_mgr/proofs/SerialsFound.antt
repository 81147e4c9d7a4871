-- Which controls stay the same, where one of the controls is changed, put in or taken out.
use Rattle.std.proofs.Common.{◌≡◌, ℕ, Bool, true, false, ◌&&◌, ◌==◌, List, [], ◌∷◌, ◌++◌, refl, sym, ap, ◌∙◌, arith, eqb-true}
use Rattle.std.specs.List.{list_any, remove}
use Rattle.std.proofs.lemmas.Bool.{false≢true}
use Rattle.std.proofs.lemmas.Bool.Decides.{nat_tests}
use Rattle.window_items.specs.Items.{items_of, has_serial, is_in}
use Rattle.window_items.proofs.SerialLemmas.{any_of, one_window, with_edited, with_pushed, with_removed}
use Rattle.desk_layers.specs.declared.part.Part.TheVariants as part
use Rattle.desk_layers.specs.Owner.{Owner, same_owner}
use Rattle.desk_layers.specs.Owner.Owner.{Content}
use Rattle.desk_call.specs.declared.control.ControlOf.{ControlOf}
use Rattle.control_mgr.specs.ControlDesks.{ControlDesk, ControlRecord, ControlsState, with_serial}
use Rattle.control_mgr.specs.ControlSteps.{IsChangedTo}
use Rattle.control_mgr.specs.WholeControls.{AreControlsApart}
use Rattle.control_mgr.proofs.Places.{found_names}
use Rattle.control_mgr.proofs.Settled.{retold}

-- a control that is in a window before and after is the same one, unless it is an owner of this sort
abbrev pub StayControls : (Owner → Bool) → List ControlRecord → List ControlRecord → Type 0
StayControls own cs ds = (window n : ℕ) → list_any (has_serial n) (items_of window cs) ≡ true → list_any (has_serial n) (items_of window ds) ≡ true
    → own (Content window (part.Control n)) ≡ false → with_serial n ds ≡ with_serial n cs

pub stay_edited : (c : ControlOf) (f : ControlRecord → ControlRecord) → ((x : ControlRecord) → (f x).serial ≡ x.serial) → (before after : ControlDesk) → AreControlsApart before.controls.controls → IsChangedTo c f before after
    → StayControls (λ o. same_owner o (Content c.window (part.Control c.control))) before.controls.controls after.controls.controls
stay_edited c f same before after apart done window n was is other = by_test (n == c.control) refl
  where
    names : (done.changed.control.window ≡ c.window) × (done.changed.control.serial ≡ c.control)
    names = found_names c.window c.control done.at before.controls.controls done.changed.control done.found done.changed.there

    unlike : (a b d : ℕ) → a ≡ b → (d == b) ≡ false → (a == d) ≡ false
    unlike a b d e f = grind (arith, nat_tests)

    like : (a b d : ℕ) → a ≡ b → (d == b) ≡ true → (a == d) ≡ true
    like a b d e f = grind (arith, nat_tests)

    same_window : (a b d : ℕ) → a ≡ b → a ≡ d → (b == d) ≡ true
    same_window a b d e f = grind (arith, nat_tests)

    by_test : (b : Bool) → (n == c.control) ≡ b → with_serial n after.controls.controls ≡ with_serial n before.controls.controls
    by_test false e =
        ap (with_serial n) (ap (λ (s : ControlsState). s.controls) done.state ∙ done.changed.controls)
        ∙ with_edited n (retold f done.changed.definition) same done.at before.controls.controls done.changed.control done.changed.there (unlike done.changed.control.serial c.control n names.1 e)
    by_test true e =
        let its : is_in window done.changed.control ≡ true =
        one_window n window done.at before.controls.controls done.changed.control apart done.changed.there (like done.changed.control.serial c.control n names.1 e) was in
        let here : (window == c.window) ≡ true = same_window done.changed.control.window window c.window (eqb-true done.changed.control.window window its) names.0 in
        absurd (false≢true (sym other ∙ (λ i. here i && e i)))

pub stay_pushed : (own : Owner → Bool) (cs ds : List ControlRecord) (c : ControlRecord) → ds ≡ cs ++ c ∷ [] → StayControls own cs ds
stay_pushed own cs ds c pushed window n was is other = ap (with_serial n) pushed ∙ with_pushed n cs c (any_of n window cs was)

pub stay_removed : (own : Owner → Bool) (cs ds : List ControlRecord) (at : ℕ) → AreControlsApart cs → ds ≡ remove cs at → StayControls own cs ds
stay_removed own cs ds at apart removed window n was is other =
    ap (with_serial n) removed
    ∙ with_removed n at cs apart (ap (list_any (has_serial n)) (sym removed) ∙ any_of n window ds is)
