-- Layers behind those of a window's controls, put in or taken out by whoever keeps them: the controls are whole beside them still.
use Rattle.std.proofs.Common.{◌≡◌, ℕ, zero, suc, ◌<◌, ◌≤◌, false, List, [], ◌∷◌, length, get_or, map, take, drop, Option, refl, sym, ap, ◌∙◌, subst, arith}
use Rattle.std.specs.List.{insert, remove}
use Rattle.std.proofs.lemmas.Bool.{true≢false}
use Rattle.std.proofs.lemmas.List.Elements.{All-append, All-drop, All-take}
use Rattle.tb_geom.specs.Points.{PixelSet}
use Rattle.window_items.specs.Items.{items_of}
use Rattle.desk_layers.specs.declared.part.Part.{Part}
use Rattle.def_iface.specs.Slots.{TakenBox}
use Rattle.def_iface.specs.WindowMeaning.{WindowLoan}
use Rattle.def_iface.specs.WindowSlots.{WindowSlot}
use Rattle.window_list.specs.declared.layer.Layer.{Layer}
use Rattle.desk_call.specs.declared.update.LayerKind.TheVariants.{Controls}
use Rattle.vis_update.specs.Records.{WindowRecord}
use Rattle.vis_update.specs.Relayings.{with_layers_of}
use Rattle.window_paint.specs.Kinds.{is_of}
use Rattle.window_mgr.specs.declared.manager.WindowManager.{WindowManager}
use Rattle.window_mgr.specs.FullDesk.{FullDesk}
use Rattle.window_mgr.specs.Records.{desk_of, state_of, state_showing}
use Rattle.window_mgr.specs.Relayered.{AreLayersSet}
use Rattle.control_mgr.specs.ControlDesks.{ControlRecord, ControlsState}
use Rattle.control_mgr.specs.ControlSteps.{AreLayersOf}
use Rattle.control_mgr.specs.WholeControls.{AreWholeControls}
use Rattle.control_mgr.proofs.LayerIn.{all_with}
use Rattle.control_mgr.proofs.Settled.{joined_laid, somewhere_laid}

-- ---- layers that begin with controls'

-- one that is no control's, put in behind them
pub joined_with : (cs : List ControlRecord) (ls : List Layer) (i : ℕ) (own : Layer) → length cs ≤ i → is_of Controls own.part ≡ false → AreLayersOf cs ls → AreLayersOf cs (insert ls i own)
joined_with [] ls i own low other h = all_with (λ (l : Layer). is_of Controls l.part ≡ false) i ls own h other
joined_with (c ∷ cs) [] i own low other h = absurd h
joined_with (c ∷ cs) (l ∷ ls) zero own low other h = absurd (omega (arith, low))
joined_with (c ∷ cs) (l ∷ ls) (suc i) own low other h = (h.0, joined_with cs ls i own (omega (arith, low)) other h.1)

-- or taken out
pub joined_without : (cs : List ControlRecord) (ls : List Layer) (i : ℕ) (own : Layer) → i < length ls → own ≡ get_or ls i own → is_of Controls own.part ≡ false → AreLayersOf cs ls → AreLayersOf cs (remove ls i)
joined_without [] ls i own low is other h =
    All-append (λ (l : Layer). is_of Controls l.part ≡ false) (take i ls) (drop (suc i) ls) (All-take (λ (l : Layer). is_of Controls l.part ≡ false) i ls h) (All-drop (λ (l : Layer). is_of Controls l.part ≡ false) (suc i) ls h)
joined_without (c ∷ cs) [] i own low is other h = absurd h
joined_without (c ∷ cs) (l ∷ ls) zero own low is other h = absurd (true≢false (sym (ap (λ (x : Layer). is_of Controls x.part) is ∙ ap (is_of Controls) h.0.part) ∙ other))
joined_without (c ∷ cs) (l ∷ ls) (suc i) own low is other h = (h.0, joined_without cs ls i own (omega (arith, low)) is other h.1)

-- ---- controls beside them

-- what was whole is whole beside the windows of which one has other layers that begin with its controls'
pub whole_relayered : (window : ℕ) (ls : List Layer) (ws : List WindowRecord) (state : ControlsState) → AreWholeControls ws state → AreLayersOf (items_of window state.controls) ls
    → AreWholeControls (map (with_layers_of window ls) ws) state
whole_relayered window ls ws state whole joined = record {
  settled = whole.settled;
  apart = whole.apart;
  given = whole.given;
  somewhere = somewhere_laid window ls ws state.controls whole.somewhere;
  few = whole.few;
  joined = joined_laid window ls state.controls state.controls ws joined (λ t away. refl) whole.joined;
  stocked = whole.stocked;
}

-- so where the window manager was given these layers
pub whole_set : {V : Type 0} {H : V → Type 0} (loan : TakenBox V H → WindowLoan) (window : ℕ) (ls : List Layer) (afresh : Option Part) (was shows : List ℕ → Part → PixelSet) (t u : WindowManager V H) (slots : List WindowSlot) (state : ControlsState)
    → AreLayersSet window ls afresh (state_showing was (state_of loan t slots)) (state_showing shows (state_of loan u slots)) → AreWholeControls (desk_of loan t []).windows state
    → AreLayersOf (items_of window state.controls) ls → AreWholeControls (desk_of loan u []).windows state
whole_set loan window ls afresh was shows t u slots state set whole joined =
    subst (λ ws. AreWholeControls ws state) (sym (ap (λ (d : FullDesk). d.windows) set.desk)) (whole_relayered window ls (desk_of loan t []).windows state whole joined)
