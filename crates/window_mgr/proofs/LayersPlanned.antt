-- The plan of other layers of a window: what of them is drawn afresh, and what changes on the screen.
use Rattle.std.proofs.Common.{◌≡◌, ℕ, ◌<◌, ◌&&◌, List, [], length, Option, None, Some, Result, sym, ap, ◌∙◌, subst}
use Rattle.std.specs.Prelude.{IfOk, get_or}
use Rattle.std.specs.Borrow.{Bor}
use Rattle.std.specs.declared.alloc.AllocError.{AllocError}
use Rattle.std.proofs.lemmas.Result.{IfOk-weaker}
use Rattle.tb_geom.specs.declared.point.Point.{Point}
use Rattle.tb_geom.specs.Points.{minus}
use Rattle.tb_geom.specs.Pixels.{Pixels, holds}
use Rattle.desk_layers.specs.declared.part.Part.{Part}
use Rattle.def_iface.specs.Slots.{TakenBox}
use Rattle.def_iface.specs.WindowMeaning.{WindowLoan}
use Rattle.desk_layers.specs.Desk.{LayeredDesk}
use Rattle.desk_layers.specs.Change.{State}
use Rattle.window_list.specs.declared.layer.Layer.{Layer}
use Rattle.window_list.specs.declared.layers.Relaid.{Relaid}
use Rattle.window_list.specs.Holders.{PlacedLayers, belongs_to}
use Rattle.window_list.specs.LayerChanges.{is_drawn_afresh}
use Rattle.vis_update.specs.declared.area.Area.{Area}
use Rattle.vis_update.specs.declared.relaying.Relaying.{Relaying}
use Rattle.vis_update.specs.Areas.{stale_in}
use Rattle.vis_update.specs.Relayings.{AreOfContent, IsRelayered, IsRelaid, IsDrawn, IsGained, region_has}
use Rattle.window_list.specs.declared.window.Window.{Window}
use Rattle.window_mgr.specs.declared.manager.WindowManager.{WindowManager}
use Rattle.window_mgr.specs.Edits.{IsWindowAt}
use Rattle.window_mgr.specs.FullDesk.{layered_state}
use Rattle.window_mgr.specs.Records.{state_of}
use Rattle.window_mgr.specs.Relayered.{HasUpdate, IsPartAt, MayHaveLayers, IsGainedAt, IsPlanOfLayers}
use Rattle.window_mgr.proofs.EditSeats.{there_is}
use Rattle.window_mgr.proofs.Remarked as remarked

-- ---- what is drawn afresh

-- of layers at a place, the region has the one at this index, if one is given
abbrev pub AreDrawn : PlacedLayers → Option ℕ → Option (Bor Pixels) → Type 0
AreDrawn ls afresh drawn = (part : Option Part) → IsPartAt ls.layers afresh part → IsDrawn ls.place part ls.layers drawn

-- what the layer at an index owns
pub some_drawn : (ls : PlacedLayers) (i : ℕ) (owned : Bor Pixels) (afresh : Option ℕ) (drawn : Option (Bor Pixels)) → i < length ls.layers → afresh ≡ Some i → drawn ≡ Some owned
    → ((l : Layer) → l ≡ get_or ls.layers i l → (p : Point) → holds owned.now p ≡ belongs_to l.part ls.layers (minus p ls.place)) → AreDrawn ls afresh drawn
some_drawn ls i owned afresh drawn low is drawn_is has part part_is p =
    let l = there_is ls.layers i low in
    let its : part ≡ Some l.0.part = subst (λ x. IsPartAt ls.layers x part) is part_is l.0 l.1 in
    ap (λ d. region_has d p) drawn_is ∙ has l.0 l.1 p ∙ sym (ap (λ x. is_drawn_afresh x ls.layers (minus p ls.place)) its)

-- where there is no index, nothing
pub none_drawn : (ls : PlacedLayers) (afresh : Option ℕ) (drawn : Option (Bor Pixels)) → afresh ≡ None → drawn ≡ None → AreDrawn ls afresh drawn
none_drawn ls afresh drawn is drawn_is part part_is p =
    ap (λ d. region_has d p) drawn_is ∙ sym (ap (λ x. is_drawn_afresh x ls.layers (minus p ls.place)) (subst (λ x. IsPartAt ls.layers x part) is part_is))

-- ---- the plan

module _ {V : Type 0} {H : V → Type 0} (loan : TakenBox V H → WindowLoan) (t : WindowManager V H) (at : ℕ) (a : Area) (read : a ≡ get_or t.areas.items at a) (update : Pixels) where
  -- the plan of other layers of the window at this place is one where as much of its content is visible, and this is to be
  -- redrawn
  pub planned : (relaid : Relaid) (afresh : Option ℕ) (drawn : Option (Bor Pixels)) (result : Result Relaying AllocError) → AreDrawn relaid.layers afresh drawn
      → IfOk result (λ r. (n : ℕ) (place : Point) (part : Option Part) (old new : List Layer) (before : State) (after : LayeredDesk)
      → AreOfContent before n a.visible update → IsGained place part old new relaid.gained → IsDrawn place part new drawn → IsRelayered n place old new before.desk after
      → IsRelaid n part before after r)
      → IfOk result (λ r. (u : WindowManager V H) → HasUpdate loan at update t u → MayHaveLayers at u relaid.layers
      → (part : Option Part) → IsPartAt relaid.layers.layers afresh part → IsGainedAt at part u relaid → IsPlanOfLayers loan at relaid.layers.layers part u r)
  planned relaid afresh drawn result draws plan =
      IfOk-weaker result _ (λ r. (u : WindowManager V H) → HasUpdate loan at update t u → MayHaveLayers at u relaid.layers
      → (part : Option Part) → IsPartAt relaid.layers.layers afresh part → IsGainedAt at part u relaid → IsPlanOfLayers loan at relaid.layers.layers part u r)
      (λ r its u has may part part_is gains w w_is after relayered. its w.serial w.place part w.layers.layers relaid.layers.layers (layered_state (state_of loan u [])) after
      (of_content u has w w_is) (gains w w_is)
      (subst (λ place. IsDrawn place part relaid.layers.layers drawn) (may.there w w_is) (draws part part_is)) relayered) plan
    where
      of_content : (u : WindowManager V H) → HasUpdate loan at update t u → (w : Window V H) → IsWindowAt u.windows.records.items at w → AreOfContent (layered_state (state_of loan u [])) w.serial a.visible update
      of_content u has w w_is =
          let b = there_is u.areas.items at (remarked.area_there loan u has.kept at has.low) in
          let its = remarked.area_is loan u has.kept.slots has.kept.whole at has.low w w_is b.0 b.1 in
          record {
            owned = λ p. has.shown a b.0 read b.1 p ∙ its.visible p;
            waiting = λ p. has.stale b.0 b.1 p ∙ its.update p ∙ ap (λ x. x && stale_in u.areas.items p) (sym (has.shown a b.0 read b.1 p));
          }
