-- A call that arranges windows: what its plan, drawn, leaves.
use Rattle.std.proofs.Common.{◌≡◌, ◌==◌, ℕ, true, false, List, ℤ, pos, negsuc, refl, sym, ap, ◌∙◌, subst, arith, ◌&&◌}
use Rattle.std.specs.Prelude.{All}
use Rattle.std.proofs.lemmas.Bool.Decides.{nat_tests}
use Rattle.std.proofs.lemmas.Int.{ints}
use Rattle.tb_geom.specs.declared.point.Point.{Point}
use Rattle.tb_geom.specs.Pixels.{Pixels}
use Rattle.tb_geom.specs.Rects.{between}
use Rattle.bit_map.specs.Bits.{on_map, bit, is_below}
use Rattle.def_iface.specs.Slots.{TakenBox}
use Rattle.def_iface.specs.WindowMeaning.{WindowLoan}
use Rattle.def_iface.specs.WindowSlots.{WindowSlot}
use Rattle.desk_layers.specs.Desk as layers
use Rattle.desk_layers.specs.Desk.{LayeredDesk}
use Rattle.desk_layers.specs.Owner.{owner, own_bit, is_content}
use Rattle.desk_layers.specs.Owner.Owner.{Frame}
use Rattle.desk_layers.specs.Change as plain
use Rattle.window_mgr.specs.declared.manager.WindowManager.{WindowManager}
use Rattle.vis_update.specs.declared.area.Area.{Area}
use Rattle.vis_update.specs.declared.plan.Plan.{Plan}
use Rattle.vis_update.specs.declared.plan.Touch.{Touch}
use Rattle.window_mgr.specs.FullDesk.{FullDesk, layered_desk, layered_state, look_of}
use Rattle.window_mgr.specs.Records.{desk_of, state_of}
use Rattle.vis_update.specs.Areas.{stale_in}
use Rattle.window_mgr.specs.Commits.{IsPlanDrawn}
use Rattle.vis_update.specs.Touches.{change_of, draws_whole}
use Rattle.vis_update.specs.Plans.{IsPlan, areas_then}
use Rattle.window_mgr.specs.Whole.{IsWholeManager, IsSoundDesk, LieThere}
use Rattle.vis_update.specs.Areas.{IsGray, IsDesktop, AreAreas}
use Rattle.window_mgr.proofs.Committing.{IsReady, plain_is, image_is, on_same}
use Rattle.window_mgr.specs.Sparing.{IsSparing, Spares, moving_content}
use Rattle.window_mgr.proofs.Sparing.{is_sparing, sparing_by}
use Rattle.vis_update.proofs.UpdateLemmas.{areas_are, updated_is_stale}

-- two words for a column or a row of the screen
pub between-is_below : (n : ℕ) (x : ℤ) → between (pos 0) x (pos n) ≡ is_below n x
between-is_below n (pos k) = grind (arith, ints, nat_tests)
between-is_below n (negsuc k) = refl

module _ {V : Type 0} {H : V → Type 0} (loan : TakenBox V H → WindowLoan) where
  -- all that is known where a call arranged windows
  pub record IsArrangedCall (touch : Touch) (t new : WindowManager V H) (slots left : List WindowSlot) (after : FullDesk) (olds : List Area) (plan : Plan) : Type 0 where
    pub whole : IsWholeManager loan t slots
    pub screen : layered_desk after ≡ record (layered_desk (desk_of loan t slots)) { windows = (layered_desk after).windows }
    pub sound : IsSoundDesk after
    pub frames : (s : ℕ) (p : Point) → draws_whole touch s ≡ false → own_bit (layered_desk (desk_of loan t slots)) (Frame s) p ≡ own_bit (layered_desk after) (Frame s) p
    pub planned : IsPlan touch (layered_state (state_of loan t slots)) (layered_desk after) t.desktop olds after.windows plan
    pub drawn : IsPlanDrawn plan touch.by after.font after.windows t.screen new.screen
    pub desk_is : desk_of loan new left ≡ after
    pub areas : new.areas.items ≡ areas_then olds plan.areas.items
    pub desktop : new.desktop ≡ plan.desktop
    pub gray : new.gray ≡ t.gray
    pub lie : All LieThere new.windows.records.items

  module _ (touch : Touch) (t new : WindowManager V H) (slots left : List WindowSlot) (after : FullDesk) (olds : List Area) (plan : Plan) (N : IsArrangedCall touch t new slots left after olds plan) where
    on_before : (p : Point) → layers.on_screen (layered_desk (desk_of loan t slots)) p ≡ on_map t.screen p
    unfolding on_map
    on_before p = λ i. between-is_below t.screen.width p.h i && between-is_below t.screen.height p.v i

    ready : IsReady touch (state_of loan t slots) after t.desktop olds plan t.screen new.screen
    ready = record {
      screen = N.screen;
      distinct = N.sound.distinct;
      on = on_before;
      image = λ p. refl;
      shown = N.whole.frames;
      desktop_was = N.whole.desktop;
      frames = N.frames;
      planned = N.planned;
      drawn = N.drawn;
    }

    on_too : (p : Point) → layers.on_screen (layered_desk after) p ≡ true → layers.on_screen (layered_desk (desk_of loan t slots)) p ≡ true
    on_too p on = sym (on_same touch (state_of loan t slots) after t.desktop olds plan t.screen new.screen ready p) ∙ on

    pub is_left : (desk_of loan new left ≡ after) × plain.IsChanged (change_of touch) (layered_state (state_of loan t slots)) (layered_state (state_of loan new left))
    is_left = (
      N.desk_is,
      record {
        stale = subst (λ (d : LayeredDesk). (p : Point) → layers.on_screen d p ≡ true → stale_in new.areas.items p ≡ plain.stale_by (change_of touch) (layered_state (state_of loan t slots)) (owner d p) p) (sym (ap layered_desk N.desk_is))
            (λ p on. ap (λ a. stale_in a p) N.areas ∙ updated_is_stale (look_of after) (change_of touch) (layered_state (state_of loan t slots)) (layered_desk after) after.windows (areas_then olds plan.areas.items) p refl N.planned.areas on);
        image = subst (λ (d : LayeredDesk). (p : Point) → layers.on_screen d p ≡ true → bit new.screen p ≡ plain.image_by (change_of touch) (layered_state (state_of loan t slots)) d (owner d p) p) (sym (ap layered_desk N.desk_is))
            (λ p on. image_is touch (state_of loan t slots) after t.desktop olds plan t.screen new.screen ready p (on_too p on));
      },
    )

    pub is_whole : IsWholeManager loan new left
    is_whole = record {
      sound = subst IsSoundDesk (sym N.desk_is) N.sound;
      gray = subst (λ (x : FullDesk × Pixels). IsGray (layered_desk x.0) x.1) (λ i. (sym N.desk_is i, sym N.gray i)) (subst (λ (d : LayeredDesk). IsGray d t.gray) (sym N.screen) N.whole.gray);
      desktop = subst (λ (x : FullDesk × Pixels). IsDesktop (layered_desk x.0) x.1) (λ i. (sym N.desk_is i, sym N.desktop i)) N.planned.desktop_is;
      areas = subst (λ (x : FullDesk × List Area). AreAreas (layered_desk x.0) (stale_in x.1) x.0.windows x.1) (λ i. (sym N.desk_is i, sym N.areas i)) (areas_are (look_of after) (change_of touch) (layered_state (state_of loan t slots)) (layered_desk after) after.windows (areas_then olds plan.areas.items) refl N.planned.areas);
      frames = subst (λ (d : LayeredDesk). (p : Point) → layers.on_screen d p ≡ true → is_content (owner d p) ≡ false → bit new.screen p ≡ own_bit d (owner d p) p) (sym (ap layered_desk N.desk_is))
          (λ p on. plain_is touch (state_of loan t slots) after t.desktop olds plan t.screen new.screen ready p (on_too p on));
      layers = N.lie;
    }

    -- it writes no more than that on the screen
    pub spares : Spares loan touch.window touch.by t new
    spares = subst (λ (d : LayeredDesk). IsSparing (moving_content touch.window touch.by) (λ n. n == touch.window) (layered_desk (desk_of loan t slots)) d t.screen new.screen) (sym (ap layered_desk N.desk_is))
        (sparing_by touch (layered_desk (desk_of loan t slots)) (layered_desk after) t.screen new.screen (is_sparing touch (state_of loan t slots) after t.desktop olds plan t.screen new.screen ready))
