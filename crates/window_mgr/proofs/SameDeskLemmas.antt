-- A window manager that gained room alone.
use Rattle.std.proofs.Common.{◌≡◌, ℕ, Bool, List, [], map, Result, Ok, Err, pos, refl, sym, ap, subst}
use Rattle.std.specs.Prelude.{All, OnErr}
use Rattle.std.specs.List.{insert}
use Rattle.tb_geom.specs.declared.refusal.Refusal.{Refusal}
use Rattle.tb_geom.specs.Pixels.{Pixels}
use Rattle.bit_map.specs.Bits.{Bits, bit}
use Rattle.def_iface.specs.Slots.{TakenBox}
use Rattle.def_iface.specs.WindowMeaning.{WindowDefinition, WindowLoan}
use Rattle.def_iface.specs.WindowSlots.{WindowSlot}
use Rattle.desk_call.specs.declared.window.NewWindow.{NewWindow}
use Rattle.desk_call.specs.declared.window.WindowCall.{WindowCall}
use Rattle.window_mgr.specs.declared.manager.WindowManager.{WindowManager}
use Rattle.vis_update.specs.declared.area.Area.{Area}
use Rattle.vis_update.specs.declared.plan.Plan.{Plan}
use Rattle.vis_update.specs.declared.plan.Touch.{Touch}
use Rattle.window_list.specs.Classes.{front_place}
use Rattle.window_list.specs.Lists.{floats}
use Rattle.window_mgr.specs.FullDesk.{FullDesk, FullState, layered_desk, layered_state}
use Rattle.vis_update.specs.Records.{record_of}
use Rattle.window_mgr.specs.Records.{desk_of, state_of}
use Rattle.window_paint.specs.White.{all_white}
use Rattle.vis_update.specs.Areas.{stale_in}
use Rattle.window_mgr.specs.Effects.{IsUnchanged, desk_with_new}
use Rattle.window_mgr.specs.Step.{IsCallRefused, IsWindowStep}
use Rattle.window_mgr.specs.Whole.{IsWholeManager, IsSettled, IsSoundDesk, AreFramesShown, LieThere}
use Rattle.vis_update.specs.Areas.{IsGray, IsDesktop, AreAreas}
use Rattle.window_mgr.specs.Planned.{SameDesk, IsPlanWith}
use Rattle.vis_update.specs.Plans.{IsPlan}
use Rattle.window_mgr.specs.Updating.{LeavesState}

-- the windows are settled as they were
pub settled_stay : {V : Type 0} {H : V → Type 0} (loan : TakenBox V H → WindowLoan) (t u : WindowManager V H) → SameDesk t u → All IsSettled (map (record_of loan) t.windows.records.items) → All IsSettled (map (record_of loan) u.windows.records.items)
settled_stay loan t u same settled = subst (λ ws. All IsSettled (map (record_of loan) ws)) (sym same.windows) settled

module _ {V : Type 0} {H : V → Type 0} (loan : TakenBox V H → WindowLoan) (t u : WindowManager V H) (slots back : List WindowSlot) (same : SameDesk t u) (kept : back ≡ slots) where
  desk_stays : desk_of loan u back ≡ desk_of loan t slots
  desk_stays = λ i. record {
    width = pos (ap (λ (s : Bits). s.width) same.screen i);
    height = pos (ap (λ (s : Bits). s.height) same.screen i);
    bar = same.bar i;
    font = same.font i;
    shows = all_white;
    windows = map (record_of loan) (same.windows i);
    active = same.active i;
    next = same.next i;
    stock = kept i;
  }

  pub state_stays : state_of loan u back ≡ state_of loan t slots
  state_stays = λ i. record { desk = desk_stays i; stale = stale_in (same.areas i); image = bit (same.screen i) }

  -- nothing changed
  pub stays_unchanged : IsUnchanged (state_of loan t slots) (state_of loan u back)
  stays_unchanged = record {
    desk = desk_stays;
    stale = λ p on. ap (λ (s : FullState). s.stale p) state_stays;
    image = λ p on. ap (λ (s : FullState). s.image p) state_stays;
  }

  -- what was whole is whole
  pub stays_whole : IsWholeManager loan t slots → IsWholeManager loan u back
  stays_whole whole = record {
    sound = subst IsSoundDesk (sym desk_stays) whole.sound;
    gray = subst (λ (x : FullDesk × Pixels). IsGray (layered_desk x.0) x.1) (λ i. (sym desk_stays i, sym same.gray i)) whole.gray;
    desktop = subst (λ (x : FullDesk × Pixels). IsDesktop (layered_desk x.0) x.1) (λ i. (sym desk_stays i, sym same.desktop i)) whole.desktop;
    areas = subst (λ (x : FullDesk × List Area). AreAreas (layered_desk x.0) (stale_in x.1) x.0.windows x.1) (λ i. (sym desk_stays i, sym same.areas i)) whole.areas;
    frames = subst AreFramesShown (sym state_stays) whole.frames;
    layers = subst (All LieThere) (sym same.windows) whole.layers;
  }

  -- what was planned is still right
  pub plan_stays : (floating : Bool) (w : NewWindow) (n : ℕ) (d : WindowDefinition) (touch : Touch) (plan : Plan) → IsPlanWith loan floating w n d touch t plan → IsPlanWith loan floating w n d touch u plan
  plan_stays floating w n d touch plan h slot begun regions old nowhere =
      subst (λ (x : FullState × Pixels × List Area). IsPlan touch (layered_state x.0) (layered_desk (desk_with_new floating w n slot begun x.0.desk)) x.1 x.2 (desk_with_new floating w n slot begun x.0.desk).windows plan)
      (λ i. (record (sym state_stays i) { desk = record (sym state_stays i).desk { stock = [] } }, sym same.desktop i, insert (sym same.areas i) (front_place floats floating (sym same.windows i)) old)) (h slot begun regions old nowhere)

  -- the same, where the window's number goes by another name
  pub plan_stays_by : (floating : Bool) (w : NewWindow) (k n : ℕ) (d : WindowDefinition) (touch : Touch) (plan : Plan) → k ≡ n → IsPlanWith loan floating w k d touch t plan → IsPlanWith loan floating w n d touch u plan
  plan_stays_by floating w k n d touch plan e h = plan_stays floating w n d touch plan (subst (λ j. IsPlanWith loan floating w j d touch t plan) e h)

-- a call that is refused and leaves the same desk makes its step
pub stays_refused : {V : Type 0} {H : V → Type 0} (loan : TakenBox V H → WindowLoan) (t u : WindowManager V H) → SameDesk t u → (call : WindowCall) (e : Refusal)
    → ((slots : List WindowSlot) → IsWholeManager loan t slots → IsCallRefused call e (state_of loan t slots)) → LeavesState loan (IsWindowStep call (Err e)) t u
stays_refused loan t u same call e refused slots whole =
    (stays_whole loan t u slots slots same refl whole, (refused slots whole, stays_unchanged loan t u slots slots same refl))

-- so does one that is refused and leaves all as it was
pub is_refused : {V : Type 0} {H : V → Type 0} (loan : TakenBox V H → WindowLoan) (t : WindowManager V H) (call : WindowCall) (e : Refusal)
    → ((slots : List WindowSlot) → IsWholeManager loan t slots → IsCallRefused call e (state_of loan t slots)) → LeavesState loan (IsWindowStep call (Err e)) t t
is_refused loan t call e refused slots whole = (whole, (refused slots whole, record { desk = refl; stale = λ p on. refl; image = λ p on. refl }))

-- what holds anyhow holds where a call is refused
pub on_refusal : {A : Type 0} (r : Result A Refusal) (P : Type 0) → P → OnErr r P
on_refusal (Ok a) P p = tt
on_refusal (Err e) P p = p
