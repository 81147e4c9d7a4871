-- One window put anew among the others, as the code does it.
use Rattle.std.specs.Prelude.{◌≡◌, ℕ, ◌<◌, Bool, true, List, [], length, map, Option, None, Some, All, Result, Ok, Err, slice_index_or}
use Rattle.std.specs.List.{insert, remove}
use Rattle.tb_geom.specs.Points.{minus}
use Rattle.tb_geom.specs.declared.point.Point.{Point}
use Rattle.tb_geom.specs.declared.refusal.Refusal.{Refusal}
use Rattle.tb_geom.specs.declared.refusal.Refusal.TheVariants.{NoMemory}
use Rattle.def_iface.specs.Slots.{TakenBox}
use Rattle.def_iface.specs.WindowMeaning.{WindowLoan}
use Rattle.def_iface.specs.WindowSlots.{WindowSlot}
use Rattle.desk_layers.specs.Desk.{IsDesk}
use Rattle.window_list.specs.declared.window.Window.{Window}
use Rattle.window_list.specs.Lists.{with_stand, relit}
use Rattle.vis_update.specs.declared.area.Area.{Area}
use Rattle.vis_update.specs.declared.plan.Plan.{Plan}
use Rattle.vis_update.specs.declared.plan.Seat.{Seat}
use Rattle.vis_update.specs.declared.plan.Touch.{Touch}
use Rattle.vis_update.specs.Records.{WindowRecord, record_of}
use Rattle.vis_update.specs.Seats.{stand_of}
use Rattle.vis_update.specs.Plans.{IsPlan, areas_then}
use Rattle.window_list.specs.Ranks.{moved_item}
use Rattle.window_mgr.specs.declared.arrange.Activates.{Activates}
use Rattle.window_mgr.specs.declared.arrange.Activation.{Activation}
use Rattle.window_mgr.specs.declared.arrange.Activation.TheVariants.{Stays, Becomes}
use Rattle.window_mgr.specs.declared.arrange.Edit.{Edit}
use Rattle.desk_call.specs.declared.window.WindowReply.{WindowReply}
use Rattle.desk_call.specs.declared.window.WindowReply.TheVariants.{Done}
use Rattle.window_mgr.specs.declared.manager.WindowManager.{WindowManager}
use Rattle.window_mgr.specs.FullDesk.{FullDesk, layered_desk, layered_state}
use Rattle.window_mgr.specs.Records.{desk_of, state_of}
use Rattle.window_mgr.specs.Arrange.{Arrangement, activation_of, active_after, put_behind}
use Rattle.tb_geom.specs.Refusals.{first_refusal}
use Rattle.window_mgr.specs.Refused.{behind_refusals, may_stand}
use Rattle.desk_call.specs.declared.window.SendBehind.{SendBehind}
use Rattle.window_mgr.specs.Finding.{front_of}
use Rattle.window_mgr.specs.Commits.{IsPlanDrawn}
use Rattle.window_mgr.specs.Effects.{IsArrangement, IsUnchanged}
use Rattle.window_mgr.specs.Seats.{AreSeatsOf}
use Rattle.window_mgr.specs.Whole.{IsSettled}

-- the record with the place, the size, the user state and the visibility of the edit
abbrev pub put_record : Edit → WindowRecord → WindowRecord
put_record e w = record w { place = e.place; size = e.size; user_state = e.user_state; shown = e.shown }

module _ {V : Type 0} {H : V → Type 0} where
  -- the window at this place of the list
  abbrev pub IsWindowAt : List (Window V H) → ℕ → Window V H → Type 0
  IsWindowAt ws i w = w ≡ slice_index_or ws i w

  -- the window of this serial stands at this place
  abbrev pub StandsAt : List (Window V H) → ℕ → ℕ → Type 0
  StandsAt ws s i = (i < length ws) × ((w : Window V H) → IsWindowAt ws i w → w.serial ≡ s)

  -- the window stays as it stands
  abbrev pub stays_put : ℕ → Window V H → Edit
  stays_put at w = record { at = at; to = at; place = w.place; size = w.size; user_state = w.user_state; shown = w.shown }

  -- the window, at the place, with the user state and as visible as the edit says
  abbrev pub put_window : Edit → Window V H → Window V H
  put_window e = with_stand e.place e.shown e.user_state

  -- one of the windows was put anew
  pub record IsPutAnew (e : Edit) (old new : List (Window V H)) : Type 0 where
    pub window : Window V H
    pub at : IsWindowAt old e.at window
    pub is : new ≡ insert (remove old e.at) e.to (put_window e window)

  -- the edit leaves the size
  abbrev pub SameSize : Edit → List (Window V H) → Type 0
  SameSize e ws = (w : Window V H) → IsWindowAt ws e.at w → e.size ≡ w.size

  -- the window at this place of the list goes there: its pixels move as far as it does, if they move, and else it stays
  -- where it is
  abbrev pub IsOnItsWay : ℕ → Point → Option Point → List (Window V H) → Type 0
  IsOnItsWay i there None ws = (w : Window V H) → IsWindowAt ws i w → there ≡ w.place
  IsOnItsWay i there (Some by) ws = (w : Window V H) → IsWindowAt ws i w → by ≡ minus there w.place

  -- the seats of the windows, one put anew
  pub record AreSeatsAfter (e : Edit) (ws : List (Window V H)) (areas : List Area) (seats : List (Seat V H)) : Type 0 where
    pub all : List (Seat V H)
    pub seat : Seat V H
    pub are : AreSeatsOf ws areas all
    pub at : seat ≡ slice_index_or all e.at seat
    pub is : seats ≡ insert (remove all e.at) e.to (record seat { place = e.place; size = e.size; shown = e.shown })

  -- the windows with this activation
  abbrev pub relit_all : Activation → Option ℕ → List (Window V H) → List (Window V H)
  relit_all Stays former ws = ws
  relit_all (Becomes s) former ws = map (relit former s) ws

-- `loan` says what a definition that was taken means
module _ {V : Type 0} {H : V → Type 0} (loan : TakenBox V H → WindowLoan) where
  -- the window at the place of an edit may be where it is to be
  abbrev pub IsPlaceable : Edit → List (Window V H) → Type 0
  IsPlaceable e ws = (w : Window V H) → IsWindowAt ws e.at w → may_stand e.place e.size (record_of loan w) ≡ true

  -- all windows will be settled
  abbrev pub AreSettledAfter : Edit → Activation → Option ℕ → List (Window V H) → Type 0
  AreSettledAfter e activation former ws = (w : Window V H) → IsWindowAt ws e.at w
      → All IsSettled (map (record_of loan) (relit_all activation former (insert (remove ws e.at) e.to (put_window e w))))

  -- the records of the windows once one was put anew
  abbrev pub records_put : Edit → Window V H → WindowManager V H → List WindowRecord
  records_put e w t = insert (map (record_of loan) (remove t.windows.records.items e.at)) e.to (put_record e (record_of loan w))

  -- a desk on which the windows stand as they do once one was put anew
  pub record IsDeskOfEdit (e : Edit) (t : WindowManager V H) (w : Window V H) (after : FullDesk) : Type 0 where
    pub distinct : IsDesk (layered_desk after)
    pub screen : layered_desk after ≡ record (layered_desk (desk_of loan t [])) { windows = (layered_desk after).windows }
    pub stands : map stand_of after.windows ≡ map stand_of (records_put e w t)
    pub layers : map (λ v. v.layers) after.windows ≡ map (λ v. v.layers) (records_put e w t)

  -- the plan is right for each such desk, where pixels move so far, and the window's frame is drawn whole or where it gains
  abbrev pub IsPlanOfEdit : Edit → Option Point → Bool → WindowManager V H → Plan → Type 0
  IsPlanOfEdit e by whole t plan = (w : Window V H) → IsWindowAt t.windows.records.items e.at w
      → (after : FullDesk) → IsDeskOfEdit e t w after
      → let touch : Touch = record { window = w.serial; by = by; whole = whole } in
      IsPlan touch (layered_state (state_of loan t [])) (layered_desk after) t.desktop (moved_item t.areas.items e.at e.to) after.windows plan

  -- nothing refuses that the window at this place goes behind another or to the back of its class, and that is this place of
  -- the others
  pub record IsPlaceBehind (b : SendBehind) (at : ℕ) (t : WindowManager V H) (to : ℕ) : Type 0 where
    pub unrefused : first_refusal (behind_refusals b (desk_of loan t [])) ≡ None
    pub low : to < length t.windows.records.items
    pub is : (w : Window V H) → IsWindowAt t.windows.records.items at w
        → put_behind b.behind (record_of loan w) (map (record_of loan) (remove t.windows.records.items at))
        ≡ insert (map (record_of loan) (remove t.windows.records.items at)) to (record_of loan w)

  -- one window was put anew, another or it became active where that is so, and the plan was drawn
  pub record IsCommitted (e : Edit) (activation : Activation) (plan : Plan) (by : Option Point)
      (old new : WindowManager V H) : Type 0 where
    pub window : Window V H
    pub at : IsWindowAt old.windows.records.items e.at window
    pub windows : new.windows.records.items
        ≡ relit_all activation old.windows.active (insert (remove old.windows.records.items e.at) e.to (put_window e window))
    pub drawn : IsPlanDrawn plan by old.font (map (record_of loan) new.windows.records.items) old.screen new.screen
    pub areas : new.areas.items ≡ areas_then (moved_item old.areas.items e.at e.to) plan.areas.items
    pub desktop : new.desktop ≡ plan.desktop
    pub bar : new.bar ≡ old.bar
    pub font : new.font ≡ old.font
    pub gray : new.gray ≡ old.gray
    pub active : new.windows.active ≡ active_after activation old.windows.active
    pub next : new.windows.next ≡ old.windows.next

  -- what the activation of the call comes to
  abbrev pub IsActivation : Edit → Activates → WindowManager V H → Activation → Type 0
  IsActivation e activates t activation = (w : Window V H) → IsWindowAt t.windows.records.items e.at w
      → activation ≡ activation_of activates w.serial t.windows.active (front_of (records_put e w t))

  -- what a call that puts one window anew answers and leaves
  abbrev pub IsRearranged : Edit → Activates → Option Point → Result WindowReply Refusal → WindowManager V H → WindowManager V H
      → List WindowSlot → Type 0
  IsRearranged e activates by (Ok answer) old new slots = (answer ≡ Done)
      × ((w : Window V H) → IsWindowAt old.windows.records.items e.at w
      → let arrangement : Arrangement = record { window = w.serial; by = by; windows = records_put e w old; activates = activates } in
      IsArrangement arrangement (state_of loan old slots) (state_of loan new slots))
  IsRearranged e activates by (Err refusal) old new slots =
      (refusal ≡ NoMemory) × IsUnchanged (state_of loan old slots) (state_of loan new slots)
