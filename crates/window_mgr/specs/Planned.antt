-- A window that is planned, and one that was added; an operation that may be drawn, and one that was; a window that got
-- another picture.
use Rattle.std.specs.Prelude.{◌≡◌, ◌⊎◌, ℕ, ◌+◌, ◌<◌, Bool, if◌then◌else◌, [], ◌∷◌, ◌++◌, length, map, set, Option, None, Some, IsSomeAnd, slice_get, vec_len, vec_capacity, true, ◌&&◌, ◌||◌, not}
use Rattle.std.specs.List.{insert}
use Rattle.tb_geom.specs.declared.refusal.Refusal.{Refusal}
use Rattle.tb_geom.specs.declared.refusal.Refusal.TheVariants.{NoMemory}
use Rattle.tb_geom.specs.Points.{minus}
use Rattle.tb_geom.specs.Pixels.{holds, Pixels}
use Rattle.tb_geom.specs.Rects.{rect_holds}
use Rattle.bit_blit.specs.Draws.{Draws}
use Rattle.draw_port.specs.declared.shapes.Op.{Op}
use Rattle.draw_port.specs.Ops.{op_value}
use Rattle.lent_ops.specs.OpRefs.{IsGood, IsMeant}
use Rattle.def_iface.specs.Slots.{TakenBox}
use Rattle.def_iface.specs.WindowMeaning.{WindowDefinition, WindowLoan, SameRegions, IsWithin, IsBegun}
use Rattle.window_list.specs.declared.window.Window.{Window}
use Rattle.window_list.specs.Classes.{front_place}
use Rattle.window_list.specs.Lists.{floats, with_new, serial_after}
use Rattle.vis_update.specs.declared.plan.Plan.{Plan}
use Rattle.vis_update.specs.declared.plan.Touch.{Touch}
use Rattle.vis_update.specs.declared.area.Area.{Area}
use Rattle.vis_update.specs.Areas.{IsNowhere}
use Rattle.vis_update.specs.Records.{record_of}
use Rattle.vis_update.specs.Plans.{IsPlan, areas_then}
use Rattle.desk_call.specs.declared.window.Drawing.{Drawing}
use Rattle.desk_call.specs.declared.window.NewPicture.{NewPicture}
use Rattle.desk_call.specs.declared.window.NewWindow.{NewWindow}
use Rattle.window_mgr.specs.declared.manager.WindowManager.{WindowManager}
use Rattle.window_mgr.specs.declared.new_window.Addition.{Addition}
use Rattle.window_mgr.specs.declared.new_window.Ticket.{Ticket}
use Rattle.window_mgr.specs.FullDesk.{layered_desk, layered_state}
use Rattle.window_mgr.specs.Records.{desk_of, state_of}
use Rattle.tb_geom.specs.Refusals.{first_refusal}
use Rattle.window_mgr.specs.Refused.{judged_refusals, most_operations}
use Rattle.window_mgr.specs.Commits.{IsPlanDrawn}
use Rattle.window_mgr.specs.Effects.{begins_active, first_news, new_record, desk_with_new}
use Rattle.window_mgr.specs.Whole.{LieThere}
use Rattle.tb_geom.specs.declared.point.Point.{Point}
use Rattle.window_paint.specs.Hidden.{is_hidden}

-- why a window is not planned: a refusal by its place, its title or the count of windows, or want of memory
abbrev pub IsUnplanned : NewWindow → Bool → ℕ → Option ℕ → Refusal → Type 0
IsUnplanned w placed count next e =
    (first_refusal (judged_refusals w placed count next) ≡ Some e)
    ⊎ ((first_refusal (judged_refusals w placed count next) ≡ None) × (e ≡ NoMemory))

-- what a new window does with the windows: it is drawn whole
abbrev pub new_touch : ℕ → Touch
new_touch serial = record {
  window = serial;
  by = None;
  whole = true;
}

module _ {V : Type 0} {H : V → Type 0} where
  -- the same desk, whatever room its lists have
  pub record SameDesk (old new : WindowManager V H) : Type 0 where
    pub screen : new.screen ≡ old.screen
    pub bar : new.bar ≡ old.bar
    pub font : new.font ≡ old.font
    pub gray : new.gray ≡ old.gray
    pub desktop : new.desktop ≡ old.desktop
    pub windows : new.windows.records.items ≡ old.windows.records.items
    pub areas : new.areas.items ≡ old.areas.items
    pub active : new.windows.active ≡ old.windows.active
    pub next : new.windows.next ≡ old.windows.next

  -- nothing but want of memory refuses the operation in the window at this place
  pub record MayDraw (d : Drawing) (t : WindowManager V H) (at : ℕ) : Type 0 where
    pub good : IsGood d.operation
    pub window : Window V H
    pub there : slice_get t.windows.records.items at ≡ Some window
    pub serial : window.serial ≡ d.window
    pub room : length window.picture < most_operations

  -- the window at this place has the operation, which was drawn on the pixels that its picture owns
  pub record IsDrawnAt (at : ℕ) (d : Drawing) (old new : WindowManager V H) : Type 0 where
    pub window : Window V H
    pub operation : Op
    pub there : slice_get old.windows.records.items at ≡ Some window
    pub meant : IsMeant d.operation operation
    pub windows : new.windows.records.items
        ≡ set old.windows.records.items at (record window { picture = window.picture ++ operation ∷ [] })
    pub pixels : IsSomeAnd (slice_get old.areas.items at) (λ area. Draws (λ p. holds area.visible p && not (is_hidden window p))
        (λ p value. op_value old.font operation (minus (minus p window.place) window.origin) value) old.screen new.screen)
    pub areas : new.areas.items ≡ old.areas.items
    pub bar : new.bar ≡ old.bar
    pub font : new.font ≡ old.font
    pub gray : new.gray ≡ old.gray
    pub desktop : new.desktop ≡ old.desktop
    pub active : new.windows.active ≡ old.windows.active
    pub next : new.windows.next ≡ old.windows.next

  -- the window at this place has the picture, all of which that shows is to be redrawn
  pub record IsPictureAt (at : ℕ) (n : NewPicture) (old new : WindowManager V H) : Type 0 where
    pub window : Window V H
    pub there : slice_get old.windows.records.items at ≡ Some window
    pub windows : new.windows.records.items
        ≡ set old.windows.records.items at (record window { picture = n.picture; origin = n.origin })
    pub areas : IsSomeAnd (slice_get old.areas.items at) (λ area. (update : Pixels)
        × ((p : Point) → holds update p ≡ (holds area.update p || (holds area.visible p && not (is_hidden window p))))
        × (new.areas.items ≡ set old.areas.items at (record area { update = update })))
    pub screen : new.screen ≡ old.screen
    pub bar : new.bar ≡ old.bar
    pub font : new.font ≡ old.font
    pub gray : new.gray ≡ old.gray
    pub desktop : new.desktop ≡ old.desktop
    pub active : new.windows.active ≡ old.windows.active
    pub next : new.windows.next ≡ old.windows.next

  -- where a new window is put in, by its class
  abbrev pub new_place : Bool → WindowManager V H → ℕ
  new_place floating t = front_place floats floating t.windows.records.items

  -- the serial and the title of the window
  pub record IsTicket (w : NewWindow) (t : WindowManager V H) (ticket : Ticket) : Type 0 where
    pub next : t.windows.next ≡ Some ticket.serial
    pub title : ticket.title.items ≡ w.title

-- `loan` says what a definition that was taken means
module _ {V : Type 0} {H : V → Type 0} (loan : TakenBox V H → WindowLoan) where
  -- all that changes on the screen once the window stands at the front of its class, whichever slot its definition has
  abbrev pub IsPlanWith : Bool → NewWindow → ℕ → WindowDefinition → Touch → WindowManager V H → Plan → Type 0
  IsPlanWith floating w serial d touch t plan = (slot : ℕ) (begun : WindowDefinition) → SameRegions d begun
      → let after = desk_with_new floating w serial slot begun (desk_of loan t []) in
      (old : Area) → IsNowhere old → IsPlan touch (layered_state (state_of loan t [])) (layered_desk after) t.desktop (insert t.areas.items (new_place floating t) old) after.windows plan

  -- nothing refuses the window with this definition any more, whose content then lies in the box of its structure
  pub record IsPlanned (floating : Bool) (w : NewWindow) (d : WindowDefinition) (t : WindowManager V H) (addition : Addition) : Type 0 where
    pub ticket : IsTicket w t addition.ticket
    pub touch : addition.touch ≡ new_touch addition.ticket.serial
    pub plan : IsPlanWith floating w addition.ticket.serial d addition.touch t addition.plan
    pub some : vec_len addition.plan.parts ≡ length t.windows.records.items + 1
    pub room : length t.windows.records.items < t.windows.records.capacity
    pub area_room : vec_len t.areas < vec_capacity t.areas
    pub within : IsWithin (d.content w.size) (rect_holds (d.bounds w.size))

  -- the window was put at the front of its class, and the plan was drawn
  pub record IsAdded (floating : Bool) (w : NewWindow) (serial : ℕ) (taken : WindowLoan) (touch : Touch) (plan : Plan)
      (old new : WindowManager V H) : Type 0 where
    pub record_is : Window V H
    pub begun : WindowDefinition
    pub live : IsBegun (first_news floating w) taken.definition begun
    pub seen : record_of loan record_is ≡ new_record floating w serial taken.slot begun
    pub there : LieThere record_is
    pub windows : new.windows.records.items ≡ with_new old.windows.active record_is old.windows.records.items
    pub area : Area
    pub nowhere : IsNowhere area
    pub areas : new.areas.items ≡ areas_then (insert old.areas.items (new_place floating old) area) plan.areas.items
    pub desktop : new.desktop ≡ plan.desktop
    pub drawn : IsPlanDrawn plan touch.by old.font (map (record_of loan) new.windows.records.items) old.screen new.screen
    pub bar : new.bar ≡ old.bar
    pub font : new.font ≡ old.font
    pub gray : new.gray ≡ old.gray
    pub active : new.windows.active ≡ (if begins_active floating w then Some serial else old.windows.active)
    pub next : new.windows.next ≡ serial_after serial
