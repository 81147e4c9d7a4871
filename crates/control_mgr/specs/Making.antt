-- Controls that are made, as the code does it.
use Rattle.std.specs.Prelude.{◌≡◌, ◌⊎◌, ℕ, ◌+◌, ◌<◌, ◌≤◌, true, false, All, [], length, Option, None, Some, vec_capacity}
use Rattle.std.specs.List.{insert}
use Rattle.tb_geom.specs.declared.point.Point.{Point}
use Rattle.tb_geom.specs.declared.refusal.Refusal.{Refusal}
use Rattle.tb_geom.specs.declared.refusal.Refusal.TheVariants.{NoMemory}
use Rattle.tb_geom.specs.Pixels.{Pixels}
use Rattle.tb_geom.specs.Refusals.{first_refusal}
use Rattle.control_values.specs.Settings.{settled}
use Rattle.window_items.specs.Items.{count_of, serial_after}
use Rattle.desk_layers.specs.declared.part.Part.TheVariants as part
use Rattle.def_iface.specs.Slots.{TakenBox}
use Rattle.def_iface.specs.ControlMeaning.{ControlDefinition, ControlLoan}
use Rattle.desk_layers.specs.Desk.{same_part}
use Rattle.def_iface.specs.WindowMeaning.{WindowLoan}
use Rattle.window_list.specs.declared.layer.Layer.{Layer}
use Rattle.window_list.specs.Holders.{ArePartsApart, PlacedLayers}
use Rattle.desk_call.specs.declared.control.NewControl.{NewControl}
use Rattle.window_list.specs.declared.window.Window.{Window}
use Rattle.window_mgr.specs.declared.manager.WindowManager.{WindowManager}
use Rattle.window_mgr.specs.Edits.{IsWindowAt, StandsAt}
use Rattle.window_mgr.specs.Records.{desk_of}
use Rattle.window_mgr.specs.Relayered.{IsPlanOfLayers, MayHaveLayers}
use Rattle.control_mgr.specs.declared.controls.Controls.{Controls}
use Rattle.control_mgr.specs.declared.making.Addition.{Addition}
use Rattle.control_mgr.specs.declared.making.Ticket.{Ticket}
use Rattle.control_mgr.specs.ControlRefusals.{judged_refusals, most_controls}
use Rattle.control_mgr.specs.ControlSteps.{IsLayerOf, new_control}
use Rattle.control_mgr.specs.Judged.{may_be_placed}
use Rattle.control_mgr.specs.Planned.{IsLaidSo}
use Rattle.control_mgr.specs.WholeControls.{AreBeside, records_of}

module _ {V : Type 0} {H : V → Type 0} (loan : TakenBox V H → WindowLoan) {W : Type 0} {K : W → Type 0} (control_loan : TakenBox W K → ControlLoan) where
  -- why a control with this definition, or none, may not be made beside these windows
  abbrev pub judged_by : NewControl → Option ControlDefinition → WindowManager V H → Controls (TakenBox W K) → Option Refusal
  judged_by n d t m = first_refusal (judged_refusals n d (desk_of loan t []) (records_of control_loan m) m.list.next)

  -- a new control is refused for this, or for want of memory where nothing else refuses it
  abbrev pub IsNotAdded : NewControl → ControlDefinition → WindowManager V H → Controls (TakenBox W K) → Refusal → Type 0
  IsNotAdded n d t m e = (judged_by n (Some d) t m ≡ Some e) ⊎ ((judged_by n (Some d) t m ≡ None) × (e ≡ NoMemory))

-- nothing but the room for controls is another, and there is no less of it
pub record IsRoomier {D : Type 0} (old new : Controls D) : Type 0 where
  pub controls : new.list.items.items ≡ old.list.items.items
  pub next : new.list.next ≡ old.list.next
  pub alloc : new.alloc ≡ old.alloc
  pub room : vec_capacity old.list.items ≤ vec_capacity new.list.items

-- ---- plans

-- a layer for the control of this ticket may be put among these: they are apart, none is a control's of its serial, and the
-- control may lie where their window does
pub record MayGrow (n : NewControl) (d : ControlDefinition) (k : Ticket) (ls : PlacedLayers) : Type 0 where
  pub index : k.layer ≤ length ls.layers
  pub apart : ArePartsApart ls.layers
  pub unused : All (λ l. same_part l.part (part.Control k.serial) ≡ false) ls.layers
  pub placed : may_be_placed (Some d) n.place n.size ls.place ≡ true

-- these layers with the one of the control of this ticket, and they are apart
pub record IsGrown (n : NewControl) (d : ControlDefinition) (k : Ticket) (ls : PlacedLayers) (a : Addition) : Type 0 where
  pub ticket : a.ticket ≡ k
  pub layer : Layer
  pub is : (slot : ℕ) → IsLayerOf (new_control n k.serial slot d) layer
  pub layers : a.layers ≡ record ls { layers = insert ls.layers k.layer layer }
  pub apart : ArePartsApart a.layers.layers

module _ {V : Type 0} {H : V → Type 0} {W : Type 0} {K : W → Type 0} (control_loan : TakenBox W K → ControlLoan) where
  -- what a new control is given, where it may lie in its window, which has room for it
  pub record IsTicket (n : NewControl) (d : Option ControlDefinition) (t : WindowManager V H) (m : Controls (TakenBox W K)) (k : Ticket) : Type 0 where
    pub window : StandsAt t.windows.records.items n.window k.window
    pub placed : (w : Window V H) → IsWindowAt t.windows.records.items k.window w → may_be_placed d n.place n.size w.place ≡ true
    pub serial : m.list.next ≡ Some k.serial
    pub values : k.values ≡ settled n.minimum n.maximum n.value
    pub title : k.title ≡ n.title
    pub layer : k.layer ≡ count_of n.window (records_of control_loan m)
    pub few : k.layer < most_controls

module _ {V : Type 0} {H : V → Type 0} (loan : TakenBox V H → WindowLoan) {W : Type 0} {K : W → Type 0} (control_loan : TakenBox W K → ControlLoan) where
  -- windows and controls to which the control of this ticket can be added as it was planned beside the windows `t`: its window has
  -- these layers, of it this is to be redrawn, and there is room
  pub record IsReadyToAdd (n : NewControl) (d : ControlDefinition) (k : Ticket) (ls : PlacedLayers) (update : Pixels) (t u : WindowManager V H) (m : Controls (TakenBox W K)) : Type 0 where
    pub laid : IsLaidSo loan k.window ls update t u
    pub beside : AreBeside control_loan loan u m
    pub ticket : IsTicket control_loan n (Some d) u m k
    pub room : length m.list.items.items < vec_capacity m.list.items

  -- the layers of the window with the new control behind the other controls, and what changes by them on the screen
  pub record IsAddition (n : NewControl) (d : ControlDefinition) (t : WindowManager V H) (m : Controls (TakenBox W K)) (a : Addition) : Type 0 where
    pub ticket : IsTicket control_loan n (Some d) t m a.ticket
    pub layer : Layer
    pub is : (slot : ℕ) → IsLayerOf (new_control n a.ticket.serial slot d) layer
    pub layers : (w : Window V H) → IsWindowAt t.windows.records.items a.ticket.window w → a.layers.layers ≡ insert w.layers.layers a.ticket.layer layer
    pub low : a.ticket.layer < length a.layers.layers
    pub may : MayHaveLayers a.ticket.window t a.layers
    pub planned : IsPlanOfLayers loan a.ticket.window a.layers.layers (Some (part.Control a.ticket.serial)) t a.relaying
    pub room : length m.list.items.items < vec_capacity m.list.items

-- a ticket of the control that is added to the same window next after one with the ticket `k`, where the window's layers have this
-- place and room for both: it has the serial after that, and the layer behind
pub record IsTicketAfter (k : Ticket) (place : Point) (n : NewControl) (d : Option ControlDefinition) (l : Ticket) : Type 0 where
  pub window : l.window ≡ k.window
  pub placed : may_be_placed d n.place n.size place ≡ true
  pub serial : serial_after k.serial ≡ Some l.serial
  pub values : l.values ≡ settled n.minimum n.maximum n.value
  pub title : l.title ≡ n.title
  pub layer : l.layer ≡ k.layer + 1
  pub few : l.layer < most_controls
