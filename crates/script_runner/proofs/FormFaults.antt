-- Of the faults of a call's form, NoSuchName is that of a kind which the stock has not, and no other.
use Rattle.std.proofs.Common.{◌≡◌, pos, not, cond, Bool, true, false, [], Option, None, Some, sym, ap}
use Rattle.std.specs.Option.{option_eq}
use Rattle.tb_geom.specs.declared.refusal.Refusal.{Refusal}
use Rattle.tb_geom.specs.declared.refusal.Refusal.TheVariants.{BadRegion, BadSyntax, NoSuchName}
use Rattle.tb_geom.specs.contracts.refusal.RefusalPartialEq.TheImpl as refusals
use Rattle.def_iface.specs.Slots.{has_kind}
use Rattle.def_iface.specs.Stocks.{AllSlots}
use Rattle.desk_call.specs.declared.activity.Activity.TheVariants.{Idle}
use Rattle.desk_call.specs.declared.call.Call.{Call as Asked}
use Rattle.desk_call.specs.declared.call.Call.TheVariants.{Window, Update, Frame, Control, Menu, Outline, Event}
use Rattle.desk_call.specs.declared.call.Call.TheVariants as asks
use Rattle.desk_call.specs.declared.control.ControlCall.TheVariants as controls
use Rattle.desk_call.specs.declared.list.ListCall.TheVariants as lists
use Rattle.desk_call.specs.declared.menu.MenuCall.TheVariants as menus
use Rattle.desk_call.specs.declared.update.UpdateCall.TheVariants.{Invalidate, Validate}
use Rattle.desk_call.specs.declared.window.WindowCall.TheVariants.{New, NewFloating, Draw, Region}
use Rattle.window_mgr.specs.Begin.{empty_desk}
use Rattle.window_mgr.specs.Refused.{is_found}
use Rattle.list_mgr.specs.ListRefusals.{lacks_kind}
use Rattle.menu_mgr.specs.MenuRefusals.{menu_kind}
use Rattle.desk_toolbox.specs.EventSteps.{first_events}
use Rattle.desk_toolbox.specs.Run.{IsFormFault}
use Rattle.desk_toolbox.specs.ToolboxStates.{ToolboxState}
use Rattle.script_text.specs.declared.command.Command.TheVariants.{Call}
use Rattle.script_runner.specs.Session.{is_known}

-- some Toolbox over these slots
abbrev pub over : AllSlots → ToolboxState
over stocks = record {
  desk = record {
    windows = record { desk = empty_desk (pos 0) (pos 0) (pos 0) [] stocks.windows; stale = λ p. false; image = λ p. false };
    activity = Idle;
    begun = λ p. false;
  };
  controls = record { controls = []; next = None; stock = stocks.controls };
  lists = record { lists = []; next = None; stock = stocks.lists };
  texts = record { texts = []; next = None; scrap = [] };
  menus = record { menus = []; highlighted = None; stock = stocks.menus };
  events = first_events;
}

-- whether it is NoSuchName, as the code compares the two
abbrev is_unnamed : Option Refusal → Bool
is_unnamed form = option_eq refusals.eq-value.it form (Some NoSuchName)

by_kind : (has : Bool) (form : Option Refusal) → cond (not has) (Some NoSuchName) None ≡ form → has ≡ not (is_unnamed form)
by_kind true form is = ap (λ f. not (is_unnamed f)) is
by_kind false form is = ap (λ f. not (is_unnamed f)) is

by_lack : (lacks : Bool) (form : Option Refusal) → cond lacks (Some NoSuchName) None ≡ form → not lacks ≡ not (is_unnamed form)
by_lack true form is = ap (λ f. not (is_unnamed f)) is
by_lack false form is = ap (λ f. not (is_unnamed f)) is

-- bytes without their form are no name
by_bytes : (image region : Bool) (form : Option Refusal) → cond image (Some BadSyntax) (cond region (Some BadRegion) None) ≡ form → true ≡ not (is_unnamed form)
by_bytes true region form is = ap (λ f. not (is_unnamed f)) is
by_bytes false true form is = ap (λ f. not (is_unnamed f)) is
by_bytes false false form is = ap (λ f. not (is_unnamed f)) is

pub known_so : (call : Asked) (stocks : AllSlots) (form : Option Refusal) → IsFormFault call (over stocks) form → is_known (Call call) stocks ≡ not (is_unnamed form)
known_so (Window (New w)) stocks form is = by_kind (has_kind w.kind stocks.windows) form is
known_so (Window (NewFloating w)) stocks form is = by_kind (has_kind w.kind stocks.windows) form is
known_so (Window (Draw d)) stocks form (judged, found, is) = by_bytes (is_found BadSyntax judged) (is_found BadRegion judged) form is
known_so (Window (Region r)) stocks form (judged, found, is) = by_bytes (is_found BadSyntax judged) (is_found BadRegion judged) form is
known_so (Window _) stocks form is = by_bytes false false form is
known_so (Update (Invalidate m)) stocks form (judged, found, is) = by_bytes false (is_found BadRegion judged) form is
known_so (Update (Validate m)) stocks form (judged, found, is) = by_bytes false (is_found BadRegion judged) form is
known_so (Update _) stocks form is = by_bytes false false form is
known_so (Control (controls.New n)) stocks form is = by_kind (has_kind n.kind stocks.controls) form (sym is)
known_so (Control _) stocks form is = by_bytes false false form (sym is)
known_so (asks.List (lists.New n)) stocks form is = by_lack (lacks_kind n stocks.lists stocks.controls) form (sym is)
known_so (asks.List _) stocks form is = by_bytes false false form (sym is)
known_so (asks.Text _) stocks form is = by_bytes false false form (sym is)
known_so (Menu (menus.New n)) stocks form is = by_kind (has_kind menu_kind stocks.menus) form (sym is)
known_so (Menu _) stocks form is = by_bytes false false form (sym is)
known_so (Frame _) stocks form is = by_bytes false false form (sym is)
known_so (Outline _) stocks form is = by_bytes false false form (sym is)
known_so (Event _) stocks form is = by_bytes false false form (sym is)
