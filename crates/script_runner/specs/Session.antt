-- What the commands of a script do to its desk, and what they answer.
use Rattle.std.specs.Prelude.{◌≡◌, ℕ, pos, nat_abs, Bool, true, false, not, List, [], Option, None, Some, is_none, Result, if◌then◌else◌}
use Rattle.tb_geom.specs.declared.point.Point.{Point}
use Rattle.tb_geom.specs.declared.refusal.Refusal.{Refusal}
use Rattle.tb_geom.specs.declared.refusal.Refusal.TheVariants.{NoSuchName, OutOfRange, Busy}
use Rattle.tb_geom.specs.Points.{PixelSet}
use Rattle.def_iface.specs.WindowSlots.{has_kind}
use Rattle.def_iface.specs.Stocks.{AllSlots}
use Rattle.desk_call.specs.declared.call.Call.TheVariants.{Window, Control, Menu}
use Rattle.desk_call.specs.declared.call.Call.TheVariants as asks
use Rattle.desk_call.specs.declared.control.ControlCall.TheVariants as controls
use Rattle.desk_call.specs.declared.list.ListCall.TheVariants as lists
use Rattle.desk_call.specs.declared.menu.MenuCall.TheVariants as menus
use Rattle.desk_call.specs.declared.window.WindowCall.TheVariants.{New, NewFloating}
use Rattle.desk_call.specs.declared.call.Reply.{Reply}
use Rattle.desk_call.specs.declared.activity.Activity.TheVariants.{Idle}
use Rattle.window_mgr.specs.FullDesk.{IsRightState}
use Rattle.window_mgr.specs.Begin.{empty_desk}
use Rattle.window_mgr.specs.Closing.{IsClosed}
use Rattle.control_mgr.specs.ControlClosing.{AreAllControlsClosed}
use Rattle.list_mgr.specs.ListClosing.{AreAllListsClosed}
use Rattle.list_mgr.specs.ListRefusals.{lacks_kind}
use Rattle.menu_mgr.specs.MenuClosing.{AreMenusClosed}
use Rattle.menu_mgr.specs.MenuRefusals.{menu_kind}
use Rattle.desk_toolbox.specs.EventSteps.{first_events}
use Rattle.desk_toolbox.specs.Fronts.{screen_of}
use Rattle.desk_toolbox.specs.Reached.{AreContentsRight}
use Rattle.desk_toolbox.specs.Run.{IsStep}
use Rattle.desk_toolbox.specs.ToolboxStates.{ToolboxState}
use Rattle.desk_ground.specs.Screens.{is_screen}
use Rattle.script_text.specs.declared.command.Command.{Command}
use Rattle.script_text.specs.declared.command.DeskSize.{DeskSize}
use Rattle.script_text.specs.declared.command.Command.TheVariants.{Version, Desk, Image, Call}
use Rattle.screen_pbm.specs.Pbm.{p1, p4}
use Rattle.line_words.specs.Replies.{done_text}
use Rattle.script_text.specs.Replies.{refused_text, reply_text}

-- the desk of a script: none so far, with this font and over these slots of the stock, or one in this state
pub data SessionState : Type 0 where
  unmade : List ℕ → AllSlots → SessionState
  made : ToolboxState → SessionState

-- a new desk of this size, with this font: it has no windows, no controls, no lists and no menus, no title is highlighted, nothing
-- of it is to be redrawn, it is right, as its controls and lists are, and nothing was posted or told
pub record IsNewDesk (size : DeskSize) (font : List ℕ) (stocks : AllSlots) (s : ToolboxState) : Type 0 where
  pub desk : s.desk.windows.desk ≡ empty_desk size.width size.height size.bar font stocks.windows
  pub idle : s.desk.activity ≡ Idle
  pub drawn : (p : Point) → s.desk.windows.stale p ≡ false
  pub right : IsRightState s.desk.windows
  pub contents : AreContentsRight s
  pub menus : s.menus ≡ record { menus = []; highlighted = None; stock = stocks.menus }
  pub controls : s.controls ≡ record { controls = []; next = Some 1; stock = stocks.controls }
  pub lists : s.lists ≡ record { lists = []; next = Some 1; stock = stocks.lists }
  pub texts : s.texts ≡ record { texts = []; next = Some 1; scrap = [] }
  pub events : s.events ≡ first_events

-- the desk that the first command makes: of the size that it asks for, and else of 512 by 342 with a menu bar of 20 rows
abbrev pub first_size : Command → DeskSize
first_size (Desk size) = size
first_size _ = record { width = pos 512; height = pos 342; bar = pos 20 }

-- whether the stock has a slot of the kind that a command names, if it names one; a new menu is of the one kind of menus, and
-- with a new list come its scroll bars, where it is to have some
abbrev pub is_known : Command → AllSlots → Bool
is_known (Call (Window (New w))) stocks = has_kind w.kind stocks.windows
is_known (Call (Window (NewFloating w))) stocks = has_kind w.kind stocks.windows
is_known (Call (Control (controls.New n))) stocks = has_kind n.kind stocks.controls
is_known (Call (asks.List (lists.New n))) stocks = not (lacks_kind n stocks.lists stocks.controls)
is_known (Call (Menu (menus.New n))) stocks = has_kind menu_kind stocks.menus
is_known _ stocks = true

-- whether a screen may have this size
abbrev pub may_be : DeskSize → Bool
may_be size = is_screen size.width size.height size.bar

-- why the first command makes no desk, want of memory aside
abbrev pub why_unmade : Command → AllSlots → Option Refusal
why_unmade command stocks = if is_known command stocks then (if may_be (first_size command) then None else Some OutOfRange) else Some NoSuchName

-- whether the command is the one that makes the desk
abbrev pub makes_desk : SessionState → Command → Bool
makes_desk (unmade font stocks) command = is_none (why_unmade command stocks)
makes_desk (made s) command = false

-- what is written of a reply: nothing in a raw run
abbrev pub reply_shown : Bool → List ℕ → List ℕ
reply_shown raw text = if raw then [] else text

-- the bytes of an image: P4 in a raw run, and else P1
abbrev pub image_shown : Bool → ℕ → ℕ → PixelSet → List ℕ
image_shown raw width height black = if raw then p4 width height black else p1 width height black

-- the bytes of the screen as an image
abbrev pub image_text : Bool → ToolboxState → List ℕ
image_text raw s = image_shown raw (nat_abs s.desk.windows.desk.width) (nat_abs s.desk.windows.desk.height) (screen_of s)

-- `raw` says whether a run is raw: whether it shows images alone
module _ (raw : Bool) where
  -- with a desk, the command may be answered so and leave this state; of a version a desk knows nothing
  abbrev pub Answers : ToolboxState → Command → List ℕ → ToolboxState → Type 0
  Answers s (Version number) text after = (text ≡ reply_shown raw done_text) × (after ≡ s)
  Answers s (Desk size) text after = (text ≡ reply_shown raw (refused_text Busy)) × (after ≡ s)
  Answers s Image text after = (text ≡ image_text raw s) × (after ≡ s)
  Answers s (Call call) text after = (answer : Result Reply Refusal) × IsStep call answer s after × (text ≡ reply_shown raw (reply_text answer))

  -- the answer of the command that made the desk: `ok` where it asked for nothing else
  abbrev pub FirstAnswers : ToolboxState → Command → List ℕ → ToolboxState → Type 0
  FirstAnswers s (Desk size) text after = (text ≡ reply_shown raw done_text) × (after ≡ s)
  FirstAnswers s command text after = Answers s command text after

  -- without a desk, the command is refused, or makes the desk and is then answered
  abbrev pub Opens : Option Refusal → List ℕ → AllSlots → Command → List ℕ → SessionState → Type 0
  Opens (Some e) font stocks command text new = (text ≡ reply_shown raw (refused_text e)) × (new ≡ unmade font stocks)
  Opens None font stocks command text new = (first : ToolboxState) × (after : ToolboxState) × IsNewDesk (first_size command) font stocks first
      × FirstAnswers first command text after × (new ≡ made after)

  -- the command may be answered so, and leave this
  abbrev pub Obeys : SessionState → Command → List ℕ → SessionState → Type 0
  Obeys (unmade font stocks) command text new = Opens (why_unmade command stocks) font stocks command text new
  Obeys (made s) command text new = (after : ToolboxState) × Answers s command text after × (new ≡ made after)

-- what the end of the session leaves of the stock: the definitions of the desk's windows, menus, controls and lists are closed
-- and back in their slots, and every other slot is as it was
abbrev pub LeavesStock : SessionState → AllSlots → Type 0
LeavesStock (unmade font stocks) left = left ≡ stocks
LeavesStock (made s) left =
    IsClosed s.desk.windows.desk.windows s.desk.windows.desk.stock left.windows
    × (AreMenusClosed s.menus.menus s.menus.stock left.menus
    × (AreAllControlsClosed s.controls.controls s.controls.stock left.controls × AreAllListsClosed s.lists.lists s.lists.stock left.lists))
