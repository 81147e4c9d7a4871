-- A Toolbox that just began.
use Rattle.std.proofs.Common.{◌≡◌, ℕ, ℤ, List, [], map, Some, Result, Ok, Err, refl, ap, ◌∙◌, subst, sym}
use Rattle.std.specs.Prelude.{All, IfOk}
use Rattle.desk_call.specs.declared.activity.Activity.TheVariants.{Idle}
use Rattle.def_iface.specs.Slots.{TakenBox}
use Rattle.tb_geom.specs.Points.{PixelSet}
use Rattle.desk_layers.specs.declared.part.Part.{Part}
use Rattle.desk_layers.specs.Change as plain
use Rattle.def_iface.specs.ControlMeaning.{ControlLoan}
use Rattle.def_iface.specs.ListMeaning.{ListLoan}
use Rattle.window_paint.specs.White.{all_white}
use Rattle.control_mgr.specs.Seen.{all_seen}
use Rattle.control_mgr.specs.ControlDesks.{controls_show}
use Rattle.control_mgr.specs.WholeControls.{records_of}
use Rattle.list_mgr.specs.ListDesks.{lists_show}
use Rattle.list_mgr.specs.WholeLists as lists
use Rattle.list_mgr.specs.Seen as seen_lists
use Rattle.vis_update.specs.Records.{layered_window}
use Rattle.window_mgr.specs.Records.{state_of, state_showing}
use Rattle.def_iface.specs.WindowMeaning.{WindowLoan}
use Rattle.def_iface.specs.MenuMeaning.{MenuLoan}
use Rattle.def_iface.specs.WindowSlots.{WindowSlot, IsFull}
use Rattle.def_iface.specs.Stocks.{AllSlots, AreAllFull}
use Rattle.window_mgr.specs.Begin.{IsEmptyDesk}
use Rattle.window_mgr.specs.FullDesk.{FullDesk, FullState, IsRightState, layered_desk, layered_state, look_of}
use Rattle.text_mgr.specs.TextDesks.{texts_show}
use Rattle.menu_mgr.specs.declared.menus.Menus.{Menus}
use Rattle.menu_mgr.specs.WholeMenus.{AreNoMenus, menus_of}
use Rattle.desk_toolbox.specs.declared.events.Events.{Events}
use Rattle.desk_toolbox.specs.declared.toolbox.Toolbox.{Toolbox}
use Rattle.desk_toolbox.specs.EventSteps.{first_events}
use Rattle.desk_toolbox.specs.Reached.{IsJustBegun}
use Rattle.desk_toolbox.specs.WholeToolbox.{toolbox_state}

-- where there are no windows a right state is right, whatever is shown of controls, lists and text records
pub right_bare : (shows : List ℕ → Part → PixelSet) (s : FullState) → s.desk.windows ≡ [] → IsRightState s → IsRightState (state_showing shows s)
right_bare shows s none right = record {
  plain = subst plain.IsRight (λ i. record (layered_state s) { desk = record (layered_desk s.desk) { windows = same i } }) right.plain;
  serials = right.serials;
}
  where
    now : FullDesk
    now = (state_showing shows s).desk

    same : map (layered_window (look_of s.desk)) s.desk.windows ≡ map (layered_window (look_of now)) s.desk.windows
    same = ap (map (layered_window (look_of s.desk))) none ∙ sym (ap (map (layered_window (look_of now))) none)

module _ {V : Type 0} {H : V → Type 0} (loan : TakenBox V H → WindowLoan) {W : Type 0} {K : W → Type 0} (menu_loan : TakenBox W K → MenuLoan) {U : Type 0} {J : U → Type 0} (control_loan : TakenBox U J → ControlLoan) {X : Type 0} {L : X → Type 0} (list_loan : TakenBox X L → ListLoan) (width height bar : ℤ) (font : List ℕ) where
  has_just_begun : (t : Toolbox V U W X H J K L) (stocks : AllSlots) → AreAllFull stocks → IsEmptyDesk loan width height bar font t.windows stocks.windows → t.activity ≡ Idle → t.events ≡ first_events → AreNoMenus t.menus
      → t.controls.list.items.items ≡ [] → t.controls.list.next ≡ Some 1 → t.lists.list.items.items ≡ [] → t.lists.list.next ≡ Some 1
      → t.texts.list.items.items ≡ [] → t.texts.list.next ≡ Some 1 → t.texts.scrap ≡ [] → IsJustBegun (toolbox_state loan menu_loan control_loan list_loan t stocks)
  has_just_begun t stocks full empty idle events none bare next no_lists next_list no_texts next_text no_scrap =
      let windows = ap (λ (d : FullDesk). d.windows) empty.desk in
      record {
        right = right_bare (controls_show (lists_show (texts_show (λ font. all_white) t.texts.list.items.items) (lists.records_of list_loan t.lists)) (records_of control_loan t.controls)) (state_of loan t.windows stocks.windows) windows empty.right;
        windows = windows;
        stock = full.windows;
        active = ap (λ (d : FullDesk). d.active) empty.desk;
        next_window = ap (λ (d : FullDesk). d.next) empty.desk;
        idle = idle;
        controls = ap (all_seen control_loan) bare;
        next_control = next;
        held = full.controls;
        lists = ap (seen_lists.all_seen list_loan) no_lists;
        next_list = next_list;
        listed = full.lists;
        texts = no_texts;
        next_text = next_text;
        scrap = no_scrap;
        shown = refl;
        titles = ap (λ (d : FullDesk). d.bar.titles) empty.desk;
        menus = ap (menus_of menu_loan) none.none;
        kept = full.menus;
        highlighted = none.highlighted;
        events = events;
      }

  pub begins : {E : Type 0} (events : Events) (menus : Menus W K) (r : Result (Toolbox V U W X H J K L) E) → IfOk r (λ t. (slots : List WindowSlot) → All IsFull slots → IsEmptyDesk loan width height bar font t.windows slots)
      → IfOk r (λ t. t.activity ≡ Idle) → IfOk r (λ t. t.events ≡ events) → IfOk r (λ t. t.menus ≡ menus) → IfOk r (λ t. (t.controls.list.items.items ≡ []) × (t.controls.list.next ≡ Some 1))
      → IfOk r (λ t. (t.lists.list.items.items ≡ []) × (t.lists.list.next ≡ Some 1))
      → IfOk r (λ t. (t.texts.list.items.items ≡ []) × ((t.texts.list.next ≡ Some 1) × (t.texts.scrap ≡ []))) → events ≡ first_events → AreNoMenus menus
      → IfOk r (λ t. (stocks : AllSlots) → AreAllFull stocks → IsJustBegun (toolbox_state loan menu_loan control_loan list_loan t stocks))
  begins events menus (Ok t) empty idle kept same bare bare_lists bare_texts are_first none = λ stocks full.
      has_just_begun t stocks full (empty stocks.windows full.windows) idle (kept ∙ are_first) (subst AreNoMenus (sym same) none) bare.0 bare.1 bare_lists.0 bare_lists.1 bare_texts.0 bare_texts.1.0 bare_texts.1.1
  begins events menus (Err e) empty idle kept same bare bare_lists bare_texts are_first none = tt
