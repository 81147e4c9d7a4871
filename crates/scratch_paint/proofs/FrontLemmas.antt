-- What lies in front, over the base image.
use Rattle.std.proofs.Common.{◌≡◌, ℕ, ℤ, true, List, [], pos, sym, ap, ◌∙◌, subst}
use Rattle.tb_geom.specs.declared.point.Point.{Point}
use Rattle.tb_geom.specs.declared.rect.Rect.{Rect}
use Rattle.bit_map.specs.Bits.{Bits, bit, on_map}
use Rattle.bit_map.proofs.BitsLemmas.{on_map-same}
use Rattle.bit_blit.specs.Draws.{Draws}
use Rattle.def_iface.specs.Slots.{TakenBox}
use Rattle.def_iface.specs.ControlMeaning.{ControlLoan}
use Rattle.def_iface.specs.ListMeaning.{ListLoan}
use Rattle.def_iface.specs.WindowMeaning.{WindowLoan}
use Rattle.def_iface.specs.MenuMeaning.{MenuLoan}
use Rattle.desk_layers.specs.Scratch.{scratch}
use Rattle.overlay.specs.Outlines.{outline_holds, outlined}
use Rattle.overlay.proofs.OutlineLemmas.{inverted}
use Rattle.desk_call.specs.declared.activity.Activity.{Activity}
use Rattle.desk_call.specs.declared.activity.Activity.TheVariants.{Dragging, Growing}
use Rattle.desk_call.specs.declared.activity.DraggedWindow.{DraggedWindow}
use Rattle.desk_call.specs.declared.activity.GrownWindow.{GrownWindow}
use Rattle.window_mgr.specs.declared.manager.WindowManager.{WindowManager}
use Rattle.window_mgr.specs.FullDesk.{layered_desk}
use Rattle.window_mgr.specs.Records.{desk_of, desk_showing}
use Rattle.window_paint.specs.White.{all_white}
use Rattle.control_mgr.specs.ControlDesks.{controls_show}
use Rattle.control_mgr.specs.WholeControls as controls
use Rattle.list_mgr.specs.ListDesks.{lists_show}
use Rattle.list_mgr.specs.WholeLists as lists
use Rattle.text_mgr.specs.TextDesks.{texts_show}
use Rattle.menu_mgr.specs.declared.menus.Menus.{Menus}
use Rattle.menu_mgr.specs.MenuDesks.{MenuRecord}
use Rattle.menu_mgr.specs.WholeMenus.{menus_of}
use Rattle.desk_toolbox.specs.declared.toolbox.Toolbox.{Toolbox}
use Rattle.desk_toolbox.specs.ToolboxStates.{ToolboxState}
use Rattle.desk_toolbox.specs.WholeToolbox.{toolbox_state}
use Rattle.scratch_paint.specs.Paints.{IsPaintedDesk}
use Rattle.desk_toolbox.specs.Boxed.{no_slots}
use Rattle.scratch_paint.specs.Screens.{IsFrontPainted, IsPaintedScreen}
use Rattle.scratch_paint.proofs.DifferenceLemmas.{front_alike, on_its_screen}

-- ---- the outline, painted over a base image

outline_painted : (bar : ℤ) (lines : List Rect) (base new : Bits) → Draws (outline_holds bar lines) inverted base new
    → (p : Point) → on_map new p ≡ true → bit new p ≡ outlined bar lines (bit base) p
outline_painted bar lines base new drawn p on = drawn.pixels p (sym (on_map-same base new p drawn.width drawn.height) ∙ on)

pub drag_painted : (font : List ℕ) (bar : ℤ) (d : DraggedWindow) (menus : List MenuRecord) (activity : Activity) (base new : Bits) → activity ≡ Dragging d
    → Draws (outline_holds bar d.outline) inverted base new → IsFrontPainted font bar activity menus base new
drag_painted font bar d menus activity base new is drawn = subst (λ a. IsFrontPainted font bar a menus base new) (sym is) (record {
  width = drawn.width;
  height = drawn.height;
  pixels = outline_painted bar d.outline base new drawn;
})

pub growth_painted : (font : List ℕ) (bar : ℤ) (g : GrownWindow) (menus : List MenuRecord) (activity : Activity) (base new : Bits) → activity ≡ Growing g
    → Draws (outline_holds bar g.outline) inverted base new → IsFrontPainted font bar activity menus base new
growth_painted font bar g menus activity base new is drawn = subst (λ a. IsFrontPainted font bar a menus base new) (sym is) (record {
  width = drawn.width;
  height = drawn.height;
  pixels = outline_painted bar g.outline base new drawn;
})

-- ---- what lies in front, over the base image that was painted from nothing

-- that was drawn over it
over_base : (s : ToolboxState) (base new : Bits) → IsPaintedDesk s.desk.windows.desk base
    → IsFrontPainted s.desk.windows.desk.font s.desk.windows.desk.bar.rows s.desk.activity s.menus.menus base new → IsPaintedScreen s new
over_base s base new painted shown = record {
  wide = ap pos shown.width ∙ painted.wide;
  high = ap pos shown.height ∙ painted.high;
  pixels = λ p on.
      let there = on_map-same base new p shown.width shown.height ∙ sym (on_its_screen s.desk.windows.desk base painted.wide painted.high p) ∙ on in
      shown.pixels p there ∙ front_alike s (bit base) (scratch (layered_desk s.desk.windows.desk)) p (painted.pixels p on);
}

-- and that is the screen of a Toolbox, where what was painted is its own
pub screen_painted : {V : Type 0} {H : V → Type 0} (loan : TakenBox V H → WindowLoan) {W : Type 0} {K : W → Type 0} (menu_loan : TakenBox W K → MenuLoan) {U : Type 0} {J : U → Type 0} (control_loan : TakenBox U J → ControlLoan) {X : Type 0} {L : X → Type 0} (list_loan : TakenBox X L → ListLoan)
    (t : Toolbox V U W X H J K L) (windows : WindowManager V H) (menus : Menus W K) (activity : Activity) (font : List ℕ) (bar : ℤ) (base new : Bits)
    → windows ≡ t.windows → menus ≡ t.menus → activity ≡ t.activity → font ≡ windows.font → bar ≡ windows.bar.rows
    → IsPaintedDesk (desk_showing (controls_show (lists_show (texts_show (λ font. all_white) t.texts.list.items.items) (lists.records_of list_loan t.lists)) (controls.records_of control_loan t.controls)) (desk_of loan windows [])) base
    → IsFrontPainted font bar activity (menus_of menu_loan menus.list.menus.items) base new
    → IsPaintedScreen (toolbox_state loan menu_loan control_loan list_loan t no_slots) new
screen_painted loan menu_loan control_loan list_loan t windows menus activity font bar base new same_windows same_menus same_activity letters rows painted shown =
    over_base (toolbox_state loan menu_loan control_loan list_loan t no_slots) base new
    (subst (λ w. IsPaintedDesk (desk_showing (controls_show (lists_show (texts_show (λ font. all_white) t.texts.list.items.items) (lists.records_of list_loan t.lists)) (controls.records_of control_loan t.controls)) (desk_of loan w [])) base) same_windows painted)
    (subst (λ (x : List ℕ × ℤ × Activity × List MenuRecord). IsFrontPainted x.0 x.1 x.2 x.3 base new)
    (λ i. ((letters ∙ ap (λ w. w.font) same_windows) i, (rows ∙ ap (λ w. w.bar.rows) same_windows) i, same_activity i, menus_of menu_loan (same_menus i).list.menus.items)) shown)
