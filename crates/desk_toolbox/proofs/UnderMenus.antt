-- Whose a point of a window is that the code finds: the pulled menu's, or not.
use Rattle.std.proofs.Common.{◌≡◌, ℕ, Bool, true, false, ◌&&◌, List, [], map, Some, sym, ap, ◌∙◌}
use Rattle.std.specs.Prelude.{slice_get}
use Rattle.std.specs.Option.{option_map, option_map_or}
use Rattle.std.proofs.lemmas.Option.{slice_get-map, slice_get-get_or}
use Rattle.tb_geom.specs.declared.point.Point.{Point}
use Rattle.tb_geom.specs.Points.{plus}
use Rattle.tb_geom.specs.Rects.{in_plane}
use Rattle.def_iface.specs.Slots.{TakenBox}
use Rattle.def_iface.specs.ControlMeaning.{ControlLoan}
use Rattle.def_iface.specs.ListMeaning.{ListLoan}
use Rattle.def_iface.specs.WindowMeaning.{WindowLoan}
use Rattle.def_iface.specs.MenuMeaning.{MenuLoan}
use Rattle.def_iface.specs.WindowSlots.{WindowSlot}
use Rattle.def_iface.specs.Stocks.{AllSlots}
use Rattle.desk_call.specs.declared.control.PointInWindow.{PointInWindow}
use Rattle.window_list.specs.declared.window.Window.{Window}
use Rattle.vis_update.specs.Records.{record_of}
use Rattle.window_mgr.specs.Edits.{IsWindowAt, StandsAt}
use Rattle.window_mgr.specs.Finding.{record_with}
use Rattle.window_mgr.specs.Records.{desk_of, look_on}
use Rattle.window_mgr.specs.Whole.{IsWholeManager}
use Rattle.window_mgr.proofs.FindLemmas.{record_at}
use Rattle.menu_mgr.specs.Pulling.{is_pulled_at, pulled_of}
use Rattle.menu_mgr.specs.WholeMenus.{menus_of}
use Rattle.desk_toolbox.specs.declared.toolbox.Toolbox.{Toolbox}
use Rattle.desk_toolbox.specs.Fronts.{is_on_menu}
use Rattle.desk_toolbox.specs.Run.{is_under_menu}
use Rattle.desk_toolbox.specs.ToolboxStates.{ToolboxState}
use Rattle.desk_toolbox.specs.WholeToolbox.{toolbox_state}

module _ {V : Type 0} {H : V → Type 0} (loan : TakenBox V H → WindowLoan) {W : Type 0} {K : W → Type 0} (menu_loan : TakenBox W K → MenuLoan) {U : Type 0} {J : U → Type 0} (control_loan : TakenBox U J → ControlLoan) {X : Type 0} {L : X → Type 0} (list_loan : TakenBox X L → ListLoan)
    (t : Toolbox V U W X H J K L) (full : List WindowSlot) (whole : IsWholeManager loan t.windows full) (asked : PointInWindow) (at : ℕ) (stands : StandsAt t.windows.windows.records.items asked.window at)
    (x : Window V H) (read : IsWindowAt t.windows.windows.records.items at x) where
  its_record : record_with asked.window (map (record_of loan) t.windows.windows.records.items) ≡ Some (record_of loan x)
  its_record =
      let items = t.windows.windows.records.items in
      let its : slice_get (map (record_of loan) items) at ≡ Some (record_of loan x) =
      slice_get-map (record_of loan) items at ∙ ap (option_map (record_of loan)) (slice_get-get_or items at x stands.0 ∙ ap Some (sym read)) in
      ap (λ n. record_with n (map (record_of loan) items)) (sym (stands.1 x read))
      ∙ record_at (look_on t.windows) (map (record_of loan) items) at (record_of loan x) whole.sound.distinct its

  pub found_under : (covered : Bool) (pixel : Point) → in_plane asked.point ≡ true → pixel ≡ plus x.place asked.point
      → covered ≡ is_pulled_at (desk_of loan t.windows []) (pulled_of t.activity (menus_of menu_loan t.menus.list.menus.items)) pixel
      → (stocks : AllSlots) → covered ≡ is_under_menu (toolbox_state loan menu_loan control_loan list_loan t stocks) asked
  found_under covered pixel within place is stocks =
      let s : ToolboxState = toolbox_state loan menu_loan control_loan list_loan t stocks in
      is
      ∙ ap (is_pulled_at (desk_of loan t.windows []) (pulled_of t.activity (menus_of menu_loan t.menus.list.menus.items))) place
      ∙ sym (ap (λ b. b && option_map_or (λ w. is_on_menu s (plus w.place asked.point)) (record_with asked.window s.desk.windows.desk.windows) false) within
      ∙ ap (λ o. option_map_or (λ w. is_on_menu s (plus w.place asked.point)) o false) its_record)
