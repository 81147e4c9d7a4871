-- What the definitions of windows, of controls and of lists show, by what the records say.
use Rattle.std.proofs.Common.{◌≡◌, get_or, not, subst}
use Rattle.std.specs.Prelude.{All}
use Rattle.def_iface.specs.WindowMeaning.{WindowGoesBy}
use Rattle.def_iface.specs.WindowNews.{AllWindowNews}
use Rattle.def_iface.specs.ControlMeaning.{ControlGoesBy}
use Rattle.def_iface.specs.ListMeaning.{ListGoesBy}
use Rattle.vis_update.specs.Records.{WindowRecord, news_of}
use Rattle.window_mgr.specs.FullDesk.{FullDesk}
use Rattle.window_mgr.specs.Whole.{IsSoundDesk, IsSettled}
use Rattle.window_frame.specs.Followers.{Knows, AreInformed}
use Rattle.window_frame.specs.Followers.Flag.{Highlighting, Zooming}
use Rattle.control_mgr.specs.ControlDesks.{news_of_control}
use Rattle.list_mgr.specs.WholeLists.{cell_size}
use Rattle.desk_toolbox.specs.Reached.{AreContentsRight, IsConsistent, news_by_record}
use Rattle.desk_toolbox.specs.ToolboxStates.{ToolboxState}

goes_by_record : (w : WindowRecord) → IsSettled w → Knows Highlighting w → Knows Zooming w → WindowGoesBy (news_by_record w) w.definition
goes_by_record w settled highlighting zooming =
    let same : news_of w ≡ news_by_record w = λ i. record (news_of w) { highlighted = highlighting i; zoomed = zooming i } in
    subst (λ (all : AllWindowNews). WindowGoesBy all w.definition) same settled.goes_by

pub desk_goes_by_records : (desk : FullDesk) → IsSoundDesk desk → AreInformed desk.windows → All (λ w. WindowGoesBy (news_by_record w) w.definition) desk.windows
desk_goes_by_records desk sound informed = λ k d within.
    let w = get_or desk.windows k d in
    let knows = informed k d within in
    goes_by_record w (sound.settled k d within) knows.0 knows.1

pub windows_go_by_records : (s : ToolboxState) → IsConsistent s → All (λ w. WindowGoesBy (news_by_record w) w.definition) s.desk.windows.desk.windows
windows_go_by_records s h = λ k d within.
    let w = get_or s.desk.windows.desk.windows k d in
    let knows = h.informed k d within in
    let same : news_of w ≡ news_by_record w = λ i. record (news_of w) { highlighted = knows.0 i; zoomed = knows.1 i } in
    subst (λ (all : AllWindowNews). WindowGoesBy all w.definition) same (h.live k d within).goes_by

pub controls_go_by_records : (s : ToolboxState) → AreContentsRight s → All (λ c. ControlGoesBy (news_of_control c) c.kept.definition.definition) s.controls.controls
controls_go_by_records s right = λ k d within. (right.controls.settled k d within).goes_by

pub lists_go_by_records : (s : ToolboxState) → AreContentsRight s → All (λ l. ListGoesBy (cell_size l.kept.view) (not l.kept.flags.no_nil_hilite) l.kept.definition.definition) s.lists.lists
lists_go_by_records s right = λ k d within. (right.lists.settled k d within).goes_by
