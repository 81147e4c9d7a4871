use Rattle.std.proofs.Common.{ap}
use Rattle.def_iface.specs.contracts.taken_window.TakenWindowDefined.TheImpl as taken
use Rattle.def_iface.specs.contracts.taken_menu.TakenMenuDefined.TheImpl as taken_menu
use Rattle.menu_mgr.specs.MenuDesks.{MenusState}
use Rattle.desk_toolbox.proofs.OutlineStands.{drags_now, outlining_selects_none, outlining_tracks_none}
use Rattle.desk_toolbox.proofs.OutlinesMade.{dropped_menus, outlined_updates, unshown}
use Rattle.desk_toolbox.proofs.toolbox.Toolbox.drop_window.Goals as goal

pub returns-clause-whole : goal.returns-clause-whole
returns-clause-whole g c =
    let old = c.args.self.now in
    let new = c.window_call.new.self in
    let whole = c.in-Err.ensures.whole in
    let refused = c.in-Err.ensures.step in
    let loan = (taken.loan-value g.dyn-1).it in
    let is = drags_now old.activity c.requires.dragged in
    let same = unshown loan old.windows new.windows _ _ _ _ refused.0.1.1 in
    let beside =
    dropped_menus loan (taken_menu.loan-value g.dyn-3).it old.windows new.windows old.menus new.menus old.front new.front _ _ _ _ old.activity same
    c.in-Err.ensures.aside.0 c.in-Err.ensures.front (ap (λ (m : MenusState). m.stock) refused.1.menus) (record { menus = c.requires.whole.managers.menus; front = c.requires.whole.managers.front }) in
    record {
      windows = whole.windows;
      updates = outlined_updates loan new.windows new.updates new.activity old.activity is whole.updates;
      controls = whole.controls;
      trackable = outlining_tracks_none old.activity _ is;
      menus = beside.menus;
      front = beside.front;
      lists = whole.lists;
      texts = whole.texts;
      selectable = outlining_selects_none old.activity _ is;
      known = whole.known;
    }
