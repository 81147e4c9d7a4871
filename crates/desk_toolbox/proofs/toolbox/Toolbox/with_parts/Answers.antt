use Rattle.std.proofs.Common.{rules, SFits, w32, ap}
use Rattle.std.proofs.lemmas.Int.{to_z-of_z}
use Rattle.def_iface.specs.contracts.taken_control.TakenControlDefined.TheImpl as taken_control
use Rattle.def_iface.specs.contracts.taken_list.TakenListDefined.TheImpl as taken_list
use Rattle.window_paint.specs.White.{all_white}
use Rattle.control_mgr.specs.Seen.{all_seen}
use Rattle.control_mgr.specs.ControlDesks.{controls_show}
use Rattle.control_mgr.specs.WholeControls.{records_of}
use Rattle.list_mgr.specs.ListDesks.{lists_show}
use Rattle.list_mgr.specs.WholeLists as whole_lists
use Rattle.text_mgr.specs.TextDesks.{texts_show}
use Rattle.menu_mgr.proofs.Stocks.{stocked_by_full}
use Rattle.desk_toolbox.proofs.Begun.{right_bare}
use Rattle.desk_toolbox.proofs.MenusBeside.{menus_begin}
use Rattle.desk_toolbox.proofs.UpdatesBeside.{updates_begin}
use Rattle.window_mgr.specs.FullDesk.{FullDesk}
use Rattle.list_mgr.specs.Seen as lists
use Rattle.desk_toolbox.proofs.ListStands.{no_lists_whole, no_texts_whole, none_known}
use Rattle.desk_toolbox.proofs.TrackedControls.{none_whole}
use Rattle.desk_toolbox.proofs.toolbox.Toolbox.with_parts.Goals as goal

pub returns-in-Ok-clause-begun : goal.returns-in-Ok-clause-begun
returns-in-Ok-clause-begun g c slots full =
    let fits_w : SFits w32 c.args.width = search rules in
    let fits_h : SFits w32 c.args.height = search rules in
    let fits_b : SFits w32 c.args.bar = search rules in
    let begun = simp to_z-of_z at c.in-Ok.ensures.begun in
    begun slots full

pub returns-in-Ok-clause-whole : goal.returns-in-Ok-clause-whole
returns-in-Ok-clause-whole g c stocks full =
    let fits_w : SFits w32 c.args.width = search rules in
    let fits_h : SFits w32 c.args.height = search rules in
    let fits_b : SFits w32 c.args.bar = search rules in
    let begun = simp to_z-of_z at c.in-Ok.ensures.begun in
    let empty = begun stocks.windows full.windows in
    let menus = menus_begin _ _ c.args.width c.args.height c.args.bar _ _ _ _ stocks.windows stocks.menus c.requires.menus c.requires.front empty (stocked_by_full stocks.menus full.menus) in
    let shows = controls_show (lists_show (texts_show (λ font. all_white) c.new-in-Ok-3.result.list.items.items) (whole_lists.records_of (taken_list.loan-value g.dyn-4).it c.new-in-Ok-2.result)) (records_of (taken_control.loan-value g.dyn-3).it c.new-in-Ok.result) in
    record {
      managers = record {
        windows = empty.whole;
        updates = updates_begin _ c.args.width c.args.height c.args.bar _ _ _ stocks.windows c.requires.width c.requires.height empty;
        controls = none_whole _ _ (ap (λ (d : FullDesk). d.windows) empty.desk) (ap (all_seen _) c.new-in-Ok.ensures.controls) c.new-in-Ok.ensures.next full.controls;
        trackable = tt;
        lists = no_lists_whole _ _ (ap (λ (d : FullDesk). d.windows) empty.desk) (ap (lists.all_seen _) c.new-in-Ok-2.ensures.lists) c.new-in-Ok-2.ensures.next full.lists;
        texts = no_texts_whole _ _ (ap (λ (d : FullDesk). d.windows) empty.desk) c.new-in-Ok-3.ensures.texts c.new-in-Ok-3.ensures.next;
        selectable = tt;
        known = none_known _ (ap (λ (d : FullDesk). d.windows) empty.desk);
        menus = menus.menus;
        front = menus.front;
      };
      right = right_bare shows _ (ap (λ (d : FullDesk). d.windows) empty.desk) empty.right;
    }

pub returns-in-Ok-clause-in_range : goal.returns-in-Ok-clause-in_range
returns-in-Ok-clause-in_range g c =
    let fits_w : SFits w32 c.args.width = search rules in
    let fits_h : SFits w32 c.args.height = search rules in
    let fits_b : SFits w32 c.args.bar = search rules in
    simp to_z-of_z at c.in-Ok.ensures.in_range

pub returns-in-Err-clause-refused : goal.returns-in-Err-clause-refused
returns-in-Err-clause-refused g c =
    let fits_w : SFits w32 c.args.width = search rules in
    let fits_h : SFits w32 c.args.height = search rules in
    let fits_b : SFits w32 c.args.bar = search rules in
    simp to_z-of_z at c.in-Err.ensures.refused
