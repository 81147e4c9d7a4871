use Rattle.std.proofs.Common.{◌≡◌, ◌<◌, true, sym, ap, ◌∙◌, length, subst}
use Rattle.std.specs.Prelude.{IfSome, slice_get}
use Rattle.std.specs.List.{list_all}
use Rattle.std.proofs.lemmas.Bool.{and_parts}
use Rattle.window_list.specs.Holders.{fits_at}
use Rattle.window_list.specs.Lists.{edit}
use Rattle.vis_update.proofs.PlaceLemmas.{placed_parts}
use Rattle.window_mgr.specs.Edits.{put_window}
use Rattle.window_mgr.proofs.EditSeats.{there_is, moved_anew, length-moved, read_moved, length-anew}
use Rattle.window_mgr.proofs.manager.WindowManager.put_anew.Goals as goal

pub set_stand-requires-clause-within : goal.set_stand-requires-clause-within
set_stand-requires-clause-within g c =
    let found = there_is c.args.self.now.windows.records.items c.args.edit.at c.requires.at in
    subst (λ n. c.args.edit.to < n) (sym (ap length c.move_to.ensures.items ∙ length-moved c.args.self.now.windows.records.items c.args.edit.at c.args.edit.to found.0 c.requires.at found.1)) c.requires.to

pub set_stand-requires-clause-placed : goal.set_stand-requires-clause-placed
set_stand-requires-clause-placed g c =
    let found = there_is c.args.self.now.windows.records.items c.args.edit.at c.requires.at in
    (placed_parts _ c.args.edit.place c.args.edit.size (and_parts _ _ (c.requires.placed found.0 found.1)).0).place_in

pub set_stand-requires-clause-fit : goal.set_stand-requires-clause-fit
set_stand-requires-clause-fit g c =
    let found = there_is c.args.self.now.windows.records.items c.args.edit.at c.requires.at in
    let fits = and_parts _ _ (c.requires.placed found.0 found.1) in
    subst (λ o. IfSome o (λ w. list_all (fits_at c.args.edit.place) w.layers.layers ≡ true))
    (sym (ap (λ ws. slice_get ws c.args.edit.to) c.move_to.ensures.items ∙ read_moved c.args.self.now.windows.records.items c.args.edit.at c.args.edit.to found.0 c.requires.at found.1 c.requires.to))
    fits.1

pub returns-clause-put : goal.returns-clause-put
returns-clause-put g c =
    let found = there_is c.args.self.now.windows.records.items c.args.edit.at c.requires.at in
    record {
      window = found.0;
      at = found.1;
      is =
          ap (λ l. l.records.items) c.set_stand.ensures
          ∙ ap (edit (put_window c.args.edit) c.args.edit.to) c.move_to.ensures.items
          ∙ moved_anew c.args.self.now.windows.records.items c.args.edit.at c.args.edit.to found.0 c.requires.at found.1 (put_window c.args.edit) c.requires.to;
    }

pub returns-clause-len : goal.returns-clause-len
returns-clause-len g c =
    let found = there_is c.args.self.now.windows.records.items c.args.edit.at c.requires.at in
    ap (λ l. length l.records.items) c.set_stand.ensures
    ∙ ap length (
    ap (edit (put_window c.args.edit) c.args.edit.to) c.move_to.ensures.items
    ∙ moved_anew c.args.self.now.windows.records.items c.args.edit.at c.args.edit.to found.0 c.requires.at found.1 (put_window c.args.edit) c.requires.to
    )
    ∙ length-anew c.args.self.now.windows.records.items c.args.edit.at c.args.edit.to (put_window c.args.edit found.0) c.requires.at
