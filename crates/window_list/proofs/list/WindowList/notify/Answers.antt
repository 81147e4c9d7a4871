use Rattle.std.proofs.Common.{◌≡◌, Some, sym, ap, ◌∙◌}
use Rattle.std.specs.Prelude.{slice_get}
use Rattle.std.proofs.lemmas.Option.{slice_get-get_or}
use Rattle.window_list.proofs.ChangeLemmas.{told_at}
use Rattle.window_list.proofs.list.WindowList.notify.Goals as goal

pub returns-clause-told : goal.returns-clause-told
returns-clause-told g c =
    let there : slice_get c.args.self.now.records.items c.args.at ≡ Some c.at_mut-window.result.now = slice_get-get_or _ _ _ c.requires.within ∙ ap Some (sym c.at_mut-window.ensures.value) in
    let told = c.told.ensures in
    rw there (told_at _ c.args.at c.args.change c.told.result c.at_mut-window.result.now c.keep.new.self c.told.new.self c.args.self.now.records.items c.requires.size c.keep.ensures told.stays told.size told.regions told.heard told.slot told.damage told.answered)
