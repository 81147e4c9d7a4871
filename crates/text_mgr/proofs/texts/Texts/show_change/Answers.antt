use Rattle.std.proofs.Common.{SFits, w32, rules, sym, subst, ◌∙◌, ap}
use Rattle.std.specs.Prelude.{IfSome, slice_get}
use Rattle.std.proofs.lemmas.Int.{to_z-of_z}
use Rattle.text_mgr.specs.declared.changes.Change.TheVariants.{From}
use Rattle.text_mgr.specs.Changing.{IsShownSo}
use Rattle.text_mgr.specs.TextDesks.{KeptText}
use Rattle.text_mgr.proofs.texts.Texts.show_change.Goals as goal

pub returns-in-All : goal.returns-in-All
returns-in-All g c t is old so was slots whole showed = c.show_anew.ensures t is was slots whole

pub returns-in-From : goal.returns-in-From
returns-in-From g c t is old so =
    let row : SFits w32 c.in-From.row = search rules in
    let change = c.in-From.is ∙ ap From (sym (to_z-of_z w32 c.in-From.row row)) in
    c.show_from.ensures t is old (subst (λ change. IfSome (slice_get c.args.self.now.list.items.items c.args.spot.text) (λ (x : KeptText). IsShownSo change c.args.windows.now.font old x.kept)) change so)

pub returns-in-Selected : goal.returns-in-Selected
returns-in-Selected g c t is old so =
    c.show_selection.ensures t is old (subst (λ change. IfSome (slice_get c.args.self.now.list.items.items c.args.spot.text) (λ (x : KeptText). IsShownSo change c.args.windows.now.font old x.kept)) c.in-Selected.is so)
