use Rattle.std.proofs.Common.{ap, sym, ◌∙◌, subst}
use Rattle.std.specs.Prelude.{IfSome}
use Rattle.std.proofs.lemmas.Bool.{and_parts}
use Rattle.tb_geom.specs.Rects.{is_in_range}
use Rattle.control_mgr.specs.Seen.{seen}
use Rattle.def_iface.specs.contracts.taken_control.TakenControlDefined.TheImpl as control
use Rattle.def_iface.specs.ControlMeaning.{is_control_size}
use Rattle.def_iface.proofs.FurtherHearing.{control_hears_then, control_regions_then}
use Rattle.control_mgr.specs.Spots.{IsTellable}
use Rattle.control_mgr.proofs.Places.{record_read}
use Rattle.control_mgr.specs.Damages.{HoldsDamages, IsAnswerOf}
use Rattle.control_mgr.proofs.Told.{all_answered, all_damaged, damaged_at, heard_title, placed_answer, told_at}
use Rattle.control_mgr.proofs.telling.Controls+TakenControl.tell.Goals as goal

pub returns-clause-told : goal.returns-clause-told
returns-clause-told g c =
    let x = c.index_mut-item.result.now in
    let size = c.told-resized.ensures in
    let title = c.told-titled.ensures in
    let setting = c.told-set.ensures in
    let highlight = c.told-highlighted.ensures in
    told_at _ c.args.self.now.list.items.items c.args.at x _ c.requires.at c.index_mut-item.ensures.value
    (record {
      live = highlight.stays;
      told = highlight.size ∙ setting.size ∙ title.size ∙ size.size;
      regions = control_regions_then size.regions (control_regions_then title.regions (control_regions_then setting.regions highlight.regions));
      heard = heard_title x.kept.size x.kept.title c.as_slice.result.now x.kept.values x.kept.highlight _ _ c.as_slice.ensures.same
          (control_hears_then size.heard (control_hears_then title.heard (control_hears_then setting.heard highlight.heard)));
    })
    (highlight.slot ∙ setting.slot ∙ title.slot ∙ size.slot)

pub returns-clause-damage : goal.returns-clause-damage
returns-clause-damage g c =
    let x = c.index_mut-item.result.now in
    let size = c.told-resized.ensures in
    let title = c.told-titled.ensures in
    let setting = c.told-set.ensures in
    let highlight = c.told-highlighted.ensures in
    let regions = control_regions_then size.regions (control_regions_then title.regions (control_regions_then setting.regions highlight.regions)) in
    let control_loan = (control.loan-value g.dyn-1).it in
    let tellable : IsTellable (seen control_loan x) = subst (λ o. IfSome o IsTellable) (record_read control_loan c.args.self.now.list.items.items c.args.at x c.requires.at c.index_mut-item.ensures.value) c.requires.tellable in
    damaged_at control_loan c.args.self.now.list.items.items c.args.at x _ c.union-damage.result c.bounds-bounds.result c.sect-shared.result c.plane.result c.placed_within.result
    c.requires.at c.index_mut-item.ensures.value
    (all_damaged _ _ _ _ _ c.told-resized.result c.told-titled.result c.told-set.result c.told-highlighted.result c.union-former.result c.union-latter.result c.union-damage.result
    size.damage title.damage setting.damage highlight.damage c.union-former.ensures.exact c.union-latter.ensures.exact c.union-damage.ensures.exact)
    (c.bounds-bounds.ensures.value ∙ ap (λ f. f x.kept.size) regions.bounds)
    (ap is_in_range (c.bounds-bounds.ensures.value ∙ ap (λ f. f x.kept.size) regions.bounds) ∙ (and_parts (is_control_size x.kept.size) _ tellable.fits).1)
    (λ p e. c.bounds-bounds.ensures.exact.holds p (ap (λ f. f x.kept.size p) regions.region ∙ e))
    c.sect-shared.ensures.pixels c.plane.ensures c.placed_within.ensures

pub returns-clause-answered : goal.returns-clause-answered
returns-clause-answered g c =
    let x = c.index_mut-item.result.now in
    let size = c.told-resized.ensures in
    let title = c.told-titled.ensures in
    let setting = c.told-set.ensures in
    let highlight = c.told-highlighted.ensures in
    let control_loan = (control.loan-value g.dyn-1).it in
    subst (λ o. IfSome o (IsAnswerOf c.placed_within.result)) (sym (record_read control_loan c.args.self.now.list.items.items c.args.at x c.requires.at c.index_mut-item.ensures.value))
    (λ r held.
    placed_answer x.kept.place c.union-damage.result c.bounds-bounds.result c.sect-shared.result c.plane.result c.placed_within.result r c.sect-shared.ensures.pixels c.placed_within.ensures
    (all_answered _ _ _ _ x.kept.size c.as_slice.result x.kept.values x.kept.highlight c.union-former.result c.union-latter.result c.union-damage.result c.told-resized.result c.told-titled.result c.told-set.result c.told-highlighted.result r
    size.heard title.heard setting.heard size.answered title.answered setting.answered highlight.answered
    c.union-former.ensures.exact c.union-latter.ensures.exact c.union-damage.ensures.exact
    (subst (λ t. HoldsDamages (record { size = x.kept.size; title = t; setting = x.kept.values; highlight = x.kept.highlight }) (control_loan x.kept.definition).definition r) (sym c.as_slice.ensures.same) held)))
