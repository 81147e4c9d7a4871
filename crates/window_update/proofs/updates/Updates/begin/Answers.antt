use Rattle.std.proofs.Common.{refl, ap, ◌∙◌}
use Rattle.std.specs.Prelude.{slice_index_or}
use Rattle.window_list.specs.declared.list.WindowList.{WindowList}
use Rattle.window_paint.specs.White.{all_white}
use Rattle.window_mgr.proofs.Contents.{layers_apart}
use Rattle.window_update.specs.WholeUpdates.{opened}
use Rattle.window_update.proofs.MarkLemmas.{settled, seen_in, stale_shows, area_low}
use Rattle.window_update.proofs.ServeLemmas.{no_memory, is_begun}
use Rattle.window_update.proofs.Sides.{begun_whole}
use Rattle.window_update.proofs.OpenLemmas.{choices_begun}
use Rattle.window_update.proofs.updates.Updates.begin.Goals as goal

pub area-requires : goal.area-requires
area-requires g c = area_low _ c.args.windows.now c.requires.kept c.in-Some.at c.in-Some.ensures.0

pub seen_from-requires-clause-place : goal.seen_from-requires-clause-place
seen_from-requires-clause-place g c = (settled _ c.args.windows.now c.requires.kept c.in-Some.at c.in-Some.ensures.0 c.at-record.result.now (c.at-record.ensures ∙ ap (λ (l : WindowList _ _). slice_index_or l.records.items c.in-Some.at c.at-record.result.now) c.list.ensures)).placed

pub seen_from-requires-clause-there : goal.seen_from-requires-clause-there
seen_from-requires-clause-there g c = λ p e. seen_in _ c.args.windows.now c.requires.kept c.in-Some.at c.in-Some.ensures.0 c.at-record.result.now c.area.result.now (c.at-record.ensures ∙ ap (λ (l : WindowList _ _). slice_index_or l.records.items c.in-Some.at c.at-record.result.now) c.list.ensures) c.area.ensures p (stale_shows _ c.args.windows.now c.requires.kept c.in-Some.at c.in-Some.ensures.0 c.at-record.result.now c.area.result.now (c.at-record.ensures ∙ ap (λ (l : WindowList _ _). slice_index_or l.records.items c.in-Some.at c.at-record.result.now) c.list.ensures) c.area.ensures _ e)

pub of-requires : goal.of-requires
of-requires g c = record { apart = layers_apart _ c.args.windows.now c.requires.kept.slots c.requires.kept.whole c.in-Some.at c.in-Some.ensures.0 c.at-record.result.now (c.at-record.ensures ∙ ap (λ (l : WindowList _ _). slice_index_or l.records.items c.in-Some.at c.at-record.result.now) c.list.ensures) (λ font. all_white) }

pub returns-in_default-seen_from-clause-step : goal.returns-in_default-seen_from-clause-step
returns-in_default-seen_from-clause-step g c = λ shows. no_memory _ shows c.args.windows.now c.requires.kept c.args.window c.in-Some.at c.in-Some.ensures (opened c.args.activity.now c.args.self.now)

pub returns-in_default-of-clause-step : goal.returns-in_default-of-clause-step
returns-in_default-of-clause-step g c = λ shows. no_memory _ shows c.args.windows.now c.requires.kept c.args.window c.in-Some.at c.in-Some.ensures (opened c.args.activity.now c.args.self.now)

pub returns-clause-step : goal.returns-clause-step
returns-clause-step g c = λ shows. is_begun _ shows c.args.windows.now c.requires.kept c.args.window c.in-Some.at c.in-Some.ensures (opened c.args.activity.now c.args.self.now) _ c.in-Ok.begun c.at-record.result.now c.area.result.now (c.at-record.ensures ∙ ap (λ (l : WindowList _ _). slice_index_or l.records.items c.in-Some.at c.at-record.result.now) c.list.ensures) c.area.ensures c.in-Ok.ensures refl

pub returns-clause-whole : goal.returns-clause-whole
returns-clause-whole g c =
    let w_is = c.at-record.ensures ∙ ap (λ (l : WindowList _ _). slice_index_or l.records.items c.in-Some.at c.at-record.result.now) c.list.ensures in
    begun_whole _ c.args.windows.now c.args.window _ c.requires.whole.width c.requires.whole.height
    (choices_begun _ c.args.windows.now c.requires.kept c.in-Some.at c.in-Some.ensures.0 c.at-record.result.now w_is c.area.result.now c.area.ensures c.args.window (c.in-Some.ensures.1 c.at-record.result.now w_is) c.in-Ok-of.choices c.in-Ok-of.ensures)
