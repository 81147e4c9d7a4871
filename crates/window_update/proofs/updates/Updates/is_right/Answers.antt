use Rattle.std.proofs.Common.{ap, ◌∙◌, subst, ◌&&◌}
use Rattle.std.specs.Prelude.{slice_index_or}
use Rattle.tb_geom.specs.Points.{minus}
use Rattle.tb_geom.specs.Pixels.{holds}
use Rattle.bit_map.specs.Bits.{on_map}
use Rattle.bit_blit.specs.Draws.{Draws}
use Rattle.window_paint.specs.Shown.{content_shown}
use Rattle.window_list.specs.declared.list.WindowList.{WindowList}
use Rattle.window_update.specs.Rightness.{IsAgreement}
use Rattle.window_update.specs.Sets.{judged_set}
use Rattle.window_mgr.proofs.Contents.{layers_apart}
use Rattle.window_update.proofs.MarkLemmas.{area_low, settled, shown_in, in_plane_of}
use Rattle.window_update.proofs.Judging.{shows_on, on_image, judged_as}
use Rattle.window_update.proofs.updates.Updates.is_right.Goals as goal

pub area-requires : goal.area-requires
area-requires g c = area_low _ c.args.windows.now c.requires.kept c.args.at c.requires.at

pub paint_content-requires-clause-placed : goal.paint_content-requires-clause-placed
paint_content-requires-clause-placed g c = (settled _ c.args.windows.now c.requires.kept c.args.at c.requires.at c.at-window.result.now (c.at-window.ensures ∙ ap (λ (l : WindowList _ _). slice_index_or l.records.items c.args.at c.at-window.result.now) c.parts-parts.ensures.windows)).placed

pub paint_content-requires-clause-origin : goal.paint_content-requires-clause-origin
paint_content-requires-clause-origin g c = (settled _ c.args.windows.now c.requires.kept c.args.at c.requires.at c.at-window.result.now (c.at-window.ensures ∙ ap (λ (l : WindowList _ _). slice_index_or l.records.items c.args.at c.at-window.result.now) c.parts-parts.ensures.windows)).origin

pub paint_content-requires-clause-apart : goal.paint_content-requires-clause-apart
paint_content-requires-clause-apart g c = layers_apart _ c.args.windows.now c.requires.kept.slots c.requires.kept.whole c.args.at c.requires.at c.at-window.result.now (c.at-window.ensures ∙ ap (λ (l : WindowList _ _). slice_index_or l.records.items c.args.at c.at-window.result.now) c.parts-parts.ensures.windows) (g.S.Showing.shows c.args.layers.now)

pub agree-requires-clause-place : goal.agree-requires-clause-place
agree-requires-clause-place g c = (settled _ c.args.windows.now c.requires.kept c.args.at c.requires.at c.at-window.result.now (c.at-window.ensures ∙ ap (λ (l : WindowList _ _). slice_index_or l.records.items c.args.at c.at-window.result.now) c.parts-parts.ensures.windows)).placed

pub agree-requires-clause-plane : goal.agree-requires-clause-plane
agree-requires-clause-plane g c = λ p e. in_plane_of p (shown_in _ c.args.windows.now c.requires.kept c.args.at c.requires.at c.at-window.result.now c.area.result.now (c.at-window.ensures ∙ ap (λ (l : WindowList _ _). slice_index_or l.records.items c.args.at c.at-window.result.now) c.parts-parts.ensures.windows) c.area.ensures p e)

pub agree-requires-clause-screen : goal.agree-requires-clause-screen
agree-requires-clause-screen g c = λ p e. ap (λ m. on_map m p) c.screen.ensures ∙ shows_on _ (g.S.Showing.shows c.args.layers.now) c.args.windows.now c.requires.kept c.args.at c.requires.at c.at-window.result.now (c.at-window.ensures ∙ ap (λ (l : WindowList _ _). slice_index_or l.records.items c.args.at c.at-window.result.now) c.parts-parts.ensures.windows) c.area.result.now c.area.ensures c.args.self.now.buffer c.paint_content.new.map c.requires.width c.requires.height (subst (λ f. Draws (holds c.area.result.now.visible) (λ p value. content_shown f (g.S.Showing.shows c.args.layers.now f) c.at-window.result.now p) c.args.self.now.buffer c.paint_content.new.map) c.parts-parts.ensures.font c.paint_content.ensures) p e

pub agree-requires-clause-image : goal.agree-requires-clause-image
agree-requires-clause-image g c = on_image _ (g.S.Showing.shows c.args.layers.now) c.args.windows.now c.requires.kept c.args.at c.requires.at c.at-window.result.now (c.at-window.ensures ∙ ap (λ (l : WindowList _ _). slice_index_or l.records.items c.args.at c.at-window.result.now) c.parts-parts.ensures.windows) c.area.result.now c.area.ensures c.args.self.now.buffer c.paint_content.new.map c.requires.width c.requires.height (subst (λ f. Draws (holds c.area.result.now.visible) (λ p value. content_shown f (g.S.Showing.shows c.args.layers.now f) c.at-window.result.now p) c.args.self.now.buffer c.paint_content.new.map) c.parts-parts.ensures.font c.paint_content.ensures)

pub returns-clause-right : goal.returns-clause-right
returns-clause-right g c = λ w w_is.
    judged_as _ (g.S.Showing.shows c.args.layers.now) c.args.windows.now c.requires.kept c.args.at c.requires.at c.at-window.result.now (c.at-window.ensures ∙ ap (λ (l : WindowList _ _). slice_index_or l.records.items c.args.at c.at-window.result.now) c.parts-parts.ensures.windows) c.area.result.now c.area.ensures c.args.self.now.buffer c.paint_content.new.map c.requires.width c.requires.height (subst (λ f. Draws (holds c.area.result.now.visible) (λ p value. content_shown f (g.S.Showing.shows c.args.layers.now f) c.at-window.result.now p) c.args.self.now.buffer c.paint_content.new.map) c.parts-parts.ensures.font c.paint_content.ensures) (judged_set c.args.area.now) w w_is c.agree.result
    (subst (λ m. IsAgreement (λ p. holds c.area.result.now.visible p && judged_set c.args.area.now (minus p c.at-window.result.now.place)) m c.paint_content.new.map c.agree.result) c.screen.ensures c.agree.ensures)
