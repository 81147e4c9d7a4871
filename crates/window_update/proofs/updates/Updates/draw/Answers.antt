use Rattle.std.proofs.Common.{refl, sym, ◌∙◌}
use Rattle.window_mgr.specs.Updating.{is_of_kind}
use Rattle.window_update.proofs.OpenLemmas.{kind_left}
use Rattle.window_update.proofs.ServeLemmas.{are_drawn, drawn_before, refreshed, drawn_whole}
use Rattle.window_update.proofs.updates.Updates.draw.Goals as goal

pub returns-then-has_drawn-clause-step : goal.returns-then-has_drawn-clause-step
returns-then-has_drawn-clause-step g c = λ o.
    are_drawn _ (g.S.Showing.shows c.args.layers.now) c.args.windows.now c.requires.kept c.args.draw c.in-Some.at c.in-Some.ensures o c.args.windows.now
    (drawn_before _ (g.S.Showing.shows c.args.layers.now) c.args.windows.now c.args.draw.layers c.args.draw.window c.args.self.now.choices (c.requires.whole.choices c.args.draw.window refl) (sym c.has_drawn.ensures ∙ c.if-has_drawn.true))

pub serve_kind-requires : goal.serve_kind-requires
serve_kind-requires g c = record {
  kept = c.requires.kept;
  at = c.in-Some.ensures.0;
  whole = c.requires.layers;
  rest = λ a a_is w w_is p.
      kind_left _ c.args.windows.now c.requires.kept c.in-Some.at c.in-Some.ensures.0 w w_is a a_is c.args.draw.window (c.in-Some.ensures.1 w w_is) c.args.self.now.choices (c.requires.whole.choices c.args.draw.window refl) c.args.draw.layers (sym c.has_drawn.ensures ∙ c.if-has_drawn.false) c.draw-left.result c.draw-left.ensures.left p;
}

pub returns-clause-step : goal.returns-clause-step
returns-clause-step g c = λ o.
    are_drawn _ (g.S.Showing.shows c.args.layers.now) c.args.windows.now c.requires.kept c.args.draw c.in-Some.at c.in-Some.ensures o c.serve_kind.new.self
    (refreshed _ (g.S.Showing.shows c.args.layers.now) c.args.windows.now c.requires.kept c.args.draw.window c.in-Some.at c.in-Some.ensures (is_of_kind c.args.draw.layers) c.serve_kind.new.self c.serve_kind.ensures)

pub returns-clause-whole : goal.returns-clause-whole
returns-clause-whole g c =
    drawn_whole _ (g.S.Showing.shows c.args.layers.now) c.args.windows.now c.requires.kept c.args.draw.window c.in-Some.at c.in-Some.ensures c.args.draw.layers c.serve_kind.new.self
    (refreshed _ (g.S.Showing.shows c.args.layers.now) c.args.windows.now c.requires.kept c.args.draw.window c.in-Some.at c.in-Some.ensures (is_of_kind c.args.draw.layers) c.serve_kind.new.self c.serve_kind.ensures)
    c.args.self.now c.draw-left.new.self c.requires.whole (sym c.has_drawn.ensures ∙ c.if-has_drawn.false) c.draw-left.ensures.drawn c.draw-left.ensures.others
