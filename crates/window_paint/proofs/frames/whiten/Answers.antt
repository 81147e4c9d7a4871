use Rattle.std.proofs.Common.{false, pos, rules, ap, ◌∙◌, if◌then◌else◌}
use Rattle.tb_geom.specs.Points.{minus}
use Rattle.tb_geom.specs.Pixels.{holds}
use Rattle.bit_map.specs.Bits.{bit}
use Rattle.bit_blit.proofs.OnceLemmas.{Once-none}
use Rattle.window_paint.proofs.WhiteLemmas.{pattern_bit-white}
use Rattle.window_paint.proofs.frames.whiten.Goals as goal

pub returns-then-is_empty : goal.returns-then-is_empty
returns-then-is_empty c = Once-none (holds c.args.region.now) (λ p old. false) c.args.map.now (λ p on. c.is_empty.ensures.0 (search rules) p)

pub returns : goal.returns
returns c = record {
  pixels = λ p on. c.fill.ensures.pixels p on ∙ ap (λ w. if holds c.args.region.now p then w else bit c.args.map.now p) (pattern_bit-white (minus p (record { h = pos 0; v = pos 0 })));
  width = c.fill.ensures.width;
  height = c.fill.ensures.height;
  once = c.fill.ensures.once;
}
