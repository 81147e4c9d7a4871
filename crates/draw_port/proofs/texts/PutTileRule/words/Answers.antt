use Rattle.std.proofs.Common.{◌≡◌, ◌≢◌, ◌*◌, ◌+◌, ◌∙◌, ◌+ℤ◌, ◌-ℤ◌, pos, true, ap, get_or, cond, SFits, w32, w64, rules, arith, get_or-set_other}
use Rattle.std.proofs.lemmas.Int.{ints, to_z-of_z}
use Rattle.bit_map.specs.Modes.{mode_bit}
use Rattle.bit_map.specs.Words.{bit_in}
use Rattle.bit_map.proofs.WordLemmas.{words_step}
use Rattle.strike_font.specs.Tiles.{tile_bit}
use Rattle.draw_port.proofs.texts.PutTileRule.words.Goals as goal

pub loop-k-preserved : goal.loop-k-preserved
loop-k-preserved c =
    let put = c.args.self.now in
    let start = c.args.start in
    let k = c.loop-k.k in
    let fits_h : SFits w32 start.h = search rules in
    let fits_v : SFits w32 start.v = search rules in
    let place_h : SFits w32 put.place.h = search rules in
    let place_v : SFits w32 put.place.v = search rules in
    let fits_x : SFits w64 c.difference-x.result = search rules in
    let fits_y : SFits w64 c.difference-y.result = search rules in
    let fits_c : SFits w64 c.column_at.result = search rules in
    let x = simp to_z-of_z at c.difference-x.ensures.value in
    let y = simp to_z-of_z at c.difference-y.ensures.value in
    let column = simp to_z-of_z at c.column_at.ensures in
    let bits = simp to_z-of_z at c.word-bits.ensures in
    let was = c.loop-k.invariant in
    record {
      done = words_step (λ n b. cond (tile_bit put.tile.now (start.h +ℤ pos n -ℤ put.place.h) (start.v -ℤ put.place.v)) (mode_bit put.mode true b) b) c.args.run.now c.loop-k.run k _ (omega arith) was.done
          (λ r low.
          let place : (c.column_at.result +ℤ pos r) ≡ (start.h +ℤ pos (64 * k + r) -ℤ put.place.h) = omega (arith, ints, x, column) in
          let has = bits r low ∙ (λ i. tile_bit put.tile.now (place i) (y i)) in
          let new = c.of.ensures r low ∙ c.all-black.ensures r _ low ∙ c.effect.ensures _ in
          c.blended.ensures r low ∙ (λ i. cond (has i) (new i) (bit_in (get_or c.loop-k.run k 0) r)) ∙ ap (λ w. cond (tile_bit put.tile.now (start.h +ℤ pos (64 * k + r) -ℤ put.place.h) (start.v -ℤ put.place.v)) (mode_bit put.mode true (bit_in w r)) (bit_in w r)) (was.left k (omega arith)));
      left = λ j high. let other : j ≢ k = omega (arith, high) in rw get_or-set_other (was.left j (omega (arith, high)));
    }
