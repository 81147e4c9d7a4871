use Rattle.std.proofs.Common.{◌≡◌, ◌∙◌, true, rules, arith, ℤ, pos, ◌+ℤ◌, ◌≤ℤ◌, ◌<ℤ◌, SFits, w32, to_z, ap, sym}
use Rattle.std.specs.Prelude.{not}
use Rattle.std.proofs.lemmas.Int.{ints, to_z-of_z}
use Rattle.tb_geom.proofs.Steps.{fits_next}
use Rattle.bit_map.specs.Bits.{on_map}
use Rattle.bit_map.proofs.BitsLemmas.{on_map-sides}
use Rattle.bit_blit.proofs.DrawsLemmas.{Draws-on_map, Draws-where}
use Rattle.bit_blit.proofs.WalkLemmas.{in_rows-end}
use Rattle.overlay.proofs.LineLemmas.{column_begins, column_has, column_more, gray_turns}
use Rattle.overlay.proofs.lines.draw_column.Goals as goal

pub loop-v-init : goal.loop-v-init
loop-v-init c =
    let top : SFits w32 c.args.column.top = search rules in
    let left : SFits w32 c.args.column.left = search rules in
    simp to_z-of_z (record {
      low = omega (arith, ints);
      high = λ e. e;
      none = λ e. omega (arith, ints);
      black = simp to_z-of_z at c.bit-black.ensures;
      drawn = column_begins c.args.column.left c.args.column.right c.args.column.top c.args.map.now;
    })

pub turn_where-requires : goal.turn_where-requires
turn_where-requires c =
    let column = c.args.column in
    let left : SFits w32 column.left = search rules in
    let bottom : SFits w32 column.bottom = search rules in
    let v : ℤ = to_z w32 c.loop-v.v-bits in
    let below : v <ℤ column.bottom = search (rules, ints) in
    simp to_z-of_z (Draws-on_map _ _ c.args.map.now c.loop-v.map c.loop-v.invariant.drawn _
    ∙ c.requires.within _ (column_has column v c.requires.narrow c.loop-v.invariant.low below))

pub loop-v-preserved : goal.loop-v-preserved
loop-v-preserved c =
    let column = c.args.column in
    let left : SFits w32 column.left = search rules in
    let bottom : SFits w32 column.bottom = search rules in
    let v : ℤ = to_z w32 c.loop-v.v-bits in
    let fits_v : SFits w32 v = search rules in
    let low = c.loop-v.invariant.low in
    let below : v <ℤ column.bottom = search (rules, ints) in
    let fits : SFits w32 (v +ℤ pos 1) = fits_next _ _ fits_v bottom below in
    let there : on_map c.args.map.now (record { h = column.left; v = v }) ≡ true = c.requires.within _ (column_has column v c.requires.narrow low below) in
    simp to_z-of_z (record {
      low = omega (arith, ints);
      high = λ e. omega (arith, ints);
      none = λ e. omega (arith, ints);
      black = ap not c.loop-v.invariant.black ∙ sym (gray_turns column.left v (on_map-sides c.args.map.now _ there).below);
      drawn = column_more column.left column.right column.top v c.loop-v.black c.args.map.now c.loop-v.map c.turn_where.new.map c.requires.narrow low c.loop-v.invariant.black
          c.loop-v.invariant.drawn (simp to_z-of_z at c.turn_where.ensures);
    })

pub returns : goal.returns
returns c =
    let column = c.args.column in
    let bottom : SFits w32 column.bottom = search rules in
    let v : ℤ = to_z w32 c.loop-v.v-bits in
    let end : column.bottom ≤ℤ v = search (rules, ints) in
    let all = c.loop-v.invariant in
    Draws-where _ _ _ c.args.map.now c.loop-v.map
    (λ x on. in_rows-end column.left column.right column.top v column.bottom x end all.high all.none) all.drawn
