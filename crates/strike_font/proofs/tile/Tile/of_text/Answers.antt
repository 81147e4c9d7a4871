use Rattle.std.proofs.Common.{refl, SFits, w64, rules}
use Rattle.std.specs.Prelude.{replicate}
use Rattle.std.proofs.lemmas.Int.{to_z-of_z}
use Rattle.strike_font.proofs.TileLemmas.{tile_text}
use Rattle.strike_font.proofs.tile.Tile.of_text.Goals as goal

pub returns-clause-tile : goal.returns-clause-tile
returns-clause-tile c =
    let fx : SFits w64 c.args.x = search rules in
    let fy : SFits w64 c.args.y = search rules in
    let put = simp to_z-of_z at c.put_text-reach.ensures.put in
    tile_text c.args.bytes.now c.args.text.now c.args.x c.args.y (replicate 128 0) c.put_text-reach.new.words refl put
