use Rattle.std.proofs.Common.{◌≡◌, None, get_or, rules, sym, ◌∙◌}
use Rattle.window_list.specs.Holders.{layer_index}
use Rattle.window_list.proofs.Found.{not_found}
use Rattle.window_list.proofs.Parts.{same_part-turned}
use Rattle.striped_layers.proofs.Changed.{insert_apart, put_in}
use Rattle.striped_layers.proofs.relaying.with_layer.Goals as goal

pub returns-in_ok-relaid-in-None : goal.returns-in_ok-relaid-in-None
returns-in_ok-relaid-in-None c =
    let part = c.args.layer.part in
    let ls = c.args.layers.now.layers in
    let none : layer_index part ls ≡ None = search rules in
    put_in c.args.layers.now c.rank_among-at.result c.args.layer c.in_ok-relaid-in-None.relaid c.rank_among-at.ensures
    (insert_apart ls c.rank_among-at.result c.args.layer (sym c.if-is.ensures) (λ k d low. same_part-turned part (get_or ls k d).part ∙ not_found part ls none k d low) c.requires.apart)
    c.in_ok-relaid-in-None.ensures.layers c.in_ok-relaid-in-None.ensures.gained
