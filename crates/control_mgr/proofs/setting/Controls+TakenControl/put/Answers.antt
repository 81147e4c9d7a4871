use Rattle.std.proofs.Common.{◌<◌, length, sym, ◌∙◌, subst}
use Rattle.control_mgr.proofs.Puts.{layer_low, put_shown, put_written, state_answered, state_changed, state_damaged, state_set, state_settled, state_tellable}
use Rattle.control_mgr.proofs.setting.Controls+TakenControl.put.Goals as goal

pub tell-damage-requires-clause-tellable : goal.tell-damage-requires-clause-tellable
tell-damage-requires-clause-tellable g c =
    let spot = c.args.spot in
    state_tellable _ c.args.state spot.control c.args.self.now _ c.requires.spot.is.low c.requires.beside.whole.settled
    (state_set _ c.args.state spot.control c.args.self.now.list _ c.at_mut-control.ensures.value)

pub show_layer-requires-clause-index : goal.show_layer-requires-clause-index
show_layer-requires-clause-index g c w lies =
    subst (λ n. n < length w.layers.layers) (sym c.layer_index-layer.ensures) (layer_low _ _ c.args.windows.now c.args.self.now c.args.spot c.requires.spot c.requires.beside w lies)

pub show_layer-requires-clause-whole : goal.show_layer-requires-clause-whole
show_layer-requires-clause-whole g c =
    let spot = c.args.spot in
    let set = state_set _ c.args.state spot.control c.args.self.now.list _ c.at_mut-control.ensures.value in
    state_settled _ c.args.state (record { setting = c.say_bounds.ensures.setting; highlight = c.say_bounds.ensures.highlight }) spot.control c.args.self.now c.tell-damage.new.self c.requires.beside.whole.settled
    (state_changed _ c.args.state spot.control c.args.self.now c.tell-damage.new.self _ c.requires.spot.is.low set c.tell-damage.ensures.told)

pub returns-clause-put : goal.returns-clause-put
returns-clause-put g c named is =
    let spot = c.args.spot in
    let set = state_set _ c.args.state spot.control c.args.self.now.list _ c.at_mut-control.ensures.value in
    put_shown _ _ named c.args.state (record { setting = c.say_bounds.ensures.setting; highlight = c.say_bounds.ensures.highlight }) c.args.windows.now c.show_layer.new.self c.args.self.now c.tell-damage.new.self spot is
    (state_changed _ c.args.state spot.control c.args.self.now c.tell-damage.new.self _ c.requires.spot.is.low set c.tell-damage.ensures.told)
    c.tell-damage.ensures.next
    c.layer_index-layer.result c.layer_index-layer.ensures c.tell-damage.result
    (state_damaged _ c.args.state spot.control c.args.self.now c.tell-damage.new.self _ c.tell-damage.result set c.tell-damage.ensures.damage)
    c.show_layer.ensures.drawn

pub returns-clause-within : goal.returns-clause-within
returns-clause-within g c =
    let spot = c.args.spot in
    put_written _ _ c.args.state c.args.windows.now c.show_layer.new.self c.args.self.now spot c.requires.spot c.requires.beside c.layer_index-layer.result c.layer_index-layer.ensures c.tell-damage.result
    (state_answered _ c.args.state spot.control c.args.self.now _ c.tell-damage.result (state_set _ c.args.state spot.control c.args.self.now.list _ c.at_mut-control.ensures.value) c.tell-damage.ensures.answered)
    c.show_layer.ensures.within
