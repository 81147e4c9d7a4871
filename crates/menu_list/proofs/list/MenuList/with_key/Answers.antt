use Rattle.std.proofs.Common.{◌≡◌, ◌<◌, length, take, get_or, ap, sym, ◌∙◌, arith}
use Rattle.std.proofs.Math.Path.{ap₂}
use Rattle.std.specs.Option.{option_or}
use Rattle.std.proofs.lemmas.List.{take_all}
use Rattle.menu_list.specs.Lists.{key_choice}
use Rattle.menu_list.proofs.BarLemmas.{take_next, one_key}
use Rattle.menu_list.proofs.list.MenuList.with_key.Goals as goal

pub loop-listed-preserved : goal.loop-listed-preserved
loop-listed-preserved g c =
    let xs = c.args.self.now.menus.items in
    let i = c.loop-listed.listed-index in
    let x = c.listed-item.result in
    let all = ap length c.deref-listed-items.ensures.value in
    let within : i < length xs = omega (arith, all, c.loop-listed-test.true) in
    let read : x ≡ get_or xs i x = c.listed-item.is ∙ ap (λ ys. get_or ys i x) c.deref-listed-items.ensures.value in
    c.or-chosen.ensures
    ∙ ap₂ option_or c.with_key.ensures c.loop-listed.invariant
    ∙ sym (one_key c.args.key (take i xs) x)
    ∙ ap (key_choice c.args.key) (sym (take_next xs i x within read))

pub returns : goal.returns
returns g c =
    let xs = c.args.self.now.menus.items in
    let all = ap length c.deref-listed-items.ensures.value in
    c.loop-listed.invariant ∙ ap (key_choice c.args.key) (take_all c.loop-listed.listed-index xs (omega (arith, all, c.loop-listed-test.false)))
