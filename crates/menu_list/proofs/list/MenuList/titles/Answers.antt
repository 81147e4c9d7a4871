use Rattle.std.proofs.Common.{◌≡◌, ◌<◌, ◌++◌, ◌∷◌, [], length, take, get_or, ap, sym, ◌∙◌, arith}
use Rattle.std.proofs.Math.Path.{ap₂}
use Rattle.std.proofs.lemmas.List.{length-take-le, take_all}
use Rattle.menu_list.specs.Lists.{titles_of}
use Rattle.menu_list.proofs.BarLemmas.{take_next, one_title, no_title, few_titles}
use Rattle.menu_list.proofs.list.MenuList.titles.Goals as goal
use Rattle.menu_list.proofs.list.MenuList.titles.Goals.{then-listed, else-listed}

pub push-requires : goal.push-requires
push-requires g c =
    let xs = c.args.self.now.menus.items in
    let i = c.loop-listed.listed-index in
    let all = ap length c.deref-listed-items.ensures.value in
    let few = few_titles c.args.self.now.highlighted (take i xs) in
    let long = length-take-le i xs (omega (arith, all, c.loop-listed-test.true)) in
    omega (arith, ap length c.loop-listed.invariant, few, long, all, c.requires, c.loop-listed-test.true)

pub loop-listed-preserved : goal.loop-listed-preserved
loop-listed-preserved g c =
    let xs = c.args.self.now.menus.items in
    let h = c.args.self.now.highlighted in
    let i = c.loop-listed.listed-index in
    let x = c.listed-item.result in
    let all = ap length c.deref-listed-items.ensures.value in
    let within : i < length xs = omega (arith, all, c.loop-listed-test.true) in
    let read : x ≡ get_or xs i x = c.listed-item.is ∙ ap (λ ys. get_or ys i x) c.deref-listed-items.ensures.value in
    let more = ap (titles_of h) (sym (take_next xs i x within read)) in
    elim c.if-listed.branch [
      | then-listed w ↦ w.titles-is ∙ w.push.ensures ∙ ap₂ (λ ts t. ts ++ t ∷ []) c.loop-listed.invariant w.title.ensures ∙ sym (one_title h (take i xs) x w.if-listed.true) ∙ more
      | else-listed w ↦ w.titles-is ∙ c.loop-listed.invariant ∙ sym (no_title h (take i xs) x w.if-listed.false) ∙ more
    ]

pub returns : goal.returns
returns g c =
    let xs = c.args.self.now.menus.items in
    let all = ap length c.deref-listed-items.ensures.value in
    c.loop-listed.invariant ∙ ap (titles_of c.args.self.now.highlighted) (take_all c.loop-listed.listed-index xs (omega (arith, all, c.loop-listed-test.false)))
