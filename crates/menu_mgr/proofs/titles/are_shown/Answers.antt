use Rattle.std.proofs.Common.{◌≡◌, ◌<◌, length, get_or, ap, ◌∙◌, arith}
use Rattle.menu_mgr.proofs.NextTitles.{has_next, next_is}
use Rattle.menu_mgr.proofs.titles.are_shown.Goals.{then-at-titles-via-then-at-titles, then-at-titles-via-else-at-titles+then-not-is_title_of}
use Rattle.menu_mgr.proofs.titles.are_shown.Goals as goal

pub returns-then-at-titles-clause-others : goal.returns-then-at-titles-clause-others
returns-then-at-titles-clause-others g c = λ no all.
    let xs = c.args.list.now.menus.items in
    let h = c.args.list.now.highlighted in
    let i = c.loop-listed.listed-index in
    let x = c.listed-item.result in
    let many = ap length c.deref-listed-items.ensures.value in
    let low : i < length xs = omega (arith, many, c.loop-listed-test.true) in
    let read : x ≡ get_or xs i x = c.listed-item.is ∙ ap (λ ys. get_or ys i x) c.deref-listed-items.ensures.value in
    elim c.then-at-titles.branch [
      | then-at-titles-via-then-at-titles w ↦
          let next = has_next h c.args.titles.now xs i c.loop-listed.at x low read c.if-listed.true c.loop-listed.invariant.few c.loop-listed.invariant.same all in
          omega (arith, next, w.if-at-titles.true)
      | then-at-titles-via-else-at-titles+then-not-is_title_of w ↦
          w.is_title_of.ensures.other w.if-not-is_title_of.true
          (next_is h c.args.titles.now xs i c.loop-listed.at x w.index-titles-at.result low read c.if-listed.true c.loop-listed.invariant.few c.loop-listed.invariant.same all w.index-titles-at.is)
    ]
