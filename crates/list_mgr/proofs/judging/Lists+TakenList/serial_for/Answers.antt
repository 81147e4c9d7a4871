use Rattle.std.proofs.Common.{◌≡◌, ◌<◌, ◌≤◌, true, sym, ap, ◌∙◌, subst, rules}
use Rattle.def_iface.specs.contracts.taken_list.TakenListDefined.TheImpl as list
use Rattle.list_mgr.specs.ListRefusals.{have_room}
use Rattle.list_mgr.proofs.Judged.{is_room, many_lists}
use Rattle.list_mgr.proofs.judging.Lists+TakenList.serial_for.Goals as goal

pub returns-then-count-ge-MOST_LISTS : goal.returns-then-count-ge-MOST_LISTS
returns-then-count-ge-MOST_LISTS g c =
    many_lists (list.loan-value g.dyn-1).it c.args.new.now c.args.self.now c.args.controls c.args.next_control
    (subst (λ k. 8 ≤ k) c.count.ensures c.if-count-ge-MOST_LISTS.true)

pub returns-in-Some : goal.returns-in-Some
returns-in-Some g c =
    let room : c.have_room.result ≡ true = search rules in (
      c.in-Some.is,
      is_room (list.loan-value g.dyn-1).it c.args.new.now c.args.self.now c.args.controls c.args.next_control c.in-Some.serial c.in-Some.is
          (subst (λ k. k < 8) c.count.ensures c.if-count-ge-MOST_LISTS.false)
          (ap (λ k. have_room k c.args.controls c.args.next_control) (sym c.bars_wanted.ensures) ∙ sym c.have_room.ensures ∙ room),
    )
