use Rattle.std.proofs.Common.{◌≡◌, Bool, true, if◌then◌else◌, length, ap, ◌∙◌, rules, arith}
use Rattle.std.specs.List.{insert}
use Rattle.std.specs.Result.{is_ok}
use Rattle.window_list.specs.Classes.{front_place}
use Rattle.window_list.specs.Lists.{floats}
use Rattle.window_list.proofs.ClassLemmas.{remove_none}
use Rattle.window_mgr.proofs.manager.WindowManager.seats_with.Goals as goal

pub insert-requires : goal.insert-requires
insert-requires g c =
    let all = ap length (remove_none c.args.self.now.windows.records.items c.len.result c.len.ensures) in
    let low = c.class_front-at.ensures.low in
    let long = c.in_ok-seats.ensures.length in
    omega arith

pub returns : goal.returns
returns g c =
    let made : is_ok c.insert.result ≡ true = search rules in
    let all = c.in_ok-seats.seats.items in
    record {
      all = all;
      are = c.in_ok-seats.ensures.seats;
      is = c.insert.ensures.items ∙ ap (λ (b : Bool). if b then insert all c.class_front-at.result c.args.added else all) made
          ∙ ap (λ n. insert all n c.args.added) (c.class_front-at.ensures.place ∙ ap (front_place floats c.args.added.floating) (remove_none c.args.self.now.windows.records.items c.len.result c.len.ensures));
    }
