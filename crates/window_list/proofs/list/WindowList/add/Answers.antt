use Rattle.std.proofs.Common.{◌≡◌, true, false, if◌then◌else◌, length, Some, sym, ap, ◌∙◌, arith}
use Rattle.window_list.specs.Classes.{front_place}
use Rattle.window_list.specs.Lists.{floats, leads}
use Rattle.window_list.proofs.ClassLemmas.{remove_none, made_way, way_length, added_to}
use Rattle.window_list.proofs.list.WindowList.add.Goals.{then-leads, else-leads}
use Rattle.window_list.proofs.list.WindowList.add.Goals as goal

pub insert-requires-clause-place : goal.insert-requires-clause-place
insert-requires-clause-place g c =
    let all = ap length (remove_none c.args.self.now.records.items c.len.result c.len.ensures) in
    let low = c.class_front-at.ensures.low in
    elim c.if-leads.branch [
      | then-leads w ↦
          let same = ap (λ l. length l.records.items) w.self-is ∙ ap (λ l. length l.records.items) w.dim.ensures ∙ way_length true c.args.self.now.active c.args.self.now.records.items in
          omega arith
      | else-leads w ↦ let same = ap (λ l. length l.records.items) w.self-is in omega arith
    ]

pub returns : goal.returns
returns g c =
    let old = c.args.self.now in
    let place = c.class_front-at.ensures.place ∙ ap (front_place floats c.args.window.floating) (remove_none old.records.items c.len.result c.len.ensures) in
    elim c.if-leads.branch [
      | then-leads w ↦
          let its : leads c.args.window ≡ true = sym c.leads.ensures ∙ w.if-leads.true in
          added_to c.args.window old c.if-leads.self c.insert.new.self c.class_front-at.result
          (ap (λ l. l.records.items) w.self-is ∙ ap (λ l. l.records.items) w.dim.ensures ∙ (λ k. made_way (sym its k) old.active old.records.items))
          (ap (λ l. l.records.capacity) w.self-is ∙ ap (λ l. l.records.capacity) w.dim.ensures)
          (ap (λ l. l.active) w.self-is ∙ (λ k. if sym its k then Some c.args.window.serial else old.active))
          (ap (λ l. l.next) w.self-is ∙ ap (λ l. l.next) w.dim.ensures ∙ c.serial_after-self.ensures)
          place c.insert.ensures.items c.insert.ensures.capacity
      | else-leads w ↦
          let its : leads c.args.window ≡ false = sym c.leads.ensures ∙ w.if-leads.false in
          added_to c.args.window old c.if-leads.self c.insert.new.self c.class_front-at.result
          (ap (λ l. l.records.items) w.self-is ∙ (λ k. made_way (sym its k) old.active old.records.items))
          (ap (λ l. l.records.capacity) w.self-is)
          (ap (λ l. l.active) w.self-is ∙ (λ k. if sym its k then Some c.args.window.serial else old.active))
          (ap (λ l. l.next) w.self-is ∙ c.serial_after-self.ensures)
          place c.insert.ensures.items c.insert.ensures.capacity
    ]
