use Rattle.std.proofs.Common.{ap, sym, ◌∙◌}
use Rattle.dialog_items.specs.Items.{ItemList, is_edit_number, replaced}
use Rattle.dialog_items.proofs.ItemLemmas.{put-is, put-stays}
use Rattle.dialog_items.proofs.items.DialogItems.put.Goals as goal

pub invariant_of-self : goal.invariant_of-self
invariant_of-self c =
    let d : ItemList = record { items = c.self.inside.items.items; edited = c.self.inside.edited; capacity = c.self.inside.items.cap } in
    put-stays d c.args.number c.args.item c.self.inside.items.cap c.requires.some
    (c.requires.kind ∙ ap (λ (s : ItemList). is_edit_number s.items c.args.number) (sym c.self.view_is)) (record { few = c.self.invariant.few; edited = c.self.invariant.edited })

pub returns : goal.returns
returns c =
    ap (λ xs. record { items = xs; edited = c.self.inside.edited; capacity = c.self.inside.items.cap }) (put-is c.self.inside.items.items c.args.number c.args.item c.requires.some)
    ∙ ap (λ (s : ItemList). record s { items = replaced c.args.number (λ _. c.args.item) s.items }) c.self.view_is
