use Rattle.std.proofs.Common.{◌≡◌, ◌<◌, length, ap, sym, subst, ◌∙◌}
use Rattle.std.specs.Prelude.{vec_capacity}
use Rattle.dialog_items.specs.Items.{ItemList, IsItemList, edited_with}
use Rattle.dialog_items.proofs.ItemLemmas.{add-stays}
use Rattle.dialog_items.proofs.items.DialogItems.add.Goals as goal

pub invariant_of-self : goal.invariant_of-self
invariant_of-self c =
    let d : ItemList = record { items = c.self.inside.items.items; edited = c.self.inside.edited; capacity = c.self.inside.items.cap } in
    let same : d ≡ c.args.self.now = c.self.view_is in
    let e : c.edited_with-edited.result ≡ edited_with c.args.item d = c.edited_with-edited.ensures ∙ ap (edited_with c.args.item) (sym same) in
    subst (λ n. IsItemList (record { items = c.push_item.new.items.items; edited = n; capacity = vec_capacity c.push_item.new.items })) (sym e)
    (subst (λ xs. IsItemList (record { items = xs; edited = edited_with c.args.item d; capacity = vec_capacity c.push_item.new.items })) (sym c.push_item.ensures)
    (add-stays d c.args.item (vec_capacity c.push_item.new.items) (subst (λ (s : ItemList). length s.items < 64) (sym same) c.requires.few) (record { few = c.self.invariant.few; edited = c.self.invariant.edited })))
