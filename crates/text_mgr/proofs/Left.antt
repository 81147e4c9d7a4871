-- The text records of a window, put away one after another, the youngest first.
use Rattle.std.proofs.Common.{◌≡◌, ℕ, [], Some, None, refl, sym, ap, ◌∙◌, subst}
use Rattle.std.specs.Prelude.{All, Contains, slice_get}
use Rattle.std.specs.List.{remove}
use Rattle.std.proofs.lemmas.List.Elements.{All-contains_itself}
use Rattle.text_record.specs.Texts.{Record}
use Rattle.window_items.specs.declared.item.Item.{Item}
use Rattle.window_items.specs.Items.{AreApart, items_of, without_youngest, youngest_of}
use Rattle.window_items.proofs.EditLemmas.{All-remove}
use Rattle.window_items.proofs.SerialLemmas.{apart-remove}
use Rattle.window_items.proofs.WindowLemmas.{items_of-without_youngest_other}
use Rattle.window_items.proofs.YoungestLemmas.{no_youngest, youngest_at}
use Rattle.text_mgr.specs.declared.texts.Texts.{Texts}
use Rattle.text_mgr.specs.TextClosing.{AreTextsLeft}

-- some of the window's were put away so far
pub record IsBeingLeft (window : ℕ) (before now : Texts) : Type 0 where
  pub others : (other : ℕ) → (window ≡ other → ⊥) → items_of other now.list.items.items ≡ items_of other before.list.items.items
  pub within : All (Contains before.list.items.items) now.list.items.items
  pub apart : AreApart before.list.items.items → AreApart now.list.items.items
  pub next : now.list.next ≡ before.list.next
  pub scrap : now.scrap ≡ before.scrap

pub leaving_begins : (window : ℕ) (before : Texts) → IsBeingLeft window before before
leaving_begins window before = record {
  others = λ other away. refl;
  within = All-contains_itself before.list.items.items;
  apart = λ h. h;
  next = refl;
  scrap = refl;
}

module _ (window : ℕ) (before now after : Texts) (under : IsBeingLeft window before now) (is : after.list.items.items ≡ without_youngest window now.list.items.items) (next : after.list.next ≡ now.list.next) (scrap : after.scrap ≡ now.scrap) where
  pub leaving_goes_on : (x : Item Record) → Some x ≡ youngest_of window now.list.items.items → IsBeingLeft window before after
  leaving_goes_on x youngest = record {
    others = λ other away. ap (items_of other) is ∙ items_of-without_youngest_other window other now.list.items.items away ∙ under.others other away;
    within = subst (All (Contains before.list.items.items)) (sym removed) (All-remove (Contains before.list.items.items) at.0 now.list.items.items under.within);
    apart = λ h. subst (λ ys. AreApart ys) (sym removed) (apart-remove at.0 now.list.items.items (under.apart h));
    next = next ∙ under.next;
    scrap = scrap ∙ under.scrap;
  }
    where
      at : (i : ℕ) × (slice_get now.list.items.items i ≡ Some x) × (without_youngest window now.list.items.items ≡ remove now.list.items.items i)
      at = youngest_at window now.list.items.items x (sym youngest)

      removed : after.list.items.items ≡ remove now.list.items.items at.0
      removed = is ∙ at.2

  -- none of them is there
  pub all_left : None ≡ youngest_of window now.list.items.items → AreTextsLeft window before after
  all_left none = record {
    gone = ap (items_of window) same ∙ gone.0;
    others = λ other away. ap (items_of other) same ∙ under.others other away;
    within = subst (All (Contains before.list.items.items)) (sym same) under.within;
    apart = λ h. subst (λ ys. AreApart ys) (sym same) (under.apart h);
    next = next ∙ under.next;
    scrap = scrap ∙ under.scrap;
  }
    where
      gone : (items_of window now.list.items.items ≡ []) × (without_youngest window now.list.items.items ≡ now.list.items.items)
      gone = no_youngest window now.list.items.items (sym none)

      same : after.list.items.items ≡ now.list.items.items
      same = is ∙ gone.1
