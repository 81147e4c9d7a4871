-- A text record that was lent, and is written.
use Rattle.std.proofs.Common.{◌≡◌, ℕ, zero, suc, ◌<◌, Bool, true, List, [], ◌∷◌, length, arith, ap, ◌∙◌}
use Rattle.std.specs.Prelude.{IfSome, slice_get, if◌then◌else◌}
use Rattle.text_record.specs.declared.placing.Placing.{Placing}
use Rattle.text_record.specs.Changes.{placed, shown_as}
use Rattle.text_record.specs.Placings.{is_placing}
use Rattle.text_record.specs.Texts.{Record}
use Rattle.window_items.specs.declared.item.Item.{Item}
use Rattle.window_items.specs.declared.items.Items.{Items}
use Rattle.window_items.specs.Items.{edit_at, with_kept}
use Rattle.window_items.specs.Lends.{with_value}
use Rattle.window_items.proofs.LentLemmas.{lent_and_written}

-- where f of it is written in its place
pub written : (f : Record → Record) (s : Items Record) (at : ℕ) (lent new : Record) → IfSome (slice_get s.items.items at) (λ x. lent ≡ x.kept) → new ≡ f lent
    → (with_value s at new).items.items ≡ edit_at (with_kept f) at s.items.items
written f s at lent new is e = ap (λ v. (with_value s at v).items.items) e ∙ lent_and_written f s at lent is

-- where it is shown or not, and then placed
pub laid_is : (shown : Bool) (p : Placing) (lent between new : Record) (b : Bool) → between ≡ shown_as shown lent → b ≡ is_placing between.framed p → new ≡ (if b then placed p between else between)
    → is_placing lent.framed p ≡ true → new ≡ placed p (shown_as shown lent)
laid_is shown p lent between new b is allowed e may =
    e ∙ ap (λ c. if c then placed p between else between) (allowed ∙ ap (λ (r : Record). is_placing r.framed p) is ∙ may) ∙ ap (placed p) is

pub may_place : (p : Placing) (xs : List (Item Record)) (at : ℕ) (lent : Record) → at < length xs → IfSome (slice_get xs at) (λ x. lent ≡ x.kept) → IfSome (slice_get xs at) (λ x. is_placing x.kept.framed p ≡ true)
    → is_placing lent.framed p ≡ true
may_place p [] at lent low is may = absurd (omega arith)
may_place p (x ∷ xs) zero lent low is may = ap (λ (r : Record). is_placing r.framed p) is ∙ may
may_place p (x ∷ xs) (suc at) lent low is may = may_place p xs at lent (omega (arith, low)) is may
