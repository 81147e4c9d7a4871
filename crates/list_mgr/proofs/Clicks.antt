-- Clicks on lists: why they are refused, and what they answer.
use Rattle.std.proofs.Common.{◌≡◌, ◌<◌, ◌&&◌, Bool, true, false, not, if◌then◌else◌, List, [], ◌∷◌, ℤ, pos, negsuc, get_or, Some, None, Ok, refl, sym, ap, ◌∙◌, subst, arith}
use Rattle.std.specs.Prelude.{int_le, nat_abs}
use Rattle.std.specs.Int.{FitsUnsignedBits}
use Rattle.std.proofs.lemmas.Int.{ints}
use Rattle.tb_geom.specs.declared.refusal.Refusal.{Refusal}
use Rattle.tb_geom.specs.declared.refusal.Refusal.TheVariants.{OutOfRange}
use Rattle.tb_geom.specs.Rects.{in_plane}
use Rattle.tb_geom.specs.Refusals.{first_refusal}
use Rattle.def_iface.specs.Slots.{TakenBox}
use Rattle.def_iface.specs.ListMeaning.{ListLoan}
use Rattle.def_iface.specs.WindowMeaning.{WindowLoan}
use Rattle.list_cells.specs.declared.cell.Cell.{Cell}
use Rattle.list_cells.specs.declared.click.SelectionFlags.{SelectionFlags}
use Rattle.list_cells.specs.Blocks.{clicked_cell}
use Rattle.list_cells.specs.Clicks.{keys_of}
use Rattle.window_items.specs.declared.item.Item.{Item}
use Rattle.list_mgr.specs.declared.list_record.ListRecord.{ListRecord}
use Rattle.list_mgr.specs.Seen.{seen}
use Rattle.desk_call.specs.declared.list.ListCall.TheVariants as asks
use Rattle.desk_call.specs.declared.list.ListClick.{ListClick}
use Rattle.desk_call.specs.declared.list.ListReply.TheVariants as reply
use Rattle.window_mgr.specs.declared.manager.WindowManager.{WindowManager}
use Rattle.window_mgr.specs.Records.{desk_of}
use Rattle.control_mgr.proofs.Steps.{first_fails, first_of, one_fails, one_holds}
use Rattle.list_mgr.specs.declared.lists.Lists.{Lists}
use Rattle.list_mgr.specs.declared.spots.ListAt.{ListAt}
use Rattle.list_mgr.specs.ListRefusals.{is_word, missing_refusals}
use Rattle.list_mgr.specs.ListSteps.{IsClickOn, IsListStep, IsSelectionChanged, clicked_at}
use Rattle.list_mgr.specs.Spots.{IsSpotOf}
use Rattle.list_mgr.specs.WholeLists.{IsChangedOver, list_desk, records_of}
use Rattle.list_mgr.proofs.Changed.{changed_as}
use Rattle.list_mgr.proofs.Steps.{IsTold, list_named, list_read, other_reasons, unchanged}

-- ---- words

word_fits : (z : ℤ) → int_le (pos 0) z ≡ true → int_le z (pos 65535) ≡ true → FitsUnsignedBits 16 z
word_fits (pos n) e f = let below : n < 65536 = grind (arith, ints, e, f) in below
word_fits (negsuc n) e f = absurd (grind (arith, ints, e))

pub no_word : (z : ℤ) → (FitsUnsignedBits 16 z → ⊥) → is_word z ≡ false
no_word z unfit = by_tests (int_le (pos 0) z) (int_le z (pos 65535)) refl refl
  where
    by_tests : (a b : Bool) → int_le (pos 0) z ≡ a → int_le z (pos 65535) ≡ b → (a && b) ≡ false
    by_tests true true e f = absurd (unfit (word_fits z e f))
    by_tests true false e f = refl
    by_tests false b e f = refl

pub a_word : (z : ℤ) → FitsUnsignedBits 16 z → is_word z ≡ true
a_word (pos n) h = by_tests (int_le (pos 0) (pos n)) (int_le (pos n) (pos 65535)) refl refl
  where
    below : n < 65536
    below = h

    by_tests : (a b : Bool) → int_le (pos 0) (pos n) ≡ a → int_le (pos n) (pos 65535) ≡ b → (a && b) ≡ true
    by_tests true true e f = refl
    by_tests true false e f = absurd (grind (arith, ints, f, below))
    by_tests false b e f = absurd (grind (arith, ints, e))
a_word (negsuc n) h = absurd h

module _ {V : Type 0} {H : V → Type 0} (loan : TakenBox V H → WindowLoan) {X : Type 0} {L : X → Type 0} (list_loan : TakenBox X L → ListLoan)
    (k : ListClick) (t : WindowManager V H) (m : Lists (TakenBox X L)) where
  -- what is looked at where nothing is missing
  abbrev of_click : List (Bool × Refusal)
  of_click = (not (in_plane k.point), OutOfRange) ∷ (not (is_word k.modifiers), OutOfRange) ∷ []

  pub click_missing : (e : Refusal) → first_refusal (missing_refusals k.list (desk_of loan t []) (records_of list_loan m)) ≡ Some e → IsTold loan list_loan (asks.Click k) t m (λ why. first_refusal why ≡ Some e)
  click_missing e h others o slots cs kept = first_of (missing_refusals k.list (desk_of loan t []) (records_of list_loan m)) of_click e h

  module _ (s : ListAt) (is : IsSpotOf loan list_loan k.list t m s) where
    pub click_outside : in_plane k.point ≡ false → IsTold loan list_loan (asks.Click k) t m (λ why. first_refusal why ≡ Some OutOfRange)
    click_outside out others o slots cs kept =
        other_reasons loan list_loan k.list t m s is of_click ∙ ap (λ b. if not b then Some OutOfRange else first_refusal ((not (is_word k.modifiers), OutOfRange) ∷ [])) out

    pub click_no_word : in_plane k.point ≡ true → is_word k.modifiers ≡ false → IsTold loan list_loan (asks.Click k) t m (λ why. first_refusal why ≡ Some OutOfRange)
    click_no_word inside none others o slots cs kept =
        other_reasons loan list_loan k.list t m s is of_click
        ∙ first_fails (not (in_plane k.point)) OutOfRange ((not (is_word k.modifiers), OutOfRange) ∷ []) (ap not inside)
        ∙ one_holds (not (is_word k.modifiers)) OutOfRange (ap not none)

    pub click_free : in_plane k.point ≡ true → is_word k.modifiers ≡ true → IsTold loan list_loan (asks.Click k) t m (λ why. first_refusal why ≡ None)
    click_free inside word others o slots cs kept =
        other_reasons loan list_loan k.list t m s is of_click
        ∙ first_fails (not (in_plane k.point)) OutOfRange ((not (is_word k.modifiers), OutOfRange) ∷ []) (ap not inside)
        ∙ one_fails (not (is_word k.modifiers)) OutOfRange (ap not word)

    module _ (x : Item (ListRecord (TakenBox X L))) (read : x ≡ get_or m.list.items.items s.list x) (inside : in_plane k.point ≡ true) (word : is_word k.modifiers ≡ true) where
      -- on no cell
      pub clicked_none : clicked_at k (seen list_loan x) ≡ None → IsChangedOver list_loan loan (IsListStep (asks.Click k) (Ok (reply.Clicked false))) t m t m
      clicked_none none others o slots cs kept whole lists = (
        whole,
        refl,
        lists,
        (
          click_free inside word others o slots cs kept,
          (
            seen list_loan x,
            list_named loan list_loan k.list t m s is (seen list_loan x) (list_read loan list_loan k.list t m s is x read),
            subst (λ c. IsClickOn k c (reply.Clicked false) (list_desk list_loan loan t others o slots cs m kept) (list_desk list_loan loan t others o slots cs m kept)) (sym none)
                (refl, unchanged loan list_loan t others o slots cs m kept),
          ),
        ),
      )

      -- on one
      pub clicked_on : (cell : Cell) → clicked_at k (seen list_loan x) ≡ Some cell → (u : WindowManager V H) (n : Lists (TakenBox X L))
          → IsChangedOver list_loan loan (IsSelectionChanged k.list (λ (flags : SelectionFlags). clicked_cell flags (keys_of (nat_abs k.modifiers)) cell)) t m u n
          → IsChangedOver list_loan loan (IsListStep (asks.Click k) (Ok (reply.Clicked true))) t m u n
      clicked_on cell some u n changed =
          changed_as loan list_loan t u m n (IsSelectionChanged k.list (λ (flags : SelectionFlags). clicked_cell flags (keys_of (nat_abs k.modifiers)) cell)) (IsListStep (asks.Click k) (Ok (reply.Clicked true)))
          (λ others o slots cs kept done. (
            click_free inside word others o slots cs kept,
            (
              seen list_loan x,
              list_named loan list_loan k.list t m s is (seen list_loan x) (list_read loan list_loan k.list t m s is x read),
              subst (λ c. IsClickOn k c (reply.Clicked true) (list_desk list_loan loan t others o slots cs m kept) (list_desk list_loan loan u others o slots cs n kept)) (sym some) (refl, done),
            ),
          ))
          changed
