-- What an update keeps from its begin to its end: what its draws leave.
use Rattle.std.proofs.Common.{◌≡◌, ℕ, ◌<◌, ◌==◌, Bool, true, false, ◌&&◌, ◌||◌, not, if◌then◌else◌, List, [], length, refl, sym, ap, ◌∙◌, subst}
use Rattle.std.specs.Prelude.{slice_index_or}
use Rattle.std.proofs.lemmas.Bool.{false≢true, and_parts}
use Rattle.tb_geom.specs.declared.point.Point.{Point}
use Rattle.tb_geom.specs.Points.{PixelSet, minus}
use Rattle.tb_geom.specs.Pixels.{Pixels, holds}
use Rattle.desk_layers.specs.declared.part.Part.{Part}
use Rattle.def_iface.specs.Slots.{TakenBox}
use Rattle.def_iface.specs.WindowMeaning.{WindowLoan}
use Rattle.desk_layers.specs.Desk.{LayeredDesk, on_screen}
use Rattle.desk_layers.specs.Owner.{Owner, owner, is_content}
use Rattle.desk_layers.specs.Owner.Owner.{Desktop, Bar, Frame, Content}
use Rattle.desk_layers.specs.Change.{stale_by}
use Rattle.desk_layers.proofs.Owning.{same_number, same_owner-self}
use Rattle.desk_call.specs.declared.update.LayerKind.{LayerKind}
use Rattle.window_list.specs.Holders.{part_at}
use Rattle.vis_update.specs.declared.area.Area.{Area}
use Rattle.vis_update.specs.Areas.{is_content_of, stale_in}
use Rattle.window_list.specs.declared.window.Window.{Window}
use Rattle.window_mgr.specs.declared.manager.WindowManager.{WindowManager}
use Rattle.window_mgr.specs.Edits.{IsWindowAt}
use Rattle.window_mgr.specs.FullDesk.{FullDesk, FullState, layered_desk, layered_state}
use Rattle.window_mgr.specs.Kept.{IsKept}
use Rattle.window_mgr.specs.Records.{desk_of, desk_showing, state_of, state_showing}
use Rattle.window_paint.specs.White.{all_white}
use Rattle.window_paint.specs.Kinds.{is_kind_there}
use Rattle.window_mgr.specs.Updating.{LeavesShowing, IsRefreshed, refresh_change, is_of_kind}
use Rattle.window_mgr.proofs.Contents.{owner_there, layers_there, kind_is}
use Rattle.window_mgr.proofs.Showing.{owner_showing}
use Rattle.window_update.specs.declared.choices.Kinds.{Kinds}
use Rattle.window_update.specs.declared.choices.Choices.{Choices}
use Rattle.window_update.specs.Choosing.{has_kind, with_kind, IsFurther, is_chosen, is_chosen_of, left_for, AreChoices, AreChoicesOf}
use Rattle.window_update.proofs.ChoiceLemmas.{further_with, further_has, further_still, chosen_of_with, none_chosen, kind_chosen}
use Rattle.window_update.proofs.MarkLemmas.{its_area}
use Rattle.window_update.proofs.Sides.{choices_stay}

-- what is chosen of a window is its content
chosen_content : (k : Kinds) (s : ℕ) (o : Owner) → is_chosen_of k s o ≡ true → is_content_of s o ≡ true
chosen_content k s Desktop e = absurd (false≢true e)
chosen_content k s Bar e = absurd (false≢true e)
chosen_content k s (Frame t) e = absurd (false≢true e)
chosen_content k s (Content t a) e = (and_parts (t == s) (is_chosen k a) e).0

is_some_content : (s : ℕ) (o : Owner) → is_content_of s o ≡ true → is_content o ≡ true
is_some_content s Desktop e = absurd (false≢true e)
is_some_content s Bar e = absurd (false≢true e)
is_some_content s (Frame t) e = absurd (false≢true e)
is_some_content s (Content t part) e = refl

-- ---- a kind of layers, drawn

module _ (kind : LayerKind) (s : ℕ) (before after : FullState) (c drawn : Choices) (kept : AreChoices s (layered_desk before.desk) before.stale c) (lacks : has_kind c.drawn kind ≡ false)
    (counted : drawn.drawn ≡ with_kind kind c.drawn) (others : (k : Kinds) → IsFurther (with_kind kind c.drawn) k → left_for drawn k ≡ left_for c k) (done : IsRefreshed (is_of_kind kind s) before after) where
  abbrev desk : LayeredDesk
  desk = layered_desk before.desk

  abbrev its : Point → Owner
  its p = owner desk p

  stale_after : (p : Point) → on_screen desk p ≡ true → after.stale p ≡ stale_by (refresh_change (is_of_kind kind s) before) (layered_state before) (its p) p
  stale_after = subst (λ (d : FullDesk). (p : Point) → on_screen (layered_desk d) p ≡ true → after.stale p ≡ stale_by (refresh_change (is_of_kind kind s) before) (layered_state before) (owner (layered_desk d) p) p) done.desk done.pixels.stale

  -- of the window's content, what was drawn is not stale any more, and the rest is stale where it was
  stale_is : (p : Point) → on_screen desk p ≡ true → is_content_of s (its p) ≡ true → after.stale p ≡ (if is_of_kind kind s (its p) && before.stale p then false else before.stale p)
  stale_is p on content =
      stale_after p on
      ∙ (λ i. if not (is_some_content s (its p) content i) then false else (if is_of_kind kind s (its p) && before.stale p then false else (if on i && same_owner-self (its p) i then before.stale p else true)))

  fresh : (p : Point) → on_screen desk p ≡ true → is_chosen_of drawn.drawn s (its p) ≡ true → after.stale p ≡ false
  fresh p on e =
      let chosen : is_chosen_of (with_kind kind c.drawn) s (its p) ≡ true = ap (λ d. is_chosen_of d s (its p)) (sym counted) ∙ e in
      stale_is p on (chosen_content (with_kind kind c.drawn) s (its p) chosen)
      ∙ by_test (is_of_kind kind s (its p)) (is_chosen_of c.drawn s (its p)) (before.stale p) (sym (chosen_of_with kind c.drawn s (its p)) ∙ chosen) (kept.fresh p on)
    where
      by_test : (x y old : Bool) → (x || y) ≡ true → (y ≡ true → old ≡ false) → (if x && old then false else old) ≡ false
      by_test true y true e f = refl
      by_test true y false e f = refl
      by_test false true old e f = f refl
      by_test false false old e f = absurd (false≢true e)

  left : (k : Kinds) → IsFurther drawn.drawn k → (p : Point) → left_for drawn k p ≡ ((on_screen desk p && is_content_of s (its p)) && (after.stale p && not (is_chosen_of k s (its p))))
  left k further p =
      let more : IsFurther (with_kind kind c.drawn) k = subst (λ d. IsFurther d k) counted further in
      ap (λ f. f p) (others k more)
      ∙ kept.left k (further_still kind c.drawn k lacks more) p
      ∙ by_sides (further_has kind c.drawn k more) (on_screen desk p) refl (is_content_of s (its p)) refl
    where
      by_test : (x z old : Bool) → (x ≡ true → z ≡ true) → (old && not z) ≡ ((if x && old then false else old) && not z)
      by_test true true true e = refl
      by_test true true false e = refl
      by_test true false old e = absurd (false≢true (e refl))
      by_test false z old e = refl

      by_sides : has_kind k kind ≡ true → (on : Bool) → on_screen desk p ≡ on → (content : Bool) → is_content_of s (its p) ≡ content
          → ((on && content) && (before.stale p && not (is_chosen_of k s (its p)))) ≡ ((on && content) && (after.stale p && not (is_chosen_of k s (its p))))
      by_sides has true on true content =
          by_test (is_of_kind kind s (its p)) (is_chosen_of k s (its p)) (before.stale p) (kind_chosen kind k s (its p) has)
          ∙ ap (λ b. b && not (is_chosen_of k s (its p))) (sym (stale_is p on content))
      by_sides has true on false content = refl
      by_sides has false on content is = refl

  -- what is kept is so for the kinds that are drawn then
  choices_drawn : AreChoices s (layered_desk after.desk) after.stale drawn
  choices_drawn = subst (λ (d : FullDesk). AreChoices s (layered_desk d) after.stale drawn) (sym done.desk) (record { fresh = fresh; left = left })

-- ---- the windows of a window manager

module _ {V : Type 0} {H : V → Type 0} (loan : TakenBox V H → WindowLoan) (t : WindowManager V H) (kept : IsKept loan t) (at : ℕ) (low : at < length t.windows.records.items)
    (w : Window V H) (w_is : IsWindowAt t.windows.records.items at w) (a : Area) (a_is : a ≡ slice_index_or t.areas.items at a) where
  abbrev now : LayeredDesk
  now = layered_desk (desk_of loan t [])

  abbrev stale : PixelSet
  stale = stale_in t.areas.items

  -- nothing is said here of what controls and lists show
  abbrev white : List ℕ → Part → PixelSet
  white font = all_white

  chosen_is : (k : Kinds) (p : Point) → is_content_of w.serial (owner now p) ≡ true → is_chosen k (part_at w.layers.layers (minus p w.layers.place)) ≡ is_chosen_of k w.serial (owner now p)
  chosen_is k p its =
      ap (λ place. is_chosen k (part_at w.layers.layers (minus p place))) (layers_there loan t kept.slots kept.whole at low w w_is white)
      ∙ ap (λ b. b && is_chosen k (part_at w.layers.layers (minus p w.place))) (sym (same_number w.serial))
      ∙ ap (is_chosen_of k w.serial) (sym (owner_there loan t kept.slots kept.whole at low w w_is white p its))

  update_is : (p : Point) → holds a.update p ≡ ((on_screen now p && is_content_of w.serial (owner now p)) && stale p)
  update_is p =
      let area = its_area loan t kept at low w a w_is a_is in
      area.update p ∙ ap (λ b. b && stale p) (area.visible p)

  -- as the window's update begins
  begun : (c : Choices) → AreChoicesOf w a.update c → AreChoices w.serial now stale c
  begun c its = record {
    fresh = λ p on e. absurd (false≢true (sym (none_chosen w.serial (owner now p)) ∙ ap (λ d. is_chosen_of d w.serial (owner now p)) (sym its.drawn) ∙ e));
    left = λ k further p. its.left k (subst (λ d. IsFurther d k) its.drawn further) p ∙ ap (λ b. b && not (is_chosen k (part_at w.layers.layers (minus p w.layers.place)))) (update_is p)
        ∙ by_content k p (on_screen now p) (is_content_of w.serial (owner now p)) refl;
  }
    where
      by_content : (k : Kinds) (p : Point) (on content : Bool) → is_content_of w.serial (owner now p) ≡ content
          → (((on && content) && stale p) && not (is_chosen k (part_at w.layers.layers (minus p w.layers.place)))) ≡ ((on && content) && (stale p && not (is_chosen_of k w.serial (owner now p))))
      by_content k p true true e = ap (λ b. stale p && not b) (chosen_is k p e)
      by_content k p true false e = refl
      by_content k p false content e = refl

  pub choices_begun : (s : ℕ) → w.serial ≡ s → (c : Choices) → AreChoicesOf w a.update c → AreChoices s now stale c
  choices_begun s is c its = subst (λ n. AreChoices n now stale c) is (begun c its)

  -- what a draw leaves is what of the update region the other kinds have
  module _ (s : ℕ) (is : w.serial ≡ s) (c : Choices) (choices : AreChoices s now stale c) (kind : LayerKind) (lacks : has_kind c.drawn kind ≡ false) (left : Pixels) (left_is : (p : Point) → holds left p ≡ left_for c (with_kind kind c.drawn) p) where
    mine : AreChoices w.serial now stale c
    mine = subst (λ n. AreChoices n now stale c) (sym is) choices

    pub kind_left : (p : Point) → holds left p ≡ (holds a.update p && not (is_kind_there kind w p))
    kind_left p =
        left_is p
        ∙ mine.left (with_kind kind c.drawn) (further_with kind c.drawn lacks) p
        ∙ by_sides (on_screen now p) refl (is_content_of w.serial (owner now p)) refl
        ∙ ap (λ b. b && not (is_kind_there kind w p)) (sym (update_is p))
      where
        drop : (x y old : Bool) → (y ≡ true → old ≡ false) → (old && not (x || y)) ≡ (old && not x)
        drop true y old e = refl
        drop false true true e = absurd (false≢true (sym (e refl)))
        drop false true false e = refl
        drop false false old e = refl

        by_sides : (on : Bool) → on_screen now p ≡ on → (content : Bool) → is_content_of w.serial (owner now p) ≡ content
            → ((on && content) && (stale p && not (is_chosen_of (with_kind kind c.drawn) w.serial (owner now p)))) ≡ (((on && content) && stale p) && not (is_kind_there kind w p))
        by_sides true on true content =
            ap (λ b. stale p && not b) (chosen_of_with kind c.drawn w.serial (owner now p))
            ∙ drop (is_of_kind kind w.serial (owner now p)) (is_chosen_of c.drawn w.serial (owner now p)) (stale p) (mine.fresh p on)
            ∙ ap (λ b. stale p && not b) (sym (kind_is loan t kept.slots kept.whole at low w w_is white kind p content))
        by_sides true on false content = refl
        by_sides false on content e = refl

-- after a draw
pub choices_left : {V : Type 0} {H : V → Type 0} (loan : TakenBox V H → WindowLoan) (shows : List ℕ → Part → PixelSet) (t : WindowManager V H) (kept : IsKept loan t) (new : WindowManager V H) (kind : LayerKind) (s : ℕ) (c drawn : Choices)
    → AreChoices s (layered_desk (desk_of loan t [])) (stale_in t.areas.items) c → has_kind c.drawn kind ≡ false
    → drawn.drawn ≡ with_kind kind c.drawn → ((k : Kinds) → IsFurther (with_kind kind c.drawn) k → left_for drawn k ≡ left_for c k)
    → LeavesShowing loan shows (IsRefreshed (is_of_kind kind s)) t new
    → AreChoices s (layered_desk (desk_of loan new [])) (stale_in new.areas.items) drawn
choices_left loan shows t kept new kind s c drawn choices lacks counted others leaves =
    let left = leaves kept.slots kept.whole in
    choices_stay s (layered_desk (desk_showing shows (desk_of loan new kept.slots))) (layered_desk (desk_of loan new [])) (stale_in new.areas.items) (stale_in new.areas.items) drawn (λ p. refl) (λ p. sym (owner_showing shows (desk_of loan new []) p)) (λ p on. refl)
    (choices_drawn kind s (state_showing shows (state_of loan t kept.slots)) (state_showing shows (state_of loan new kept.slots)) c drawn
    (choices_stay s (layered_desk (desk_of loan t [])) (layered_desk (desk_showing shows (desk_of loan t kept.slots))) (stale_in t.areas.items) (stale_in t.areas.items) c (λ p. refl) (owner_showing shows (desk_of loan t [])) (λ p on. refl) choices)
    lacks counted others left.1)
