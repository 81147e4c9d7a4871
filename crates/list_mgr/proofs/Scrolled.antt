-- A list that is scrolled, as the code does it.
use Rattle.std.specs.Prelude.{slice_get, IfSome}
use Rattle.std.specs.Bool.{Decides}
use Rattle.std.specs.Ordering.{int_eq}
use Rattle.std.proofs.lemmas.Bool.Decides.{Decides-and, Decides-int_eq}
use Rattle.std.proofs.Common.{◌≡◌, ℕ, ℤ, ◌&&◌, not, Bool, true, false, Some, refl, sym, ap, ◌∙◌, subst}
use Rattle.std.proofs.lemmas.Bool.{not-false, true≢false}
use Rattle.list_cells.specs.declared.cell.Cell.{Cell}
use Rattle.list_view.specs.declared.axis.Axis.{Axis}
use Rattle.list_view.specs.Views.{View, scrolled}
use Rattle.def_iface.specs.Slots.{TakenBox}
use Rattle.def_iface.specs.ListMeaning.{ListLoan}
use Rattle.window_items.specs.declared.item.Item.{Item}
use Rattle.list_mgr.specs.declared.list_record.ListRecord.{ListRecord}
use Rattle.window_items.specs.Items.{edit_at}
use Rattle.list_mgr.specs.Fields.{with_view}
use Rattle.list_mgr.specs.Seen.{all_seen, seen, kept_seen}
use Rattle.window_items.proofs.SeenLemmas.{edit_at-seen}
use Rattle.list_mgr.specs.declared.lists.Lists.{Lists}
use Rattle.list_mgr.specs.ListDesks.{KeptList}
use Rattle.list_mgr.specs.ListSteps.{with_scroll}
use Rattle.list_mgr.specs.Changing.{IsSameOrNot}
use Rattle.list_mgr.specs.WholeLists.{records_of}
use Rattle.window_items.proofs.EditLemmas.{edit_alike}

-- what `==` answers
abbrev pub same_axes : Axis → Axis → Bool
same_axes a b = int_eq a.start b.start && (int_eq a.length b.length && int_eq a.cell b.cell)

abbrev pub same_cells : Cell → Cell → Bool
same_cells a b = int_eq a.column b.column && int_eq a.row b.row

abbrev pub same_views : View → View → Bool
same_views a b = same_axes a.across b.across && (same_axes a.down b.down && same_cells a.first b.first)

axes_decide : (a b : Axis) → Decides (same_axes a b) (a ≡ b)
axes_decide a b = let d = Decides-and (int_eq a.start b.start) (int_eq a.length b.length && int_eq a.cell b.cell) (Decides-int_eq a.start b.start)
    (Decides-and (int_eq a.length b.length) (int_eq a.cell b.cell) (Decides-int_eq a.length b.length) (Decides-int_eq a.cell b.cell)) in (
      λ e. let is = d.0 e in λ i. record { start = is.0 i; length = is.1.0 i; cell = is.1.1 i },
      λ e. d.1 (ap (λ (x : Axis). x.start) e, (ap (λ (x : Axis). x.length) e, ap (λ (x : Axis). x.cell) e)),
    )

cells_decide : (a b : Cell) → Decides (same_cells a b) (a ≡ b)
cells_decide a b = let d = Decides-and (int_eq a.column b.column) (int_eq a.row b.row) (Decides-int_eq a.column b.column) (Decides-int_eq a.row b.row) in (
  λ e. let is = d.0 e in λ i. record { column = is.0 i; row = is.1 i },
  λ e. d.1 (ap (λ (x : Cell). x.column) e, ap (λ (x : Cell). x.row) e),
)

views_decide : (a b : View) → Decides (same_views a b) (a ≡ b)
views_decide a b = let d = Decides-and (same_axes a.across b.across) (same_axes a.down b.down && same_cells a.first b.first) (axes_decide a.across b.across)
    (Decides-and (same_axes a.down b.down) (same_cells a.first b.first) (axes_decide a.down b.down) (cells_decide a.first b.first)) in (
      λ e. let is = d.0 e in λ i. record { across = is.0 i; down = is.1.0 i; first = is.1.1 i },
      λ e. d.1 (ap (λ (x : View). x.across) e, (ap (λ (x : View). x.down) e, ap (λ (x : View). x.first) e)),
    )

pub other_by : (b : Bool) (x y : View) → b ≡ not (same_views x y) → IsSameOrNot b y x
other_by true x y e = λ same. true≢false (e ∙ ap not ((views_decide x y).1 (sym same)))
other_by false x y e = sym ((views_decide x y).0 (not-false (same_views x y) (sym e)))

-- a list with another view is another list
other_record : (b : Bool) (x : KeptList) (v w : View) → v ≡ w → IsSameOrNot b v x.kept.view → IsSameOrNot b (with_view w x) x
other_record true x v w is other = λ same. other (is ∙ ap (λ (y : KeptList). y.kept.view) same)
other_record false x v w is other = ap (λ view. with_view view x) (sym is ∙ other)

some_same : {Y : Type 0} {a b : Y} → Some a ≡ Some b → a ≡ b
some_same e = cc

module _ {X : Type 0} {L : X → Type 0} (list_loan : TakenBox X L → ListLoan) (m n : Lists (TakenBox X L)) (at : ℕ) (columns rows : ℤ)
    (x : Item (ListRecord (TakenBox X L))) (read : slice_get (records_of list_loan m) at ≡ Some (seen list_loan x)) (view : View)
    (is : view ≡ scrolled x.kept.cells.columns x.kept.cells.rows columns rows x.kept.view) where
  -- the lists, once one of them is scrolled
  pub lists_scrolled : n.list.items.items ≡ edit_at (with_view view) at m.list.items.items
      → records_of list_loan n ≡ edit_at (with_scroll columns rows) at (records_of list_loan m)
  lists_scrolled edited =
      ap (all_seen list_loan) edited ∙ edit_at-seen (kept_seen list_loan) (with_view view) (with_view view) (λ l. refl) at m.list.items.items
      ∙ edit_alike (with_view view) (with_scroll columns rows) at (records_of list_loan m)
      (λ y there. subst (λ z. with_view view z ≡ with_scroll columns rows z) (some_same (sym read ∙ there)) (ap (λ v. with_view v (seen list_loan x)) is))

  -- whether it is another list then
  pub other_list : (b : Bool) → IsSameOrNot b view x.kept.view
      → IfSome (slice_get (records_of list_loan m) at) (λ y. IsSameOrNot b (with_scroll columns rows y) y)
  other_list b other = subst (λ o. IfSome o (λ y. IsSameOrNot b (with_scroll columns rows y) y)) (sym read)
      (other_record b (seen list_loan x) view (scrolled x.kept.cells.columns x.kept.cells.rows columns rows x.kept.view) is other)
