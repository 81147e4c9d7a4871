-- What windows show of lists where the lists are changed: all but the changed one show what they showed.
use Rattle.std.proofs.Common.{◌≡◌, ℕ, Bool, true, false, ◌||◌, ◌==◌, cond, if◌then◌else◌, List, [], ◌∷◌, ◌++◌, sym, ap, ◌∙◌, refl, arith}
use Rattle.std.specs.Prelude.{All}
use Rattle.std.specs.List.{AllZip, list_any, remove}
use Rattle.std.proofs.lemmas.Bool.{false≢true}
use Rattle.std.proofs.lemmas.Bool.Decides.{nat_tests}
use Rattle.tb_geom.specs.declared.point.Point.{Point}
use Rattle.tb_geom.specs.Points.{minus}
use Rattle.window_items.specs.Items.{has_serial, items_of}
use Rattle.desk_layers.specs.declared.part.Part.TheVariants as part
use Rattle.desk_layers.specs.Owner.{Owner, same_owner}
use Rattle.desk_layers.specs.Owner.Owner.{Content}
use Rattle.window_list.specs.declared.layer.Layer.{Layer}
use Rattle.window_list.specs.Holders.{layer_has, part_at}
use Rattle.desk_call.specs.declared.list.ListOf.{ListOf}
use Rattle.desk_call.specs.declared.update.LayerKind.TheVariants.{Lists}
use Rattle.vis_update.specs.Records.{WindowRecord}
use Rattle.window_paint.specs.Kinds.{is_of}
use Rattle.window_mgr.specs.FullDesk.{FullDesk}
use Rattle.control_mgr.proofs.ControlBits.{IsShownBy, StayLists, at_serial}
use Rattle.list_mgr.specs.ListDesks.{KeptList, ListDesk, list_bit, lists_show}
use Rattle.list_mgr.specs.ListSteps.{AreListLayers, IsChangedTo, IsLayerOf, layers_of_lists}
use Rattle.list_mgr.specs.WholeLists.{AreListsApart}
use Rattle.list_mgr.proofs.ListsFound.{StaySame, stay_edited, stay_pushed, stay_removed}
use Rattle.tb_geom.specs.Points.{PixelSet}
use Rattle.desk_layers.specs.declared.part.Part.{Part}

-- the layers of each window that are lists' are those of its own
abbrev pub AreListsJoined : List KeptList → List WindowRecord → Type 0
AreListsJoined ls ws = All (λ w. AreListLayers (items_of w.serial ls) w.layers) ws

-- ---- whose list it is

same_number : (a b : ℕ) → a ≡ b → (a == b) ≡ true
same_number a b e = grind (arith, nat_tests)

further : (a b : Bool) → b ≡ true → (a || b) ≡ true
further true b e = refl
further false b e = e

-- the layer of a list at a point is that of one of these
named : (n : ℕ) (ls : List KeptList) (ks : List Layer) (q : Point) → AreListLayers ls ks → part_at ks q ≡ part.List n → list_any (has_serial n) ls ≡ true
named n ls [] q h e = absurd (cc)
named n ls (k ∷ ks) q h e = by_tests (is_of Lists k.part) refl (layer_has k q) ls h e (λ xs g f. named n xs ks q g f)
  where
    by_tests : (b : Bool) → is_of Lists k.part ≡ b → (c : Bool) (ys : List KeptList) → AllZip IsLayerOf ys (cond b (k ∷ layers_of_lists ks) (layers_of_lists ks))
        → (if c then k.part else part_at ks q) ≡ part.List n → ((xs : List KeptList) → AreListLayers xs ks → part_at ks q ≡ part.List n → list_any (has_serial n) xs ≡ true)
        → list_any (has_serial n) ys ≡ true
    by_tests false is true ys h e rest = absurd (false≢true (sym is ∙ ap (is_of Lists) e))
    by_tests false is false ys h e rest = rest ys h e
    by_tests true is c [] h e rest = absurd h
    by_tests true is true (x ∷ xs) h e rest =
        let its : part.List x.serial ≡ part.List n = sym h.0.part ∙ e in
        let serial : x.serial ≡ n = cc in
        ap (λ b. b || list_any (has_serial n) xs) (same_number x.serial n serial)
    by_tests true is false (x ∷ xs) h e rest = further (has_serial n x) (list_any (has_serial n) xs) (rest xs h.1 e)

-- a window with the layer of a list at a point has a list of that serial
pub named_there : (d : FullDesk) (ls : List KeptList) (s n : ℕ) (p : Point) → AreListsJoined ls d.windows → IsShownBy d s (part.List n) p → list_any (has_serial n) (items_of s ls) ≡ true
named_there d ls s n p joined its =
    let there = at_serial (λ w. AreListLayers (items_of w.serial ls) w.layers) s d.windows its.window its.found joined in
    ap (λ k. list_any (has_serial n) (items_of k ls)) (sym there.1)
    ∙ named n (items_of its.window.serial ls) its.window.layers (minus p its.window.place) there.0 its.part_is

-- ---- what is shown before and after

-- what lists show stays where the lists do
pub lists_stay : (own : Owner → Bool) (others now : List ℕ → Part → PixelSet) (ls ks : List KeptList) (d e : FullDesk) → AreListsJoined ls d.windows → AreListsJoined ks e.windows → StaySame own ls ks
    → StayLists own d e (lists_show others ls) (lists_show now ks)
lists_stay own others now ls ks d e was are stay s n p its is other q =
    ap (λ o. list_bit d.font o q) (stay s n (named_there d ls s n p was its) (named_there e ks s n p are is) other)

module _ (d e : FullDesk) where
  -- a list was changed
  pub lists_edited : (l : ListOf) (f : KeptList → KeptList) → ((x : KeptList) → (f x).serial ≡ x.serial) → (before after : ListDesk) → AreListsApart before.lists.lists → IsChangedTo l f before after
      → AreListsJoined before.lists.lists d.windows → AreListsJoined after.lists.lists e.windows
      → StayLists (λ o. same_owner o (Content l.window (part.List l.list))) d e (lists_show before.others before.lists.lists) (lists_show after.others after.lists.lists)
  lists_edited l f same before after apart changed was are =
      lists_stay (λ o. same_owner o (Content l.window (part.List l.list))) before.others after.others before.lists.lists after.lists.lists d e was are (stay_edited l f same before after apart changed)

  -- one more was put behind the others
  pub lists_pushed : (own : Owner → Bool) (others now : List ℕ → Part → PixelSet) (ls ks : List KeptList) (l : KeptList) → ks ≡ ls ++ l ∷ [] → AreListsJoined ls d.windows → AreListsJoined ks e.windows → StayLists own d e (lists_show others ls) (lists_show now ks)
  lists_pushed own others now ls ks l pushed was are = lists_stay own others now ls ks d e was are (stay_pushed own ls ks l pushed)

  -- one was taken out
  pub lists_removed : (own : Owner → Bool) (others now : List ℕ → Part → PixelSet) (ls ks : List KeptList) (at : ℕ) → AreListsApart ls → ks ≡ remove ls at → AreListsJoined ls d.windows → AreListsJoined ks e.windows
      → StayLists own d e (lists_show others ls) (lists_show now ks)
  lists_removed own others now ls ks at apart removed was are = lists_stay own others now ls ks d e was are (stay_removed own ls ks at apart removed)
