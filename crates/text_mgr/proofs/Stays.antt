-- A text record may lie where it lies.
use Rattle.std.proofs.Common.{◌≡◌, ℕ, zero, suc, ◌≤◌, Bool, true, ◌&&◌, List, [], ◌∷◌, ℤ, pos, negsuc, ◌+ℤ◌, ◌≤ℤ◌, Some, sym, ap, ◌∙◌, subst, arith}
use Rattle.std.specs.Prelude.{IfSome, slice_get}
use Rattle.std.specs.List.{list_all}
use Rattle.std.proofs.lemmas.Bool.{and_parts}
use Rattle.std.proofs.lemmas.Bool.Decides.{nat_tests}
use Rattle.std.proofs.lemmas.Int.{ints}
use Rattle.tb_geom.specs.declared.rect.Rect.{Rect}
use Rattle.tb_geom.specs.Rects.{is_in_range, moved_rect}
use Rattle.def_iface.specs.Slots.{TakenBox}
use Rattle.def_iface.specs.WindowMeaning.{WindowLoan}
use Rattle.desk_call.specs.declared.text.TextOf.{TextOf}
use Rattle.text_record.specs.declared.placing.Placing.{Placing}
use Rattle.text_record.specs.Placings.{IsPlacing, box_of, is_near, is_placing, is_span, is_width}
use Rattle.window_items.proofs.EditLemmas.{All-there}
use Rattle.window_list.specs.declared.layer.Layer.{Layer}
use Rattle.window_list.specs.Holders.{fits_at}
use Rattle.window_mgr.specs.declared.manager.WindowManager.{WindowManager}
use Rattle.window_mgr.specs.Kept.{IsKept}
use Rattle.text_mgr.specs.declared.laying.Lie.{Lie}
use Rattle.text_mgr.specs.declared.spots.TextAt.{TextAt}
use Rattle.text_mgr.specs.declared.texts.Texts.{Texts}
use Rattle.text_mgr.specs.Laying.{IsLieOf, MayLie}
use Rattle.text_mgr.specs.Spots.{IsSpotOf}
use Rattle.text_mgr.specs.TextDesks.{KeptText}
use Rattle.text_mgr.specs.WholeTexts.{AreBeside}
use Rattle.text_mgr.proofs.Places.{it_is, layer_there, layers_fit, record_there}

-- ---- a placing, by its numbers

near : (x : ℤ) → negsuc 16777215 ≤ℤ x → x ≤ℤ pos 16777215 → is_near x ≡ true
near x e f = grind (arith, ints)

wide : (n : ℕ) → 1 ≤ n → n ≤ 16383 → is_width n ≡ true
wide n e f = grind (arith, nat_tests)

span : (low high : ℤ) → (low +ℤ pos 1) ≤ℤ high → high ≤ℤ (low +ℤ pos 1024) → is_span low high ≡ true
span low high e f = grind (arith, ints)

-- a text may stand so where the numbers and the box are in range
pub by_numbers : (framed : Bool) (p : Placing) → IsPlacing p.left p.top p.width p.view → is_in_range (box_of framed p.view) ≡ true → is_placing framed p ≡ true
by_numbers framed p its box =
    let left = near p.left its.left_from its.left_to in
    let top = near p.top its.top_from its.top_to in
    let width = wide p.width its.width_from its.width_to in
    let columns = span p.view.left p.view.right its.view_columns its.view_columns_to in
    let rows = span p.view.top p.view.bottom its.view_rows its.view_rows_to in
    (λ i. left i && (top i && (width i && ((columns i && rows i) && box i))))

-- ---- what is asked of each layer holds of the one at a place

all_at : (f : Layer → Bool) (ls : List Layer) (i : ℕ) (l : Layer) → slice_get ls i ≡ Some l → list_all f ls ≡ true → f l ≡ true
all_at f [] i l e h = absurd (cc)
all_at f (k ∷ ks) zero l e h = let same : k ≡ l = cc in ap f (sym same) ∙ (and_parts (f k) (list_all f ks) h).0
all_at f (k ∷ ks) (suc i) l e h = all_at f ks i l e (and_parts (f k) (list_all f ks) h).1

-- a text record may stay where it lies, shown or not
pub may_stay : {V : Type 0} {H : V → Type 0} (loan : TakenBox V H → WindowLoan) (x : TextOf) (t : WindowManager V H) (m : Texts) (s : TextAt) → IsSpotOf loan x t m s → AreBeside loan t m → IsKept loan t
    → (l : Lie) → IfSome (slice_get m.list.items.items s.text) (IsLieOf l) → IsPlacing l.placing.left l.placing.top l.placing.width l.placing.view → (shown : Bool) → MayLie t m s (record l { shown = shown })
may_stay loan x t m s is beside kept l read numbers shown y w there lies =
    let at : IsLieOf l y = subst (λ o. IfSome o (IsLieOf l)) there read in
    let its = layer_there loan x t m s is w lies beside in
    let it : (record_there loan x t m s is).item ≡ y = it_is loan x t m s is y there in
    let box : is_in_range (box_of y.kept.framed y.kept.view) ≡ true = All-there (λ (z : KeptText). is_in_range (box_of z.kept.framed z.kept.view) ≡ true) s.text m.list.items.items y there beside.boxes in
    let placed : is_in_range (box_of y.kept.framed l.placing.view) ≡ true = ap (λ (p : Placing). is_in_range (box_of y.kept.framed p.view)) at.placing ∙ box in
    let fits : is_in_range (moved_rect its.layer.bounds w.place.h w.place.v) ≡ true = all_at (fits_at w.place) w.layers.layers its.index its.layer its.there (layers_fit loan x t m s is w lies beside kept.slots kept.whole) in
    let bounds : its.layer.bounds ≡ box_of y.kept.framed l.placing.view =
    its.is.shape.bounds ∙ ap (λ (z : KeptText). box_of z.kept.framed z.kept.view) it ∙ ap (λ (p : Placing). box_of y.kept.framed p.view) (sym at.placing) in
    (by_numbers y.kept.framed l.placing numbers placed, placed, ap (λ (r : Rect). is_in_range (moved_rect r w.place.h w.place.v)) (sym bounds) ∙ fits)
