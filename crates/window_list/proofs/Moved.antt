-- Regions that move with their window.
use Rattle.std.proofs.Common.{◌≡◌, ℕ, ◌+◌, ◌<◌, Bool, true, false, not, ◌&&◌, ◌||◌, List, [], ◌∷◌, length, get_or, set, take, drop, ℤ, pos, negsuc, ◌+ℤ◌, ◌-ℤ◌, ◌≤ℤ◌, ◌<ℤ◌, refl, sym, ap, ◌∙◌, subst, arith}
use Rattle.std.specs.List.{All, list_all}
use Rattle.std.proofs.lemmas.Bool.{and_parts}
use Rattle.std.proofs.lemmas.Int.{ints}
use Rattle.std.proofs.lemmas.List.{drop_more, drop-set-lt, take_more_set, get_or_default}
use Rattle.std.proofs.lemmas.List.Elements.{All-head, All-tail, All-nil, All-cons, all_zip_more}
use Rattle.tb_geom.specs.declared.point.Point.{Point}
use Rattle.tb_geom.specs.declared.rect.Rect.{Rect}
use Rattle.tb_geom.specs.Points.{PixelSet, plus, minus}
use Rattle.tb_geom.specs.Rects.{rect_holds, between, is_in_range, is_coordinate, moved_rect}
use Rattle.tb_geom.specs.Pixels.{Pixels, holds}
use Rattle.tb_geom.proofs.RectLemmas.{sides_of}
use Rattle.scan_region.specs.Moves.{StaysInRange, is_pixel_in_range}
use Rattle.def_iface.specs.WindowMeaning.{IsWithin}
use Rattle.window_list.specs.declared.layer.Layer.{Layer}
use Rattle.window_list.specs.Holders.{layer_has, is_covered, fits_at, IsLayerAt}
use Rattle.window_list.specs.Owned.{AreTaken, AreMoved}

one_side : (low high d x : ℤ) → is_coordinate (low +ℤ d) ≡ true → is_coordinate (high +ℤ d) ≡ true → low ≤ℤ x → x <ℤ high → between (negsuc 16383) (x +ℤ d) (pos 16383) ≡ true
one_side low high d x a b l m = grind (arith, ints)

-- a pixel of a rectangle that stays in range stays there
pub pixel_stays : (box : Rect) (d p : Point) → rect_holds box p ≡ true → is_in_range (moved_rect box d.h d.v) ≡ true → is_pixel_in_range (plus p d) ≡ true
pixel_stays box d p inside fits =
    let sides = sides_of box p inside in
    let l = and_parts (is_coordinate (box.left +ℤ d.h)) _ fits in
    let t = and_parts (is_coordinate (box.top +ℤ d.v)) _ l.1 in
    let r = and_parts (is_coordinate (box.right +ℤ d.h)) _ t.1 in
    λ i. one_side box.left box.right d.h p.h l.0 r.0 sides.left sides.right i && one_side box.top box.bottom d.v p.v t.0 r.1 sides.top sides.bottom i

-- what lies in a rectangle that stays in range stays there
pub stays_with_box : (s : Pixels) (box : Rect) (d : Point) → IsWithin (holds s) (rect_holds box) → is_in_range (moved_rect box d.h d.v) ≡ true → StaysInRange s d
stays_with_box s box d within fits = λ p e. pixel_stays box d p (within p e) fits

layer_stays : (place new : Point) (l : Layer) (p : Point) → IsLayerAt place l → fits_at new l ≡ true → layer_has l p ≡ true → is_pixel_in_range (plus p new) ≡ true
layer_stays place new l p lies fits e = pixel_stays l.bounds new p (lies.boxed p (and_parts l.shown _ e).1) fits

covered_stays : (place new : Point) (ls : List Layer) (p : Point) → All (IsLayerAt place) ls → list_all (fits_at new) ls ≡ true → is_covered ls p ≡ true → is_pixel_in_range (plus p new) ≡ true
covered_stays place new [] p lie fit e = absurd (cc)
covered_stays place new (l ∷ ls) p lie fit e =
    let fits = and_parts (fits_at new l) _ fit in
    by_test (layer_has l p) refl (covered_stays place new ls p (All-tail (IsLayerAt place) l ls lie) fits.1) e
  where
    by_test : (b : Bool) → layer_has l p ≡ b → (is_covered ls p ≡ true → is_pixel_in_range (plus p new) ≡ true) → (b || is_covered ls p) ≡ true → is_pixel_in_range (plus p new) ≡ true
    by_test true has rest f = layer_stays place new l p (All-head (IsLayerAt place) l ls lie) (and_parts (fits_at new l) _ fit).0 has
    by_test false has rest f = rest f

-- ---- the way from the old place to the new one

there : (x a b : ℤ) → (x +ℤ (b -ℤ a)) ≡ ((x -ℤ a) +ℤ b)
there x a b = omega (arith, ints)

back : (x a b : ℤ) → ((x -ℤ (b -ℤ a)) -ℤ a) ≡ (x -ℤ b)
back x a b = omega (arith, ints)

way_there : (p place new : Point) → plus p (minus new place) ≡ plus (minus p place) new
way_there p place new = λ i. record { h = there p.h place.h new.h i; v = there p.v place.v new.v i }

way_back : (p place new : Point) → minus (minus p (minus new place)) place ≡ minus p new
way_back p place new = λ i. record { h = back p.h place.h new.h i; v = back p.v place.v new.v i }

-- what the layers cover stays in range with them
pub covered_move : (place new : Point) (ls : List Layer) (covered : Pixels) → All (IsLayerAt place) ls → list_all (fits_at new) ls ≡ true → ((p : Point) → holds covered p ≡ is_covered ls (minus p place)) → StaysInRange covered (minus new place)
covered_move place new ls covered lie fit its = λ p e. ap is_pixel_in_range (way_there p place new) ∙ covered_stays place new ls (minus p place) lie fit (sym (its p) ∙ e)

-- and so does what each owns
pub owned_move : (place new : Point) (front : PixelSet) (ls : List Layer) (rs : List Pixels) → All (IsLayerAt place) ls → list_all (fits_at new) ls ≡ true → AreTaken place front ls rs → All (λ r. StaysInRange r (minus new place)) rs
owned_move place new front [] [] lie fit h = All-nil (λ r. StaysInRange r (minus new place))
owned_move place new front (l ∷ ls) (r ∷ rs) lie fit h =
    let fits = and_parts (fits_at new l) _ fit in
    All-cons (λ r. StaysInRange r (minus new place)) r rs
    (λ p e. ap is_pixel_in_range (way_there p place new) ∙ layer_stays place new l (minus p place) (All-head (IsLayerAt place) l ls lie) fits.0 (and_parts (layer_has l (minus p place)) _ (sym (h.0 p) ∙ e)).0)
    (owned_move place new (λ p. front p || layer_has l p) ls rs (All-tail (IsLayerAt place) l ls lie) fits.1 h.1)
owned_move place new front [] (r ∷ rs) lie fit h = absurd h
owned_move place new front (l ∷ ls) [] lie fit h = absurd h

-- ---- after the move

pub covered_moved : (place new : Point) (ls : List Layer) (covered moved : Pixels) → ((p : Point) → holds covered p ≡ is_covered ls (minus p place)) → ((p : Point) → holds moved p ≡ holds covered (minus p (minus new place))) → (p : Point) → holds moved p ≡ is_covered ls (minus p new)
covered_moved place new ls covered moved its by p = by p ∙ its (minus p (minus new place)) ∙ ap (is_covered ls) (way_back p place new)

pub owned_moved : (place new : Point) (front : PixelSet) (ls : List Layer) (rs ss : List Pixels) → AreTaken place front ls rs → AreMoved (minus new place) rs ss → AreTaken new front ls ss
owned_moved place new front [] [] [] h m = tt
owned_moved place new front (l ∷ ls) (r ∷ rs) (s ∷ ss) h m = (
  λ p. m.0 p ∙ h.0 (minus p (minus new place)) ∙ ap (λ q. layer_has l q && not (front q)) (way_back p place new),
  owned_moved place new (λ p. front p || layer_has l p) ls rs ss h.1 m.1,
)
owned_moved place new front [] (r ∷ rs) ss h m = absurd h
owned_moved place new front (l ∷ ls) [] ss h m = absurd h
owned_moved place new front [] [] (s ∷ ss) h m = absurd m
owned_moved place new front (l ∷ ls) (r ∷ rs) [] h m = absurd m

pub lie_moved : (place new : Point) (ls : List Layer) → All (IsLayerAt place) ls → list_all (fits_at new) ls ≡ true → All (IsLayerAt new) ls
lie_moved place new [] lie fit = All-nil (IsLayerAt new)
lie_moved place new (l ∷ ls) lie fit =
    let fits = and_parts (fits_at new l) _ fit in
    let first = All-head (IsLayerAt place) l ls lie in
    All-cons (IsLayerAt new) l ls (record { boxed = first.boxed; inside = first.inside; fits = fits.0 }) (lie_moved place new ls (All-tail (IsLayerAt place) l ls lie) fits.1)

-- ---- one region after another

rest_is : (xs ys : List Pixels) (i : ℕ) (d : Pixels) → i < length xs → i < length ys → drop i xs ≡ drop i ys → (get_or xs i d ∷ drop (i + 1) xs) ≡ (get_or ys i d ∷ drop (i + 1) ys)
rest_is xs ys i d within inside same = sym (drop_more xs i d within) ∙ same ∙ drop_more ys i d inside

-- the first of those ahead is as it was
pub first_ahead : (xs ys : List Pixels) (i : ℕ) (d : Pixels) → i < length xs → i < length ys → drop i xs ≡ drop i ys → get_or xs i d ≡ get_or ys i d
first_ahead xs ys i d within inside same = ap (λ zs. get_or zs 0 d) (rest_is xs ys i d within inside same)

pub ahead_more : (xs ys : List Pixels) (i : ℕ) (y : Pixels) → i < length xs → i < length ys → drop i xs ≡ drop i ys → drop (i + 1) (set xs i y) ≡ drop (i + 1) ys
ahead_more xs ys i y within inside same = drop-set-lt (i + 1) xs i y (omega arith) ∙ ap (λ zs. drop 1 zs) (rest_is xs ys i y within inside same)

pub moved_more : (by : Point) (xs ys : List Pixels) (i : ℕ) (y : Pixels) → i < length xs → i < length ys → drop i xs ≡ drop i ys → AreMoved by (take i ys) (take i xs) → ((p : Point) → holds y p ≡ holds (get_or xs i y) (minus p by)) → AreMoved by (take (i + 1) ys) (take (i + 1) (set xs i y))
moved_more by xs ys i y within inside same so_far moved =
    let x = get_or ys i y in
    let read : x ≡ get_or ys i x = get_or_default ys i y x inside in
    subst (λ zs. AreMoved by (take (i + 1) ys) zs) (sym (take_more_set xs i y within))
    (all_zip_more (λ r s. (p : Point) → holds s p ≡ holds r (minus p by)) ys (take i xs) i x y inside read so_far
    (λ p. moved p ∙ ap (λ r. holds r (minus p by)) (first_ahead xs ys i y within inside same)))
