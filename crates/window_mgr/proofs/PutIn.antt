-- A window among others, put at another place of them, or changed.
use Rattle.std.proofs.Common.{◌≡◌, ℕ, zero, suc, ◌<◌, ◌==◌, Bool, true, false, if◌then◌else◌, ◌+◌, List, [], ◌∷◌, ◌++◌, length, get_or, map, Option, None, Some, refl, sym, ap, ◌∙◌, subst, arith}
use Rattle.std.specs.Prelude.{All, AllPairs, Contains}
use Rattle.std.specs.List.{insert, remove}
use Rattle.std.specs.List.Sorted.{IsPermutation}
use Rattle.std.proofs.lemmas.Bool.{eqb-true, false≢true}
use Rattle.std.proofs.lemmas.List.Elements.{All-nil, All-cons, All-head, All-tail}
use Rattle.std.proofs.lemmas.List.Sorted.{IsPermutation-insert, IsPermutation-sym, IsPermutation-map, All-permutation, Contains-permutation}
use Rattle.std.proofs.lemmas.List.Kept.{AllPairs-cons}
use Rattle.desk_layers.specs.Desk as layers
use Rattle.desk_layers.proofs.Owning.{same_number, not_first}
use Rattle.vis_update.specs.Records.{WindowRecord, Look, layered_window}
use Rattle.window_mgr.specs.FullDesk.{HaveSerials}
use Rattle.window_mgr.specs.Finding.{record_with}
use Rattle.window_mgr.specs.Arrange.{without, changed}
use Rattle.window_mgr.proofs.EachChanged.{pairs_first, pairs_rest}
use Rattle.window_mgr.proofs.Committing.{turned}

-- ---- lists

-- the element, put at this place of the others
abbrev pub put_in : {X : Type 0} → ℕ → X → List X → List X
put_in zero x xs = x ∷ xs
put_in (suc i) x [] = x ∷ []
put_in (suc i) x (y ∷ ys) = y ∷ put_in i x ys

module _ {X : Type 0} where
  pub put_is_insert : (i : ℕ) (x : X) (xs : List X) → put_in i x xs ≡ insert xs i x
  put_is_insert zero x [] = refl
  put_is_insert zero x (y ∷ ys) = refl
  put_is_insert (suc i) x [] = refl
  put_is_insert (suc i) x (y ∷ ys) = ap (λ zs. y ∷ zs) (put_is_insert i x ys)

  pub taken_out : (xs : List X) (i : ℕ) (x : X) → i < length xs → x ≡ get_or xs i x → xs ≡ put_in i x (remove xs i)
  taken_out [] i x low e = absurd (omega arith)
  taken_out (y ∷ ys) zero x low e = ap (λ z. z ∷ ys) (sym e)
  taken_out (y ∷ ys) (suc i) x low e = ap (λ zs. y ∷ zs) (taken_out ys i x (omega arith) e)

  -- behind all others
  pub put_last : (xs : List X) (x : X) → put_in (length xs) x xs ≡ xs ++ x ∷ []
  put_last [] x = refl
  put_last (y ∷ ys) x = ap (λ zs. y ∷ zs) (put_last ys x)

  -- the same elements in another order
  pub put_permutes : (i : ℕ) (x : X) (xs : List X) → IsPermutation (x ∷ xs) (put_in i x xs)
  put_permutes i x xs = subst (IsPermutation (x ∷ xs)) (sym (put_is_insert i x xs)) (IsPermutation-insert xs i x)

  pub length-put : (i : ℕ) (x : X) (xs : List X) → length (put_in i x xs) ≡ length xs + 1
  length-put zero x xs = omega arith
  length-put (suc i) x [] = omega arith
  length-put (suc i) x (y ∷ ys) = let e = length-put i x ys in omega arith

  -- what holds of all of them
  pub All-out : (P : X → Type 0) (i : ℕ) (x : X) (xs : List X) → All P (put_in i x xs) → All P (x ∷ xs)
  All-out P i x xs all = All-permutation P (put_in i x xs) (x ∷ xs) (IsPermutation-sym (x ∷ xs) (put_in i x xs) (put_permutes i x xs)) all

  pub All-put : (P : X → Type 0) (i : ℕ) (x : X) (xs : List X) → P x → All P xs → All P (put_in i x xs)
  All-put P i x xs one all = All-permutation P (x ∷ xs) (put_in i x xs) (put_permutes i x xs) (All-cons P x xs one all)

  -- what holds of all of them, and of what one of them is replaced by
  pub All-anew : (P : X → Type 0) (i : ℕ) (x y : X) (xs : List X) → i < length xs → x ≡ get_or xs i x → P y → All P xs → All P (put_in i y (remove xs i))
  All-anew P i x y xs low read one all =
      All-put P i y (remove xs i) one (All-tail P x (remove xs i) (All-out P i x (remove xs i) (subst (All P) (taken_out xs i x low read) all)))

  -- what holds of each two of them
  module _ (R : X → X → Type 0) (turns : (x y : X) → R x y → R y x) where
    pub AllPairs-put : (i : ℕ) (x : X) (xs : List X) → All (R x) xs → AllPairs R xs → AllPairs R (put_in i x xs)
    AllPairs-put zero x xs one all = AllPairs-cons R x xs one all
    AllPairs-put (suc i) x [] one all = AllPairs-cons R x [] one all
    AllPairs-put (suc i) x (y ∷ ys) one all =
        AllPairs-cons R y (put_in i x ys) (All-put (R y) i x ys (turns x y (All-head (R x) y ys one)) (pairs_first R y ys all)) (AllPairs-put i x ys (All-tail (R x) y ys one) (pairs_rest R y ys all))

    pub AllPairs-out : (i : ℕ) (x : X) (xs : List X) → AllPairs R (put_in i x xs) → All (R x) xs × AllPairs R xs
    AllPairs-out zero x xs all = (pairs_first R x xs all, pairs_rest R x xs all)
    AllPairs-out (suc i) x [] all = (All-nil (R x), pairs_rest R x [] all)
    AllPairs-out (suc i) x (y ∷ ys) all =
        let first = All-out (R y) i x ys (pairs_first R y (put_in i x ys) all) in
        let rest = AllPairs-out i x ys (pairs_rest R y (put_in i x ys) all) in
        (All-cons (R x) y ys (turns y x (All-head (R y) x ys first)) rest.0, AllPairs-cons R y ys (All-tail (R y) x ys first) rest.1)

pub map-put : {X Y : Type 0} (f : X → Y) (i : ℕ) (x : X) (xs : List X) → map f (put_in i x xs) ≡ put_in i (f x) (map f xs)
map-put f zero x xs = refl
map-put f (suc i) x [] = refl
map-put f (suc i) x (y ∷ ys) = ap (λ zs. f y ∷ zs) (map-put f i x ys)

-- another place, and another element of the same value by f
pub Contains-put : {X Y : Type 0} (f : X → Y) (i j : ℕ) (x y : X) (xs : List X) (k : Y) → f y ≡ f x → Contains (map f (put_in i x xs)) k → Contains (map f (put_in j y xs)) k
Contains-put f i j x y xs k same c =
    Contains-permutation (f y ∷ map f xs) (map f (put_in j y xs)) k (IsPermutation-map f (y ∷ xs) (put_in j y xs) (put_permutes j y xs))
    (subst (λ v. Contains (v ∷ map f xs) k) (sym same)
    (Contains-permutation (map f (put_in i x xs)) (map f (x ∷ xs)) k (IsPermutation-map f (put_in i x xs) (x ∷ xs) (IsPermutation-sym (x ∷ xs) (put_in i x xs) (put_permutes i x xs))) c))

-- ---- windows

pub serials_put : (P : ℕ → Type 0) (i : ℕ) (w : WindowRecord) (rest : List WindowRecord) → P w.serial → HaveSerials P rest → HaveSerials P (put_in i w rest)
serials_put P zero w rest its others = (its, others)
serials_put P (suc i) w [] its others = (its, tt)
serials_put P (suc i) w (y ∷ ys) its others = (others.0, serials_put P i w ys its others.1)

pub serials_out : (P : ℕ → Type 0) (i : ℕ) (w : WindowRecord) (rest : List WindowRecord) → HaveSerials P (put_in i w rest) → P w.serial × HaveSerials P rest
serials_out P zero w rest all = (all.0, all.1)
serials_out P (suc i) w [] all = (all.0, tt)
serials_out P (suc i) w (y ∷ ys) all = let behind = serials_out P i w ys all.1 in (behind.0, (all.0, behind.1))

module _ (look : Look) where
  abbrev pub IsFree : ℕ → List WindowRecord → Type 0
  IsFree s ws = layers.window_of s (map (layered_window look) ws) ≡ None

  -- a window that is put among others is found by its serial, and others are found as they were
  pub found_put : (s : ℕ) (i : ℕ) (w : WindowRecord) (rest : List WindowRecord) → IsFree w.serial rest → layers.window_of s (map (layered_window look) (put_in i w rest)) ≡ (if w.serial == s then Some (layered_window look w) else layers.window_of s (map (layered_window look) rest))
  found_put s zero w rest free = refl
  found_put s (suc i) w [] free = refl
  found_put s (suc i) w (y ∷ ys) free =
      let first = not_first (y.serial == w.serial) (layered_window look y) (layers.window_of w.serial (map (layered_window look) ys)) free in
      by_test (y.serial == s) (w.serial == s) refl refl (found_put s i w ys first.1) first.0
    where
      by_test : (a b : Bool) → (y.serial == s) ≡ a → (w.serial == s) ≡ b → layers.window_of s (map (layered_window look) (put_in i w ys)) ≡ (if w.serial == s then Some (layered_window look w) else layers.window_of s (map (layered_window look) ys)) → (y.serial == w.serial) ≡ false
          → (if a then Some (layered_window look y) else layers.window_of s (map (layered_window look) (put_in i w ys))) ≡ (if b then Some (layered_window look w) else (if a then Some (layered_window look y) else layers.window_of s (map (layered_window look) ys)))
      by_test true true ea eb rest away = absurd (false≢true (sym away ∙ ap (λ n. n == w.serial) (eqb-true y.serial s ea ∙ sym (eqb-true w.serial s eb)) ∙ same_number w.serial))
      by_test true false ea eb rest away = refl
      by_test false b ea eb rest away = rest ∙ ap (λ c. if c then Some (layered_window look w) else layers.window_of s (map (layered_window look) ys)) eb

  pub distinct_put : (i : ℕ) (w : WindowRecord) (rest : List WindowRecord) → IsFree w.serial rest → layers.AreParts (layered_window look w).layers → layers.AreWindows (map (layered_window look) rest) → layers.AreWindows (map (layered_window look) (put_in i w rest))
  distinct_put zero w rest free apart distinct = (free, (apart, distinct))
  distinct_put (suc i) w [] free apart distinct = (refl, (apart, tt))
  distinct_put (suc i) w (y ∷ ys) free apart distinct =
      let first = not_first (y.serial == w.serial) (layered_window look y) (layers.window_of w.serial (map (layered_window look) ys)) free in
      (found_put y.serial i w ys first.1 ∙ (λ k. if turned y.serial w.serial first.0 k then Some (layered_window look w) else distinct.0 k), (distinct.1.0, distinct_put i w ys first.1 apart distinct.1.1))

  -- its layers are apart
  pub parts_out : (i : ℕ) (w : WindowRecord) (rest : List WindowRecord) → layers.AreWindows (map (layered_window look) (put_in i w rest)) → layers.AreParts (layered_window look w).layers
  parts_out zero w rest distinct = distinct.1.0
  parts_out (suc i) w [] distinct = distinct.1.0
  parts_out (suc i) w (y ∷ ys) distinct = parts_out i w ys distinct.1.1

  pub distinct_out : (i : ℕ) (w : WindowRecord) (rest : List WindowRecord) → layers.AreWindows (map (layered_window look) (put_in i w rest)) → IsFree w.serial rest × layers.AreWindows (map (layered_window look) rest)
  distinct_out zero w rest distinct = (distinct.0, distinct.1.1)
  distinct_out (suc i) w [] distinct = (refl, tt)
  distinct_out (suc i) w (y ∷ ys) distinct =
      let behind = distinct_out i w ys distinct.1.1 in
      let apart = by_test (w.serial == y.serial) (layers.window_of y.serial (map (layered_window look) ys)) (sym (found_put y.serial i w ys behind.0) ∙ distinct.0) in
      ((λ k. if turned w.serial y.serial apart.0 k then Some (layered_window look y) else behind.0 k), (apart.1, (distinct.1.0, behind.1)))
    where
      by_test : (b : Bool) (o : Option layers.LayeredWindow) → (if b then Some (layered_window look w) else o) ≡ None → (b ≡ false) × (o ≡ None)
      by_test b o e = not_first b (layered_window look w) o e

  -- ---- the window of a serial, taken out

  -- the records and the layers find the same
  pub none_with : (s : ℕ) (ws : List WindowRecord) → IsFree s ws → record_with s ws ≡ None
  none_with s [] e = refl
  none_with s (w ∷ ws) e =
      let first = not_first (w.serial == s) (layered_window look w) (layers.window_of s (map (layered_window look) ws)) e in
      (λ k. if first.0 k then Some w else none_with s ws first.1 k)

  -- what the words of steps say of a window that is put among others
  pub record IsPut (s : ℕ) (i : ℕ) (w : WindowRecord) (rest : List WindowRecord) : Type 0 where
    pub found : record_with s (put_in i w rest) ≡ Some w
    pub others : without s (put_in i w rest) ≡ rest
    pub changed_is : (f : WindowRecord → WindowRecord) → changed s f (put_in i w rest) ≡ put_in i (f w) rest

  pub is_put : (s : ℕ) (i : ℕ) (w : WindowRecord) (rest : List WindowRecord) → w.serial ≡ s → IsFree s rest → IsPut s i w rest
  is_put s zero w rest its free =
      let here : (w.serial == s) ≡ true = ap (λ n. n == s) its ∙ same_number s in
      record {
        found = λ k. if here k then Some w else record_with s rest;
        others = λ k. if here k then rest else w ∷ without s rest;
        changed_is = λ f. λ k. if here k then f w ∷ rest else w ∷ changed s f rest;
      }
  is_put s (suc i) w [] its free =
      let here : (w.serial == s) ≡ true = ap (λ n. n == s) its ∙ same_number s in
      record {
        found = λ k. if here k then Some w else None;
        others = λ k. if here k then [] else w ∷ [];
        changed_is = λ f. λ k. if here k then f w ∷ [] else w ∷ [];
      }
  is_put s (suc i) w (y ∷ ys) its free =
      let first = not_first (y.serial == s) (layered_window look y) (layers.window_of s (map (layered_window look) ys)) free in
      let behind = is_put s i w ys its first.1 in
      record {
        found = (λ k. if first.0 k then Some y else record_with s (put_in i w ys)) ∙ behind.found;
        others = (λ k. if first.0 k then put_in i w ys else y ∷ without s (put_in i w ys)) ∙ ap (λ zs. y ∷ zs) behind.others;
        changed_is = λ f. (λ k. if first.0 k then f y ∷ put_in i w ys else y ∷ changed s f (put_in i w ys)) ∙ ap (λ zs. y ∷ zs) (behind.changed_is f);
      }

-- a window that is found can be taken out
pub record IsTakenOut (s : ℕ) (ws : List WindowRecord) (w : WindowRecord) : Type 0 where
  pub place : ℕ
  pub rest : List WindowRecord
  pub is : ws ≡ put_in place w rest
  pub serial : w.serial ≡ s

pub out_of : (s : ℕ) (ws : List WindowRecord) (w : WindowRecord) → record_with s ws ≡ Some w → IsTakenOut s ws w
out_of s [] w e = absurd (cc)
out_of s (y ∷ ys) w e = by_test (λ f. out_of s ys w f) (y.serial == s) refl e
  where
    by_test : (record_with s ys ≡ Some w → IsTakenOut s ys w) → (b : Bool) → (y.serial == s) ≡ b → (if b then Some y else record_with s ys) ≡ Some w → IsTakenOut s (y ∷ ys) w
    by_test behind true here f = let same : y ≡ w = cc in record { place = 0; rest = ys; is = ap (λ z. z ∷ ys) same; serial = ap (λ (z : WindowRecord). z.serial) (sym same) ∙ eqb-true y.serial s here }
    by_test behind false away f = let its = behind f in record { place = suc its.place; rest = y ∷ its.rest; is = ap (λ zs. y ∷ zs) its.is; serial = its.serial }
