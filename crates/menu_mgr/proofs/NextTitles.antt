-- Titles that are those of menus: the next one is that of the next menu of the bar.
use Rattle.std.proofs.Common.{◌≡◌, ◌≤◌, ◌<◌, ℕ, zero, suc, Bool, true, false, cond, List, [], ◌∷◌, ◌++◌, length, map, take, get_or, Option, refl, sym, ap, ◌∙◌, arith}
use Rattle.std.proofs.lemmas.List.{length-take-le}
use Rattle.desk_ground.specs.declared.titles.BarTitle.{BarTitle}
use Rattle.menu_list.specs.declared.listed.Listed.{Listed}
use Rattle.menu_list.specs.Lists.{in_bar, title_of, titles_of}

length_mid : {X : Type 0} (xs ys : List X) (y : X) → length xs < length (xs ++ y ∷ ys)
length_mid [] ys y = omega arith
length_mid (x ∷ xs) ys y = let more = length_mid xs ys y in omega (arith, more)

get_mid : {X : Type 0} (xs ys : List X) (y d : X) → get_or (xs ++ y ∷ ys) (length xs) d ≡ y
get_mid [] ys y d = refl
get_mid (x ∷ xs) ys y d = get_mid xs ys y d

module _ {D : Type 0} where
  -- titles in which that of this menu stands behind those of the menus before it
  abbrev IsSplit : Option ℕ → List (Listed D) → ℕ → Listed D → Type 0
  IsSplit h xs i x = (rest : List BarTitle) × (titles_of h xs ≡ titles_of h (take i xs) ++ title_of h x ∷ rest)

  past : (h : Option ℕ) (x y : Listed D) (ys before : List (Listed D)) (rest : List BarTitle) (b : Bool)
      → map (title_of h) ys ≡ map (title_of h) before ++ title_of h x ∷ rest
      → map (title_of h) (cond b (y ∷ ys) ys) ≡ map (title_of h) (cond b (y ∷ before) before) ++ title_of h x ∷ rest
  past h x y ys before rest true e = ap (λ ts. title_of h y ∷ ts) e
  past h x y ys before rest false e = e

  split : (h : Option ℕ) (xs : List (Listed D)) (i : ℕ) (x : Listed D) → i < length xs → x ≡ get_or xs i x → x.inserted ≡ true → IsSplit h xs i x
  split h [] i x low read is = absurd (omega (arith, low))
  split h (y ∷ ys) zero x low read is = (
    titles_of h ys,
    ap (λ b. map (title_of h) (cond b (y ∷ in_bar ys) (in_bar ys))) (ap (λ l. l.inserted) (sym read) ∙ is)
        ∙ ap (λ l. title_of h l ∷ titles_of h ys) (sym read),
  )
  split h (y ∷ ys) (suc i) x low read is =
      let (rest, e) = split h ys i x (omega (arith, low)) read is in
      (rest, past h x y (in_bar ys) (in_bar (take i ys)) rest y.inserted e)

  -- where the titles before are those of the menus before, and all are those of the menus, there is a next one
  pub has_next : (h : Option ℕ) (titles : List BarTitle) (xs : List (Listed D)) (i at : ℕ) (x : Listed D)
      → i < length xs → x ≡ get_or xs i x → x.inserted ≡ true
      → at ≤ length titles → take at titles ≡ titles_of h (take i xs) → titles ≡ titles_of h xs → at < length titles
  has_next h titles xs i at x low read is few before all =
      let (rest, e) = split h xs i x low read is in
      let long = length-take-le at titles few in
      let more = length_mid (titles_of h (take i xs)) rest (title_of h x) in
      omega (arith, long, ap length before, ap length (all ∙ e), more)

  -- and it is that of the next menu
  pub next_is : (h : Option ℕ) (titles : List BarTitle) (xs : List (Listed D)) (i at : ℕ) (x : Listed D) (t : BarTitle)
      → i < length xs → x ≡ get_or xs i x → x.inserted ≡ true
      → at ≤ length titles → take at titles ≡ titles_of h (take i xs) → titles ≡ titles_of h xs → t ≡ get_or titles at t → t ≡ title_of h x
  next_is h titles xs i at x t low read is few before all there =
      let (rest, e) = split h xs i x low read is in
      let long = length-take-le at titles few in
      let here : at ≡ length (titles_of h (take i xs)) = omega (arith, long, ap length before) in
      there ∙ ap (λ ts. get_or ts at t) (all ∙ e) ∙ ap (λ n. get_or (titles_of h (take i xs) ++ title_of h x ∷ rest) n t) here
      ∙ get_mid (titles_of h (take i xs)) rest (title_of h x) t
