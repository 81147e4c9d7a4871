-- A row that is turned at columns.
use Rattle.std.proofs.Common.{◌≡◌, Bool, true, false, List, [], ◌∷◌, ◌++◌, length, get_or, take, drop, ◌-◌, ◌≤◌, ℤ, pos, negsuc, ◌<ℤ◌, ◌≤ℤ◌, refl, sym, ap, ◌∙◌, subst, arith}
use Rattle.std.specs.Prelude.{int_le}
use Rattle.std.proofs.lemmas.Int.{ints}
use Rattle.std.proofs.lemmas.List.{take_all}
use Rattle.region_rows.specs.Edges.{differ, inside, IsClimb, IsEdges}
use Rattle.region_rows.proofs.Climbs.{climb_append, higher, lower, inside-append}
use Rattle.region_bytes.proofs.Edges.{inside-nil}

-- the edges `first` are turned at the columns `columns` up to some column, with the edges xs and the columns ys after it
pub record TurnsTo (first columns xs ys out : List ℤ) : Type 0 where
  pub upto : ℤ
  pub climbs : IsClimb (negsuc 16384) out upto
  pub edges : IsClimb upto xs (pos 16383)
  pub ahead : IsClimb upto ys (pos 16383)
  pub pixels : (h : ℤ) → differ (inside out h) (differ (inside xs h) (inside ys h)) ≡ differ (inside first h) (inside columns h)

pub TurnsTo-none : (xs ys : List ℤ) → IsEdges xs → IsEdges ys → TurnsTo xs ys xs ys []
TurnsTo-none xs ys a b = record {
  upto = negsuc 16384;
  climbs = omega (arith, ints);
  edges = a;
  ahead = b;
  pixels = λ h. ap (λ t. differ t (differ (inside xs h) (inside ys h))) (inside-nil h);
}

inside-cons : (x : ℤ) (xs : List ℤ) (h : ℤ) → inside (x ∷ xs) h ≡ differ (int_le x h) (inside xs h)
unfolding inside
inside-cons x xs h = refl

differ-none : (b : Bool) → differ b false ≡ b
differ-none true = refl
differ-none false = refl

-- one edge more
inside-last : (out : List ℤ) (x h : ℤ) → inside (out ++ x ∷ []) h ≡ differ (inside out h) (int_le x h)
inside-last out x h = inside-append out (x ∷ []) h ∙ ap (differ (inside out h)) (inside-cons x [] h ∙ ap (differ (int_le x h)) (inside-nil h) ∙ differ-none (int_le x h))

to_first : (o x r s : Bool) → differ (differ o x) (differ r s) ≡ differ o (differ (differ x r) s)
to_first true true true true = refl
to_first true true true false = refl
to_first true true false true = refl
to_first true true false false = refl
to_first true false true true = refl
to_first true false true false = refl
to_first true false false true = refl
to_first true false false false = refl
to_first false true true true = refl
to_first false true true false = refl
to_first false true false true = refl
to_first false true false false = refl
to_first false false true true = refl
to_first false false true false = refl
to_first false false false true = refl
to_first false false false false = refl

to_second : (o y r s : Bool) → differ (differ o y) (differ r s) ≡ differ o (differ r (differ y s))
to_second true true true true = refl
to_second true true true false = refl
to_second true true false true = refl
to_second true true false false = refl
to_second true false r s = refl
to_second false true true true = refl
to_second false true true false = refl
to_second false true false true = refl
to_second false true false false = refl
to_second false false r s = refl

to_neither : (o x r s : Bool) → differ o (differ r s) ≡ differ o (differ (differ x r) (differ x s))
to_neither o true true true = refl
to_neither o true true false = refl
to_neither o true false true = refl
to_neither o true false false = refl
to_neither o false r s = refl

-- the next edge lies left of the next column
pub TurnsTo-first : (first columns : List ℤ) (x : ℤ) (xs : List ℤ) (y : ℤ) (ys out : List ℤ) → x <ℤ y → TurnsTo first columns (x ∷ xs) (y ∷ ys) out → TurnsTo first columns xs (y ∷ ys) (out ++ x ∷ [])
TurnsTo-first first columns x xs y ys out l s = record {
  upto = x;
  climbs = climb_append (negsuc 16384) out s.upto (x ∷ []) x s.climbs (s.edges.0, omega (arith, ints));
  edges = s.edges.1;
  ahead = (l, s.ahead.1);
  pixels = λ h.
      (λ i. differ (inside-last out x h i) (differ (inside xs h) (inside (y ∷ ys) h)))
      ∙ to_first (inside out h) (int_le x h) (inside xs h) (inside (y ∷ ys) h)
      ∙ (λ i. differ (inside out h) (differ (sym (inside-cons x xs h) i) (inside (y ∷ ys) h))) ∙ s.pixels h;
}

-- the next column lies left of the next edge
pub TurnsTo-second : (first columns : List ℤ) (x : ℤ) (xs : List ℤ) (y : ℤ) (ys out : List ℤ) → y <ℤ x → TurnsTo first columns (x ∷ xs) (y ∷ ys) out → TurnsTo first columns (x ∷ xs) ys (out ++ y ∷ [])
TurnsTo-second first columns x xs y ys out l s = record {
  upto = y;
  climbs = climb_append (negsuc 16384) out s.upto (y ∷ []) y s.climbs (s.ahead.0, omega (arith, ints));
  edges = (l, s.edges.1);
  ahead = s.ahead.1;
  pixels = λ h.
      (λ i. differ (inside-last out y h i) (differ (inside (x ∷ xs) h) (inside ys h)))
      ∙ to_second (inside out h) (int_le y h) (inside (x ∷ xs) h) (inside ys h)
      ∙ (λ i. differ (inside out h) (differ (inside (x ∷ xs) h) (sym (inside-cons y ys h) i))) ∙ s.pixels h;
}

-- both are the same
pub TurnsTo-neither : (first columns : List ℤ) (x : ℤ) (xs : List ℤ) (y : ℤ) (ys out : List ℤ) → x ≤ℤ y → y ≤ℤ x → TurnsTo first columns (x ∷ xs) (y ∷ ys) out → TurnsTo first columns xs ys out
TurnsTo-neither first columns x xs y ys out l m s =
    let same : x ≡ y = omega (arith, ints) in
    let first_ahead = s.edges.0 in
    record {
      upto = x;
      climbs = higher (negsuc 16384) out s.upto x (omega (arith, ints)) s.climbs;
      edges = s.edges.1;
      ahead = lower y x ys (pos 16383) l s.ahead.1;
      pixels = λ h.
          to_neither (inside out h) (int_le x h) (inside xs h) (inside ys h)
          ∙ (λ i. differ (inside out h) (differ (sym (inside-cons x xs h) i) (differ (int_le (same i) h) (inside ys h))))
          ∙ (λ i. differ (inside out h) (differ (inside (x ∷ xs) h) (sym (inside-cons y ys h) i))) ∙ s.pixels h;
    }

-- what is left of either comes last
pub record IsTurned (first columns new : List ℤ) : Type 0 where
  pub pixels : (h : ℤ) → inside new h ≡ differ (inside first h) (inside columns h)
  pub edges : IsEdges new

pub turned_first : (first columns xs ys out : List ℤ) → xs ≡ [] → TurnsTo first columns xs ys out → IsTurned first columns (out ++ ys)
turned_first first columns xs ys out nil s = record {
  pixels = λ h. inside-append out ys h ∙ (λ i. differ (inside out h) (differ (sym (ap (λ l. inside l h) nil ∙ inside-nil h) i) (inside ys h))) ∙ s.pixels h;
  edges = climb_append (negsuc 16384) out s.upto ys (pos 16383) s.climbs s.ahead;
}

pub turned_second : (first columns xs ys out : List ℤ) → ys ≡ [] → TurnsTo first columns xs ys out → IsTurned first columns (out ++ xs)
turned_second first columns xs ys out nil s = record {
  pixels = λ h. inside-append out xs h ∙ (λ i. differ (inside out h) (sym (differ-none (inside xs h)) i)) ∙ (λ i. differ (inside out h) (differ (inside xs h) (sym (ap (λ l. inside l h) nil ∙ inside-nil h) i))) ∙ s.pixels h;
  edges = climb_append (negsuc 16384) out s.upto xs (pos 16383) s.climbs s.edges;
}

-- a list with a number begins with it
pub one_part : (xs : List ℤ) → 1 ≤ length xs → xs ≡ get_or xs 0 (pos 0) ∷ take (length xs - 1) (drop 1 xs)
one_part [] l = absurd (omega arith)
one_part (x ∷ xs) l = ap (λ r. x ∷ r) (sym (take_all (length (x ∷ xs) - 1) xs (omega arith)))

pub TurnsTo-parts : (first columns xs ys xs2 ys2 out : List ℤ) → xs ≡ xs2 → ys ≡ ys2 → TurnsTo first columns xs ys out → TurnsTo first columns xs2 ys2 out
TurnsTo-parts first columns xs ys xs2 ys2 out e f s = subst (λ l. TurnsTo first columns l ys2 out) e (subst (λ l. TurnsTo first columns xs l out) f s)
