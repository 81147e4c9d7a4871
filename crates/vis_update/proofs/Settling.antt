-- Areas that are settled one after another, from the last to the first.
use Rattle.std.proofs.Common.{◌≡◌, ◌≤◌, List, [], ◌∷◌, ◌++◌, length, set, Option, None, Some, refl, ap, ◌∙◌, arith}
use Rattle.vis_update.specs.declared.area.Area.{Area}
use Rattle.vis_update.specs.Plans.{area_then, areas_then}

-- areas for which nothing is planned stay
none_planned : (olds : List Area) → areas_then olds [] ≡ olds
none_planned [] = refl
none_planned (a ∷ olds) = refl

-- where the last of what is planned is no area, the others settle all
pub last_none : (olds : List Area) (cs : List (Option Area)) → areas_then olds (cs ++ None ∷ []) ≡ areas_then olds cs
last_none [] cs = refl
last_none (a ∷ olds) [] = ap (λ xs. a ∷ xs) (none_planned olds)
last_none (a ∷ olds) (c ∷ cs) = ap (λ xs. area_then a c ∷ xs) (last_none olds cs)

-- where it is one, that is settled first
pub last_some : (olds : List Area) (cs : List (Option Area)) (a : Area) → areas_then olds (cs ++ Some a ∷ []) ≡ areas_then (set olds (length cs) a) cs
last_some [] cs a = refl
last_some (b ∷ olds) [] a = ap (λ xs. a ∷ xs) (none_planned olds)
last_some (b ∷ olds) (c ∷ cs) a = ap (λ xs. area_then b c ∷ xs) (last_some olds cs a)

-- what is planned behind the last area is for none
pub last_beyond : (olds : List Area) (cs : List (Option Area)) (c : Option Area) → length olds ≤ length cs → areas_then olds (cs ++ c ∷ []) ≡ areas_then olds cs
last_beyond [] cs c low = refl
last_beyond (a ∷ olds) [] c low = absurd (omega arith)
last_beyond (a ∷ olds) (b ∷ cs) c low = ap (λ xs. area_then a b ∷ xs) (last_beyond olds cs c (omega arith))

pub all_settled : (olds : List Area) (cs : List (Option Area)) → cs ≡ [] → areas_then olds cs ≡ olds
all_settled olds cs e = ap (areas_then olds) e ∙ none_planned olds
