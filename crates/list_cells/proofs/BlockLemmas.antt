-- Blocks of cells, place by place.
use Rattle.std.proofs.Common.{get_or, ◌≡◌, ℕ, ◌+◌, ◌<◌, List, [], ◌∷◌, ◌++◌, Bool, true, false, cond, length, refl, sym, ap, ◌∙◌, arith, suc, add-one}
use Rattle.std.specs.List.{filter, fold, range_with_len}
use Rattle.std.proofs.lemmas.List.{map-id, get_or_default}
use Rattle.std.proofs.lemmas.List.Sums.{fold-append}
use Rattle.std.proofs.lemmas.List.FromFn.{filter_of_map_range_with_len_more}
use Rattle.list_cells.specs.Contents.{Content, empty_content}
use Rattle.list_cells.specs.declared.block.Block.{Block}
use Rattle.list_cells.specs.Blocks.{content_at, block_at, with_place}

-- one number more
filter_more : (p : ℕ → Bool) (n : ℕ) → filter p (range_with_len 0 (n + 1)) ≡ filter p (range_with_len 0 n) ++ cond (p n) (n ∷ []) []
filter_more p n =
    ap (filter p) (sym (map-id (range_with_len 0 (n + 1)))) ∙ filter_of_map_range_with_len_more p (λ (x : ℕ). x) 0 n n (omega arith)
    ∙ ap (λ xs. filter p xs ++ cond (p n) (n ∷ []) []) (map-id (range_with_len 0 n))

fold_one : {A : Type 0} (f : A → ℕ → A) (a : A) (t : Bool) (n : ℕ) → fold f a (cond t (n ∷ []) []) ≡ cond t (f a n) a
fold_one f a true n = refl
fold_one f a false n = refl

-- a fold over the numbers below n of which a test holds, and then over n
fold_more : {A : Type 0} (f : A → ℕ → A) (a : A) (p : ℕ → Bool) (n : ℕ)
    → fold f a (filter p (range_with_len 0 (n + 1))) ≡ cond (p n) (f (fold f a (filter p (range_with_len 0 n))) n) (fold f a (filter p (range_with_len 0 n)))
fold_more f a p n =
    ap (fold f a) (filter_more p n) ∙ fold-append f a (filter p (range_with_len 0 n)) (cond (p n) (n ∷ []) [])
    ∙ fold_one f (fold f a (filter p (range_with_len 0 n))) (p n) n

-- the smallest block that holds a cell and the selected ones among the first n
abbrev pub smallest_below : ℕ → List Content → ℕ → ℕ → Block
smallest_below columns cells place n = fold (with_place columns) (block_at columns place) (filter (λ k. (content_at cells k).selected) (range_with_len 0 n))

-- one cell more
smallest_more : (columns : ℕ) (cells : List Content) (place n : ℕ) (c : Content) (t : Bool) → n < length cells → c ≡ get_or cells n c → c.selected ≡ t
    → smallest_below columns cells place (n + 1) ≡ cond t (with_place columns (smallest_below columns cells place n) n) (smallest_below columns cells place n)
smallest_more columns cells place n c t h is sel =
    let at : (content_at cells n).selected ≡ t = ap (λ (x : Content). x.selected) (get_or_default cells n empty_content c h ∙ sym is) ∙ sel in
    fold_more (with_place columns) (block_at columns place) (λ k. (content_at cells k).selected) n
    ∙ ap (λ u. cond u (with_place columns (smallest_below columns cells place n) n) (smallest_below columns cells place n)) at

pub smallest_takes : (columns : ℕ) (cells : List Content) (place n : ℕ) (c : Content) (old now : Block) → n < length cells → c ≡ get_or cells n c → c.selected ≡ true
    → old ≡ smallest_below columns cells place n → now ≡ with_place columns old n → now ≡ smallest_below columns cells place (n + 1)
smallest_takes columns cells place n c old now h is sel was e = e ∙ ap (λ b. with_place columns b n) was ∙ sym (smallest_more columns cells place n c true h is sel)

pub smallest_passes : (columns : ℕ) (cells : List Content) (place n : ℕ) (c : Content) (old : Block) → n < length cells → c ≡ get_or cells n c → c.selected ≡ false
    → old ≡ smallest_below columns cells place n → old ≡ smallest_below columns cells place (n + 1)
smallest_passes columns cells place n c old h is sel was = was ∙ sym (smallest_more columns cells place n c false h is sel)

-- and by the number of cells
pub smallest_below_suc : (columns : ℕ) (cells : List Content) (place n : ℕ)
    → smallest_below columns cells place (suc n) ≡ cond ((content_at cells n).selected) (with_place columns (smallest_below columns cells place n) n) (smallest_below columns cells place n)
smallest_below_suc columns cells place n =
    ap (smallest_below columns cells place) (sym (add-one n)) ∙ fold_more (with_place columns) (block_at columns place) (λ k. (content_at cells k).selected) n
