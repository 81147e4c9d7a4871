-- How far rows of points are read, and what one more row changes.
use Rattle.std.proofs.Common.{◌≡◌, ◌≢◌, List, [], ◌∷◌, ◌++◌, ℤ, pos, refl, sym, ap, ◌∙◌, subst, All}
use Rattle.std.proofs.lemmas.List.{append-nil, append_assoc}
use Rattle.std.proofs.lemmas.List.Elements.{All-head, All-tail}
use Rattle.region_bytes.specs.Points.{PointRow, IsInRange}
use Rattle.region_bytes.specs.Words.{data_words}
use Rattle.region_bytes.proofs.Written.{data_words-cons}
use Rattle.region_bytes.proofs.Decoded.{same_data, same_columns, columns_told, told_in_range, not_end}
use Rattle.region_rows.specs.Restored.{IsRowData, IsColumns}

-- columns that are told have no end among them
pub no_end : (xs columns after : List ℤ) → All (λ x. x ≢ pos 32767) xs → xs ≡ columns ++ pos 32767 ∷ after → ⊥
no_end [] [] after told e = cc
no_end [] (y ∷ columns) after told e = cc
no_end (x ∷ xs) [] after told e = All-head (λ z. z ≢ pos 32767) x xs told (cc)
no_end (x ∷ xs) (y ∷ columns) after told e = no_end xs columns after (All-tail (λ z. z ≢ pos 32767) x xs told) (cc)

-- the rows are read of the words, and those ahead are left
pub record IsRestored (words left : List ℤ) (rows : List PointRow) : Type 0 where
  pub points : List PointRow
  pub in_range : All IsInRange points
  pub written : data_words points ≡ words
  pub ahead : List PointRow
  pub ahead_in : All IsInRange ahead
  pub ahead_left : data_words ahead ≡ left
  pub parted : points ≡ rows ++ ahead

-- before any row is read
pub IsRestored-none : (words : List ℤ) → IsRowData words → IsRestored words words []
IsRestored-none words given = record { points = given.points; in_range = given.in_range; written = given.written; ahead = given.points; ahead_in = given.in_range; ahead_left = given.written; parted = refl }

-- the next row of points, with the place `word` and the words after it
pub record IsNext (words : List ℤ) (rows : List PointRow) (word : ℤ) (after : List ℤ) : Type 0 where
  pub columns : List ℤ
  pub told : All (λ x. x ≢ pos 32767) columns
  pub left : List ℤ
  pub parted : after ≡ columns ++ pos 32767 ∷ left
  pub read : IsRestored words left (rows ++ (word, columns) ∷ [])

head_same : (x y : ℤ) (xs ys : List ℤ) → x ∷ xs ≡ y ∷ ys → (x ≡ y) × (xs ≡ ys)
head_same x y xs ys e = (cc, cc)

by_ahead : (words left : List ℤ) (rows : List PointRow) (word : ℤ) (after : List ℤ) (ahead : List PointRow) (s : IsRestored words left rows) → s.ahead ≡ ahead → word ≢ pos 32767 → data_words ahead ≡ word ∷ after → IsNext words rows word after
by_ahead words left rows word after [] s here apart e = absurd (apart (sym (head_same (pos 32767) word [] after e).0))
by_ahead words left rows word after (row ∷ ahead) s here apart e =
    let same = head_same row.0 word (row.1 ++ pos 32767 ∷ data_words ahead) after (sym (data_words-cons row ahead) ∙ e) in
    let all_in : All IsInRange (row ∷ ahead) = subst (All IsInRange) here s.ahead_in in
    let this_in = All-head IsInRange row ahead all_in in
    let this : row ≡ (word, row.1) = λ i. (same.0 i, row.1) in
    record {
      columns = row.1;
      told = columns_told row.1 this_in.1;
      left = data_words ahead;
      parted = sym same.1;
      read = record {
        points = s.points;
        in_range = s.in_range;
        written = s.written;
        ahead = ahead;
        ahead_in = All-tail IsInRange row ahead all_in;
        ahead_left = refl;
        parted = s.parted ∙ ap (λ l. rows ++ l) here ∙ sym (append_assoc rows (row ∷ []) ahead) ∙ ap (λ r. (rows ++ r ∷ []) ++ ahead) this;
      };
    }

-- words that go on with no end go on with a row
pub IsNext-from : (words left : List ℤ) (rows : List PointRow) (word : ℤ) (after : List ℤ) → IsRestored words left rows → word ≢ pos 32767 → left ≡ word ∷ after → IsNext words rows word after
IsNext-from words left rows word after s apart e = by_ahead words left rows word after s.ahead s refl apart (s.ahead_left ∙ e)

-- which is what is read
pub read_next : (words : List ℤ) (rows : List PointRow) (word : ℤ) (after columns left : List ℤ) → IsNext words rows word after → ((cs rest : List ℤ) → after ≡ cs ++ pos 32767 ∷ rest → IsColumns columns after left) → IsRestored words left (rows ++ (word, columns) ∷ [])
read_next words rows word after columns left n f =
    let read = f n.columns n.left n.parted in
    let same = same_columns columns n.columns left n.left read.told n.told (sym read.parted ∙ n.parted) in
    subst (λ l. IsRestored words l (rows ++ (word, columns) ∷ [])) (sym same.1) (subst (λ c. IsRestored words n.left (rows ++ (word, c) ∷ [])) (sym same.0) n.read)

-- ---- the end

-- words of rows are not over before their end
pub not_over : (words left : List ℤ) (rows : List PointRow) → IsRestored words left rows → left ≡ [] → ⊥
not_over words left rows s e = some_words s.ahead (s.ahead_left ∙ e)
  where
    some_words : (ahead : List PointRow) → data_words ahead ≡ [] → ⊥
    some_words [] f = cc
    some_words (row ∷ ahead) f = let g = sym (data_words-cons row ahead) ∙ f in cc

none_ahead : (ahead : List PointRow) (after : List ℤ) → All IsInRange ahead → data_words ahead ≡ pos 32767 ∷ after → ahead ≡ []
none_ahead [] after n e = refl
none_ahead (row ∷ ahead) after n e = absurd (not_end row.0 (All-head IsInRange row ahead n).0 (head_same _ _ _ _ (sym (data_words-cons row ahead) ∙ e)).0)

-- at the end of the words all rows are read
pub restored_all : (words left : List ℤ) (rows : List PointRow) (after : List ℤ) → IsRestored words left rows → left ≡ pos 32767 ∷ after → (points : List PointRow) → All IsInRange points → data_words points ≡ words → rows ≡ points
restored_all words left rows after s e points n f =
    sym (append-nil rows) ∙ ap (λ l. rows ++ l) (sym (none_ahead s.ahead after s.ahead_in (s.ahead_left ∙ e))) ∙ sym s.parted
    ∙ same_data s.points points (told_in_range s.points s.in_range) (told_in_range points n) (s.written ∙ sym f)
