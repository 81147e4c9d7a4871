-- How far rows of points are written.
use Rattle.std.proofs.Common.{◌≡◌, ℕ, ◌+◌, ◌<◌, List, [], ◌∷◌, ◌++◌, length, get_or, take, ℤ, pos, sym, ap, ◌∙◌, subst}
use Rattle.std.proofs.lemmas.List.{append-nil, append_assoc, take_more, map_push}
use Rattle.tb_geom.specs.declared.point.Point.{Point}
use Rattle.region_bytes.specs.Points.{row_points}
use Rattle.region_bytes.specs.Writing.{IsWritten}
use Rattle.region_bytes.specs.declared.writing.RegionWriter.{RegionWriter}

-- before any column is written
pub columns_none : (out : RegionWriter) (words : List ℤ) (points : List Point) → IsWritten out words points → IsWritten out (words ++ []) (points ++ [])
columns_none out words points s = subst (λ ws. IsWritten out ws (points ++ [])) (sym (append-nil words)) (subst (IsWritten out words) (sym (append-nil points)) s)

-- one more column
pub columns_more : (old new : RegionWriter) (v : ℤ) (cs : List ℤ) (i : ℕ) (words : List ℤ) (points : List Point) → i < length cs → IsWritten old (words ++ take i cs) (points ++ row_points (v, take i cs))
    → ((ws : List ℤ) (ps : List Point) → IsWritten old ws ps → IsWritten new (ws ++ get_or cs i (pos 0) ∷ []) (ps ++ record { h = get_or cs i (pos 0); v = v } ∷ []))
    → IsWritten new (words ++ take (i + 1) cs) (points ++ row_points (v, take (i + 1) cs))
columns_more old new v cs i words points l s more =
    let x : ℤ = get_or cs i (pos 0) in
    let taken : take (i + 1) cs ≡ take i cs ++ get_or cs i (pos 0) ∷ [] = take_more cs i (pos 0) l in
    let one : Point = record { h = x; v = v } in
    let same_words : (words ++ take i cs) ++ get_or cs i (pos 0) ∷ [] ≡ words ++ take (i + 1) cs = append_assoc words (take i cs) (x ∷ []) ∙ ap (λ xs. words ++ xs) (sym taken) in
    let same_points : (points ++ row_points (v, take i cs)) ++ record { h = get_or cs i (pos 0); v = v } ∷ [] ≡ points ++ row_points (v, take (i + 1) cs) =
    append_assoc points (row_points (v, take i cs)) (one ∷ []) ∙ ap (λ ps. points ++ ps) (sym (map_push (λ h. record { h = h; v = v }) (take i cs) x) ∙ ap (λ xs. row_points (v, xs)) (sym taken)) in
    subst (λ ws. IsWritten new ws (points ++ row_points (v, take (i + 1) cs))) same_words (subst (IsWritten new ((words ++ take i cs) ++ get_or cs i (pos 0) ∷ [])) same_points (more _ _ s))
