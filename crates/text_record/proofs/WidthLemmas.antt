-- How wide bytes are without the blanks at their end.
use Rattle.std.proofs.Common.{◌≡◌, ℕ, ◌+◌, Bool, true, false, cond, ◌&&◌, List, [], ◌∷◌, refl, ◌∙◌, arith}
use Rattle.std.specs.List.{list_all}
use Rattle.text_lines.specs.Ends.{is_blank}
use Rattle.text_lines.specs.Widths.{byte_width, bytes_width}
use Rattle.text_record.specs.Places.{inked_bytes}

-- the same as a walk: how wide all bytes are so far, and how wide the inked ones
abbrev pub inked_walk : List ℕ → ℕ → ℕ → List ℕ → ℕ
inked_walk widths wide inked [] = inked
inked_walk widths wide inked (c ∷ cs) = inked_walk widths (wide + byte_width widths c) (cond (is_blank c) inked (wide + byte_width widths c)) cs

-- bytes that are all blanks have no inked ones
none_inked : (cs : List ℕ) → list_all is_blank cs ≡ true → inked_bytes cs ≡ []
none_inked [] e = refl
none_inked (c ∷ cs) e = rw e refl

walk_step : (widths : List ℕ) (wide inked c : ℕ) (cs : List ℕ) (b d : Bool) → (d ≡ true → inked_bytes cs ≡ [])
    → cond d (cond b inked (wide + byte_width widths c)) (wide + byte_width widths c + bytes_width widths (inked_bytes cs)) ≡ cond (b && d) inked (wide + bytes_width widths (cond (b && d) [] (c ∷ inked_bytes cs)))
walk_step widths wide inked c cs true true none = refl
walk_step widths wide inked c cs true false none = omega arith
walk_step widths wide inked c cs false true none = rw (none refl) (omega arith)
walk_step widths wide inked c cs false false none = omega arith

walks : (widths : List ℕ) (wide inked : ℕ) (cs : List ℕ) → inked_walk widths wide inked cs ≡ cond (list_all is_blank cs) inked (wide + bytes_width widths (inked_bytes cs))
walks widths wide inked [] = refl
walks widths wide inked (c ∷ cs) =
    walks widths (wide + byte_width widths c) (cond (is_blank c) inked (wide + byte_width widths c)) cs
    ∙ walk_step widths wide inked c cs (is_blank c) (list_all is_blank cs) (none_inked cs)

at_start : (widths cs : List ℕ) (d : Bool) → (d ≡ true → inked_bytes cs ≡ []) → cond d 0 (0 + bytes_width widths (inked_bytes cs)) ≡ bytes_width widths (inked_bytes cs)
at_start widths cs true none = rw (none refl) refl
at_start widths cs false none = omega arith

-- the walk finds how wide they are
pub walk_is : (widths cs : List ℕ) → inked_walk widths 0 0 cs ≡ bytes_width widths (inked_bytes cs)
walk_is widths cs = walks widths 0 0 cs ∙ at_start widths cs (list_all is_blank cs) (none_inked cs)
