-- The lines of the size box lie inside the frame of a document window, and share no pixel.
use Rattle.std.proofs.Common.{◌≡◌, Bool, true, false, ◌||◌, ◌++◌, refl, sym, ◌∙◌, arith}
use Rattle.std.proofs.lemmas.Bool.{true≢false}
use Rattle.std.proofs.lemmas.Int.{ints, clamps}
use Rattle.tb_geom.specs.declared.point.Point.{Point}
use Rattle.tb_geom.specs.Rects.{rect_holds, empty_rect}
use Rattle.tb_geom.proofs.RectLemmas.{sides_of, holds_in, holds_none}
use Rattle.def_iface.specs.declared.size.Size.{Size}
use Rattle.def_iface.specs.Sizes.{is_size}
use Rattle.def_iface.specs.Lines.{line_holds, AreApart, inside, four_sides}
use Rattle.def_iface.proofs.LineLemmas.{not_held, in_neither, sides_apart}
use Rattle.std_wdef.specs.declared.kind.Variation.{Variation}
use Rattle.std_wdef.specs.declared.kind.Variation.TheVariants.{Document, Dialog, Plain, Shadow, NoGrow, Zoom}
use Rattle.std_wdef.specs.Kinds.{has_size_box}
use Rattle.std_wdef.specs.Areas.{structure_box}
use Rattle.std_wdef.specs.Looks.{document_box}
use Rattle.std_wdef.specs.Lines.{size_box_column, left_of_column, right_of_column, size_box_lines}
use Rattle.std_wdef.proofs.AreaFacts.{IsSome, size_some}

-- a pixel of one of two
in_either : (a b : Bool) (P : Type 0) → (a || b) ≡ true → (a ≡ true → P) → (b ≡ true → P) → P
in_either true b P e f g = f refl
in_either false b P e f g = g e

module _ (s : Size) (some : IsSome s) where
  lie_inside : (p : Point) → line_holds (size_box_lines s) p ≡ true → rect_holds (inside (document_box s)) p ≡ true
  lie_inside p e =
      in_either (rect_holds (size_box_column s) p) _ _ e (λ t. let k = sides_of (size_box_column s) p t in holds_in (inside (document_box s)) p (omega (arith, ints, clamps)) (omega (arith, ints, clamps)) (omega (arith, ints, clamps)) (omega (arith, ints, clamps)))
      (λ f. in_either (rect_holds (left_of_column s) p) _ _ f (λ t. let k = sides_of (left_of_column s) p t in holds_in (inside (document_box s)) p (omega (arith, ints, clamps)) (omega (arith, ints, clamps)) (omega (arith, ints, clamps)) (omega (arith, ints, clamps)))
      (λ g. in_either (rect_holds (right_of_column s) p) _ _ g (λ t. let k = sides_of (right_of_column s) p t in holds_in (inside (document_box s)) p (omega (arith, ints, clamps)) (omega (arith, ints, clamps)) (omega (arith, ints, clamps)) (omega (arith, ints, clamps)))
      (λ h. in_either (rect_holds empty_rect p) false _ h (λ t. absurd (true≢false (sym t ∙ holds_none empty_rect refl p))) (λ n. absurd (cc)))))

  corner_apart : AreApart (size_box_lines s)
  corner_apart =
      let no : (p : Point) → rect_holds empty_rect p ≡ false = holds_none empty_rect refl in (
        λ p e. let k = sides_of (size_box_column s) p e in
            in_neither _ _ (not_held (left_of_column s) p (λ m. absurd (omega (arith, ints, clamps))))
            (in_neither _ _ (not_held (right_of_column s) p (λ m. absurd (omega (arith, ints, clamps)))) (in_neither _ _ (no p) refl)),
        (
          λ p e. let k = sides_of (left_of_column s) p e in
              in_neither _ _ (not_held (right_of_column s) p (λ m. absurd (omega (arith, ints, clamps)))) (in_neither _ _ (no p) refl),
          (
            λ p e. in_neither _ _ (no p) refl,
            (λ p e. refl, tt),
          ),
        ),
      )

-- no two lines of a document window share a pixel
pub document_apart : (s : Size) → is_size s ≡ true → AreApart (four_sides (document_box s) ++ size_box_lines s)
document_apart s e = let some = size_some s e in sides_apart (document_box s) (size_box_lines s) (lie_inside s some) (corner_apart s some)

-- nor do two of any kind that has a size box
pub lines_apart : (v : Variation) (s : Size) → is_size s ≡ true → has_size_box v ≡ true → AreApart (four_sides (structure_box v s) ++ size_box_lines s)
lines_apart Document s e has = document_apart s e
lines_apart Zoom s e has = document_apart s e
lines_apart Dialog s e has = absurd (cc)
lines_apart Plain s e has = absurd (cc)
lines_apart Shadow s e has = absurd (cc)
lines_apart NoGrow s e has = absurd (cc)
