-- The rectangle around what those steps of two looks can draw on that do not draw alike.
use Rattle.std.specs.Prelude.{◌≡◌, Bool, true, not, ◌&&◌, ◌||◌, if◌then◌else◌, List, ◌∷◌}
use Rattle.std.specs.Bool.{beq}
use Rattle.tb_geom.specs.declared.point.Point.{Point}
use Rattle.tb_geom.specs.declared.rect.Rect.{Rect}
use Rattle.tb_geom.specs.Rects.{rect_holds, is_empty_rect, empty_rect, shared_rect, rect_around}
use Rattle.looks.specs.declared.step.Mark.{Mark}
use Rattle.looks.specs.declared.step.Mark.TheVariants.{Fill, Frame, Behind, Text, Cross, Round}
use Rattle.looks.specs.declared.step.Step.{Step}
use Rattle.looks.specs.Same.{same_rects, same_marks, shows_text}

-- the smallest rectangle around two, of which an empty one adds nothing
unfoldable pub joined : Rect → Rect → Rect
joined a b = if is_empty_rect a then b else (if is_empty_rect b then a else rect_around a b)

-- the first lies within the second
abbrev pub IsWithin : Rect → Rect → Type 0
IsWithin a r = (p : Point) → rect_holds a p ≡ true → rect_holds r p ≡ true

-- where a mark within a cut can draw, whatever the text is
abbrev pub mark_reach : Rect → Mark → Rect
mark_reach cut (Fill r shade) = shared_rect cut r
mark_reach cut (Frame r shade) = shared_rect cut r
mark_reach cut (Cross r) = shared_rect cut r
mark_reach cut (Round r shade) = shared_rect cut r.rect
mark_reach cut (Behind plate) = cut
mark_reach cut (Text place) = cut

-- where a step can
unfoldable pub step_reach : Step → Rect
step_reach s = if s.on then mark_reach s.cut s.mark else empty_rect

-- the two are the same step
abbrev pub same_steps : Step → Step → Bool
same_steps a b = beq a.on b.on && (same_rects a.cut b.cut && same_marks a.mark b.mark)

-- and so are their texts, where they stand by them
unfoldable pub draws_alike : Bool → Step → Step → Bool
draws_alike same_text a b = same_steps a b && (same_text || not (shows_text a.mark))

-- around what the steps of two looks reach that do not draw alike
unfoldable pub look_damage : Bool → List Step → List Step → Rect
look_damage same_text (a ∷ rest) (b ∷ others) =
    if draws_alike same_text a b then look_damage same_text rest others
    else joined (joined (step_reach a) (step_reach b)) (look_damage same_text rest others)
look_damage same_text _ _ = empty_rect
