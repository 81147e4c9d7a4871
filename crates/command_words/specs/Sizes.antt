-- Words that are a width and a height.
use Rattle.def_iface.specs.declared.size.Size.{Size}
use Rattle.line_words.specs.Shapes.{Shape, number}

-- width height
abbrev pub size : {A : Type 0} → (Size → Shape A) → Shape A
size next = number (λ width. number (λ height. next (record { width = width; height = height })))
