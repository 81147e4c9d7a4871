-- What is read of a new text record.
use Rattle.std.proofs.Common.{◌≡◌, ℕ, ℤ, List, Option, Result, Ok, Err, refl}
use Rattle.tb_geom.specs.declared.refusal.Refusal.{Refusal}
use Rattle.desk_call.specs.declared.text.TextCall.{TextCall}
use Rattle.desk_call.specs.declared.text.TextCall.TheVariants as calls
use Rattle.desk_call.specs.declared.text.TextPlace.{TextPlace}
use Rattle.line_words.specs.Words.{◌>>=◌, Field, flag_at, last, number_at, serial_at}
use Rattle.line_words.specs.Shapes.{reading}
use Rattle.text_words.specs.TextWords.{new_shape, place_at}

-- what comes of two things, and then of a third, comes of the first, and then of the others
after_both : {A B C : Type 0} (w : Result C Refusal) (f : C → Result B Refusal) (g : B → Result A Refusal) → ((w >>= f) >>= g) ≡ (w >>= λ x. f x >>= g)
after_both (Ok x) f g = refl
after_both (Err e) f g = refl

-- what is read behind the place of a new text record
abbrev pub style_read : ℕ → TextPlace → Field ℤ → Result TextCall Refusal
style_read window stands read =
    read >>= λ justification. last (flag_at justification.1) >>= λ wraps.
    Ok (calls.New (record { window = window; place = stands; justification = justification.0; wraps = wraps }))

-- what is read behind its window
abbrev pub place_read : ℕ → Field TextPlace → Result TextCall Refusal
place_read window read = read >>= λ stands. style_read window stands.0 (number_at stands.1)

-- a new text record is read in these steps
pub new_read : (rest : Option (List ℕ)) → reading new_shape rest ≡ (serial_at rest >>= λ window. place_read window.0 (place_at window.1))
new_read rest = simp after_both
