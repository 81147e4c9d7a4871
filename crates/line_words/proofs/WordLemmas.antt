-- Reading a word gives what it stands for, and nothing else.
use Rattle.std.proofs.Common.{◌≡◌, ℕ, suc, cond, ℤ, pos, neg_ℤ, inl, inr, Bool, true, false, List, [], ◌∷◌, ◌++◌, ◌+◌, ◌-◌, ◌==◌, not, length, take, drop, position, Option, Some, None, option_map, Ok, Err, refl, sym, ap, ◌∙◌, subst, append-nil, append_assoc, arith, if◌then◌else◌}
use Rattle.std.specs.Char.{is_ascii_alphabetic, is_ascii_alphanumeric, is_ascii_hexdigit}
use Rattle.std.specs.Prelude.{nat_lt}
use Rattle.std.specs.List.{list_all, position_or_len}
use Rattle.std.proofs.lemmas.List.{take_rest, drop-drop}
use Rattle.std.proofs.lemmas.Bool.{eq-eqb, ne_eqb, cases_Bool, and_parts, cases_eq}
use Rattle.tb_geom.specs.declared.refusal.Refusal.TheVariants.{BadSyntax}
use Rattle.line_words.specs.Hex.{is_hex_text, hex_of}
use Rattle.line_words.specs.Words.{◌>>=◌, Field, split_at, parts, word_at, is_digit, is_number_text, digits_value, digits_of, number_said, number_at, flag_of, flag_at, is_name, name_at, hex_at, is_plain, quoted_at, quoted_parts, after_quote, text_at, with_rest, begins_text, bytes_at}
use Rattle.line_words.specs.Forms.{follows, HasNo, IsDigits, IsNumber, IsFlag, IsName, IsPlainText, IsHex, IsBytes}

-- the first mark: where it is, or that there is none
abbrev Splits : ℕ → List ℕ → Option (List ℕ × List ℕ) → Type 0
Splits mark xs None = HasNo mark xs
Splits mark xs (Some p) = (xs ≡ p.0 ++ mark ∷ p.1) × HasNo mark p.0

-- one byte more before it
splits-cons : (mark b : ℕ) (bs : List ℕ) → (b ≡ mark → ⊥) → (r : Option (List ℕ × List ℕ)) → Splits mark bs r → Splits mark (b ∷ bs) (option_map (λ p. (b ∷ p.0, p.1)) r)
splits-cons mark b bs ne None h = (ne, h)
splits-cons mark b bs ne (Some p) h = (ap (λ l. b ∷ l) h.0, (ne, h.1))

-- every list is split so
splits : (mark : ℕ) (xs : List ℕ) → Splits mark xs (split_at mark xs)
splits mark [] = tt
splits mark (b ∷ bs) =
    elim (cases_eq b mark) [
      | inl e ↦ rw (eq-eqb b mark e) (ap (λ m. m ∷ bs) e, tt)
      | inr ne ↦ rw (ne_eqb b mark ne) (splits-cons mark b bs ne (split_at mark bs) (splits mark bs))
    ]

-- a list without the mark is not split
split_at-none : (mark : ℕ) (xs : List ℕ) → HasNo mark xs → split_at mark xs ≡ None
split_at-none mark [] h = refl
split_at-none mark (b ∷ bs) (ne, h) = rw (ne_eqb b mark ne) (ap (option_map (λ p. (b ∷ p.0, p.1))) (split_at-none mark bs h))

-- a list is split at its first mark
split_at-mark : (mark : ℕ) (xs ys : List ℕ) → HasNo mark xs → split_at mark (xs ++ mark ∷ ys) ≡ Some (xs, ys)
split_at-mark mark [] ys h = rw (eq-eqb mark mark refl) refl
split_at-mark mark (b ∷ bs) ys (ne, h) = rw (ne_eqb b mark ne) (ap (option_map (λ p. (b ∷ p.0, p.1))) (split_at-mark mark bs ys h))

-- what lies before a place and behind it
abbrev pub around : List ℕ → ℕ → List ℕ × List ℕ
around xs at = (take at xs, drop (at + 1) xs)

-- one byte more before it
around-cons : (b : ℕ) (bs : List ℕ) (k : ℕ) → around (b ∷ bs) (1 + k) ≡ (b ∷ take k bs, drop (k + 1) bs)
around-cons b bs k =
    let one : 1 + k ≡ suc k = omega arith in
    let two : 1 + k + 1 ≡ suc (k + 1) = omega arith in
    λ i. (take (one i) (b ∷ bs), drop (two i) (b ∷ bs))

-- a list is split at the place of its first mark
split_at-first : (mark : ℕ) (xs : List ℕ) → split_at mark xs ≡ option_map (around xs) (position (λ b. b == mark) xs)
split_at-first mark [] = refl
split_at-first mark (b ∷ bs) = by_test (b == mark) (position_or_len (λ b. b == mark) bs) (nat_lt (position_or_len (λ b. b == mark) bs) (length bs)) refl (split_at-first mark bs)
  where
    here : nat_lt 0 (length (b ∷ bs)) ≡ true
    here = grind arith

    shift : (k : ℕ) → nat_lt (1 + k) (length (b ∷ bs)) ≡ nat_lt k (length bs)
    shift k = grind arith

    by_test : (t : Bool) (k : ℕ) (within : Bool) → nat_lt k (length bs) ≡ within
        → split_at mark bs ≡ option_map (around bs) (cond (nat_lt k (length bs)) (Some k) None)
        → cond t (Some (around (b ∷ bs) 0)) (option_map (λ p. (b ∷ p.0, p.1)) (split_at mark bs))
        ≡ option_map (around (b ∷ bs)) (cond (nat_lt (cond (not t) (1 + k) 0) (length (b ∷ bs))) (Some (cond (not t) (1 + k) 0)) None)
    by_test true k within e f = rw here refl
    by_test false k true e f = rw (f, e, shift k, e) (ap Some (sym (around-cons b bs k)))
    by_test false k false e f = rw (f, e, shift k, e) refl

-- what follows the byte at a place
pub after_place : (bs back : List ℕ) (at : ℕ) → back ≡ drop at bs → take (length back - 1) (drop 1 back) ≡ drop (at + 1) bs
after_place bs back at e =
    take_rest back 1 ∙ ap (drop 1) e ∙ drop-drop 1 at bs

pub split_at-place : (mark : ℕ) (xs : List ℕ) (place : Option ℕ) → place ≡ position (λ b. b == mark) xs → split_at mark xs ≡ option_map (around xs) place
split_at-place mark xs place e = split_at-first mark xs ∙ ap (option_map (around xs)) (sym e)

-- a word and what follows it is read so
pub word_at-follows : (word : List ℕ) (more : Option (List ℕ)) → HasNo 32 word → word_at (Some (word ++ follows more)) ≡ Ok (word, more)
unfolding word_at
word_at-follows word None h = rw append-nil (ap (λ p. Ok (parts word p)) (split_at-none 32 word h))
word_at-follows word (Some more) h = ap (λ p. Ok (parts (word ++ 32 ∷ more) p)) (split_at-mark 32 word more h)

-- what is left is this word and this after it
pub record HasWord (rest : Option (List ℕ)) (p : List ℕ × Option (List ℕ)) : Type 0 where
  pub is : rest ≡ Some (p.0 ++ follows p.1)
  pub spaceless : HasNo 32 p.0

-- what is read as a word is one, or it is bad syntax
abbrev pub WordCases : Option (List ℕ) → Field (List ℕ) → Type 0
WordCases rest (Ok p) = HasWord rest p
WordCases rest (Err e) = e ≡ BadSyntax

-- the parts around a space are a word and what follows it
word-parts : (xs : List ℕ) (r : Option (List ℕ × List ℕ)) → Splits 32 xs r → HasWord (Some xs) (parts xs r)
word-parts xs None h = record { is = ap (λ l. Some l) (sym (append-nil xs)); spaceless = h }
word-parts xs (Some p) h = record { is = ap (λ l. Some l) h.0; spaceless = h.1 }

-- what is read as a word is one
pub word-cases : (rest : Option (List ℕ)) → WordCases rest (word_at rest)
unfolding word_at
word-cases None = refl
word-cases (Some xs) = word-parts xs (split_at 32 xs) (splits 32 xs)

-- Numbers: they have no space, are read as what they stand for, and nothing else is.
digits-spaceless : (bs : List ℕ) → list_all is_digit bs ≡ true → HasNo 32 bs
digits-spaceless [] h = tt
digits-spaceless (b ∷ bs) h =
    let p = and_parts (is_digit b) (list_all is_digit bs) h in
    (λ e. let bad : is_digit 32 ≡ true = subst (λ x. is_digit x ≡ true) e p.0 in cc, digits-spaceless bs p.1)

-- a number's text is digits
number_text-digits : (bs : List ℕ) → is_number_text bs ≡ true → list_all is_digit bs ≡ true
number_text-digits bs h = (and_parts _ _ (and_parts _ _ h).1).1

-- so it has no space
number_text-spaceless : (bs : List ℕ) → is_number_text bs ≡ true → HasNo 32 bs
number_text-spaceless bs h = digits-spaceless bs (number_text-digits bs h)

-- nor has a number
number-spaceless : (word : List ℕ) (z : ℤ) → IsNumber word z → HasNo 32 word
number-spaceless [] z h = absurd h
number-spaceless (b ∷ bs) z (inl h) = (λ e. omega (arith, h.0), number_text-spaceless bs h.2.0)
number-spaceless (b ∷ bs) z (inr h) = number_text-spaceless (b ∷ bs) h.1.0

-- digits are read as what they stand for
digits_of-at : (bs : List ℕ) (n : ℕ) → IsDigits bs n → digits_of bs ≡ Some (pos n)
digits_of-at bs n h = rw (h.0, ← h.1) refl

-- a minus sign is no digit
minus_text : (bs : List ℕ) → is_number_text (45 ∷ bs) ≡ true → ⊥
minus_text bs h =
    let digits : list_all is_digit (45 ∷ bs) ≡ true = number_text-digits (45 ∷ bs) h in
    let bad : false ≡ true = (and_parts false (list_all is_digit bs) digits).0 in
    cc

-- a number is read as what it stands for
number_said-at : (word : List ℕ) (z : ℤ) → IsNumber word z → number_said word ≡ Some z
unfolding number_said
number_said-at [] z h = absurd h
number_said-at (b ∷ bs) z (inl h) = rw h.0 (ap (option_map neg_ℤ) (digits_of-at bs h.1 h.2) ∙ ap (λ x. Some x) (sym h.3))
number_said-at (b ∷ bs) z (inr h) =
    elim (cases_eq b 45) [
      | inl e ↦ absurd (minus_text bs (subst (λ x. is_number_text (x ∷ bs) ≡ true) e h.1.0))
      | inr ne ↦ rw (ne_eqb b 45 ne) (digits_of-at (b ∷ bs) h.0 h.1 ∙ ap (λ x. Some x) (sym h.2))
    ]

-- what is read is in the grammar
abbrev pub NumberCases : List ℕ → Option ℤ → Type 0
NumberCases word None = Unit {0}
NumberCases word (Some z) = IsNumber word z

pub number-cases : (word : List ℕ) → NumberCases word (number_said word)
unfolding number_said
number-cases [] = tt
number-cases (b ∷ bs) =
    elim (cases_eq b 45) [
      | inl e ↦ rw (eq-eqb b 45 e) (elim (cases_Bool (is_number_text bs)) [
        | inl t ↦ rw t (inl (e, digits_value bs, (t, refl), refl))
        | inr f ↦ rw f tt
      ])
      | inr ne ↦ rw (ne_eqb b 45 ne) (elim (cases_Bool (is_number_text (b ∷ bs))) [
        | inl t ↦ rw t (inr (digits_value (b ∷ bs), (t, refl), refl))
        | inr f ↦ rw f tt
      ])
    ]

pub number_at-at : (word : List ℕ) (more : Option (List ℕ)) (z : ℤ) → IsNumber word z → number_at (Some (word ++ follows more)) ≡ Ok (z, more)
unfolding number_at
number_at-at word more z h = rw (word_at-follows word more (number-spaceless word z h), number_said-at word z h) refl

-- Flags, likewise.
flag-spaceless : (word : List ℕ) (b : Bool) → IsFlag word b → HasNo 32 word
flag-spaceless word true h = rw h (λ e. omega (arith, e), tt)
flag-spaceless word false h = rw h (λ e. omega (arith, e), tt)

flag_of-at : (word : List ℕ) (b : Bool) → IsFlag word b → flag_of word ≡ Some b
flag_of-at word true h = rw h refl
flag_of-at word false h = rw h refl

-- what is read is in the grammar
abbrev pub FlagCases : List ℕ → Option Bool → Type 0
FlagCases word None = Unit {0}
FlagCases word (Some b) = IsFlag word b

pub flag-cases : (word : List ℕ) → FlagCases word (flag_of word)
flag-cases [] = tt
flag-cases (b ∷ []) =
    elim (cases_eq b 48) [
      | inl e ↦ rw (eq-eqb b 48 e) (ap (λ x. x ∷ []) e)
      | inr ne ↦ rw (ne_eqb b 48 ne) (elim (cases_eq b 49) [ inl e ↦ rw (eq-eqb b 49 e) (ap (λ x. x ∷ []) e) | inr f ↦ rw (ne_eqb b 49 f) tt ])
    ]
flag-cases (b ∷ c ∷ bs) = tt

pub flag_at-at : (word : List ℕ) (more : Option (List ℕ)) (b : Bool) → IsFlag word b → flag_at (Some (word ++ follows more)) ≡ Ok (b, more)
unfolding flag_at
flag_at-at word more b h = rw (word_at-follows word more (flag-spaceless word b h), flag_of-at word b h) refl

-- Names, likewise.
name_bytes-spaceless : (bs : List ℕ) → list_all is_ascii_alphanumeric bs ≡ true → HasNo 32 bs
name_bytes-spaceless [] h = tt
name_bytes-spaceless (b ∷ bs) h =
    let p = and_parts (is_ascii_alphanumeric b) (list_all is_ascii_alphanumeric bs) h in
    (λ e. let bad : is_ascii_alphanumeric 32 ≡ true = subst (λ x. is_ascii_alphanumeric x ≡ true) e p.0 in cc, name_bytes-spaceless bs p.1)

name-spaceless : (word : List ℕ) → IsName word → HasNo 32 word
name-spaceless [] h = absurd h
name-spaceless (b ∷ bs) h =
    (λ e. let bad : is_ascii_alphabetic 32 ≡ true = subst (λ x. is_ascii_alphabetic x ≡ true) e h.0 in cc, name_bytes-spaceless bs h.1)

is_name-at : (word : List ℕ) → IsName word → is_name word ≡ true
is_name-at [] h = absurd h
is_name-at (b ∷ bs) h = rw (h.0, h.1) refl

name-is : (word : List ℕ) → is_name word ≡ true → IsName word
name-is [] h = let bad : false ≡ true = h in cc
name-is (b ∷ bs) h = and_parts (is_ascii_alphabetic b) (list_all is_ascii_alphanumeric bs) h

-- what is left is this name and this after it
pub record HasName (rest : Option (List ℕ)) (p : List ℕ × Option (List ℕ)) : Type 0 where
  pub is : rest ≡ Some (p.0 ++ follows p.1)
  pub named : IsName p.0

-- what is read is in the grammar
abbrev pub NameCases : Option (List ℕ) → Field (List ℕ) → Type 0
NameCases rest (Ok p) = HasName rest p
NameCases rest (Err e) = e ≡ BadSyntax

name-word : (rest : Option (List ℕ)) (w : Field (List ℕ)) → WordCases rest w → NameCases rest (w >>= λ word. if is_name word.0 then Ok (word.0, word.1) else Err BadSyntax)
name-word rest (Ok p) h =
    elim (cases_Bool (is_name p.0)) [
      | inl t ↦ rw t (record { is = h.is; named = name-is p.0 t })
      | inr f ↦ rw f refl
    ]
name-word rest (Err e) h = h

pub name-cases : (rest : Option (List ℕ)) → NameCases rest (name_at rest)
unfolding name_at
name-cases rest = name-word rest (word_at rest) (word-cases rest)

pub name_at-at : (word : List ℕ) (more : Option (List ℕ)) → IsName word → name_at (Some (word ++ follows more)) ≡ Ok (word, more)
unfolding name_at
name_at-at word more h = rw (word_at-follows word more (name-spaceless word h), is_name-at word h) refl

-- Hex digits, likewise.
hex_digits-spaceless : (bs : List ℕ) → list_all is_ascii_hexdigit bs ≡ true → HasNo 32 bs
hex_digits-spaceless [] h = tt
hex_digits-spaceless (b ∷ bs) h =
    let p = and_parts (is_ascii_hexdigit b) (list_all is_ascii_hexdigit bs) h in
    (λ e. let bad : is_ascii_hexdigit 32 ≡ true = subst (λ x. is_ascii_hexdigit x ≡ true) e p.0 in cc, hex_digits-spaceless bs p.1)

hex-spaceless : (word bytes : List ℕ) → IsHex word bytes → HasNo 32 word
hex-spaceless word bytes h = hex_digits-spaceless word (and_parts _ _ (and_parts _ _ h.0).1).1

hex_of-at : (word bytes : List ℕ) → IsHex word bytes → hex_of word ≡ Some bytes
hex_of-at word bytes h = rw (h.0, ← h.1) refl

-- what is read is in the grammar
abbrev pub HexCases : List ℕ → Option (List ℕ) → Type 0
HexCases word None = Unit {0}
HexCases word (Some bytes) = IsHex word bytes

pub hex-cases : (word : List ℕ) → HexCases word (hex_of word)
hex-cases word =
    elim (cases_Bool (is_hex_text word)) [
      | inl t ↦ rw t (t, refl)
      | inr f ↦ rw f tt
    ]

pub hex_at-at : (word : List ℕ) (more : Option (List ℕ)) (bytes : List ℕ) → IsHex word bytes → hex_at (Some (word ++ follows more)) ≡ Ok (bytes, more)
unfolding hex_at
hex_at-at word more bytes h = rw (word_at-follows word more (hex-spaceless word bytes h), hex_of-at word bytes h) refl

-- Texts, likewise; a text may have spaces.

-- what is left is this text and this after it
pub record HasText (rest : Option (List ℕ)) (p : List ℕ × Option (List ℕ)) : Type 0 where
  pub is : rest ≡ Some (34 ∷ (p.0 ++ 34 ∷ follows p.1))
  pub plain : IsPlainText p.0

-- what is read is in the grammar
abbrev pub TextCases : Option (List ℕ) → Field (List ℕ) → Type 0
TextCases rest (Ok p) = HasText rest p
TextCases rest (Err e) = e ≡ BadSyntax

after-cases : (xs t after : List ℕ) → xs ≡ t ++ 34 ∷ after → IsPlainText t → TextCases (Some (34 ∷ xs)) (after_quote t after)
after-cases xs t [] e h = record { is = ap (λ l. Some (34 ∷ l)) e; plain = h }
after-cases xs t (b ∷ rest) e h =
    elim (cases_eq b 32) [
      | inl s ↦ rw (eq-eqb b 32 s) (record { is = ap (λ l. Some (34 ∷ l)) (e ∙ ap (λ x. t ++ 34 ∷ (x ∷ rest)) s); plain = h })
      | inr ne ↦ rw (ne_eqb b 32 ne) refl
    ]

quoted-cases : (xs : List ℕ) (r : Option (List ℕ × List ℕ)) → Splits 34 xs r → TextCases (Some (34 ∷ xs)) (quoted_parts r)
quoted-cases xs None h = refl
quoted-cases xs (Some p) h =
    elim (cases_Bool (list_all is_plain p.0)) [
      | inl t ↦ rw t (after-cases xs p.0 p.1 h.0 (t, h.1))
      | inr f ↦ rw f refl
    ]

pub text-cases : (rest : Option (List ℕ)) → TextCases rest (text_at rest)
unfolding text_at quoted_at
text-cases None = refl
text-cases (Some []) = refl
text-cases (Some (b ∷ xs)) =
    elim (cases_eq b 34) [
      | inl e ↦ rw (eq-eqb b 34 e, e) (quoted-cases xs (split_at 34 xs) (splits 34 xs))
      | inr ne ↦ rw (ne_eqb b 34 ne) refl
    ]

after-at : (t : List ℕ) (more : Option (List ℕ)) → after_quote t (follows more) ≡ Ok (t, more)
after-at t None = refl
after-at t (Some more) = refl

pub text_at-at : (t : List ℕ) (more : Option (List ℕ)) → IsPlainText t → text_at (Some (34 ∷ (t ++ 34 ∷ follows more))) ≡ Ok (t, more)
unfolding text_at quoted_at
text_at-at t more h = ap quoted_parts (split_at-mark 34 t (follows more) h.1) ∙ rw h.0 (after-at t more)

-- Bytes: a text or hex digits.

-- what is left is a word of these bytes and this after it
pub record HasBytes (rest : Option (List ℕ)) (p : List ℕ × Option (List ℕ)) : Type 0 where
  pub word : List ℕ
  pub is : rest ≡ Some (word ++ follows p.1)
  pub bytes : IsBytes word p.0

-- what is read is in the grammar
abbrev pub BytesCases : Option (List ℕ) → Field (List ℕ) → Type 0
BytesCases rest (Ok p) = HasBytes rest p
BytesCases rest (Err e) = e ≡ BadSyntax

text-bytes : (rest : Option (List ℕ)) (w : Field (List ℕ)) → TextCases rest w → BytesCases rest w
text-bytes rest (Ok p) h = record {
  word = 34 ∷ (p.0 ++ 34 ∷ []);
  is = h.is ∙ ap (λ l. Some (34 ∷ l)) (sym (append_assoc p.0 (34 ∷ []) (follows p.1)));
  bytes = inl (refl, h.plain);
}
text-bytes rest (Err e) h = h

hex-said : (rest : Option (List ℕ)) (p : List ℕ × Option (List ℕ)) → HasWord rest p → (o : Option (List ℕ)) → HexCases p.0 o → BytesCases rest (with_rest o p.1)
hex-said rest p w None h = refl
hex-said rest p w (Some said) h = record { word = p.0; is = w.is; bytes = inr h }

hex-bytes : (rest : Option (List ℕ)) (w : Field (List ℕ)) → WordCases rest w → BytesCases rest (w >>= λ p. with_rest (hex_of p.0) p.1)
hex-bytes rest (Ok p) h = hex-said rest p h (hex_of p.0) (hex-cases p.0)
hex-bytes rest (Err e) h = h

pub bytes-cases : (rest : Option (List ℕ)) → BytesCases rest (bytes_at rest)
unfolding bytes_at hex_at
bytes-cases rest =
    elim (cases_Bool (begins_text rest)) [
      | inl t ↦ rw t (text-bytes rest (text_at rest) (text-cases rest))
      | inr f ↦ rw f (hex-bytes rest (word_at rest) (word-cases rest))
    ]

-- a hex digit is no quote
hex-begins : (word : List ℕ) (more : Option (List ℕ)) (said : List ℕ) → IsHex word said → begins_text (Some (word ++ follows more)) ≡ false
hex-begins [] more said h = let bad : false ≡ true = h.0 in absurd (cc)
hex-begins (b ∷ bs) more said h =
    let p = and_parts (is_ascii_hexdigit b) (list_all is_ascii_hexdigit bs) (and_parts _ _ (and_parts _ _ h.0).1).1 in
    ne_eqb b 34 (λ e. let bad : is_ascii_hexdigit 34 ≡ true = subst (λ x. is_ascii_hexdigit x ≡ true) e p.0 in cc)

pub bytes_at-at : (word : List ℕ) (more : Option (List ℕ)) (said : List ℕ) → IsBytes word said → bytes_at (Some (word ++ follows more)) ≡ Ok (said, more)
unfolding bytes_at
bytes_at-at word more said (inl (e, plain)) =
    rw e (ap (λ l. text_at (Some (34 ∷ l))) (append_assoc said (34 ∷ []) (follows more)) ∙ text_at-at said more plain)
bytes_at-at word more said (inr h) = rw (hex-begins word more said h) (hex_at-at word more said h)
