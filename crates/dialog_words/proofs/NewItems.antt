-- What is read of a new item.
use Rattle.std.proofs.Common.{◌≡◌, ℕ, ℤ, Bool, true, false, List, [], ◌∷◌, map, Option, Some, None, Result, Ok, Err, IfSome, IfNone, if◌then◌else◌, inl, inr, refl, sym, ap, ◌∙◌, bytes_eq}
use Rattle.std.specs.Option.{ok_or}
use Rattle.std.proofs.lemmas.Slice.Eq.{bytes_eq-Decides}
use Rattle.std.proofs.lemmas.Bool.{cases_Bool}
use Rattle.tb_geom.specs.declared.point.Point.{Point}
use Rattle.tb_geom.specs.declared.refusal.Refusal.{Refusal}
use Rattle.tb_geom.specs.declared.refusal.Refusal.TheVariants.{BadSyntax, NoSuchName}
use Rattle.dialog_items.specs.declared.kind.ItemKind.{ItemKind}
use Rattle.dialog_items.specs.declared.kind.ItemKind.TheVariants.{Button, Check, Radio, Default, Icon, Static, Edit, User}
use Rattle.dialog_items.specs.Kinds.{kind_name}
use Rattle.dialog_call.specs.declared.calls.DialogCall.{DialogCall}
use Rattle.dialog_call.specs.declared.calls.DialogCall.TheVariants.{New}
use Rattle.dialog_call.specs.declared.calls.NewItem.{NewItem}
use Rattle.dialog_call.specs.ItemForms.{has_form}
use Rattle.line_words.specs.Words.{◌>>=◌, Field, bytes_at, flag_at, last, name_at, number_at, point_at, serial_at, serial_of}
use Rattle.line_words.specs.Shapes.{Shape, bytes, flag, name, never, number, point, reading, says}
use Rattle.line_words.specs.Tables.{named}
use Rattle.dialog_words.specs.DialogWords.{all_kinds, formed, item_kinds, kind_of, new_item, new_shape}

-- ---- the kind with a name

no_kind : (word : List ℕ) → ((kind : ItemKind) → kind_name kind ≡ word → ⊥) → (ks : List ItemKind) → named word (map (λ kind. (kind_name kind, kind)) ks) ≡ None
no_kind word none [] = refl
no_kind word none (k ∷ ks) =
    elim (cases_Bool (bytes_eq (kind_name k) word)) [
      | inl same ↦ absurd (none k ((bytes_eq-Decides (kind_name k) word).0 same))
      | inr other ↦ rw other (no_kind word none ks)
    ]

kind-named : (kind : ItemKind) → named (kind_name kind) item_kinds ≡ Some kind
kind-named Button = refl
kind-named Check = refl
kind-named Radio = refl
kind-named Default = refl
kind-named Icon = refl
kind-named Static = refl
kind-named Edit = refl
kind-named User = refl

pub found_kind : (word : List ℕ) (found : Option ItemKind) → IfSome found (λ kind. kind_name kind ≡ word) → IfNone found ((kind : ItemKind) → kind_name kind ≡ word → ⊥) → kind_of word ≡ found
unfolding kind_of
found_kind word None s n = no_kind word n all_kinds
found_kind word (Some kind) s n = sym (ap (λ w. named w item_kinds) s) ∙ kind-named kind

-- ---- the bytes behind

-- an item with these bytes
abbrev pub made : ℕ → Point → ℤ → ℤ → Bool → List ℕ → ItemKind → NewItem
made window place wide high enabled said kind = record {
  window = window;
  kind = kind;
  place = place;
  size = record { width = wide; height = high };
  enabled = enabled;
  bytes = said;
}

-- what is asked by an item whose kind is known, or not
abbrev pub item_read : Option ItemKind → (ItemKind → NewItem) → Result DialogCall Refusal
item_read found item = ok_or found NoSuchName >>= λ kind. formed (item kind)

ends_form : (b : Bool) (x : DialogCall) → reading (if b then says x else never) None ≡ (if b then Ok x else Err BadSyntax)
ends_form true x = refl
ends_form false x = refl

more_form : (b : Bool) (x : DialogCall) (more : List ℕ) → reading (if b then says x else never) (Some more) ≡ Err BadSyntax
more_form true x more = refl
more_form false x more = refl

bytes_read : (found : Option ItemKind) (item : List ℕ → ItemKind → NewItem) (said : Field (List ℕ))
    → (said >>= λ x. reading (new_item found (item x.0)) x.1) ≡ (last said >>= λ x. item_read found (item x))
bytes_read found item (Err e) = refl
bytes_read None item (Ok (x, None)) = refl
bytes_read None item (Ok (x, Some more)) = refl
bytes_read (Some kind) item (Ok (x, None)) = ends_form (has_form (item x kind)) (New (item x kind))
bytes_read (Some kind) item (Ok (x, Some more)) = more_form (has_form (item x kind)) (New (item x kind)) more

-- ---- the words before

same_after : {B C : Type 0} (w : Field C) {f g : C × Option (List ℕ) → Result B Refusal} → ((x : C × Option (List ℕ)) → f x ≡ g x) → (w >>= f) ≡ (w >>= g)
same_after (Ok x) same = same x
same_after (Err e) same = refl

abbrev serial_field : Field ℤ → Field ℕ
serial_field w = w >>= λ n. Ok (serial_of n.0, n.1)

serial_then : {B : Type 0} (w : Field ℤ) (f : ℕ → Option (List ℕ) → Result B Refusal) → (w >>= λ n. f (serial_of n.0) n.1) ≡ (serial_field w >>= λ x. f x.0 x.1)
serial_then (Ok x) f = refl
serial_then (Err e) f = refl

abbrev row_field : ℤ → Field ℤ → Field Point
row_field h w = w >>= λ v. Ok (record { h = h; v = v.0 }, v.1)

row_then : {B : Type 0} (h : ℤ) (w : Field ℤ) (f : Point → Option (List ℕ) → Result B Refusal) → (w >>= λ v. f (record { h = h; v = v.0 }) v.1) ≡ (row_field h w >>= λ x. f x.0 x.1)
row_then h (Ok x) f = refl
row_then h (Err e) f = refl

abbrev point_field : Field ℤ → Field Point
point_field w = w >>= λ h. row_field h.0 (number_at h.1)

point_then : {B : Type 0} (w : Field ℤ) (f : Point → Option (List ℕ) → Result B Refusal) → (w >>= λ h. number_at h.1 >>= λ v. f (record { h = h.0; v = v.0 }) v.1) ≡ (point_field w >>= λ x. f x.0 x.1)
point_then (Ok x) f = row_then x.0 (number_at x.1) f
point_then (Err e) f = refl

-- what follows the place of an item, and what follows its window
abbrev behind_place : ℕ → List ℕ → Point → Shape DialogCall
behind_place window kind place = number (λ wide. number (λ high. flag (λ enabled. bytes (λ said.
    new_item (kind_of kind) (λ k. made window place wide high enabled said k)))))

abbrev behind_window : ℕ → Shape DialogCall
behind_window window = name (λ kind. point (λ place. behind_place window kind place))

-- a new item is read in these steps
pub new_read : (rest : Option (List ℕ)) → reading new_shape rest ≡ (
    serial_at rest >>= λ window. name_at window.1 >>= λ kind. point_at kind.1 >>= λ place.
    number_at place.1 >>= λ wide. number_at wide.1 >>= λ high. flag_at high.1 >>= λ enabled.
    last (bytes_at enabled.1) >>= λ said. item_read (kind_of kind.0) (made window.0 place.0 wide.0 high.0 enabled.0 said)
    )
new_read rest =
    serial_then (number_at rest) (λ window more. reading (behind_window window) more)
    ∙ same_after (serial_at rest) (λ window. same_after (name_at window.1) (λ kind.
    point_then (number_at kind.1) (λ place more. reading (behind_place window.0 kind.0 place) more)
    ∙ same_after (point_at kind.1) (λ place. same_after (number_at place.1) (λ wide. same_after (number_at wide.1) (λ high. same_after (flag_at high.1) (λ enabled.
    bytes_read (kind_of kind.0) (made window.0 place.0 wide.0 high.0 enabled.0) (bytes_at enabled.1)))))))
