-- The words of the commands for the items of dialogs.
use Rattle.std.specs.Prelude.{ℕ, List, [], ◌∷◌, map, Option, None, Some, Result, Ok, Err, if◌then◌else◌}
use Rattle.tb_geom.specs.declared.refusal.Refusal.{Refusal}
use Rattle.tb_geom.specs.declared.refusal.Refusal.TheVariants.{BadSyntax}
use Rattle.dialog_items.specs.declared.kind.ItemKind.{ItemKind}
use Rattle.dialog_items.specs.declared.kind.ItemKind.TheVariants as kinds
use Rattle.dialog_items.specs.Kinds.{kind_name}
use Rattle.dialog_call.specs.declared.calls.DialogCall.{DialogCall}
use Rattle.dialog_call.specs.declared.calls.DialogCall.TheVariants as calls
use Rattle.dialog_call.specs.declared.calls.ItemOf.{ItemOf}
use Rattle.dialog_call.specs.declared.calls.NewItem.{NewItem}
use Rattle.dialog_call.specs.ItemForms.{has_form}
use Rattle.line_words.specs.Words.{◌>>=◌, Field, serial_at}
use Rattle.line_words.specs.Shapes.{Shape, ends, says, never, number, flag, name, bytes, serial, point, mapped}
use Rattle.line_words.specs.Tables.{named}
use Rattle.dialog_words.specs.declared.verb.DialogVerb.{DialogVerb}
use Rattle.dialog_words.specs.declared.verb.DialogVerb.TheVariants as verbs

-- two words that are a window and an item
abbrev pub item_at : Option (List ℕ) → Field ItemOf
item_at rest =
    serial_at rest >>= λ window. serial_at window.1 >>= λ item. Ok (record { window = window.0; item = item.0 }, item.1)

-- W I
abbrev pub of_item : {A : Type 0} → (ItemOf → Shape A) → Shape A
of_item next = serial (λ window. serial (λ item. next (record { window = window; item = item })))

-- W I, and no more
abbrev pub alone_shape : Shape ItemOf
alone_shape = of_item (λ item. says item)

-- the kinds of items
abbrev pub all_kinds : List ItemKind
all_kinds = kinds.Button ∷ kinds.Check ∷ kinds.Radio ∷ kinds.Default ∷ kinds.Icon ∷ kinds.Static ∷ kinds.Edit ∷ kinds.User ∷ []

-- and by their names
abbrev pub item_kinds : List (List ℕ × ItemKind)
item_kinds = map (λ kind. (kind_name kind, kind)) all_kinds

-- the kind with a name, if there is one
unfoldable pub kind_of : List ℕ → Option ItemKind
kind_of word = named word item_kinds

-- an item is asked for, if its bytes have the form of its kind
abbrev pub formed : NewItem → Result DialogCall Refusal
formed item = if has_form item then Ok (calls.New item) else Err BadSyntax

-- the bytes have the form of the kind; a name of no kind is judged after the form of the line
abbrev pub new_item : Option ItemKind → (ItemKind → NewItem) → Shape DialogCall
new_item None item = ends None
new_item (Some kind) item = if has_form (item kind) then says (calls.New (item kind)) else never

-- W KIND l t w h ENABLED BYTES
abbrev pub new_shape : Shape DialogCall
new_shape = serial (λ window. name (λ kind. point (λ place. number (λ wide. number (λ high. flag (λ enabled. bytes (λ said.
    new_item (kind_of kind) (λ k. record {
      window = window;
      kind = k;
      place = place;
      size = record { width = wide; height = high };
      enabled = enabled;
      bytes = said;
    }))))))))

-- BYTES BYTES BYTES BYTES
abbrev pub params_shape : Shape DialogCall
params_shape = bytes (λ first. bytes (λ second. bytes (λ third. bytes (λ fourth.
    says (calls.SetParams (record { first = first; second = second; third = third; fourth = fourth }))))))

-- W I BYTES
abbrev pub text_shape : Shape DialogCall
text_shape = of_item (λ item. bytes (λ said. says (calls.SetText (record { item = item; bytes = said }))))

-- W I FLAG
abbrev pub enable_shape : Shape DialogCall
enable_shape = of_item (λ item. flag (λ enabled. says (calls.Enable (record { item = item; flag = enabled }))))

-- W I a b
abbrev pub select_shape : Shape DialogCall
select_shape = of_item (λ item. number (λ start. number (λ end.
    says (calls.Select (record { item = item; start = start; end = end })))))

-- W FLAG
abbrev pub activate_shape : Shape DialogCall
activate_shape = serial (λ window. flag (λ active. says (calls.Activate (record { window = window; flag = active }))))

-- W h v MODE
abbrev pub click_shape : Shape DialogCall
click_shape = serial (λ window. point (λ at. number (λ mode.
    says (calls.Click (record { window = window; point = at; mode = mode })))))

-- W CODE MODS
abbrev pub key_shape : Shape DialogCall
key_shape = serial (λ window. number (λ code. number (λ modifiers.
    says (calls.Key (record { window = window; code = code; modifiers = modifiers })))))

-- W h v
abbrev pub find_shape : Shape DialogCall
find_shape = serial (λ window. point (λ at. says (calls.Find (record { window = window; point = at }))))

-- the words that follow a first word, and what they ask
unfoldable pub dialog_shape : DialogVerb → Shape DialogCall
dialog_shape verbs.New = new_shape
dialog_shape verbs.SetParams = params_shape
dialog_shape verbs.SetText = text_shape
dialog_shape verbs.Enable = enable_shape
dialog_shape verbs.Show = mapped calls.Show alone_shape
dialog_shape verbs.Hide = mapped calls.Hide alone_shape
dialog_shape verbs.Select = select_shape
dialog_shape verbs.Activate = activate_shape
dialog_shape verbs.Click = click_shape
dialog_shape verbs.Key = key_shape
dialog_shape verbs.Get = mapped calls.Get alone_shape
dialog_shape verbs.Info = serial (λ window. says (calls.Info window))
dialog_shape verbs.Find = find_shape
