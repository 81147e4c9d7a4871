-- The first command of a script.
use Rattle.std.proofs.Common.{◌≡◌, ◌≢◌, ℕ, Bool, inl, inr, true, false, cond, List, [], Some, None, Result, Err, refl, sym, ◌∙◌, subst}
use Rattle.std.proofs.lemmas.Bool.{cases_Bool}
use Rattle.tb_geom.specs.declared.refusal.Refusal.{Refusal}
use Rattle.tb_geom.specs.declared.refusal.Refusal.TheVariants.{NoMemory, OutOfRange}
use Rattle.tb_geom.specs.declared.point.Point.{Point}
use Rattle.desk_layers.specs.declared.part.Part.{Part}
use Rattle.desk_layers.specs.declared.part.Part.TheVariants as parts
use Rattle.def_iface.specs.Slots.{TakenBox}
use Rattle.def_iface.specs.ControlMeaning.{ControlLoan}
use Rattle.def_iface.specs.ListMeaning.{ListLoan}
use Rattle.def_iface.specs.WindowMeaning.{WindowLoan}
use Rattle.def_iface.specs.MenuMeaning.{MenuLoan}
use Rattle.def_iface.specs.Stocks.{AllSlots}
use Rattle.control_mgr.specs.ControlDesks.{controls_show}
use Rattle.list_mgr.specs.ListDesks.{lists_show}
use Rattle.text_mgr.specs.TextDesks.{texts_show}
use Rattle.desk_toolbox.specs.declared.toolbox.Toolbox.{Toolbox}
use Rattle.window_mgr.specs.Begin.{IsEmptyDesk}
use Rattle.window_mgr.specs.Records.{desk_of}
use Rattle.desk_toolbox.specs.Reached.{IsJustBegun}
use Rattle.desk_toolbox.specs.ToolboxStates.{ToolboxState}
use Rattle.desk_toolbox.specs.WholeToolbox.{toolbox_state}
use Rattle.desk_toolbox.proofs.ListStands.{begun_contents}
use Rattle.script_text.specs.declared.command.Command.{Command}
use Rattle.script_text.specs.declared.command.DeskSize.{DeskSize}
use Rattle.script_runner.specs.Session.{unmade, made, IsNewDesk, Opens, reply_shown, first_size, is_known, may_be, why_unmade}
use Rattle.script_runner.specs.Endings.{IsFirstAnswered, CommandEnds}
use Rattle.script_text.specs.Replies.{refused_text}
use Rattle.watched_io.specs.Writes.{Output, Sends}

-- no controls, no lists and no text records show nothing
none_show : (font : List ℕ) (part : Part) (p : Point) → controls_show (lists_show (texts_show (λ f q p. false) []) []) [] font part p ≡ false
none_show font parts.Picture p = refl
none_show font (parts.Control n) p = refl
none_show font (parts.List n) p = refl
none_show font (parts.Text n) p = refl

-- the desk that the Toolbox made
pub new_desk : {V : Type 0} {H : V → Type 0} (loan : TakenBox V H → WindowLoan) {W : Type 0} {K : W → Type 0} (menu_loan : TakenBox W K → MenuLoan) {U : Type 0} {J : U → Type 0} (control_loan : TakenBox U J → ControlLoan) {X : Type 0} {L : X → Type 0} (list_loan : TakenBox X L → ListLoan) (t : Toolbox V U W X H J K L) (font : List ℕ) (stocks : AllSlots) (size wanted : DeskSize) → size ≡ wanted
    → IsEmptyDesk loan size.width size.height size.bar font t.windows stocks.windows → IsJustBegun (toolbox_state loan menu_loan control_loan list_loan t stocks) → IsNewDesk wanted font stocks (toolbox_state loan menu_loan control_loan list_loan t stocks)
new_desk loan menu_loan control_loan list_loan t font stocks size wanted same empty begun =
    subst (λ s. IsNewDesk s font stocks (toolbox_state loan menu_loan control_loan list_loan t stocks)) same (record {
      desk =
          (λ i. record (desk_of loan t.windows stocks.windows) { shows = controls_show (lists_show (texts_show (λ f q p. false) (begun.texts i)) (begun.lists i)) (begun.controls i) t.windows.font })
          ∙ (λ i. record (desk_of loan t.windows stocks.windows) { shows = λ part p. none_show t.windows.font part p i })
          ∙ empty.desk;
      idle = begun.idle;
      drawn = empty.drawn;
      right = begun.right;
      contents = begun_contents (toolbox_state loan menu_loan control_loan list_loan t stocks) begun;
      menus = λ i. record { menus = begun.menus i; highlighted = begun.highlighted i; stock = stocks.menus };
      controls = λ i. record { controls = begun.controls i; next = begun.next_control i; stock = stocks.controls };
      lists = λ i. record { lists = begun.lists i; next = begun.next_list i; stock = stocks.lists };
      texts = λ i. record { texts = begun.texts i; next = begun.next_text i; scrap = begun.scrap i };
      events = begun.events;
    })

-- the desk was made, and the command answered on it
pub opened : {X : Type 0} (raw : Bool) (font : List ℕ) (stocks : AllSlots) (command : Command) (first after : ToolboxState) (old new : Output) (r : Result X Refusal)
    → is_known command stocks ≡ true → may_be (first_size command) ≡ true → IsNewDesk (first_size command) font stocks first
    → IsFirstAnswered raw first command after old new r → CommandEnds raw (unmade font stocks) command (made after) old new r
opened raw font stocks command first after old new r known fits fresh answered =
    let none : why_unmade command stocks ≡ None = rw (known, fits) refl in
    inl (answered.0, subst (λ why. Opens raw why font stocks command answered.0 (made after)) (sym none) (first, after, fresh, answered.1, refl), answered.2)

-- there was no memory for the desk
pub memory_refused : (X : Type 0) (raw : Bool) (font : List ℕ) (stocks : AllSlots) (command : Command) (out : Output)
    → is_known command stocks ≡ true → NoMemory ≡ cond (may_be (first_size command)) NoMemory OutOfRange
    → CommandEnds {X = X} raw (unmade font stocks) command (unmade font stocks) out out (Err NoMemory)
memory_refused X raw font stocks command out known why =
    elim (cases_Bool (may_be (first_size command))) [
      | inl fits ↦ inr (record { makes = rw (known, fits) refl; same = refl; silent = refl; memory = refl })
      | inr off ↦ let bad : NoMemory ≡ OutOfRange = why ∙ rw off refl in absurd (cc)
    ]

-- a screen may not have the size
pub size_refused : {X : Type 0} (raw : Bool) (font : List ℕ) (stocks : AllSlots) (command : Command) (e : Refusal) (old new : Output) (r : Result X Refusal)
    → is_known command stocks ≡ true → e ≡ cond (may_be (first_size command)) NoMemory OutOfRange → e ≢ NoMemory
    → Sends old new r (reply_shown raw (refused_text e)) → CommandEnds raw (unmade font stocks) command (unmade font stocks) old new r
size_refused raw font stocks command e old new r known why other sent =
    elim (cases_Bool (may_be (first_size command))) [
      | inl fits ↦ absurd (other (why ∙ rw fits refl))
      | inr off ↦
          let out : e ≡ OutOfRange = why ∙ rw off refl in
          let some : why_unmade command stocks ≡ Some OutOfRange = rw (known, off) refl in
          inl (reply_shown raw (refused_text e), subst (λ w. Opens raw w font stocks command (reply_shown raw (refused_text e)) (unmade font stocks)) (sym some) (rw out (refl, refl)), sent)
    ]
