-- A raw run writes the images that its lines ask for.
use Rattle.std.proofs.Common.{◌≡◌, ℕ, ℤ, false, ◌+◌, true, cond, List, [], ◌∷◌, ◌++◌, Option, None, Some, Result, Ok, Err, refl, sym, ◌∙◌, subst, append-nil, count_by}
use Rattle.std.proofs.lemmas.List.{length-append}
use Rattle.std.proofs.lemmas.List.Concat.{flat_map-append}
use Rattle.std.proofs.lemmas.List.Sums.{sum_by-cons}
use Rattle.tb_geom.specs.declared.refusal.Refusal.{Refusal}
use Rattle.def_iface.specs.Stocks.{AllSlots}
use Rattle.desk_toolbox.specs.ToolboxStates.{ToolboxState}
use Rattle.script_text.specs.declared.command.Command.{Command}
use Rattle.script_text.specs.declared.command.Command.TheVariants.{Version, Desk, Image, Call}
use Rattle.script_text.specs.Lines.{said}
use Rattle.script_text.proofs.AlikeVersions.{said_alike}
use Rattle.script_runner.specs.RawText.{asks_image, AreImages}
use Rattle.script_runner.specs.Script.{ScriptState, Takes, SaidAnswers, Written, why_unread}
use Rattle.script_runner.specs.Session.{SessionState, unmade, made, image_text, Answers, FirstAnswers, Obeys, Opens, why_unmade}

none : AreImages 0 []
none = ([], refl, refl)

one : (s : ToolboxState) → AreImages 1 (image_text true s)
one s = (s ∷ [], refl, sym (append-nil (image_text true s)))

joined : (m n : ℕ) (xs ys : List ℕ) → AreImages m xs → AreImages n ys → AreImages (m + n) (xs ++ ys)
joined m n xs ys (front, long, is) (back, far, ends) =
    (front ++ back, length-append front back ∙ (λ i. long i + far i), (λ i. is i ++ ends i) ∙ sym (flat_map-append (image_text true) front back))

-- how many images a command asks for
abbrev asked : Command → ℕ
asked command = cond (asks_image (Some (Ok command))) 1 0

answers_images : (s : ToolboxState) (command : Command) (text : List ℕ) (after : ToolboxState) → Answers true s command text after → AreImages (asked command) text
answers_images s (Version number) text after answered = subst (AreImages 0) (sym answered.0) none
answers_images s (Desk size) text after answered = subst (AreImages 0) (sym answered.0) none
answers_images s Image text after answered = subst (AreImages 1) (sym answered.0) (one s)
answers_images s (Call call) text after answered = subst (AreImages 0) (sym answered.2) none

first_images : (s : ToolboxState) (command : Command) (text : List ℕ) (after : ToolboxState) → FirstAnswers true s command text after → AreImages (asked command) text
first_images s (Desk size) text after answered = subst (AreImages 0) (sym answered.0) none
first_images s command text after answered = answers_images s command text after answered

-- the usual desk can always be made, so `image` is not refused
opens_images : (font : List ℕ) (stocks : AllSlots) (command : Command) (why : Option Refusal) (text : List ℕ) (new : SessionState)
    → why_unmade command stocks ≡ why → Opens true why font stocks command text new → AreImages (asked command) text
opens_images font stocks command None text new is (first, after, fresh, answered, then) = first_images first command text after answered
opens_images font stocks (Version number) (Some e) text new is opened = subst (AreImages 0) (sym opened.0) none
opens_images font stocks (Desk size) (Some e) text new is opened = subst (AreImages 0) (sym opened.0) none
opens_images font stocks Image (Some e) text new is opened =
    let bad : ◌≡◌ {A = Option Refusal} None (Some e) = is in
    absurd (cc)
opens_images font stocks (Call call) (Some e) text new is opened = subst (AreImages 0) (sym opened.0) none

obeys_images : (old : SessionState) (command : Command) (text : List ℕ) (new : SessionState) → Obeys true old command text new → AreImages (asked command) text
obeys_images (unmade font stocks) command text new obeyed = opens_images font stocks command (why_unmade command stocks) text new refl obeyed
obeys_images (made s) command text new (after, answered, is) = answers_images s command text after answered

-- `image` is of every version, and is not refused
takes_images : (why : Option Refusal) (old : ScriptState) (command : Command) (text : List ℕ) (new : ScriptState)
    → why_unread old.is_begun old.version command ≡ why → Takes true why old command text new → AreImages (asked command) text
takes_images None old (Version number) text new is taken = subst (AreImages 0) (sym taken.0) none
takes_images None old command text new is (after, obeyed, then) = obeys_images old.session command text after obeyed
takes_images (Some e) old Image text new is taken =
    let bad : ◌≡◌ {A = Option Refusal} None (Some e) = is in
    absurd (cc)
takes_images (Some e) old command text new is taken = subst (AreImages 0) (sym taken.0) none

said_images : (old : ScriptState) (says : Option (Result Command Refusal)) (text : List ℕ) (new : ScriptState) → SaidAnswers true old says text new → AreImages (cond (asks_image says) 1 0) text
said_images old None text new answered = subst (AreImages 0) (sym answered.0) none
said_images old (Some (Err e)) text new answered = subst (AreImages 0) (sym answered.0) none
said_images old (Some (Ok command)) text new taken = takes_images (why_unread old.is_begun old.version command) old command text new refl taken

-- `image` is said alike in every version
image_alike : (one another : ℤ) (line : List ℕ) → asks_image (said one line) ≡ asks_image (said another line)
image_alike one another line = said_alike asks_image false (λ call. refl) (λ e. refl) one another line

module _ (version : ℤ) where
  written_in : (old : ScriptState) (lines : List (List ℕ)) (text : List ℕ) (new : ScriptState) → Written true old lines text new
      → AreImages (count_by (λ line. asks_image (said version line)) lines) text
  written_in old [] text new written = subst (AreImages 0) (sym written.0) none
  written_in old (line ∷ lines) text new (middle, first, others, answered, rest, whole) =
      let count = sum_by-cons (λ line. cond (asks_image (said version line)) 1 0) line lines in
      let here = subst (λ b. AreImages (cond b 1 0) first) (image_alike old.version version line) (said_images old (said old.version line) first middle answered) in
      let both = joined (cond (asks_image (said version line)) 1 0) (count_by (λ line. asks_image (said version line)) lines) first others
      here (written_in middle lines others new rest) in
      subst (AreImages (count_by (λ line. asks_image (said version line)) (line ∷ lines))) (sym whole)
      (subst (λ n. AreImages n (first ++ others)) (sym count) both)

pub written_images : (old : ScriptState) (lines : List (List ℕ)) (text : List ℕ) (new : ScriptState) (version : ℤ) → Written true old lines text new
    → AreImages (count_by (λ line. asks_image (said version line)) lines) text
written_images old lines text new version written = written_in version old lines text new written
