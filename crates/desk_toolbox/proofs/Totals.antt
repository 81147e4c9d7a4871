-- Windows counted by their serials, by whether their definitions heard that the go-away box is tracked, and by their class.
use Rattle.std.proofs.Common.{◌≡◌, ℕ, ◌+◌, ◌≤◌, ◌==◌, ◌&&◌, Bool, true, false, not, if◌then◌else◌, List, [], ◌∷◌, map, Option, None, Some, refl, sym, ap, ◌∙◌, subst, arith, zero, suc}
use Rattle.std.proofs.lemmas.Bool.{eqb-true}
use Rattle.std.proofs.lemmas.Bool.Decides.{nat_tests}
use Rattle.std.specs.Prelude.{is_none}
use Rattle.std.specs.Option.{option_map}
use Rattle.desk_layers.specs.Desk as layers
use Rattle.desk_call.specs.declared.window.SendBehind.{SendBehind}
use Rattle.window_list.specs.Classes.{back_place, front_place}
use Rattle.std.specs.List.{insert}
use Rattle.vis_update.specs.Records.{WindowRecord, Look, layered_window, is_floating}
use Rattle.window_mgr.specs.declared.arrange.Activation.{Activation}
use Rattle.window_mgr.specs.declared.arrange.Activation.TheVariants.{Stays, Becomes}
use Rattle.window_mgr.specs.Arrange.{with_highlighting, activated, without, put_behind, put_next, in_front, behind_this, brought, sent, changed}
use Rattle.window_mgr.specs.Finding.{record_with, front_of, is_leading}
use Rattle.window_mgr.specs.FullDesk.{HaveSerials}
use Rattle.window_mgr.specs.Refused.{is_missing}
use Rattle.window_mgr.proofs.DimLemmas.{either}

-- how much a window counts, of this serial, whose definition heard this, and which floats or does not
abbrev pub Weight : Type 0
Weight = ℕ → Bool → Bool → ℕ

abbrev pub weight_of : Weight → WindowRecord → ℕ
weight_of g w = g w.serial w.heard.tracked w.floating

abbrev pub total : Weight → List WindowRecord → ℕ
total g [] = 0
total g (w ∷ ws) = weight_of g w + total g ws

-- one window, if it is there
abbrev pub alone : Option WindowRecord → List WindowRecord
alone None = []
alone (Some w) = w ∷ []

-- ---- what leaves the total as it is

module _ (g : Weight) where
  pub total_map : (f : WindowRecord → WindowRecord) → ((w : WindowRecord) → weight_of g (f w) ≡ weight_of g w) → (ws : List WindowRecord) → total g (map f ws) ≡ total g ws
  total_map f same [] = refl
  total_map f same (w ∷ ws) = λ i. same w i + total_map f same ws i

  pub total_changed : (s : ℕ) (f : WindowRecord → WindowRecord) → ((w : WindowRecord) → w.serial ≡ s → weight_of g (f w) ≡ weight_of g w) → (ws : List WindowRecord) → total g (changed s f ws) ≡ total g ws
  total_changed s f same [] = refl
  total_changed s f same (w ∷ ws) = by_this (w.serial == s) refl (total_changed s f same ws)
    where
      by_this : (b : Bool) → (w.serial == s) ≡ b → total g (changed s f ws) ≡ total g ws → total g (if b then f w ∷ ws else w ∷ changed s f ws) ≡ weight_of g w + total g ws
      by_this true e rest = λ i. same w (eqb-true w.serial s e) i + total g ws
      by_this false e rest = λ i. weight_of g w + rest i

  pub total_without : (s : ℕ) (ws : List WindowRecord) → total g ws ≡ total g (alone (record_with s ws)) + total g (without s ws)
  total_without s [] = refl
  total_without s (w ∷ ws) = by_this (w.serial == s) (total_without s ws)
    where
      by_this : (b : Bool) → total g ws ≡ total g (alone (record_with s ws)) + total g (without s ws) → weight_of g w + total g ws ≡ total g (alone (if b then Some w else record_with s ws)) + total g (if b then ws else w ∷ without s ws)
      by_this true rest = omega arith
      by_this false rest = omega arith

  pub total_insert : (k : ℕ) (w : WindowRecord) (ws : List WindowRecord) → total g (insert ws k w) ≡ weight_of g w + total g ws
  total_insert zero w ws = refl
  total_insert (suc k) w [] = refl
  total_insert (suc k) w (v ∷ vs) = let rest = total_insert k w vs in omega arith

  total_in_front : (o : Option WindowRecord) (ws : List WindowRecord) → total g (in_front o ws) ≡ total g (alone o) + total g ws
  total_in_front None ws = omega arith
  total_in_front (Some w) ws = let all = total_insert (front_place is_floating (is_floating w) ws) w ws in omega arith

  pub total_brought : (s : ℕ) (ws : List WindowRecord) → total g (brought s ws) ≡ total g ws
  total_brought s ws = total_in_front (record_with s ws) (without s ws) ∙ sym (total_without s ws)

  total_next : (x : ℕ) (w : WindowRecord) (ws : List WindowRecord) → total g (put_next x w ws) ≡ weight_of g w + total g ws
  total_next x w [] = refl
  total_next x w (v ∷ vs) = by_this (v.serial == x) (total_next x w vs)
    where
      by_this : (b : Bool) → total g (put_next x w vs) ≡ weight_of g w + total g vs → total g (if b then v ∷ w ∷ vs else v ∷ put_next x w vs) ≡ weight_of g w + (weight_of g v + total g vs)
      by_this true rest = omega arith
      by_this false rest = omega arith

  total_put : (x : Option ℕ) (w : WindowRecord) (ws : List WindowRecord) → total g (put_behind x w ws) ≡ weight_of g w + total g ws
  total_put None w ws = total_insert (back_place is_floating (is_floating w) ws) w ws
  total_put (Some x) w ws = total_next x w ws

  total_behind : (x : Option ℕ) (o : Option WindowRecord) (ws : List WindowRecord) → total g (behind_this x o ws) ≡ total g (alone o) + total g ws
  total_behind x None ws = omega arith
  total_behind x (Some w) ws = total_put x w ws ∙ omega arith

  pub total_sent : (b : SendBehind) (ws : List WindowRecord) → total g (sent b ws) ≡ total g ws
  total_sent b ws = total_behind b.behind (record_with b.window ws) (without b.window ws) ∙ sym (total_without b.window ws)

  pub total_lit : (on : Bool) (s : Option ℕ) (w : WindowRecord) → weight_of g (with_highlighting on s w) ≡ weight_of g w
  total_lit on s w = either on s (λ v. weight_of g v ≡ weight_of g w) w refl refl

  pub total_activated : (a : Activation) (former : Option ℕ) (ws : List WindowRecord) → total g (activated a former ws) ≡ total g ws
  total_activated Stays former ws = refl
  total_activated (Becomes s) former ws =
      total_map (λ w. with_highlighting true s (with_highlighting false former w)) (λ w. total_lit true s (with_highlighting false former w) ∙ total_lit false former w) ws

-- ---- how many windows have this serial

-- how much a window counts by its class
abbrev pub Classing : Type 0
Classing = Bool → ℕ

abbrev pub either_class : Classing
either_class floating = 1

-- one of a class, which floats or does not
abbrev pub of_class : Bool → Classing
of_class true floating = if floating then 1 else 0
of_class false floating = if floating then 0 else 1

-- a window of this serial
abbrev pub counting : Classing → ℕ → Weight
counting c s n tracked floating = if n == s then c floating else 0

abbrev pub counted : Classing → ℕ → List WindowRecord → ℕ
counted c s ws = total (counting c s) ws

abbrev pub copies : ℕ → List WindowRecord → ℕ
copies s ws = counted either_class s ws

pub found_counts : (s : ℕ) (ws : List WindowRecord) → is_missing s ws ≡ false → 1 ≤ copies s ws
found_counts s [] h = absurd (cc)
found_counts s (w ∷ ws) h = by_this (w.serial == s) h (found_counts s ws)
  where
    by_this : (b : Bool) → is_none (if b then Some w else record_with s ws) ≡ false → (is_missing s ws ≡ false → 1 ≤ copies s ws) → 1 ≤ (if b then 1 else 0) + copies s ws
    by_this true h rest = omega arith
    by_this false h rest = let more = rest h in omega arith

pub missing_counts : (s : ℕ) (ws : List WindowRecord) → is_missing s ws ≡ true → copies s ws ≡ 0
missing_counts s [] h = refl
missing_counts s (w ∷ ws) h = by_this (w.serial == s) h (missing_counts s ws)
  where
    by_this : (b : Bool) → is_none (if b then Some w else record_with s ws) ≡ true → (is_missing s ws ≡ true → copies s ws ≡ 0) → (if b then 1 else 0) + copies s ws ≡ 0
    by_this true h rest = absurd (cc)
    by_this false h rest = let none = rest h in omega arith

pub counted_is_found : (s : ℕ) (ws : List WindowRecord) → 1 ≤ copies s ws → is_missing s ws ≡ false
counted_is_found s [] h = absurd (omega arith)
counted_is_found s (w ∷ ws) h = by_this (w.serial == s) h (counted_is_found s ws)
  where
    by_this : (b : Bool) → 1 ≤ (if b then 1 else 0) + copies s ws → (1 ≤ copies s ws → is_missing s ws ≡ false) → is_none (if b then Some w else record_with s ws) ≡ false
    by_this true h rest = refl
    by_this false h rest = rest (omega arith)

-- a visible ordinary window does not float
pub leading_is_ordinary : (w : WindowRecord) → is_leading w ≡ true → w.floating ≡ false
leading_is_ordinary w leads = by_both w.shown w.floating leads
  where
    by_both : (a b : Bool) → (a && not b) ≡ true → b ≡ false
    by_both true true e = absurd (cc)
    by_both true false e = refl
    by_both false b e = absurd (cc)

-- the window that is meant, if one is, is one of these, of that class
abbrev pub Has : Classing → Option ℕ → List WindowRecord → Type 0
Has c None ws = Unit {0}
Has c (Some s) ws = 1 ≤ counted c s ws

abbrev pub Present : Option ℕ → List WindowRecord → Type 0
Present o ws = Has either_class o ws

abbrev pub Ordinary : Option ℕ → List WindowRecord → Type 0
Ordinary o ws = Has (of_class false) o ws

-- there are as many of each serial
pub has_when : (c : Classing) (o : Option ℕ) (ws vs : List WindowRecord) → ((s : ℕ) → counted c s ws ≤ counted c s vs) → Has c o ws → Has c o vs
has_when c None ws vs more h = tt
has_when c (Some s) ws vs more h = let m = more s in omega arith

-- a window that is there is so, of its class
pub found_of_class : (s : ℕ) (ws : List WindowRecord) (v : WindowRecord) → record_with s ws ≡ Some v → 1 ≤ counted (of_class v.floating) s ws
found_of_class s [] v found = absurd (cc)
found_of_class s (w ∷ ws) v found = by_this (w.serial == s) found (found_of_class s ws v)
  where
    its_own : (b : Bool) → of_class b b ≡ 1
    its_own true = refl
    its_own false = refl

    by_this : (b : Bool) → (if b then Some w else record_with s ws) ≡ Some v → (record_with s ws ≡ Some v → 1 ≤ counted (of_class v.floating) s ws) → 1 ≤ (if b then of_class v.floating w.floating else 0) + counted (of_class v.floating) s ws
    by_this true found rest =
        let its : w ≡ v = cc in
        let same : of_class v.floating w.floating ≡ 1 = ap (λ (x : WindowRecord). of_class v.floating x.floating) its ∙ its_own v.floating in
        omega arith
    by_this false found rest = let more = rest found in omega arith

-- those of one class are no more than all
class_in_all : (b : Bool) (s : ℕ) (ws : List WindowRecord) → counted (of_class b) s ws ≤ copies s ws
class_in_all b s [] = omega arith
class_in_all b s (w ∷ ws) = by_this (w.serial == s) (class_in_all b s ws)
  where
    at_most_one : (a c : Bool) → of_class a c ≤ 1
    at_most_one true true = omega arith
    at_most_one true false = omega arith
    at_most_one false true = omega arith
    at_most_one false false = omega arith

    by_this : (d : Bool) → counted (of_class b) s ws ≤ copies s ws → (if d then of_class b w.floating else 0) + counted (of_class b) s ws ≤ (if d then 1 else 0) + copies s ws
    by_this true rest = let first = at_most_one b w.floating in omega arith
    by_this false rest = omega arith

-- an ordinary window is there
pub ordinary_is_present : (o : Option ℕ) (ws : List WindowRecord) → Ordinary o ws → Present o ws
ordinary_is_present None ws h = tt
ordinary_is_present (Some s) ws h = let all = class_in_all false s ws in omega arith

-- the only window of a serial is of the class that is counted
pub counted_of_class : (b : Bool) (s : ℕ) (ws : List WindowRecord) → copies s ws ≤ 1 → 1 ≤ counted (of_class b) s ws → option_map is_floating (record_with s ws) ≡ Some b
counted_of_class b s [] one some = absurd (omega arith)
counted_of_class b s (w ∷ ws) one some = by_this (w.serial == s) one some (counted_of_class b s ws)
  where
    its_class : (a c : Bool) → 1 ≤ of_class a c → c ≡ a
    its_class true true some = refl
    its_class true false some = absurd (omega arith)
    its_class false true some = absurd (omega arith)
    its_class false false some = refl

    by_this : (d : Bool) → (if d then 1 else 0) + copies s ws ≤ 1 → 1 ≤ (if d then of_class b w.floating else 0) + counted (of_class b) s ws
        → (copies s ws ≤ 1 → 1 ≤ counted (of_class b) s ws → option_map is_floating (record_with s ws) ≡ Some b) → option_map is_floating (if d then Some w else record_with s ws) ≡ Some b
    by_this true one some rest =
        let others = class_in_all b s ws in
        ap Some (its_class b w.floating (omega arith))
    by_this false one some rest = rest (omega arith) (omega arith)

pub front_is_ordinary : (ws : List WindowRecord) → Ordinary (front_of ws) ws
front_is_ordinary [] = tt
front_is_ordinary (w ∷ ws) = by_leading (is_leading w) refl (front_is_ordinary ws)
  where
    behind : (o : Option ℕ) → Ordinary o ws → Ordinary o (w ∷ ws)
    behind None h = tt
    behind (Some s) h = omega arith

    itself : is_leading w ≡ true → 1 ≤ counted (of_class false) w.serial (w ∷ ws)
    itself leads =
        let same : (w.serial == w.serial) ≡ true = grind (arith, nat_tests) in
        let its : of_class false w.floating ≡ 1 = ap (of_class false) (leading_is_ordinary w leads) in
        let one : weight_of (counting (of_class false) w.serial) w ≡ 1 = ap (λ (b : Bool). if b then of_class false w.floating else 0) same ∙ its in
        omega (arith, one)

    by_leading : (b : Bool) → is_leading w ≡ b → Ordinary (front_of ws) ws → Ordinary (if b then Some w.serial else front_of ws) (w ∷ ws)
    by_leading true e rest = itself e
    by_leading false e rest = behind (front_of ws) rest

-- a serial that no window has
free_counts : (look : Look) (s : ℕ) (ws : List WindowRecord) → layers.window_of s (map (layered_window look) ws) ≡ None → copies s ws ≡ 0
free_counts look s [] h = refl
free_counts look s (w ∷ ws) h = by_this (w.serial == s) h (free_counts look s ws)
  where
    by_this : (b : Bool) → (if b then Some (layered_window look w) else layers.window_of s (map (layered_window look) ws)) ≡ None → (layers.window_of s (map (layered_window look) ws) ≡ None → copies s ws ≡ 0) → (if b then 1 else 0) + copies s ws ≡ 0
    by_this true h rest = absurd (cc)
    by_this false h rest = let none = rest h in omega arith

-- the windows of a desk have each another serial
pub distinct_counts : (look : Look) (s : ℕ) (ws : List WindowRecord) → layers.AreWindows (map (layered_window look) ws) → copies s ws ≤ 1
distinct_counts look s [] h = omega arith
distinct_counts look s (w ∷ ws) h = by_this (w.serial == s) refl (distinct_counts look s ws h.1.1)
  where
    by_this : (b : Bool) → (w.serial == s) ≡ b → copies s ws ≤ 1 → (if b then 1 else 0) + copies s ws ≤ 1
    by_this true same rest =
        let none : copies s ws ≡ 0 = subst (λ n. copies n ws ≡ 0) (eqb-true w.serial s same) (free_counts look w.serial ws h.0) in
        omega arith
    by_this false same rest = omega arith

-- what holds of all serials
pub serial_of_counted : (P : ℕ → Type 0) (s : ℕ) (ws : List WindowRecord) → HaveSerials P ws → 1 ≤ copies s ws → P s
serial_of_counted P s [] h some = absurd (omega arith)
serial_of_counted P s (w ∷ ws) h some = by_this (w.serial == s) refl some (serial_of_counted P s ws h.1)
  where
    by_this : (b : Bool) → (w.serial == s) ≡ b → 1 ≤ (if b then 1 else 0) + copies s ws → (1 ≤ copies s ws → P s) → P s
    by_this true same some rest = subst P (eqb-true w.serial s same) h.0
    by_this false same some rest = rest (omega arith)
