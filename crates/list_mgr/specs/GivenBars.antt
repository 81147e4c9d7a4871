-- That the scroll bars of a list have serials which controls were given.
use Rattle.std.specs.Prelude.{◌≡◌, ℕ, ◌≤◌, true, List, All, Option, IfSome}
use Rattle.window_items.specs.Items.{is_before}
use Rattle.list_mgr.specs.ListDesks.{KeptList}

-- serials are given from 1 on: the next one, if one is left, is 1 at least
abbrev pub IsFromOne : Option ℕ → Type 0
IsFromOne next = IfSome next (λ n. 1 ≤ n)

-- the serial of a scroll bar, where a list was made with it, was given: it is 1 at least, and comes before the next control's
abbrev pub IsBarGiven : Option ℕ → Option ℕ → Type 0
IsBarGiven next bar = IfSome bar (λ n. (1 ≤ n) × (is_before next n ≡ true))

-- a list with two scroll bars has two serials for them
abbrev pub AreBarsApart : Option ℕ → Option ℕ → Type 0
AreBarsApart vertical horizontal = IfSome vertical (λ v. IfSome horizontal (λ h. v ≡ h → ⊥))

-- the scroll bars that the list was made with have serials that controls were given, and two of them have two, also once such a
-- bar was disposed of by itself; the next control gets the serial `next`, if one is left
pub record HasGivenBars (next : Option ℕ) (l : KeptList) : Type 0 where
  pub vertical : IsBarGiven next l.kept.vertical
  pub horizontal : IsBarGiven next l.kept.horizontal
  pub apart : AreBarsApart l.kept.vertical l.kept.horizontal

-- so have those of each of these lists
abbrev pub AreBarsGiven : Option ℕ → List KeptList → Type 0
AreBarsGiven next ls = IsFromOne next × All (HasGivenBars next) ls
