-- Settings and highlightings that a control may have, and what calls make of them.
use Rattle.std.proofs.Common.{◌≡◌, ℕ, ℤ, pos, negsuc, SFits, w16, Bool, true, false, ◌&&◌, cond, Option, None, Some, refl, arith}
use Rattle.std.specs.Prelude.{int_le, is_some, ◌≤ℤ◌}
use Rattle.std.proofs.lemmas.Bool.{and_parts}
use Rattle.std.proofs.lemmas.Int.{ints}
use Rattle.tb_geom.specs.declared.point.Point.{Point}
use Rattle.control_values.specs.declared.part.ControlPart.{ControlPart}
use Rattle.control_values.specs.declared.part.ControlPart.TheVariants.{Button, CheckBox, UpButton, DownButton, PageUp, PageDown, Thumb}
use Rattle.control_values.specs.Highlights.{is_highlight}
use Rattle.control_values.specs.Parts.{number_of}
use Rattle.control_values.specs.Settings.{Setting, IsSettled, is_in_range, settled}
use Rattle.control_values.proofs.SettingLemmas.{settled_lies_within}
use Rattle.desk_call.specs.declared.activity.TrackedControl.{TrackedControl}
use Rattle.control_mgr.specs.declared.setting.State.{State}
use Rattle.control_mgr.specs.ControlDesks.{ControlRecord}
use Rattle.control_mgr.specs.ControlRefusals.{is_setting}
use Rattle.control_mgr.specs.ControlSteps.{dragged, highlight_after, highlight_of, is_thumb, released_setting}
use Rattle.control_mgr.specs.Settled.{MayHaveSetting}

-- a control may have this state
pub record MayHave (s : State) : Type 0 where
  pub setting : MayHaveSetting s.values
  pub highlight : is_highlight (pos s.highlight) ≡ true

-- ---- settings

ordered : (s : Setting) → IsSettled s → s.minimum ≤ℤ s.maximum
ordered s i = let a = i.above in let b = i.below in omega (arith, ints)

le_is : (a b : ℤ) → int_le a b ≡ true → a ≤ℤ b
le_is a b e = grind (arith, ints)

-- a number of 16 bits lies in the range
pub word_in_range : (z : ℤ) → SFits w16 z → is_in_range z ≡ true
unfolding is_in_range
word_in_range (pos n) fits = grind (arith, ints, fits)
word_in_range (negsuc n) fits = grind (arith, ints, fits)

pub between : (low high z : ℤ) → is_in_range low ≡ true → is_in_range high ≡ true → low ≤ℤ high → MayHaveSetting (settled low high z)
between low high z least most le = record { within = settled_lies_within low high z le; lowest = least; highest = most }

-- what a new control is given where nothing refuses it
pub setting_given : (low high z : ℤ) → is_setting low high z ≡ true → MayHaveSetting (settled low high z)
setting_given low high z e =
    let first = and_parts (is_in_range low) (is_in_range high && (is_in_range z && int_le low high)) e in
    let second = and_parts (is_in_range high) (is_in_range z && int_le low high) first.1 in
    let third = and_parts (is_in_range z) (int_le low high) second.1 in
    between low high z first.0 second.0 (le_is low high third.1)

-- another value, minimum or maximum
pub value_given : (s : Setting) (z : ℤ) → MayHaveSetting s → MayHaveSetting (settled s.minimum s.maximum z)
value_given s z may = between s.minimum s.maximum z may.lowest may.highest (ordered s may.within)

pub minimum_given : (s : Setting) (z : ℤ) → MayHaveSetting s → (is_in_range z && int_le z s.maximum) ≡ true → MayHaveSetting (settled z s.maximum s.value)
minimum_given s z may e = let parts = and_parts (is_in_range z) (int_le z s.maximum) e in between z s.maximum s.value parts.0 may.highest (le_is z s.maximum parts.1)

pub maximum_given : (s : Setting) (z : ℤ) → MayHaveSetting s → (is_in_range z && int_le s.minimum z) ≡ true → MayHaveSetting (settled s.minimum z s.value)
maximum_given s z may e = let parts = and_parts (is_in_range z) (int_le s.minimum z) e in between s.minimum z s.value may.lowest parts.0 (le_is s.minimum z parts.1)

-- what the end of a tracked thumb sets
pub released_given : (k : TrackedControl) (p : Point) (answer : Option ControlPart) (c : ControlRecord) → MayHaveSetting c.kept.values → MayHaveSetting (released_setting k p answer c)
released_given k p answer c may = by_test (is_thumb k.part && is_some answer)
  where
    by_test : (b : Bool) → MayHaveSetting (cond b (dragged k p c) c.kept.values)
    by_test true = value_given c.kept.values _ may
    by_test false = may

-- ---- highlightings

pub part_shows : (part : ControlPart) → is_highlight (pos (number_of part)) ≡ true
part_shows Button = refl
part_shows CheckBox = refl
part_shows UpButton = refl
part_shows DownButton = refl
part_shows PageUp = refl
part_shows PageDown = refl
part_shows Thumb = refl

pub found_shows : (part : Option ControlPart) → is_highlight (pos (highlight_of part)) ≡ true
found_shows None = refl
found_shows (Some part) = part_shows part

pub after_shows : (part : ControlPart) (highlight : ℕ) → is_highlight (pos highlight) ≡ true → is_highlight (pos (highlight_after part highlight)) ≡ true
after_shows part highlight e = by_test (is_thumb part)
  where
    by_test : (b : Bool) → is_highlight (pos (cond b highlight 0)) ≡ true
    by_test true = e
    by_test false = refl
