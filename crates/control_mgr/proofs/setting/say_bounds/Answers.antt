use Rattle.std.proofs.Common.{rules, SFits, w16, ◌≡◌, true, subst}
use Rattle.control_values.specs.Settings.{is_in_range}
use Rattle.control_mgr.proofs.Sound.{word_in_range}
use Rattle.control_mgr.proofs.setting.say_bounds.Goals as goal

pub returns-clause-setting : goal.returns-clause-setting
returns-clause-setting c =
    let minimum : SFits w16 c.minimum-minimum.result = search rules in
    let maximum : SFits w16 c.maximum-maximum.result = search rules in
    record {
      within = c.value-value.ensures.within;
      lowest = subst (λ z. is_in_range z ≡ true) c.minimum-minimum.ensures (word_in_range c.minimum-minimum.result minimum);
      highest = subst (λ z. is_in_range z ≡ true) c.maximum-maximum.ensures (word_in_range c.maximum-maximum.result maximum);
    }
