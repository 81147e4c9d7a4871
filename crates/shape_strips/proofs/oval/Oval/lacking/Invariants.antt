use Rattle.std.proofs.Common.{◌≡◌, ℕ, ◌*◌, ◌-◌, ◌<◌, ◌≤◌, true, false}
use Rattle.shape_strips.specs.Ovals.{in_oval}
use Rattle.shape_strips.proofs.oval.Oval.lacking.Given as goal

abbrev pub invariant-loop-low : goal.invariant-loop-low
invariant-loop-low l = record {
  order : l.low ≤ l.high;
  half : 2 * l.high ≤ l.self.width;
  lacks : (i : ℕ) → i < l.low → in_oval l.self.width l.self.height (l.self.width - 1 - 2 * i) l.y ≡ false;
  held : (i : ℕ) → l.high ≤ i → in_oval l.self.width l.self.height (l.self.width - 1 - 2 * i) l.y ≡ true;
}

abbrev pub decreases-loop-low : goal.decreases-loop-low
decreases-loop-low l = l.high - l.low
