-- A part of a walk from column to column, and beside the lines of others.
use Rattle.std.proofs.Common.{◌≡◌, ℕ, ◌+◌, ◌<◌, ◌≤◌, Bool, true, false, List, ℤ, ◌<ℤ◌, ◌≤ℤ◌, refl, sym, ◌∙◌, arith}
use Rattle.std.proofs.lemmas.Int.{ints}
use Rattle.std.proofs.lemmas.Bool.{false≢true}
use Rattle.tb_geom.specs.Points.{PixelSet}
use Rattle.region_rows.specs.Bits.{has_bit}
use Rattle.region_rows.specs.Edges.{differ}
use Rattle.region_rows.specs.Lines.{IsLine, IsLineTurn}
use Rattle.region_rows.specs.Layers.{IsLayer}
use Rattle.region_rows.specs.Counts.{count_to}
use Rattle.scan_region.specs.Parts.{IsPart, IsFit, IsSteady, part_counts}
use Rattle.region_rows.specs.declared.layers.Layer.{Layer}
use Rattle.scan_region.specs.declared.part.Part.{Part}
use Rattle.scan_region.specs.declared.part.Part.TheVariants.{Open, Lined, Tested}
use Rattle.region_rows.proofs.LineTurns.{line_apart}

-- where a part turns first
pub record Turns (words : List ℕ) (part : Part) (v at limit to : ℤ) : Type 0 where
  pub on : at <ℤ to
  pub up : to ≤ℤ limit
  pub steady : IsSteady words part v at to
  pub turned : to <ℤ limit → part_counts part ≡ true → (s : PixelSet) → IsPart words part s v at → s (record { h = to; v = v }) ≡ false

-- ---- where a layer turns

pub layer_steady : (words : List ℕ) (l : Layer) (s : PixelSet) (v at limit to : ℤ) → at <ℤ limit → limit ≤ℤ l.line.right → ((f : ℤ → Bool) → IsLine words l.line f → IsLineTurn f at limit to) → IsLayer words l s v at
    → (x : ℤ) → at ≤ℤ x → x <ℤ to → s (record { h = x; v = v }) ≡ s (record { h = at; v = v })
layer_steady words l s v at limit to order right turn r x a b =
    let room : at <ℤ l.line.right = omega (arith, ints) in
    sym (r.row room x) ∙ (turn r.f r.to.line).steady x a b ∙ r.row room at

out_from : (a b : Bool) → b ≡ true → differ a b ≡ true → a ≡ false
out_from true true e f = sym f ∙ refl
out_from true false e f = absurd (false≢true e)
out_from false b e f = refl

pub layer_turned : (words : List ℕ) (l : Layer) (s : PixelSet) (v at limit to : ℤ) → at <ℤ limit → limit ≤ℤ l.line.right → ((f : ℤ → Bool) → IsLine words l.line f → IsLineTurn f at limit to) → IsLayer words l s v at
    → to <ℤ limit → l.counts ≡ true → s (record { h = to; v = v }) ≡ false
layer_turned words l s v at limit to order right turn r m counts =
    let room : at <ℤ l.line.right = omega (arith, ints) in
    sym (r.row room to) ∙ out_from (r.f to) (r.f at) (sym (r.counts room) ∙ counts) ((turn r.f r.to.line).turned m)

-- ---- the pixel at hand

-- left of the end of its row a part counts the pixel at hand as the set does
pub counted : (words : List ℕ) (part : Part) (left right : ℤ) (low high : ℕ) (s : PixelSet) (v at : ℤ) → IsFit left right low high part → at <ℤ right → IsPart words part s v at → s (record { h = at; v = v }) ≡ part_counts part
counted words Open left right low high s v at fit room r = r (record { h = at; v = v })
counted words (Lined l) left right low high s v at fit room r =
    let end = fit.1 in
    let here : at <ℤ l.line.right = omega (arith, ints) in
    sym (r.row here at) ∙ sym (r.counts here)
counted words (Tested t) left right low high s v at fit room r =
    let end = fit.0 in
    sym (r.counts (omega (arith, ints)))

-- past it the part counts nothing
pub ended : (words : List ℕ) (part : Part) (left right : ℤ) (low high : ℕ) (s : PixelSet) (v at to : ℤ) → IsFit left right low high part → right ≤ℤ to → IsPart words part s v at → IsPart words part s v to
ended words Open left right low high s v at to fit m r = r
ended words (Lined l) left right low high s v at to fit m r =
    let end = fit.1 in
    record { f = r.f; to = record { line = r.to.line; rest = r.to.rest }; row = λ k. absurd (omega (arith, ints)); counts = λ k. absurd (omega (arith, ints)) }
ended words (Tested t) left right low high s v at to fit m r =
    let end = fit.0 in
    record { set = r.set; counts = λ k. absurd (omega (arith, ints)) }

-- ---- beside others

within : (l : Layer) (left right : ℤ) (high k : ℕ) → l.line.left ≡ left → l.line.right ≡ right → l.line.base + count_to left right ≤ high → k < l.line.base + count_to l.line.left l.line.right → k < high
within l left right high k el er to b =
    let e : count_to l.line.left l.line.right ≡ count_to left right = λ i. count_to (el i) (er i) in
    omega (arith, e)

-- a part reads no other bits than its own
pub part_apart : (words after : List ℕ) (part : Part) (left right : ℤ) (low high : ℕ) (s : PixelSet) (v at : ℤ) → IsFit left right low high part → ((k : ℕ) → low ≤ k → k < high → has_bit after k ≡ has_bit words k) → IsPart words part s v at → IsPart after part s v at
part_apart words after Open left right low high s v at fit same r = r
part_apart words after (Lined l) left right low high s v at fit same r =
    let el = fit.0 in
    let er = fit.1 in
    let from = fit.2 in
    let to = fit.3 in
    record {
      f = r.f;
      to = record { line = line_apart words after l.line r.f (λ k a b. same k (omega arith) (within l left right high k el er to b)) r.to.line; rest = r.to.rest };
      row = r.row;
      counts = r.counts;
    }
part_apart words after (Tested t) left right low high s v at fit same r = record { set = r.set; counts = r.counts }
