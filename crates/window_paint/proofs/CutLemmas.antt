-- Drawing on a region, where it meets another, or where it is less another.
use Rattle.std.proofs.Common.{◌≡◌, Bool, true, false, not, ◌&&◌, if◌then◌else◌, [], ◌∷◌, Some, None, refl, ap, ◌∙◌}
use Rattle.std.proofs.lemmas.Bool.{false≢true}
use Rattle.std.specs.Borrow.{Bor}
use Rattle.tb_geom.specs.declared.point.Point.{Point}
use Rattle.tb_geom.specs.declared.rect.Rect.{Rect}
use Rattle.tb_geom.specs.Points.{PixelSet}
use Rattle.tb_geom.specs.Rects.{rect_holds}
use Rattle.tb_geom.specs.Pixels.{Pixels, holds}
use Rattle.bit_map.specs.Bits.{Bits}
use Rattle.bit_blit.specs.Draws.{Draws, IsWritten}
use Rattle.bit_blit.proofs.WrittenLemmas.{written_in}
use Rattle.bit_blit.proofs.DrawsLemmas.{Draws-same, Draws-where, Draws-value}
use Rattle.scan_region.specs.Cuts.{cut_inside, cut_meeting, cut_holds}
use Rattle.scan_region.specs.declared.cut.Cut.{Cut}

-- a cut of one region
pub cut_holds-one : (r : Bor Pixels) (p : Point) → cut_holds (cut_inside r) p ≡ holds r.now p
unfolding cut_holds
cut_holds-one r p = by_test (holds r.now p)
  where
    by_test : (b : Bool) → ((b && (true && (true && true))) && not false) ≡ b
    by_test true = refl
    by_test false = refl

-- a cut of one region, less another
pub cut_holds-less : (r s : Bor Pixels) (p : Point) → cut_holds (record { inside = Some r ∷ None ∷ None ∷ []; outside = Some s }) p ≡ (holds r.now p && not (holds s.now p))
unfolding cut_holds
cut_holds-less r s p = by_test (holds r.now p) (not (holds s.now p))
  where
    by_test : (b n : Bool) → ((b && (true && (true && true))) && n) ≡ (b && n)
    by_test true n = refl
    by_test false n = refl

-- a cut of two regions
pub cut_holds-both : (r s : Bor Pixels) (p : Point) → cut_holds (cut_meeting r s) p ≡ (holds r.now p && holds s.now p)
unfolding cut_holds
cut_holds-both r s p = by_test (holds r.now p) (holds s.now p)
  where
    by_test : (b c : Bool) → ((b && (c && (true && true))) && not false) ≡ (b && c)
    by_test true true = refl
    by_test true false = refl
    by_test false c = refl

-- a cut of two regions, less another
pub cut_holds-both_less : (r s b : Bor Pixels) (p : Point) → cut_holds (record { inside = Some r ∷ Some s ∷ None ∷ []; outside = Some b }) p ≡ ((holds r.now p && holds s.now p) && not (holds b.now p))
unfolding cut_holds
cut_holds-both_less r s b p = by_test (holds r.now p) (holds s.now p) (not (holds b.now p))
  where
    by_test : (b c n : Bool) → ((b && (c && (true && true))) && n) ≡ ((b && c) && n)
    by_test true true n = refl
    by_test true false n = refl
    by_test false c n = refl

-- a clip around a set takes nothing away
pub clipped : (b clip : Bool) → (b ≡ true → clip ≡ true) → (clip && b) ≡ b
clipped b true e = refl
clipped true false e = e refl
clipped false false e = refl

-- what was drawn on a region, in a clip around it, by a value that is another's
pub painted_within : (cut : Cut) (shown : PixelSet) (clip : Rect) (f g : Point → Bool → Bool) (old new end : Bits)
    → ((p : Point) → cut_holds cut p ≡ shown p)
    → end ≡ new
    → ((p : Point) → shown p ≡ true → rect_holds clip p ≡ true)
    → ((p : Point) (value : Bool) → f p value ≡ g p value)
    → Draws (λ p. rect_holds clip p && cut_holds cut p) f old new
    → Draws shown g old end
painted_within cut shown clip f g old new end is_shown is_end within same drawn = rw is_end (
    Draws-same _ shown _ g old new (λ p value on. (λ i. if held p i then same p value i else value)) drawn)
  where
    held : (p : Point) → (rect_holds clip p && cut_holds cut p) ≡ shown p
    held p = ap (λ b. rect_holds clip p && b) (is_shown p) ∙ clipped (shown p) (rect_holds clip p) (within p)

-- a clip that has of a box around a region just these has them of the region
placed_is : (cut : Cut) (shown these : PixelSet) (clip box : Rect)
    → ((p : Point) → cut_holds cut p ≡ shown p)
    → ((p : Point) → shown p ≡ true → rect_holds box p ≡ true)
    → ((p : Point) → rect_holds clip p ≡ (rect_holds box p && these p))
    → (p : Point) → (rect_holds clip p && cut_holds cut p) ≡ (shown p && these p)
placed_is cut shown these clip box is_shown within clipped_is p = (λ i. clipped_is p i && is_shown p i) ∙ turned (rect_holds box p) (these p) (shown p) (within p)
  where
    turned : (b t s : Bool) → (s ≡ true → b ≡ true) → ((b && t) && s) ≡ (s && t)
    turned true true true e = refl
    turned true true false e = refl
    turned true false true e = refl
    turned true false false e = refl
    turned false t true e = absurd (false≢true (e refl))
    turned false t false e = refl

-- what was drawn on a region, in such a clip
pub painted_placed : (cut : Cut) (shown these : PixelSet) (clip box : Rect) (f : Point → Bool → Bool) (old new end : Bits)
    → ((p : Point) → cut_holds cut p ≡ shown p)
    → end ≡ new
    → ((p : Point) → shown p ≡ true → rect_holds box p ≡ true)
    → ((p : Point) → rect_holds clip p ≡ (rect_holds box p && these p))
    → Draws (λ p. rect_holds clip p && cut_holds cut p) f old new
    → Draws (λ p. shown p && these p) f old end
painted_placed cut shown these clip box f old new end is_shown is_end within clipped_is drawn = rw is_end (
    Draws-where _ (λ p. shown p && these p) f old new (λ p on. placed_is cut shown these clip box is_shown within clipped_is p) drawn)

-- and written
pub written_placed : (cut : Cut) (shown these : PixelSet) (clip box : Rect) (old new : Bits)
    → ((p : Point) → cut_holds cut p ≡ shown p)
    → ((p : Point) → shown p ≡ true → rect_holds box p ≡ true)
    → ((p : Point) → rect_holds clip p ≡ (rect_holds box p && these p))
    → IsWritten (λ p. rect_holds clip p && cut_holds cut p) old new
    → IsWritten (λ p. shown p && these p) old new
written_placed cut shown these clip box old new is_shown within clipped_is written =
    written_in _ (λ p. shown p && these p) old new (λ p on out. placed_is cut shown these clip box is_shown within clipped_is p ∙ out) written

-- what was drawn by a value that is another's
pub drawn_as : (shown : PixelSet) (f g : Point → Bool → Bool) (old new end : Bits)
    → end ≡ new
    → ((p : Point) (value : Bool) → f p value ≡ g p value)
    → Draws shown f old new
    → Draws shown g old end
drawn_as shown f g old new end is_end same drawn = rw is_end (Draws-value shown f g old new same drawn)

-- and what was written
pub written_as : (shown : PixelSet) (old new end : Bits) → end ≡ new → IsWritten shown old new → IsWritten shown old end
written_as shown old new end is_end written = rw is_end written

-- what was drawn on a region within a rectangle
pub inside_drawn : (cut : Cut) (r : Bor Pixels) (clip : Rect) (f : Point → Bool → Bool) (old new end : Bits)
    → cut ≡ cut_inside r
    → end ≡ new
    → Draws (λ p. rect_holds clip p && cut_holds cut p) f old new
    → Draws (λ p. rect_holds clip p && holds r.now p) f old end
inside_drawn cut r clip f old new end is_cut is_end drawn = rw is_end (
    Draws-where _ (λ p. rect_holds clip p && holds r.now p) f old new
    (λ p on. ap (λ b. rect_holds clip p && b) (ap (λ k. cut_holds k p) is_cut ∙ cut_holds-one r p)) drawn)

-- and on all of it, where it lies in the rectangle
pub all_drawn : (region : Pixels) (clip : Rect) (f : Point → Bool → Bool) (old new : Bits)
    → ((p : Point) → holds region p ≡ true → rect_holds clip p ≡ true)
    → Draws (λ p. rect_holds clip p && holds region p) f old new
    → Draws (holds region) f old new
all_drawn region clip f old new within drawn =
    Draws-where _ (holds region) f old new (λ p on. clipped (holds region p) (rect_holds clip p) (within p)) drawn

-- and what was written
pub inside_written : (cut : Cut) (r : Bor Pixels) (clip : Rect) (old new end : Bits)
    → cut ≡ cut_inside r
    → end ≡ new
    → IsWritten (λ p. rect_holds clip p && cut_holds cut p) old new
    → IsWritten (λ p. rect_holds clip p && holds r.now p) old end
inside_written cut r clip old new end is_cut is_end written = rw is_end (
    written_in (λ p. rect_holds clip p && cut_holds cut p) (λ p. rect_holds clip p && holds r.now p) old new
    (λ p on out. ap (λ b. rect_holds clip p && b) (ap (λ k. cut_holds k p) is_cut ∙ cut_holds-one r p) ∙ out) written)

-- and that was written of the region
pub region_written : (region : Pixels) (clip : Rect) (old new : Bits) → IsWritten (λ p. rect_holds clip p && holds region p) old new → IsWritten (holds region) old new
region_written region clip old new written =
    written_in _ (holds region) old new (λ p on out. ap (λ b. rect_holds clip p && b) out ∙ none (rect_holds clip p)) written
  where
    none : (b : Bool) → (b && false) ≡ false
    none true = refl
    none false = refl
