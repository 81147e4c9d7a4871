-- The frame of a region whose bytes are carried.
use Rattle.std.proofs.Common.{◌≡◌, ℕ, ◌&&◌, not, false, inl, inr, List, sym, ap, ◌∙◌}
use Rattle.std.proofs.lemmas.Bool.{and_left, and_right, cases_Bool}
use Rattle.tb_geom.specs.declared.point.Point.{Point}
use Rattle.tb_geom.specs.Pixels.{Pixels, holds}
use Rattle.tb_geom.specs.Rects.{in_plane}
use Rattle.tb_geom.proofs.PixelsLemmas.{same_holds, test_holds}
use Rattle.region_bytes.specs.Text.{pixels_of, word_pixels}
use Rattle.region_bytes.specs.Words.{words_in}
use Rattle.shape_strips.specs.Frames.{has_size}
use Rattle.region_inset.specs.Insets.{inset, region_frame}
use Rattle.lent_ops.specs.declared.form_ref.PenRef.{PenRef}
use Rattle.lent_ops.specs.Forms.{pen_of}
use Rattle.lent_ops.specs.OpRefs.{frame_pixels}

-- bytes say no pixel out of range
said_away : (bytes : List ℕ) (p : Point) → in_plane p ≡ false → holds (pixels_of bytes) p ≡ false
unfolding pixels_of
said_away bytes p out =
    test_holds (λ h v. word_pixels (words_in bytes) (record { h = h; v = v })) p
    ∙ and_left (in_plane p) (word_pixels (words_in bytes) p) out

frame_in_plane : (bytes : List ℕ) (n : PenRef) (p : Point) → (in_plane p && region_frame (holds (pixels_of bytes)) (pen_of n) p) ≡ region_frame (holds (pixels_of bytes)) (pen_of n) p
frame_in_plane bytes n p = elim (cases_Bool (in_plane p)) [
  | inl within ↦ λ i. within i && region_frame (holds (pixels_of bytes)) (pen_of n) p
  | inr out ↦
      let none = and_right (has_size (pen_of n)) _ (and_left (holds (pixels_of bytes) p) _ (said_away bytes p out)) in
      and_right (in_plane p) (region_frame (holds (pixels_of bytes)) (pen_of n) p) none ∙ sym none
]

-- a finite set that has the pixels of the frame is that of its pixels
pub frame_is : (bytes : List ℕ) (n : PenRef) (g : Pixels) → ((p : Point) → holds g p ≡ region_frame (holds (pixels_of bytes)) (pen_of n) p) → g ≡ frame_pixels bytes n
frame_is bytes n g same =
    same_holds g (frame_pixels bytes n)
    (λ p. same p ∙ sym (frame_in_plane bytes n p) ∙ sym (test_holds (λ h v. region_frame (holds (pixels_of bytes)) (pen_of n) (record { h = h; v = v })) p))
