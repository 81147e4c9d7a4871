-- Controls, drawn: what a control's picture is on a canvas of its window.
use Rattle.std.proofs.Common.{◌≡◌, ℕ, ◌+◌, ◌<◌, Bool, true, false, not, cond, List, [], ◌∷◌, length, position, get_or, Some, None, refl, sym, ap, ◌∙◌, subst}
use Rattle.std.specs.Prelude.{slice_get}
use Rattle.std.specs.List.{position_or_len}
use Rattle.std.specs.Option.{option_and_then, option_map}
use Rattle.tb_geom.specs.declared.point.Point.{Point}
use Rattle.tb_geom.specs.Points.{PixelSet, minus, plus}
use Rattle.bit_map.specs.Bits.{Bits}
use Rattle.bit_blit.specs.Draws.{Draws}
use Rattle.window_items.specs.declared.item.Item.{Item}
use Rattle.control_mgr.specs.declared.control.Control.{Control}
use Rattle.window_items.specs.Items.{has_serial}
use Rattle.control_mgr.specs.Seen.{all_seen, kept_seen, seen}
use Rattle.window_items.proofs.SeenLemmas.{length-seen, slice_get-seen}
use Rattle.desk_layers.specs.declared.part.Part.{Part}
use Rattle.desk_layers.specs.declared.part.Part.TheVariants as part
use Rattle.def_iface.specs.ControlMeaning.{ControlLoan, is_fitting_control}
use Rattle.def_iface.specs.ControlNews.{no_control_news}
use Rattle.window_paint.proofs.PictureLemmas.{minus_twice}
use Rattle.control_mgr.specs.ControlDesks.{control_bit}
use Rattle.control_mgr.specs.Settled.{AreSettled, IsSettledControl}
use Rattle.control_mgr.proofs.Places.{get_is}
use Rattle.control_mgr.proofs.Reshown.{alone}
use Rattle.window_items.proofs.EditLemmas.{All-there}

module _ {B : Type 0} (meaning : B → ControlLoan) where
  -- the control that is read at a place, as it is seen
  seen_there : (xs : List (Item (Control B))) (at : ℕ) (x : Item (Control B)) → at < length xs → x ≡ get_or xs at x → slice_get (all_seen meaning xs) at ≡ Some (seen meaning x)
  seen_there xs at x low read = slice_get-seen (kept_seen meaning) xs at ∙ ap (option_map (seen meaning)) (get_is xs at x low read)

  pub settled_there : (xs : List (Item (Control B))) (at : ℕ) (x : Item (Control B)) → at < length xs → x ≡ get_or xs at x → AreSettled (all_seen meaning xs) → IsSettledControl (seen meaning x)
  settled_there xs at x low read settled = All-there IsSettledControl at (all_seen meaning xs) (seen meaning x) (seen_there xs at x low read) settled

  -- its definition was told a size that fits
  pub told_fits : (x : Item (Control B)) → IsSettledControl (seen meaning x) → is_fitting_control (meaning x.kept.definition).definition (meaning x.kept.definition).definition.size ≡ true
  told_fits x settled = ap (is_fitting_control (meaning x.kept.definition).definition) settled.told ∙ settled.fits

  -- drawn where it lies in its window, it is drawn where that lies
  pub drawn_there : (holds : PixelSet) (font : List ℕ) (xs : List (Item (Control B))) (at : ℕ) (x : Item (Control B)) (origin place : Point) (old new : Bits)
      → at < length xs → x ≡ get_or xs at x → place ≡ plus origin x.kept.place
      → Draws holds (λ p _. (meaning x.kept.definition).definition.picture no_control_news font (minus p place)) old new
      → Draws holds (λ p _. control_bit font (slice_get (all_seen meaning xs) at) (minus p origin)) old new
  drawn_there holds font xs at x origin place old new low read lies drawn =
      subst (λ (v : Point → Bool → Bool). Draws holds v old new) (λ i p _. same p i) drawn
    where
      same : (p : Point) → (meaning x.kept.definition).definition.picture no_control_news font (minus p place) ≡ control_bit font (slice_get (all_seen meaning xs) at) (minus p origin)
      same p =
          ap ((meaning x.kept.definition).definition.picture no_control_news font) (ap (minus p) lies ∙ minus_twice p origin x.kept.place)
          ∙ ap (λ o. control_bit font o (minus p origin)) (sym (seen_there xs at x low read))

  -- ---- the control of a serial

  len_seen : (n : ℕ) (xs : List (Item (Control B))) → position_or_len (has_serial n) (all_seen meaning xs) ≡ position_or_len (has_serial n) xs
  len_seen n [] = refl
  len_seen n (x ∷ xs) = ap (λ k. cond (not (has_serial n x)) (1 + k) 0) (len_seen n xs)

  position_seen : (n : ℕ) (xs : List (Item (Control B))) → position (has_serial n) (all_seen meaning xs) ≡ position (has_serial n) xs
  position_seen n xs = rw (len_seen n xs, length-seen (kept_seen meaning) xs) refl

  -- a control shows its picture
  pub found_shows : (font : List ℕ) (xs : List (Item (Control B))) (n at : ℕ) (of : Part) (p : Point) → of ≡ part.Control n → Some at ≡ position (has_serial n) xs
      → control_bit font (slice_get (all_seen meaning xs) at) p ≡ alone (all_seen meaning xs) font of p
  found_shows font xs n at of p is found =
      let cs = all_seen meaning xs in
      sym (ap (λ o. alone cs font o p) is ∙ ap (λ o. control_bit font (option_and_then (slice_get cs) o) p) (position_seen n xs ∙ sym found))

  -- one that there is not is white
  pub none_shows : (font : List ℕ) (xs : List (Item (Control B))) (n : ℕ) (of : Part) (p : Point) → of ≡ part.Control n → None ≡ position (has_serial n) xs
      → alone (all_seen meaning xs) font of p ≡ false
  none_shows font xs n of p is found =
      let cs = all_seen meaning xs in
      ap (λ o. alone cs font o p) is ∙ ap (λ o. control_bit font (option_and_then (slice_get cs) o) p) (position_seen n xs ∙ sym found)

  -- so is what is no control
  pub others_show : (font : List ℕ) (xs : List (Item (Control B))) (of : Part) (p : Point) → ((n : ℕ) → of ≡ part.Control n → ⊥) → alone (all_seen meaning xs) font of p ≡ false
  others_show font xs part.Picture p none = refl
  others_show font xs (part.List n) p none = refl
  others_show font xs (part.Text n) p none = refl
  others_show font xs (part.Control n) p none = absurd (none n refl)
