-- Painting a window.
use Rattle.std.proofs.Common.{◌≡◌, ℕ, ◌+◌, ◌<◌, min, Bool, if◌then◌else◌, List, [], ◌∷◌, ◌++◌, length, get_or, take, map, Option, refl, sym, subst, ap, ◌∙◌, arith}
use Rattle.std.specs.Prelude.{All}
use Rattle.std.proofs.Math.Seq.{take-length}
use Rattle.std.proofs.lemmas.List.{take_more, length-map, get_or-map, length-take, map-append}
use Rattle.bit_map.proofs.BitsLemmas.{on_map-same}
use Rattle.tb_geom.specs.declared.point.Point.{Point}
use Rattle.tb_geom.specs.Points.{minus}
use Rattle.tb_geom.specs.Pixels.{holds}
use Rattle.bit_map.specs.declared.mode.Mode.TheVariants.{Copy}
use Rattle.bit_map.specs.Bits.{Bits, bit}
use Rattle.bit_map.specs.Modes.{mode_bit}
use Rattle.bit_map.specs.Patterns.{pattern_bit}
use Rattle.bit_blit.specs.Draws.{DrawsOnce}
use Rattle.bit_blit.proofs.OnceLemmas.{Once-on_map}
use Rattle.def_iface.specs.Slots.{TakenBox}
use Rattle.def_iface.specs.WindowMeaning.{WindowLoan}
use Rattle.vis_update.specs.declared.plan.Repaint.{Repaint}
use Rattle.vis_update.specs.declared.plan.Plan.{Plan}
use Rattle.window_list.specs.declared.window.Window.{Window}
use Rattle.vis_update.specs.Records.{WindowRecord}
use Rattle.desk_ground.specs.Screens.{desktop}
use Rattle.vis_update.specs.Records.{record_of}
use Rattle.window_mgr.specs.Commits.{ArePainted, IsPlanDrawn, erased, painted_part, painted_parts, redrawn}
use Rattle.window_mgr.proofs.WriteLemmas.{plan_written}
use Rattle.window_paint.specs.Writes.{IsWrittenBy, arrives, nowhere}
use Rattle.window_mgr.specs.Whole.{IsSettled}
use Rattle.window_paint.specs.Frames.{IsPlaced, IsPainted}
use Rattle.window_paint.specs.Moves.{IsMoved}
use Rattle.tb_geom.proofs.PointLemmas.{origin, minus-origin}

-- a settled window can be drawn
pub settled_placed : (w : WindowRecord) → IsSettled w → IsPlaced w.place w.size w.definition
settled_placed w its = record { placed = its.placed; live = its.live; told = its.told; fits = its.fits; inside = its.inside }

-- ---- the parts of windows

module _ {V : Type 0} {H : V → Type 0} (loan : TakenBox V H → WindowLoan) where
  -- a window of settled ones is settled
  pub settled_in : (ws : List (Window V H)) (i : ℕ) (x : Window V H) → i < length ws → x ≡ get_or ws i x → All IsSettled (map (record_of loan) ws) → IsSettled (record_of loan x)
  settled_in ws i x low read settled =
      let long : length (map (record_of loan) ws) ≡ length ws = length-map ws (record_of loan) in
      subst IsSettled (get_or-map (record_of loan) ws i x (record_of loan x) low ∙ ap (record_of loan) (sym read)) (settled i (record_of loan x) (omega arith))

  painted_snoc : (font : List ℕ) (ws : List WindowRecord) (parts : List Repaint) (w : WindowRecord) (part : Repaint) (p : Point) (value : Bool) → length parts ≡ length ws → painted_parts font (ws ++ w ∷ []) (parts ++ part ∷ []) p value ≡ painted_part font w.definition w.place part p (painted_parts font ws parts p value)
  painted_snoc font [] [] w part p value e = refl
  painted_snoc font (v ∷ ws) (r ∷ parts) w part p value e = let f : length parts ≡ length ws = omega arith in painted_snoc font ws parts w part p (painted_part font v.definition v.place r p value) f
  painted_snoc font [] (r ∷ parts) w part p value e = absurd (omega arith)
  painted_snoc font (v ∷ ws) [] w part p value e = absurd (omega arith)

  -- one window's part more
  pub painted_more : (font : List ℕ) (ws : List (Window V H)) (parts : List Repaint) (i : ℕ) (x : Window V H) (part : Repaint) (old mid new : Bits) → i < length ws → length parts ≡ length ws → x ≡ get_or ws i x → part ≡ get_or parts i part
      → ArePainted font (map (record_of loan) (take i ws)) (take i parts) old mid → IsPainted font (loan x.taken).definition x.place part.erase part.redraw mid new → ArePainted font (map (record_of loan) (take (i + 1) ws)) (take (i + 1) parts) old new
  painted_more font ws parts i x part old mid new low same x_is part_is so one =
      let within : i < length parts = omega arith in
      let shorter : length (take i parts) ≡ length (map (record_of loan) (take i ws)) = length-take i parts ∙ ap (min i) same ∙ sym (length-take i ws) ∙ sym (length-map (take i ws) (record_of loan)) in
      let there : take (i + 1) ws ≡ take i ws ++ x ∷ [] = take_more ws i x low ∙ ap (λ y. take i ws ++ y ∷ []) (sym x_is) in
      let here : take (i + 1) parts ≡ take i parts ++ part ∷ [] = take_more parts i part within ∙ ap (λ y. take i parts ++ y ∷ []) (sym part_is) in
      let records : map (record_of loan) (take (i + 1) ws) ≡ map (record_of loan) (take i ws) ++ record_of loan x ∷ [] = ap (map (record_of loan)) there ∙ map-append (record_of loan) (take i ws) (x ∷ []) in
      record {
        pixels = λ p on.
            one.pixels p (on_map-same old mid p so.width so.height ∙ on)
            ∙ ap (painted_part font (loan x.taken).definition x.place part p) (so.pixels p on)
            ∙ sym (painted_snoc font (map (record_of loan) (take i ws)) (take i parts) (record_of loan x) part p (bit old p) shorter)
            ∙ (λ k. painted_parts font (sym records k) (sym here k) p (bit old p));
        width = one.width ∙ so.width;
        height = one.height ∙ so.height;
      }

  -- and all of them
  pub painted_all : (font : List ℕ) (ws : List (Window V H)) (parts : List Repaint) (i : ℕ) (old new : Bits) → i ≡ length ws → length parts ≡ length ws → ArePainted font (map (record_of loan) (take i ws)) (take i parts) old new → ArePainted font (map (record_of loan) ws) parts old new
  painted_all font ws parts i old new all same so =
      subst (λ (x : List (Window V H) × List Repaint). ArePainted font (map (record_of loan) x.0) x.1 old new) (λ k. ((ap (λ n. take n ws) all ∙ take-length ws) k, (ap (λ n. take n parts) (all ∙ sym same) ∙ take-length parts) k)) so

-- a plan is drawn by moving what is copied, filling what is uncovered, and painting the windows' parts
pub drawn_by : (plan : Plan) (by : Option Point) (font : List ℕ) (ws : List WindowRecord) (old moved filled new : Bits)
    → IsMoved plan.copied by old moved
    → IsWrittenBy (arrives plan.copied by) nowhere old moved
    → DrawsOnce (holds plan.uncovered) (λ p d. mode_bit Copy (pattern_bit desktop (minus p origin)) d) moved filled
    → ArePainted font ws plan.parts.items filled new
    → IsWrittenBy (erased plan.parts.items) (redrawn plan.parts.items) filled new
    → IsPlanDrawn plan by font ws old new
drawn_by plan by font ws old moved filled new first first_written second third third_written = record {
  pixels = λ p on.
      let there = on_map-same old moved p first.width first.height ∙ on in
      let further = Once-on_map _ _ moved filled second p ∙ there in
      third.pixels p further
      ∙ ap (painted_parts font ws plan.parts.items p) (second.pixels p there ∙ (λ i. if holds plan.uncovered p then pattern_bit desktop (minus-origin p i) else first.pixels p on i));
  width = third.width ∙ second.width ∙ first.width;
  height = third.height ∙ second.height ∙ first.height;
  written = plan_written plan by _ old moved filled new (λ p. on_map-same old moved p first.width first.height) (Once-on_map _ _ moved filled second) first_written second third_written;
}
