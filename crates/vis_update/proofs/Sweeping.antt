-- One sweep from front to back, window by window.
use Rattle.std.proofs.Common.{◌≡◌, ℕ, ◌+◌, ◌<◌, ◌==◌, Bool, true, false, not, ◌&&◌, ◌||◌, if◌then◌else◌, List, [], ◌∷◌, ◌++◌, length, get_or, take, Option, None, Some, refl, sym, ap, ◌∙◌, subst}
use Rattle.std.specs.Prelude.{is_some}
use Rattle.std.proofs.lemmas.Bool.{false≢true}
use Rattle.std.proofs.lemmas.List.{take_more}
use Rattle.tb_geom.specs.declared.point.Point.{Point}
use Rattle.tb_geom.specs.Points.{PixelSet, minus}
use Rattle.tb_geom.specs.Pixels.{Pixels, holds}
use Rattle.tb_geom.proofs.RectLemmas.{or_left, or_right}
use Rattle.def_iface.specs.Slots.{TakenBox}
use Rattle.def_iface.specs.declared.window_def.WindowRegions.{WindowRegions}
use Rattle.def_iface.specs.WindowMeaning.{WindowLoan}
use Rattle.vis_update.specs.declared.area.Area.{Area}
use Rattle.vis_update.specs.declared.plan.Repaint.{Repaint}
use Rattle.vis_update.specs.declared.plan.Seat.{Seat}
use Rattle.vis_update.specs.declared.plan.Touch.{Touch}
use Rattle.vis_update.specs.Places.{IsRegionsAt}
use Rattle.vis_update.specs.Seats.{seat_stand}
use Rattle.vis_update.specs.Plans.{IsSwept, IsShare, IsBeside, IsLosing, IsLeftAlone, IsEmptyPart, area_then, arrives}
use Rattle.vis_update.specs.Touches.{way_of, came_from, draws_whole}

-- another window than the one that the call is about does not move
pub stays_where : (t : Touch) (s : ℕ) → (s == t.window) ≡ false → way_of t s ≡ None
stays_where t s other = λ i. if other i then t.by else None

module _ {V : Type 0} {H : V → Type 0} (loan : TakenBox V H → WindowLoan) where
  -- what a window takes of its regions
  pub share_of : (rest : Pixels) (s : Seat V H) (r : WindowRegions) (taken around both left : Pixels) → s.shown ≡ true → IsRegionsAt s.place s.size (loan s.taken.now).definition r
      → ((p : Point) → holds taken p ≡ (holds r.content p && holds rest p))
      → ((p : Point) → holds both p ≡ (holds r.structure p && holds rest p))
      → ((p : Point) → holds around p ≡ (holds both p && not (holds r.content p)))
      → ((p : Point) → holds left p ≡ (holds rest p && not (holds r.structure p)))
      → IsShare loan (holds rest) s taken around (holds left)
  share_of rest s r taken around both left shown regions taken_is both_is around_is left_is = record {
    taken = λ p. taken_is p ∙ (λ i. regions.content p i && (sym shown i && holds rest p));
    around = λ p. around_is p ∙ (λ i. both_is p i && not (holds r.content p)) ∙ frame_first (holds r.structure p) (holds rest p) (holds r.content p)
        ∙ (λ i. (regions.structure p i && not (regions.content p i)) && (sym shown i && holds rest p));
    leaves = λ p. left_is p ∙ (λ i. holds rest p && not (sym shown i && regions.structure p i));
    within = λ e. regions.within;
  }
    where
      frame_first : (s r c : Bool) → ((s && r) && not c) ≡ ((s && not c) && r)
      frame_first true true true = refl
      frame_first true true false = refl
      frame_first true false true = refl
      frame_first true false false = refl
      frame_first false r c = refl

  -- no pixel that a window has is one of the rest beside it: k, x and s: it has the pixel in its content, and in its structure, and
  -- is shown; r: it is one of the rest
  no_content : (k x s r : Bool) → (s ≡ true → r ≡ true → x ≡ false) → (s ≡ true → k ≡ true → x ≡ true) → (k && (s && r)) ≡ false
  no_content true x true true clear within = sym (within refl refl) ∙ clear refl refl
  no_content true x true false clear within = refl
  no_content true x false r clear within = refl
  no_content false x s r clear within = refl

  no_frame : (k x s r : Bool) → (s ≡ true → r ≡ true → x ≡ false) → ((x && not k) && (s && r)) ≡ false
  no_frame k true true true clear = absurd (false≢true (sym (clear refl refl)))
  no_frame true true true false clear = refl
  no_frame false true true false clear = refl
  no_frame true true false r clear = refl
  no_frame false true false r clear = refl
  no_frame k false s r clear = refl

  no_cover : (x s r : Bool) → (s ≡ true → r ≡ true → x ≡ false) → r ≡ (r && not (s && x))
  no_cover true true true clear = absurd (false≢true (sym (clear refl refl)))
  no_cover false true true clear = refl
  no_cover x false true clear = refl
  no_cover x s false clear = refl

  -- beside the rest a window takes nothing of it
  pub share_of_none : (rest : PixelSet) (s : Seat V H) (taken around : Pixels) → IsBeside loan rest s → ((p : Point) → holds taken p ≡ false) → ((p : Point) → holds around p ≡ false) → IsShare loan rest s taken around rest
  share_of_none rest s taken around beside none no_around = record {
    taken = λ p. none p ∙ sym (no_content ((seat_stand loan s).content (minus p s.place)) ((seat_stand loan s).structure (minus p s.place)) s.shown (rest p) (λ e. beside.clear e p) (λ e. beside.within e (minus p s.place)));
    around = λ p. no_around p ∙ sym (no_frame ((seat_stand loan s).content (minus p s.place)) ((seat_stand loan s).structure (minus p s.place)) s.shown (rest p) (λ e. beside.clear e p));
    leaves = λ p. no_cover ((seat_stand loan s).structure (minus p s.place)) s.shown (rest p) (λ e. beside.clear e p);
    within = beside.within;
  }

module _ {V : Type 0} {H : V → Type 0} (loan : TakenBox V H → WindowLoan) (t : Touch) where
  -- what one window has and leaves
  pub swept_by : (changed rest : Pixels) (s : Seat V H) (taken around visible had old erase update frame redraw left : Pixels) (by : Option Point) (whole : Bool) → IsShare loan (holds rest) s taken around (holds left)
      → by ≡ way_of t s.serial → whole ≡ draws_whole t s.serial
      → ((p : Point) → holds visible p ≡ ((holds s.area.now.visible p && not (holds changed p)) || holds taken p))
      → ((p : Point) → holds frame p ≡ ((holds s.area.now.frame p && not (holds changed p)) || holds around p))
      → ((p : Point) → holds had p ≡ (holds visible p && holds s.area.now.visible (came_from by p)))
      → ((p : Point) → holds old p ≡ (holds visible p && holds s.area.now.update (came_from by p)))
      → ((p : Point) → holds erase p ≡ (holds visible p && not (holds had p)))
      → ((p : Point) → holds update p ≡ (holds old p || holds erase p))
      → ((p : Point) → holds redraw p ≡ (holds frame p && (whole || not (holds s.area.now.frame p))))
      → IsSwept loan t (holds changed) (holds rest) s (record { visible = visible; update = update; frame = frame }) (record { erase = erase; redraw = redraw }) (holds left)
  swept_by changed rest s taken around visible had old erase update frame redraw left by whole share by_is whole_is visible_is frame_is had_is old_is erase_is update_is redraw_is = record {
    visible = λ p. visible_is p ∙ ap (λ b. (holds s.area.now.visible p && not (holds changed p)) || b) (share.taken p);
    update = λ _ p. update_is p ∙ (λ i. old_is p i || (erase_is p ∙ ap (λ h. holds visible p && not h) (had_is p)) i)
        ∙ drawn_again (holds visible p) (holds s.area.now.visible (came_from by p)) (holds s.area.now.update (came_from by p))
        ∙ ap (λ w. holds visible p && not (holds s.area.now.visible (came_from w p) && not (holds s.area.now.update (came_from w p)))) by_is;
    frame = λ p. frame_is p ∙ ap (λ b. (holds s.area.now.frame p && not (holds changed p)) || b) (share.around p);
    erase = λ p. erase_is p ∙ ap (λ h. holds visible p && not h) (had_is p) ∙ once (holds visible p) (holds s.area.now.visible (came_from by p))
        ∙ ap (λ w. holds visible p && not (holds s.area.now.visible (came_from w p))) by_is;
    redraw = λ p. redraw_is p ∙ ap (λ w. holds frame p && (w || not (holds s.area.now.frame p))) whole_is;
    leaves = share.leaves;
    within = share.within;
  }
    where
      drawn_again : (v h u : Bool) → ((v && u) || (v && not (v && h))) ≡ (v && not (h && not u))
      drawn_again true true true = refl
      drawn_again true true false = refl
      drawn_again true false true = refl
      drawn_again true false false = refl
      drawn_again false h u = refl

      once : (v h : Bool) → (v && not (v && h)) ≡ (v && not h)
      once true h = refl
      once false h = refl

  -- a window that is left alone has what it had
  pub left_alone : (changed lost rest : PixelSet) (s : Seat V H) (part : Repaint) → IsLosing t changed lost s → IsLeftAlone loan t lost rest s
      → IsEmptyPart part → IsSwept loan t changed rest s s.area.now part rest
  left_alone changed lost rest s part losing alone empty = record {
    visible = λ p. kept (holds s.area.now.visible p) (changed p) _ (λ e. not_changed p (or_left (holds s.area.now.visible p) (holds s.area.now.frame p) e) (alone.visible p e)) (none_taken p);
    update = λ seen p. drawn (holds s.area.now.visible p) (holds s.area.now.update p) (seen p)
        ∙ (λ i. holds s.area.now.visible p && not (holds s.area.now.visible (here p i) && not (holds s.area.now.update (here p i))));
    frame = λ p. kept (holds s.area.now.frame p) (changed p) _ (λ e. not_changed p (or_right (holds s.area.now.visible p) (holds s.area.now.frame p) e) (alone.frame p e)) (none_around p);
    erase = λ p. empty.erase p ∙ both_not (holds s.area.now.visible p) ∙ (λ i. holds s.area.now.visible p && not (holds s.area.now.visible (here p i)));
    redraw = λ p. empty.redraw p ∙ both_not (holds s.area.now.frame p) ∙ (λ i. holds s.area.now.frame p && (not_whole (sym alone.other i) || not (holds s.area.now.frame p)));
    leaves = λ p. no_cover loan ((seat_stand loan s).structure (minus p s.place)) s.shown (rest p) (λ e. alone.beside.clear e p);
    within = alone.beside.within;
  }
    where
      not_changed : (p : Point) → (holds s.area.now.visible p || holds s.area.now.frame p) ≡ true → lost p ≡ false → changed p ≡ false
      not_changed p its away = by_test (changed p) refl
        where
          by_test : (b : Bool) → changed p ≡ b → changed p ≡ false
          by_test true e = absurd (false≢true (sym away ∙ losing alone.other p its e))
          by_test false e = e

      not_whole : Bool → Bool
      not_whole b = b && t.whole

      here : (p : Point) → p ≡ came_from (way_of t s.serial) p
      here p = λ i. came_from (sym (stays_where t s.serial alone.other) i) p

      none_taken : (p : Point) → ((seat_stand loan s).content (minus p s.place) && (s.shown && rest p)) ≡ false
      none_taken p = no_content loan ((seat_stand loan s).content (minus p s.place)) ((seat_stand loan s).structure (minus p s.place)) s.shown (rest p) (λ e. alone.beside.clear e p) (λ e. alone.beside.within e (minus p s.place))

      none_around : (p : Point) → (((seat_stand loan s).structure (minus p s.place) && not ((seat_stand loan s).content (minus p s.place))) && (s.shown && rest p)) ≡ false
      none_around p = no_frame loan ((seat_stand loan s).content (minus p s.place)) ((seat_stand loan s).structure (minus p s.place)) s.shown (rest p) (λ e. alone.beside.clear e p)

      kept : (v c t : Bool) → (v ≡ true → c ≡ false) → t ≡ false → v ≡ ((v && not c) || t)
      kept true true t away e = absurd (false≢true (sym (away refl)))
      kept true false t away e = refl
      kept false c t away e = sym e

      drawn : (v u : Bool) → (u ≡ true → v ≡ true) → u ≡ (v && not (v && not u))
      drawn true true seen = refl
      drawn true false seen = refl
      drawn false true seen = sym (seen refl)
      drawn false false seen = refl

      both_not : (v : Bool) → false ≡ (v && not v)
      both_not true = refl
      both_not false = refl

  -- what of a window's area is copied, beside what was before
  abbrev pub IsCopied : Seat V H → Area → Repaint → PixelSet → PixelSet → Type 0
  IsCopied s a part old new = (p : Point) → new p ≡ (old p || (is_some (way_of t s.serial) && (holds a.visible p && not (holds part.erase p))))

  -- so is what was added where content arrives
  pub arrived : (s : Seat V H) (o : Option Area) (part : Repaint) (by : Option Point) (old new : PixelSet) → by ≡ way_of t s.serial → (o ≡ None → way_of t s.serial ≡ None)
      → ((p : Point) → new p ≡ (old p || arrives by o part p)) → IsCopied s (area_then s.area.now o) part old new
  arrived s o part by old new by_is still new_is p = new_is p ∙ ap (λ b. old p || b) (by_cases by o by_is still)
    where
      by_cases : (k : Option Point) (c : Option Area) → k ≡ way_of t s.serial → (c ≡ None → way_of t s.serial ≡ None)
          → arrives k c part p ≡ (is_some (way_of t s.serial) && (holds (area_then s.area.now c).visible p && not (holds part.erase p)))
      by_cases None c e f = λ i. is_some (e i) && (holds (area_then s.area.now c).visible p && not (holds part.erase p))
      by_cases (Some k) (Some a) e f = λ i. is_some (e i) && (holds a.visible p && not (holds part.erase p))
      by_cases (Some k) None e f = λ i. is_some (sym (f refl) i) && (holds s.area.now.visible p && not (holds part.erase p))

  -- the windows took these areas and parts, one after another, from what was there first, and left the last; and so the
  -- copied pixels became more
  abbrev pub AreSwept : PixelSet → PixelSet → PixelSet → List (Seat V H) → List (Option Area) → List Repaint → PixelSet → PixelSet → Type 0
  AreSwept changed first from [] [] [] last upto = ((p : Point) → last p ≡ first p) × ((p : Point) → upto p ≡ from p)
  AreSwept changed first from (s ∷ seats) (a ∷ areas) (part ∷ parts) last upto = (middle : PixelSet) × (more : PixelSet) × IsSwept loan t changed first s (area_then s.area.now a) part middle × IsCopied s (area_then s.area.now a) part from more × AreSwept changed middle more seats areas parts last upto
  AreSwept changed first from [] [] (part ∷ parts) last upto = ⊥
  AreSwept changed first from [] (a ∷ areas) parts last upto = ⊥
  AreSwept changed first from (s ∷ seats) [] parts last upto = ⊥
  AreSwept changed first from (s ∷ seats) (a ∷ areas) [] last upto = ⊥

  -- a set that is the same may stand first
  first_same : (changed first other : PixelSet) (s : Seat V H) (a : Area) (part : Repaint) (left : PixelSet) → ((p : Point) → first p ≡ other p) → IsSwept loan t changed first s a part left → IsSwept loan t changed other s a part left
  first_same changed first other s a part left same swept = record {
    visible = λ p. swept.visible p ∙ ap (λ r. (holds s.area.now.visible p && not (changed p)) || ((seat_stand loan s).content (minus p s.place) && (s.shown && r))) (same p);
    update = swept.update;
    frame = λ p. swept.frame p ∙ ap (λ r. (holds s.area.now.frame p && not (changed p)) || (((seat_stand loan s).structure (minus p s.place) && not ((seat_stand loan s).content (minus p s.place))) && (s.shown && r))) (same p);
    erase = swept.erase;
    redraw = swept.redraw;
    leaves = λ p. swept.leaves p ∙ ap (λ r. r && not (s.shown && (seat_stand loan s).structure (minus p s.place))) (same p);
    within = swept.within;
  }

  copied_same : (from other : PixelSet) (s : Seat V H) (a : Area) (part : Repaint) (new : PixelSet) → ((p : Point) → from p ≡ other p) → IsCopied s a part from new → IsCopied s a part other new
  copied_same from other s a part new same copied p = copied p ∙ ap (λ r. r || (is_some (way_of t s.serial) && (holds a.visible p && not (holds part.erase p)))) (same p)

  swept_snoc : (changed first from last upto : PixelSet) (seats : List (Seat V H)) (areas : List (Option Area)) (parts : List Repaint) (s : Seat V H) (a : Option Area) (part : Repaint) (left more : PixelSet) → AreSwept changed first from seats areas parts last upto → IsSwept loan t changed last s (area_then s.area.now a) part left → IsCopied s (area_then s.area.now a) part upto more → AreSwept changed first from (seats ++ s ∷ []) (areas ++ a ∷ []) (parts ++ part ∷ []) left more
  swept_snoc changed first from last upto [] [] [] s a part left more h one copied = (left, more, first_same changed last first s (area_then s.area.now a) part left h.0 one, copied_same upto from s (area_then s.area.now a) part more h.1 copied, ((λ p. refl), (λ p. refl)))
  swept_snoc changed first from last upto (v ∷ seats) (b ∷ areas) (r ∷ parts) s a part left more h one copied = (h.0, h.1, h.2, h.3, swept_snoc changed h.0 h.1 last upto seats areas parts s a part left more h.4 one copied)
  swept_snoc changed first from last upto [] [] (r ∷ parts) s a part left more h one copied = absurd h
  swept_snoc changed first from last upto [] (b ∷ areas) parts s a part left more h one copied = absurd h
  swept_snoc changed first from last upto (v ∷ seats) [] parts s a part left more h one copied = absurd h
  swept_snoc changed first from last upto (v ∷ seats) (b ∷ areas) [] s a part left more h one copied = absurd h

  -- one window more
  pub swept_more : (changed first from last upto : PixelSet) (seats : List (Seat V H)) (areas areas_more : List (Option Area)) (parts parts_more : List Repaint) (i : ℕ) (s : Seat V H) (a : Option Area) (part : Repaint) (left more : PixelSet) → areas_more ≡ areas ++ a ∷ [] → parts_more ≡ parts ++ part ∷ [] → s ≡ get_or seats i s → i < length seats → AreSwept changed first from (take i seats) areas parts last upto → IsSwept loan t changed last s (area_then s.area.now a) part left → IsCopied s (area_then s.area.now a) part upto more → AreSwept changed first from (take (i + 1) seats) areas_more parts_more left more
  swept_more changed first from last upto seats areas areas_more parts parts_more i s a part left more e f read within h one copied =
      subst (λ (x : List (Seat V H) × List (Option Area) × List Repaint). AreSwept changed first from x.0 x.1 x.2 left more) (λ k. (sym (take_more seats i s within) k, sym e k, sym f k))
      (swept_snoc changed first from last upto (take i seats) areas parts (get_or seats i s) a part left more h (subst (λ v. IsSwept loan t changed last v (area_then v.area.now a) part left) read one) (subst (λ v. IsCopied v (area_then v.area.now a) part upto more) read copied))
