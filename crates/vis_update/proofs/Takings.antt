-- What of a pixel one window of a sweep takes and leaves, and whose the rest is.
use Rattle.std.proofs.Common.{◌≡◌, ◌⊎◌, inl, inr, ⊎_elim, ℕ, Bool, true, false, not, ◌&&◌, if◌then◌else◌, List, ◌∷◌, map, refl, sym, ◌∙◌, subst}
use Rattle.std.proofs.lemmas.Bool.{false≢true}
use Rattle.tb_geom.specs.declared.point.Point.{Point}
use Rattle.tb_geom.specs.Points.{PixelSet, minus}
use Rattle.desk_layers.specs.Desk as layers
use Rattle.desk_layers.specs.Desk.{LayeredDesk}
use Rattle.desk_layers.specs.declared.part.Part.{Part}
use Rattle.desk_layers.specs.Owner.{Owner, owner, owner_among, same_owner}
use Rattle.desk_layers.specs.Owner.Owner.{Frame, Content}
use Rattle.desk_layers.proofs.Owning.{same_number, is_other, owner_is_other}
use Rattle.window_list.specs.Holders.{part_at}
use Rattle.vis_update.specs.Records.{WindowRecord, Look, layered_window}
use Rattle.vis_update.specs.Areas.{is_content_of}
use Rattle.vis_update.proofs.Others.{not_content, not_same_frame, AreOthers, others_of}

-- of a pixel of the changed area that the windows in front left, the owner is the first of these windows that has it; one
-- that they took is none of theirs
pub record Reaches (look : Look) (desk : LayeredDesk) (ws : List WindowRecord) (changed rest : PixelSet) : Type 0 where
  pub inside : (p : Point) → rest p ≡ true → changed p ≡ true
  pub here : (p : Point) → rest p ≡ true → (layers.on_screen desk p ≡ true) × (owner desk p ≡ owner_among (map (layered_window look) ws) p)
  pub elsewhere : (p : Point) → changed p ≡ true → rest p ≡ false → (layers.on_screen desk p ≡ false) ⊎ AreOthers ws (owner desk p)

-- one pixel and one window: r is whether the windows in front left it; s, x and c whether the window is shown and has it
-- in its structure and its content, and part the layer of that; v, f and k whether it took it for its content or its frame, or left it; o is its owner,
-- and u the owner among the windows behind
pub data Taking (n : ℕ) (part : Part) (r s x c v f k : Bool) (o u : Owner) : Type 0 where
  taken_before : r ≡ false → v ≡ false → f ≡ false → k ≡ false → Taking n part r s x c v f k o u
  content : r ≡ true → o ≡ Content n part → v ≡ true → f ≡ false → k ≡ false → Taking n part r s x c v f k o u
  frame : r ≡ true → o ≡ Frame n → v ≡ false → f ≡ true → k ≡ false → Taking n part r s x c v f k o u
  left : r ≡ true → o ≡ u → v ≡ false → f ≡ false → k ≡ true → Taking n part r s x c v f k o u

no_content : (c s : Bool) → (c && (s && false)) ≡ false
no_content true true = refl
no_content true false = refl
no_content false s = refl

no_frame : (x c s : Bool) → ((x && not c) && (s && false)) ≡ false
no_frame true true s = refl
no_frame true false true = refl
no_frame true false false = refl
no_frame false c s = refl

hidden : (c : Bool) → (c && (false && true)) ≡ false
hidden true = refl
hidden false = refl

hidden_frame : (x c : Bool) → ((x && not c) && (false && true)) ≡ false
hidden_frame true true = refl
hidden_frame true false = refl
hidden_frame false c = refl

pub taking : (n : ℕ) (part : Part) (r s x c v f k : Bool) (o u : Owner) → (s ≡ true → c ≡ true → x ≡ true) → v ≡ (c && (s && r)) → f ≡ ((x && not c) && (s && r)) → k ≡ (r && not (s && x)) → (r ≡ true → o ≡ (if s && x then (if c then Content n part else Frame n) else u)) → Taking n part r s x c v f k o u
taking n part false s x c v f k o u within ev ef ek its = taken_before refl (ev ∙ no_content c s) (ef ∙ no_frame x c s) ek
taking n part true true true true v f k o u within ev ef ek its = content refl (its refl) ev ef ek
taking n part true true true false v f k o u within ev ef ek its = frame refl (its refl) ev ef ek
taking n part true true false true v f k o u within ev ef ek its = absurd (false≢true (within refl refl))
taking n part true true false false v f k o u within ev ef ek its = left refl (its refl) ev ef ek
taking n part true false x c v f k o u within ev ef ek its = left refl (its refl) (ev ∙ hidden c) (ef ∙ hidden_frame x c) ek

-- what is none of a window's, on the screen or off it
none_of : (is_its : Owner → Bool) (on : Bool) (o : Owner) → (on ≡ false) ⊎ (is_its o ≡ false) → (on && is_its o) ≡ false
none_of is_its false o e = refl
none_of is_its true o (inl off) = absurd (false≢true (sym off))
none_of is_its true o (inr e) = e

module _ (look : Look) (desk : LayeredDesk) (w : WindowRecord) (ws : List WindowRecord) (changed rest taken around left_set : PixelSet) (distinct : layers.AreWindows (map (layered_window look) (w ∷ ws))) (reach : Reaches look desk (w ∷ ws) changed rest)
    (takes : (p : Point) → Taking w.serial (part_at w.layers (minus p w.place)) (rest p) w.shown (w.definition.structure w.size (minus p w.place)) (w.definition.content w.size (minus p w.place)) (taken p) (around p) (left_set p) (owner desk p) (owner_among (map (layered_window look) ws) p)) where
  -- the case of one pixel
  abbrev Here : Point → Type 0
  Here p = Taking w.serial (part_at w.layers (minus p w.place)) (rest p) w.shown (w.definition.structure w.size (minus p w.place)) (w.definition.content w.size (minus p w.place)) (taken p) (around p) (left_set p) (owner desk p) (owner_among (map (layered_window look) ws) p)

  -- the owner among the windows behind is not this window
  behind_is_other : (p : Point) → is_other w.serial (owner_among (map (layered_window look) ws) p) ≡ true
  behind_is_other p = owner_is_other (map (layered_window look) ws) p w.serial distinct.0

  no_its : (is_its : Owner → Bool) (p : Point) → ((o : Owner) → is_other w.serial o ≡ true → is_its o ≡ false) → changed p ≡ true → rest p ≡ false → (layers.on_screen desk p && is_its (owner desk p)) ≡ false
  no_its is_its p apart its e = none_of is_its (layers.on_screen desk p) (owner desk p) (⊎_elim (λ off. inl off) (λ others. inr (apart (owner desk p) others.0)) (reach.elsewhere p its e))

  pub taken_is : (p : Point) → changed p ≡ true → taken p ≡ (layers.on_screen desk p && is_content_of w.serial (owner desk p))
  taken_is p its = by_case (takes p)
    where
      by_case : Here p → taken p ≡ (layers.on_screen desk p && is_content_of w.serial (owner desk p))
      by_case (taken_before r v f k) = v ∙ sym (no_its (is_content_of w.serial) p (not_content w.serial) its r)
      by_case (content r o v f k) = rw (v, (reach.here p r).0, o) (sym (same_number w.serial))
      by_case (frame r o v f k) = rw (v, (reach.here p r).0, o) refl
      by_case (left r o v f k) = rw (v, (reach.here p r).0, o) (sym (not_content w.serial _ (behind_is_other p)))

  pub around_is : (p : Point) → changed p ≡ true → around p ≡ (layers.on_screen desk p && same_owner (owner desk p) (Frame w.serial))
  around_is p its = by_case (takes p)
    where
      by_case : Here p → around p ≡ (layers.on_screen desk p && same_owner (owner desk p) (Frame w.serial))
      by_case (taken_before r v f k) = f ∙ sym (no_its (λ o. same_owner o (Frame w.serial)) p (not_same_frame w.serial) its r)
      by_case (content r o v f k) = rw (f, (reach.here p r).0, o) refl
      by_case (frame r o v f k) = rw (f, (reach.here p r).0, o) (sym (same_number w.serial))
      by_case (left r o v f k) = rw (f, (reach.here p r).0, o) (sym (not_same_frame w.serial _ (behind_is_other p)))

  -- what the window leaves reaches those behind it
  pub reaches_behind : Reaches look desk ws changed left_set
  reaches_behind = record {
    inside = λ p e. inside_case p e (takes p);
    here = λ p e. here_case p e (takes p);
    elsewhere = λ p its e. elsewhere_case p its e (takes p);
  }
    where
      inside_case : (p : Point) → left_set p ≡ true → Here p → changed p ≡ true
      inside_case p e (taken_before r v f k) = absurd (false≢true (sym k ∙ e))
      inside_case p e (content r o v f k) = absurd (false≢true (sym k ∙ e))
      inside_case p e (frame r o v f k) = absurd (false≢true (sym k ∙ e))
      inside_case p e (left r o v f k) = reach.inside p r

      here_case : (p : Point) → left_set p ≡ true → Here p → (layers.on_screen desk p ≡ true) × (owner desk p ≡ owner_among (map (layered_window look) ws) p)
      here_case p e (taken_before r v f k) = absurd (false≢true (sym k ∙ e))
      here_case p e (content r o v f k) = absurd (false≢true (sym k ∙ e))
      here_case p e (frame r o v f k) = absurd (false≢true (sym k ∙ e))
      here_case p e (left r o v f k) = ((reach.here p r).0, o)

      elsewhere_case : (p : Point) → changed p ≡ true → left_set p ≡ false → Here p → (layers.on_screen desk p ≡ false) ⊎ AreOthers ws (owner desk p)
      elsewhere_case p its e (taken_before r v f k) = ⊎_elim (λ off. inl off) (λ others. inr others.1) (reach.elsewhere p its r)
      elsewhere_case p its e (content r o v f k) = inr (subst (λ q. AreOthers ws q) (sym o) (others_of look w.serial (part_at w.layers (minus p w.place)) ws distinct.0).0)
      elsewhere_case p its e (frame r o v f k) = inr (subst (λ q. AreOthers ws q) (sym o) (others_of look w.serial (part_at w.layers (minus p w.place)) ws distinct.0).1)
      elsewhere_case p its e (left r o v f k) = absurd (false≢true (sym e ∙ k))
