-- A call that changes the layers of one window: whose pixels are before and after, and what is white, stale and drawn.
use Rattle.std.proofs.Common.{◌≡◌, ℤ, ℕ, zero, suc, ◌<◌, ◌==◌, arith, Bool, true, false, not, ◌&&◌, ◌||◌, if◌then◌else◌, List, [], ◌∷◌, map, length, get_or, Option, None, Some, refl, sym, ap, ◌∙◌, subst}
use Rattle.std.specs.Prelude.{All, int_lt, pos}
use Rattle.std.proofs.lemmas.Bool.{eqb-true, false≢true}
use Rattle.std.proofs.lemmas.List.Elements.{All-head, All-tail}
use Rattle.tb_geom.specs.declared.point.Point.{Point}
use Rattle.tb_geom.specs.Points.{PixelSet, minus}
use Rattle.tb_geom.specs.Pixels.{Pixels, holds}
use Rattle.tb_geom.specs.Rects.{between}
use Rattle.desk_layers.specs.declared.part.Part.{Part}
use Rattle.desk_layers.specs.Desk as layers
use Rattle.desk_layers.specs.Desk.{LayeredDesk, on_screen, in_bar, same_part}
use Rattle.desk_layers.specs.Owner.{Owner, owner, owner_among, same_owner, is_content}
use Rattle.desk_layers.specs.Owner.Owner.{Desktop, Bar, Frame, Content}
use Rattle.desk_layers.specs.Change.{State}
use Rattle.desk_layers.proofs.Owning.{same_number, same_owner-true}
use Rattle.window_list.specs.declared.layer.Layer.{Layer}
use Rattle.window_list.specs.declared.layer.LayerShape.{LayerShape}
use Rattle.window_list.specs.Holders.{layer_has, part_at, belongs_to, ArePartsApart}
use Rattle.window_list.specs.LayerChanges.{with_shape, reshaped, is_drawn_afresh, is_gained}
use Rattle.window_list.proofs.Parts.{front_apart, belongs_to-none}
use Rattle.vis_update.specs.declared.relaying.Relaying.{Relaying}
use Rattle.vis_update.specs.Records.{WindowRecord, Look, layered_window}
use Rattle.vis_update.specs.Areas.{is_content_of}
use Rattle.vis_update.specs.Relayings.{with_layers_of, HasLayersAt, is_part_afresh, AreOfContent, IsRelayered, IsGained, IsRelaid}
use Rattle.vis_update.proofs.LayerOwners.{owner_first}

-- ---- owners, from records

-- the owners of one pixel before and after, of which the layers of this window at this place become the new ones
record AreOwners (n : ℕ) (place : Point) (old new : List Layer) (p : Point) (o q : Owner) : Type 0 where
  was : is_content_of n o ≡ true → o ≡ Content n (part_at old (minus p place))
  becomes : is_content_of n o ≡ true → q ≡ Content n (part_at new (minus p place))
  others : is_content_of n o ≡ false → q ≡ o

-- an owner that stays, and is no content of the window
stays : (n : ℕ) (place : Point) (old new : List Layer) (p : Point) (o : Owner) → is_content_of n o ≡ false → AreOwners n place old new p o o
stays n place old new p o e = record {
  was = λ its. absurd (false≢true (sym e ∙ its));
  becomes = λ its. absurd (false≢true (sym e ∙ its));
  others = λ _. refl;
}

module _ (look other : Look) (n : ℕ) (place : Point) (old new : List Layer) (p : Point) where
  -- the first window, where b says that it is the one whose layers change
  first_owners : (w : WindowRecord) (b x c : Bool) (o q : Owner) → (w.serial == n) ≡ b → HasLayersAt n place old w → AreOwners n place old new p o q
      → let v = if b then record w { layers = new } else w in
      AreOwners n place old new p (if x then (if c then Content w.serial (part_at w.layers (minus p w.place)) else Frame w.serial) else o) (if x then (if c then Content v.serial (part_at v.layers (minus p v.place)) else Frame v.serial) else q)
  first_owners w true true true o q e has rest =
      let same = eqb-true w.serial n e in
      let its = has same in record {
        was = λ _ i. Content (same i) (part_at (its.1 i) (minus p (its.0 i)));
        becomes = λ _ i. Content (same i) (part_at new (minus p (its.0 i)));
        others = λ none. absurd (false≢true (sym none ∙ e));
      }
  first_owners w true true false o q e has rest = stays n place old new p (Frame w.serial) refl
  first_owners w true false c o q e has rest = rest
  first_owners w false true true o q e has rest = stays n place old new p (Content w.serial (part_at w.layers (minus p w.place))) e
  first_owners w false true false o q e has rest = stays n place old new p (Frame w.serial) refl
  first_owners w false false c o q e has rest = rest

  -- the owners among windows of which these are behind the first
  owners_behind : (w : WindowRecord) (ws : List WindowRecord) (b : Bool) → (w.serial == n) ≡ b → HasLayersAt n place old w → AreOwners n place old new p (owner_among (map (layered_window look) ws) p) (owner_among (map (layered_window other) (map (with_layers_of n new) ws)) p)
      → AreOwners n place old new p (owner_among (map (layered_window look) (w ∷ ws)) p) (owner_among (map (layered_window other) ((if b then record w { layers = new } else w) ∷ map (with_layers_of n new) ws)) p)
  owners_behind w ws true e has rest =
      subst (λ (y : Owner × Owner). AreOwners n place old new p y.0 y.1)
      (λ i. (sym (owner_first look w ws p) i, sym (owner_first other (record w { layers = new }) (map (with_layers_of n new) ws) p) i))
      (first_owners w true (layers.in_structure (layered_window look w) p) (w.definition.content w.size (minus p w.place)) _ _ e has rest)
  owners_behind w ws false e has rest =
      subst (λ (y : Owner × Owner). AreOwners n place old new p y.0 y.1)
      (λ i. (sym (owner_first look w ws p) i, sym (owner_first other w (map (with_layers_of n new) ws) p) i))
      (first_owners w false (layers.in_structure (layered_window look w) p) (w.definition.content w.size (minus p w.place)) _ _ e has rest)

  owners_among : (ws : List WindowRecord) → All (HasLayersAt n place old) ws → AreOwners n place old new p (owner_among (map (layered_window look) ws) p) (owner_among (map (layered_window other) (map (with_layers_of n new) ws)) p)
  owners_among [] has = stays n place old new p Desktop refl
  owners_among (w ∷ ws) has = owners_behind w ws (w.serial == n) refl (All-head (HasLayersAt n place old) w ws has) (owners_among ws (All-tail (HasLayersAt n place old) w ws has))

-- the owners of a desk's pixels, where the menu bar is the same
owners_of_desk : (look other : Look) (n : ℕ) (place : Point) (old new : List Layer) (before after : LayeredDesk) (ws : List WindowRecord) (p : Point)
    → before.windows ≡ map (layered_window look) ws → after.windows ≡ map (layered_window other) (map (with_layers_of n new) ws)
    → before.bar ≡ after.bar → All (HasLayersAt n place old) ws → AreOwners n place old new p (owner before p) (owner after p)
owners_of_desk look other n place old new before after ws p were are bars has =
    subst (λ (bar : ℤ). AreOwners n place old new p (owner before p) (if int_lt p.v bar then Bar else owner_among after.windows p)) bars
    (by_bar (in_bar before p))
  where
    among : AreOwners n place old new p (owner_among before.windows p) (owner_among after.windows p)
    among = subst (λ (y : List layers.LayeredWindow × List layers.LayeredWindow). AreOwners n place old new p (owner_among y.0 p) (owner_among y.1 p)) (λ i. (sym were i, sym are i)) (owners_among look other n place old new p ws has)

    by_bar : (b : Bool) → AreOwners n place old new p (if b then Bar else owner_among before.windows p) (if b then Bar else owner_among after.windows p)
    by_bar true = stays n place old new p Bar refl
    by_bar false = among

-- a desk whose window of this serial has other layers, on the same screen, and shown as it may be
pub relayered : (look other : Look) (n : ℕ) (place : Point) (old new : List Layer) (before after : LayeredDesk) (ws : List WindowRecord)
    → before.windows ≡ map (layered_window look) ws → after.windows ≡ map (layered_window other) (map (with_layers_of n new) ws)
    → before.bar ≡ after.bar → before.width ≡ after.width → before.height ≡ after.height → All (HasLayersAt n place old) ws
    → IsRelayered n place old new before after
relayered look other n place old new before after ws were are bars widths heights has = record {
  screen = λ p i. between (pos 0) p.h (sym widths i) && between (pos 0) p.v (sym heights i);
  was = λ p _. (owners p).was;
  becomes = λ p _. (owners p).becomes;
  others = λ p _. (owners p).others;
}
  where
    owners : (p : Point) → AreOwners n place old new p (owner before p) (owner after p)
    owners p = owners_of_desk look other n place old new before after ws p were are bars has

-- ---- one pixel of the screen

-- a pixel of the window's content before and after, with its parts; or one that is neither
data Pixel (n : ℕ) (was is : Part) (before after : Bool) (o q : Owner) : Type 0 where
  content : before ≡ true → after ≡ true → o ≡ Content n was → q ≡ Content n is → Pixel n was is before after o q
  elsewhere : (before && is_content_of n o) ≡ false → (after && is_content_of n q) ≡ false → Pixel n was is before after o q

pixel_of : (n : ℕ) (place : Point) (old new : List Layer) (before after : LayeredDesk) (p : Point) → IsRelayered n place old new before after
    → Pixel n (part_at old (minus p place)) (part_at new (minus p place)) (on_screen before p) (on_screen after p) (owner before p) (owner after p)
pixel_of n place old new before after p its = by_tests (on_screen before p) (is_content_of n (owner before p)) refl refl
  where
    by_tests : (b c : Bool) → on_screen before p ≡ b → is_content_of n (owner before p) ≡ c
        → Pixel n (part_at old (minus p place)) (part_at new (minus p place)) (on_screen before p) (on_screen after p) (owner before p) (owner after p)
    by_tests true true on own = content on (its.screen p ∙ on) (its.was p on own) (its.becomes p on own)
    by_tests true false on own = elsewhere (λ i. on i && own i) (λ i. (its.screen p ∙ on) i && (ap (is_content_of n) (its.others p on own) ∙ own) i)
    by_tests false c off own = elsewhere (λ i. off i && own i) (λ i. (its.screen p ∙ off) i && is_content_of n (owner after p))

-- what is drawn afresh is content of the window
pub afresh_is_content : (n : ℕ) (afresh : Option Part) (q : Owner) → is_content_of n q ≡ false → is_part_afresh n afresh q ≡ false
afresh_is_content n None q e = refl
afresh_is_content n (Some part) q e = by_test (same_owner q (Content n part)) refl
  where
    by_test : (b : Bool) → same_owner q (Content n part) ≡ b → same_owner q (Content n part) ≡ false
    by_test true same = absurd (false≢true (sym e ∙ ap (is_content_of n) (same_owner-true q (Content n part) same) ∙ same_number n))
    by_test false same = same

-- content of the window is drawn afresh as its layers have it
afresh_is : (n : ℕ) (afresh : Option Part) (ls : List Layer) (p : Point) → is_part_afresh n afresh (Content n (part_at ls p)) ≡ is_drawn_afresh afresh ls p
afresh_is n None ls p = refl
afresh_is n (Some part) ls p = ap (λ b. b && same_part (part_at ls p) part) (same_number n)

-- what becomes of a pixel as the change has it: whether it is made white, and whether it is stale
abbrev white_by : ℕ → Option Part → (before after : Bool) (o q : Owner) → Bool
white_by n afresh before after o q = (after && is_content_of n q) && (not (is_part_afresh n afresh q) && not (before && same_owner o q))

abbrev stale_of : ℕ → Option Part → (before after : Bool) (o q : Owner) (stale : Bool) → Bool
stale_of n afresh before after o q stale = (after && is_content_of n q) && (if not (is_content q) then false else (if is_part_afresh n afresh q then false else (if before && same_owner o q then stale else true)))

module _ (n : ℕ) (afresh : Option Part) (old new : List Layer) (place : Point) (p : Point) (before after : Bool) (o q : Owner) where
  -- the pixel, with its parts before and after
  abbrev Here : Type 0
  Here = Pixel n (part_at old (minus p place)) (part_at new (minus p place)) before after o q

  -- of content of the window: whether it is drawn afresh, and whether it is the same part's as before
  abbrev fresh : Bool
  fresh = is_drawn_afresh afresh new (minus p place)

  abbrev same : Bool
  same = same_part (part_at old (minus p place)) (part_at new (minus p place))

  none_afresh : (after && is_content_of n q) ≡ false → (after && is_part_afresh n afresh q) ≡ false
  none_afresh e = by_test after (is_content_of n q) refl e
    where
      by_test : (a c : Bool) → is_content_of n q ≡ c → (a && c) ≡ false → (a && is_part_afresh n afresh q) ≡ false
      by_test true true own f = absurd (false≢true (sym f))
      by_test true false own f = afresh_is_content n afresh q own
      by_test false c own f = refl

  white_is : Here → ((before && is_content_of n o) && (not same && not fresh)) ≡ white_by n afresh before after o q
  white_is (content b a was is) =
      (λ i. (b i && is_content_of n (was i)) && (not same && not fresh))
      ∙ table (n == n) same fresh (same_number n)
      ∙ (λ i. (true && is_content_of n (Content n (part_at new (minus p place)))) && (not (sym (afresh_is n afresh new (minus p place)) i) && not (true && (n == n && same))))
      ∙ (λ i. white_by n afresh (sym b i) (sym a i) (sym was i) (sym is i))
    where
      table : (m s d : Bool) → m ≡ true → ((true && m) && (not s && not d)) ≡ ((true && m) && (not d && not (true && (m && s))))
      table true true true e = refl
      table true true false e = refl
      table true false true e = refl
      table true false false e = refl
      table false s d e = absurd (false≢true e)
  white_is (elsewhere was is) = (λ i. was i && (not same && not fresh)) ∙ (λ i. sym is i && (not (is_part_afresh n afresh q) && not (before && same_owner o q)))

  drawn_is : Here → ((before && is_content_of n o) && fresh) ≡ (after && is_part_afresh n afresh q)
  drawn_is (content b a was is) =
      (λ i. (b i && is_content_of n (was i)) && fresh)
      ∙ (λ i. same_number n i && fresh)
      ∙ (λ i. sym a i && (sym (afresh_is n afresh new (minus p place)) ∙ ap (is_part_afresh n afresh) (sym is)) i)
  drawn_is (elsewhere was is) = (λ i. was i && fresh) ∙ sym (none_afresh is)

  stale_is : (stale : Bool) → Here → let v = before && is_content_of n o in
      (((v && stale) || (v && (not same && not fresh))) && not (v && fresh)) ≡ stale_of n afresh before after o q stale
  stale_is stale (content b a was is) =
      (λ i. let v = b i && is_content_of n (was i) in (((v && stale) || (v && (not same && not fresh))) && not (v && fresh)))
      ∙ table (n == n) same fresh stale (same_number n)
      ∙ (λ i. (true && is_content_of n (Content n (part_at new (minus p place)))) && (if sym (afresh_is n afresh new (minus p place)) i then false else (if true && (n == n && same) then stale else true)))
      ∙ (λ i. stale_of n afresh (sym b i) (sym a i) (sym was i) (sym is i) stale)
    where
      table : (m s d t : Bool) → m ≡ true → let v = true && m in (((v && t) || (v && (not s && not d))) && not (v && d)) ≡ (v && (if d then false else (if true && (m && s) then t else true)))
      table true true true true e = refl
      table true true true false e = refl
      table true true false true e = refl
      table true true false false e = refl
      table true false true true e = refl
      table true false true false e = refl
      table true false false true e = refl
      table true false false false e = refl
      table false s d t e = absurd (false≢true e)
  stale_is stale (elsewhere was is) =
      (λ i. let v = was i in (((v && stale) || (v && (not same && not fresh))) && not (v && fresh)))
      ∙ (λ i. sym is i && (if not (is_content q) then false else (if is_part_afresh n afresh q then false else (if before && same_owner o q then stale else true))))

-- ---- the whole call

-- what the three regions have is what the call makes white, stale, and draws afresh
pub relaid : (n : ℕ) (place : Point) (afresh : Option Part) (old new : List Layer) (before : State) (after : LayeredDesk) (visible update gained : Pixels) (drawn : PixelSet) (r : Relaying)
    → AreOfContent before n visible update → IsGained place afresh old new gained → ((p : Point) → drawn p ≡ is_drawn_afresh afresh new (minus p place)) → IsRelayered n place old new before.desk after
    → ((p : Point) → holds r.erase p ≡ (holds visible p && holds gained p))
    → ((p : Point) → holds r.draw p ≡ (holds visible p && drawn p))
    → ((p : Point) → holds r.update p ≡ ((holds update p || holds r.erase p) && not (holds r.draw p)))
    → IsRelaid n afresh before after r
relaid n place afresh old new before after visible update gained drawn r area gained_is drawn_are its erases draws updates = record {
  erase = λ p. white p ∙ white_is n afresh old new place p (on_screen before.desk p) (on_screen after p) (owner before.desk p) (owner after p) (here p);
  update = λ p. updates p
      ∙ (λ i. ((area.waiting p ∙ ap (λ b. b && before.stale p) (area.owned p)) i || white p i) && not (drawn_afresh p i))
      ∙ stale_is n afresh old new place p (on_screen before.desk p) (on_screen after p) (owner before.desk p) (owner after p) (before.stale p) (here p);
  draw = λ p. drawn_afresh p ∙ drawn_is n afresh old new place p (on_screen before.desk p) (on_screen after p) (owner before.desk p) (owner after p) (here p);
}
  where
    here : (p : Point) → Pixel n (part_at old (minus p place)) (part_at new (minus p place)) (on_screen before.desk p) (on_screen after p) (owner before.desk p) (owner after p)
    here p = pixel_of n place old new before.desk after p its

    white : (p : Point) → holds r.erase p ≡ ((on_screen before.desk p && is_content_of n (owner before.desk p)) && is_gained afresh old new (minus p place))
    white p = erases p ∙ (λ i. area.owned p i && gained_is p i)

    drawn_afresh : (p : Point) → holds r.draw p ≡ ((on_screen before.desk p && is_content_of n (owner before.desk p)) && is_drawn_afresh afresh new (minus p place))
    drawn_afresh p = draws p ∙ (λ i. area.owned p i && drawn_are p i)

-- ---- a layer that is hidden

-- it has no pixel
pub hidden_has_none : (shape : LayerShape) (at : ℕ) (ls : List Layer) (l : Layer) (p : Point) → shape.shown ≡ false → ArePartsApart ls → at < length ls → l ≡ get_or ls at l → belongs_to l.part (reshaped shape at ls) p ≡ false
hidden_has_none shape at [] l p hidden apart within read = absurd (omega arith)
hidden_has_none shape zero (x ∷ ls) l p hidden apart within read =
    let front = front_apart x ls apart in
    ap (λ (k : Layer). belongs_to k.part (with_shape shape x ∷ ls) p) read
    ∙ ap (λ b. same_part (if b && holds shape.region p then x.part else part_at ls p) x.part) hidden
    ∙ belongs_to-none x.part ls p front.picture front.others
hidden_has_none shape (suc at) (x ∷ ls) l p hidden apart within read =
    let front = front_apart x ls apart in
    by_test (layer_has x p) (ap (λ (k : Layer). same_part x.part k.part) read ∙ front.others at l (omega arith)) (hidden_has_none shape at ls l p hidden front.rest (omega arith) read)
  where
    by_test : (b : Bool) → same_part x.part l.part ≡ false → belongs_to l.part (reshaped shape at ls) p ≡ false → same_part (if b then x.part else part_at (reshaped shape at ls) p) l.part ≡ false
    by_test true other rest = other
    by_test false other rest = rest

-- what is gained where the part that is drawn afresh has no pixel is gained where none is
pub gained_of_none : (place : Point) (part : Part) (old new : List Layer) (gained : Pixels) → ((p : Point) → belongs_to part new p ≡ false) → IsGained place (Some part) old new gained → IsGained place None old new gained
gained_of_none place part old new gained none its p = its p ∙ ap (λ b. not (same_part (part_at old (minus p place)) (part_at new (minus p place))) && not b) (none (minus p place))
