-- Where one window is put anew among others, pixels change their owner in its old area and its new structure alone.
use Rattle.std.proofs.Common.{◌≡◌, ℕ, ◌==◌, Bool, true, false, not, ◌&&◌, ◌||◌, if◌then◌else◌, List, [], ◌∷◌, map, None, pos, refl, sym, ap, ◌∙◌, arith}
use Rattle.std.specs.Prelude.{All, int_lt}
use Rattle.std.proofs.lemmas.Bool.{and_parts, false≢true}
use Rattle.std.proofs.lemmas.Bool.Decides.{nat_tests}
use Rattle.std.proofs.lemmas.List.Elements.{All-head, All-tail, All-nil, All-cons}
use Rattle.tb_geom.specs.declared.point.Point.{Point}
use Rattle.tb_geom.specs.Points.{PixelSet, minus}
use Rattle.tb_geom.specs.Pixels.{Pixels, holds}
use Rattle.tb_geom.specs.Rects.{between}
use Rattle.desk_layers.specs.declared.part.Part.{Part}
use Rattle.desk_layers.specs.Desk as layers
use Rattle.desk_layers.specs.Desk.{LayeredDesk}
use Rattle.desk_layers.specs.Owner.{Owner, owner, owner_among, same_owner}
use Rattle.desk_layers.specs.Owner.Owner.{Desktop, Bar, Frame, Content}
use Rattle.desk_layers.specs.Change.{State}
use Rattle.desk_layers.proofs.Owning.{is_other, not_first}
use Rattle.window_list.specs.declared.layer.Layer.{Layer}
use Rattle.window_list.specs.Holders.{part_at}
use Rattle.vis_update.specs.declared.area.Area.{Area}
use Rattle.vis_update.specs.Records.{WindowRecord, Look, layered_window}
use Rattle.vis_update.specs.Areas.{IsArea, IsGray, is_content_of}
use Rattle.vis_update.specs.Seats.{Stand, stand_of, IsChangedArea}
use Rattle.vis_update.specs.Hands.{except, SameOthers}
use Rattle.vis_update.proofs.LayerOwners.{owner_first, first_owner}

-- ---- windows that own a pixel or not

-- what a window gives to a pixel that it has is no other's
own_test : (t n : ℕ) (part : Part) (k : Bool) → is_other t (if k then Content n part else Frame n) ≡ not (t == n)
own_test t n part true = refl
own_test t n part false = refl

-- what stands there is not this window, or has not the pixel
abbrev pub IsClear : ℕ → Point → Stand → Type 0
IsClear t p s = (t == s.serial) ≡ true → (s.shown && s.structure (minus p s.place)) ≡ false

-- so it is where no window has this number
pub none_of_serial : (look : Look) (t : ℕ) (p : Point) (ws : List WindowRecord) → layers.window_of t (map (layered_window look) ws) ≡ None → All (IsClear t p) (map stand_of ws)
none_of_serial look t p [] e = All-nil (IsClear t p)
none_of_serial look t p (w ∷ ws) e =
    let away = not_first (w.serial == t) (layered_window look w) (layers.window_of t (map (layered_window look) ws)) e in
    All-cons (IsClear t p) (stand_of w) (map stand_of ws) (λ same. absurd (apart w.serial t away.0 same)) (none_of_serial look t p ws away.1)
  where
    apart : (m n : ℕ) → (m == n) ≡ false → (n == m) ≡ true → ⊥
    apart m n e f = grind (arith, nat_tests)

module _ (t : ℕ) (look : Look) (p : Point) where
  -- a pixel that a window does not own has the owner that it has among the others
  pub unowned : (ws : List WindowRecord) → is_other t (owner_among (map (layered_window look) ws) p) ≡ true → owner_among (map (layered_window look) ws) p ≡ owner_among (map (layered_window look) (except t ws)) p
  unowned [] other = refl
  unowned (w ∷ ws) other = owner_first look w ws p ∙ step (unowned ws) (t == w.serial) (layers.in_structure (layered_window look w) p) refl refl (ap (is_other t) (sym (owner_first look w ws p)) ∙ other)
    where
      rest : Owner
      rest = owner_among (map (layered_window look) ws) p

      step : (is_other t rest ≡ true → rest ≡ owner_among (map (layered_window look) (except t ws)) p) → (b c : Bool) → (t == w.serial) ≡ b → layers.in_structure (layered_window look w) p ≡ c → is_other t (first_owner w p c rest) ≡ true
          → first_owner w p c rest ≡ owner_among (map (layered_window look) (if b then except t ws else w ∷ except t ws)) p
      step behind true true e inside o = absurd (false≢true (sym (own_test t w.serial (part_at w.layers (minus p w.place)) (w.definition.content w.size (minus p w.place)) ∙ ap not e) ∙ o))
      step behind true false e inside o = behind o
      step behind false true e inside o = (λ i. first_owner w p (sym inside i) (owner_among (map (layered_window look) (except t ws)) p)) ∙ sym (owner_first look w (except t ws) p)
      step behind false false e inside o = behind o ∙ (λ i. first_owner w p (sym inside i) (owner_among (map (layered_window look) (except t ws)) p)) ∙ sym (owner_first look w (except t ws) p)

  -- a window whose structure has not the pixel does not own it
  pub free : (ws : List WindowRecord) → All (IsClear t p) (map stand_of ws) → is_other t (owner_among (map (layered_window look) ws) p) ≡ true
  free [] all = refl
  free (w ∷ ws) all = ap (is_other t) (owner_first look w ws p) ∙ step (free ws (All-tail (IsClear t p) (stand_of w) (map stand_of ws) all)) (t == w.serial) (layers.in_structure (layered_window look w) p) refl refl
    where
      rest : Owner
      rest = owner_among (map (layered_window look) ws) p

      step : is_other t rest ≡ true → (b c : Bool) → (t == w.serial) ≡ b → layers.in_structure (layered_window look w) p ≡ c → is_other t (first_owner w p c rest) ≡ true
      step behind b false e inside = behind
      step behind true true e inside = absurd (false≢true (sym (All-head (IsClear t p) (stand_of w) (map stand_of ws) all e) ∙ inside))
      step behind false true e inside = own_test t w.serial (part_at w.layers (minus p w.place)) (w.definition.content w.size (minus p w.place)) ∙ ap not e

-- the owner that a window gives a pixel, by where it stands and its layers
abbrev by_stand : Point → Stand → List Layer → Owner → Owner
by_stand p s ls behind =
    if s.shown && s.structure (minus p s.place) then (if s.content (minus p s.place) then Content s.serial (part_at ls (minus p s.place)) else Frame s.serial) else behind

-- windows that stand alike and have the same layers own the same pixels
pub same_owners : (look other : Look) (p : Point) (ws vs : List WindowRecord) → map stand_of ws ≡ map stand_of vs → map (λ (w : WindowRecord). w.layers) ws ≡ map (λ (w : WindowRecord). w.layers) vs
    → owner_among (map (layered_window look) ws) p ≡ owner_among (map (layered_window other) vs) p
same_owners look other p [] [] stands its = refl
same_owners look other p (w ∷ ws) (v ∷ vs) stands its =
    let two = heads_and_tails stands its in
    owner_first look w ws p ∙ (λ i. by_stand p (two.0 i) (two.1 i) (same_owners look other p ws vs two.2 two.3 i)) ∙ sym (owner_first other v vs p)
  where
    heads_and_tails : map stand_of (w ∷ ws) ≡ map stand_of (v ∷ vs) → map (λ (u : WindowRecord). u.layers) (w ∷ ws) ≡ map (λ (u : WindowRecord). u.layers) (v ∷ vs)
        → (stand_of w ≡ stand_of v) × (w.layers ≡ v.layers) × (map stand_of ws ≡ map stand_of vs) × (map (λ (u : WindowRecord). u.layers) ws ≡ map (λ (u : WindowRecord). u.layers) vs)
    heads_and_tails e f = (cc, cc, cc, cc)
same_owners look other p [] (v ∷ vs) stands its = absurd (cc)
same_owners look other p (w ∷ ws) [] stands its = absurd (cc)

-- ---- all windows but one

-- windows that stand alike stand alike without those of a number
pub others_alike : (t : ℕ) (ws vs : List WindowRecord) → map stand_of ws ≡ map stand_of vs → map (λ (w : WindowRecord). w.layers) ws ≡ map (λ (w : WindowRecord). w.layers) vs → SameOthers t ws vs
others_alike t [] [] stands its = record { stands = refl; layers = refl }
others_alike t (w ∷ ws) (v ∷ vs) stands its = by_test (others_alike t ws vs (cc) (cc)) (t == w.serial) refl
  where
    head : stand_of w ≡ stand_of v
    head = cc

    its_layers : w.layers ≡ v.layers
    its_layers = cc

    by_test : SameOthers t ws vs → (b : Bool) → (t == w.serial) ≡ b → SameOthers t (w ∷ ws) (v ∷ vs)
    by_test rest true e =
        let f : (t == v.serial) ≡ true = (λ i. t == (sym head i).serial) ∙ e in
        record {
          stands = (λ i. map stand_of (if e i then except t ws else w ∷ except t ws)) ∙ rest.stands ∙ sym (λ i. map stand_of (if f i then except t vs else v ∷ except t vs));
          layers = (λ i. map (λ (u : WindowRecord). u.layers) (if e i then except t ws else w ∷ except t ws)) ∙ rest.layers ∙ sym (λ i. map (λ (u : WindowRecord). u.layers) (if f i then except t vs else v ∷ except t vs));
        }
    by_test rest false e =
        let f : (t == v.serial) ≡ false = (λ i. t == (sym head i).serial) ∙ e in
        record {
          stands = (λ i. map stand_of (if e i then except t ws else w ∷ except t ws)) ∙ (λ i. head i ∷ rest.stands i) ∙ sym (λ i. map stand_of (if f i then except t vs else v ∷ except t vs));
          layers = (λ i. map (λ (u : WindowRecord). u.layers) (if e i then except t ws else w ∷ except t ws)) ∙ (λ i. its_layers i ∷ rest.layers i) ∙ sym (λ i. map (λ (u : WindowRecord). u.layers) (if f i then except t vs else v ∷ except t vs));
        }
others_alike t [] (v ∷ vs) stands its = absurd (cc)
others_alike t (w ∷ ws) [] stands its = absurd (cc)

-- and so do those that are alike to the same others
pub others_then : (t : ℕ) (ws vs us : List WindowRecord) → SameOthers t ws vs → SameOthers t vs us → SameOthers t ws us
others_then t ws vs us first second = record { stands = first.stands ∙ second.stands; layers = first.layers ∙ second.layers }

-- ---- the changed area

-- what is neither of a window's content nor of its frame is none of its layers
other_from : (t : ℕ) (o : Owner) → is_content_of t o ≡ false → same_owner o (Frame t) ≡ false → is_other t o ≡ true
other_from t Desktop e f = refl
other_from t Bar e f = refl
other_from t (Frame s) e f = grind (arith, nat_tests)
other_from t (Content s part) e f = grind (arith, nat_tests)

-- where one window is put anew, or is gone or new, pixels change their owner alone where it was and where it is to be
pub changed_area : (look other : Look) (before : State) (after : LayeredDesk) (were are : List WindowRecord) (t : ℕ) (old : Area) (gray changed : Pixels) (covers : PixelSet)
    → before.desk.windows ≡ map (layered_window other) were → after.windows ≡ map (layered_window look) are
    → before.desk.width ≡ after.width → before.desk.height ≡ after.height → before.desk.bar ≡ after.bar
    → SameOthers t were are → IsArea before.desk before.stale t old → IsGray after gray
    → ((p : Point) → covers p ≡ false → All (IsClear t p) (map stand_of are))
    → ((p : Point) → holds changed p ≡ (((holds old.visible p || holds old.frame p) || covers p) && holds gray p))
    → IsChangedArea before.desk after changed
changed_area look other before after were are t old gray changed covers were_is are_is wide high bars others had gray_is covered changed_is = record {
  screen = screen;
  within = λ p e. sym (gray_is p) ∙ (and_parts _ (holds gray p) (sym (changed_is p) ∙ e)).1;
  outside = λ p e on. by_bar p e on (layers.in_bar after p) refl;
}
  where
    screen : (p : Point) → layers.on_screen before.desk p ≡ layers.on_screen after p
    screen p = λ i. between (pos 0) p.h (wide i) && between (pos 0) p.v (high i)

    none : (x g : Bool) → (x && g) ≡ false → g ≡ true → x ≡ false
    none true true e f = e
    none true false e f = absurd (false≢true f)
    none false g e f = refl

    or_none : (x y : Bool) → (x || y) ≡ false → (x ≡ false) × (y ≡ false)
    or_none true y e = absurd (false≢true (sym e))
    or_none false y e = (refl, e)

    not_its : (b x : Bool) → b ≡ true → (b && x) ≡ false → x ≡ false
    not_its true x e f = f
    not_its false x e f = absurd (false≢true e)

    by_bar : (p : Point) → holds changed p ≡ false → layers.on_screen after p ≡ true → (b : Bool) → layers.in_bar after p ≡ b → owner after p ≡ owner before.desk p
    by_bar p e on true bar = (λ i. if bar i then Bar else owner_among after.windows p) ∙ sym (λ i. if ((λ k. int_lt p.v (bars k)) ∙ bar) i then Bar else owner_among before.desk.windows p)
    by_bar p e on false bar =
        let is_gray : holds gray p ≡ true = gray_is p ∙ (λ i. on i && not (bar i)) in
        let nowhere = or_none (holds old.visible p || holds old.frame p) (covers p) (none _ (holds gray p) (sym (changed_is p) ∙ e) is_gray) in
        let had_none = or_none (holds old.visible p) (holds old.frame p) nowhere.0 in
        let was_on : layers.on_screen before.desk p ≡ true = screen p ∙ on in
        let below : layers.in_bar before.desk p ≡ false = (λ k. int_lt p.v (bars k)) ∙ bar in
        let was : owner before.desk p ≡ owner_among (map (layered_window other) were) p = (λ i. if below i then Bar else owner_among (were_is i) p) in
        let is : owner after p ≡ owner_among (map (layered_window look) are) p = (λ i. if bar i then Bar else owner_among (are_is i) p) in
        let was_other : is_other t (owner before.desk p) ≡ true =
        other_from t (owner before.desk p)
        (not_its (layers.on_screen before.desk p) _ was_on (sym (had.visible p) ∙ had_none.0))
        (not_its (layers.on_screen before.desk p) _ was_on (sym (had.frame p) ∙ had_none.1)) in
        is
        ∙ unowned t look p are (free t look p are (covered p nowhere.1))
        ∙ sym (same_owners other look p (except t were) (except t are) others.stands others.layers)
        ∙ sym (unowned t other p were (ap (is_other t) (sym was) ∙ was_other))
        ∙ sym was
