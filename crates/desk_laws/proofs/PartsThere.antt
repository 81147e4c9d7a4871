-- Whose the pixels of a window's content are, by its layers, and desks whose owners are related.
use Rattle.std.proofs.Common.{◌≡◌, ℕ, zero, suc, Bool, true, false, not, ◌==◌, ◌&&◌, cond, if◌then◌else◌, List, [], ◌∷◌, map, Option, None, Some, refl, sym, ap, ◌∙◌, subst, eqb-true}
use Rattle.std.specs.Prelude.{All, int_lt, slice_get}
use Rattle.std.specs.List.{AllZip, remove}
use Rattle.std.specs.Option.{option_map_or}
use Rattle.std.proofs.lemmas.Bool.{false≢true}
use Rattle.std.proofs.lemmas.List.Elements.{All-cons, All-head, All-nil, All-tail}
use Rattle.tb_geom.specs.declared.point.Point.{Point}
use Rattle.tb_geom.specs.Points.{PixelSet, minus}
use Rattle.desk_layers.specs.declared.part.Part.{Part}
use Rattle.desk_layers.specs.declared.part.Part.TheVariants as part
use Rattle.desk_layers.specs.Desk as layers
use Rattle.desk_layers.specs.Desk.{on_screen}
use Rattle.desk_layers.specs.Owner.{Owner, is_content, owner, owner_among, same_owner}
use Rattle.desk_layers.specs.Owner.Owner.{Bar, Content, Desktop, Frame}
use Rattle.desk_layers.proofs.Owning.{same_number, same_part-self}
use Rattle.window_items.specs.Items.{items_of}
use Rattle.window_list.specs.declared.layer.Layer.{Layer}
use Rattle.window_list.specs.Holders.{layer_has, layer_index, part_at}
use Rattle.window_list.proofs.Found.{found_low, found_part}
use Rattle.desk_call.specs.declared.update.LayerKind.TheVariants.{Controls}
use Rattle.window_paint.specs.Kinds.{is_of}
use Rattle.vis_update.specs.Records.{Look, WindowRecord, layered_window}
use Rattle.vis_update.specs.Relayings.{with_layers_of}
use Rattle.vis_update.proofs.LayerOwners.{first_owner, owner_first}
use Rattle.window_mgr.specs.Finding.{record_with}
use Rattle.window_mgr.specs.FullDesk.{FullDesk, layered_desk, look_of}
use Rattle.control_mgr.specs.ControlDesks.{ControlDesk, ControlRecord}
use Rattle.control_mgr.specs.ControlSteps.{AreControlsLaid, AreLayersOf, behind_controls}
use Rattle.control_mgr.proofs.ControlBits.{at_serial}
use Rattle.control_mgr.proofs.Places.{read_is, there_is}
use Rattle.list_mgr.specs.ListSteps.{with_last, without_part}

-- ---- the part at a point

abbrev pub is_part : ℕ → Part → Owner → Bool
is_part window its o = same_owner o (Content window its)

-- the owner is no such part, where the window has none
pub no_part : (window s : ℕ) (its p : Part) → (window ≡ s → layers.same_part p its ≡ false) → is_part window its (Content s p) ≡ false
no_part window s its p none = by_window (s == window) refl
  where
    by_window : (b : Bool) → (s == window) ≡ b → (b && layers.same_part p its) ≡ false
    by_window true e = none (sym (eqb-true s window e))
    by_window false e = refl

-- in the window itself it is another part
pub other_part : (window : ℕ) (its p : Part) → is_part window its (Content window p) ≡ false → layers.same_part p its ≡ false
other_part window its p other = sym (ap (λ b. b && layers.same_part p its) (same_number window)) ∙ other

abbrev pub control_has : ControlRecord → PixelSet
control_has c p = c.kept.shown && c.kept.definition.definition.region c.kept.size (minus p c.kept.place)

-- that of the first of these controls that has the point, or this behind them
abbrev pub first_control : List ControlRecord → Point → Part → Part
first_control [] p behind = behind
first_control (c ∷ cs) p behind = if control_has c p then part.Control c.serial else first_control cs p behind

-- where no layer is a control's, all are behind the controls
none_before : (ks : List Layer) → All (λ (k : Layer). is_of Controls k.part ≡ false) ks → behind_controls ks ≡ ks
none_before [] none = refl
none_before (k ∷ ks) none =
    let first : is_of Controls k.part ≡ false = All-head (λ (x : Layer). is_of Controls x.part ≡ false) k ks none in
    let rest = none_before ks (All-tail (λ (x : Layer). is_of Controls x.part ≡ false) k ks none) in
    λ i. if not (first i) then k ∷ rest i else rest i

-- the part of layers at a point, by the controls in front of the others
pub of_controls : (cs : List ControlRecord) (ks : List Layer) → AreLayersOf cs ks → (p : Point) → part_at ks p ≡ first_control cs p (part_at (behind_controls ks) p)
of_controls [] ks its p = ap (λ x. part_at x p) (sym (none_before ks its))
of_controls (c ∷ cs) [] its p = absurd its
of_controls (c ∷ cs) (k ∷ ks) its p =
    let behind : behind_controls (k ∷ ks) ≡ behind_controls ks = λ i. if not (ap (is_of Controls) its.0.part i) then k ∷ behind_controls ks else behind_controls ks in
    (λ i. if its.0.shown i && its.0.region p i then its.0.part i else of_controls cs ks its.1 p i)
    ∙ ap (λ x. if control_has c p then part.Control c.serial else first_control cs p (part_at x p)) (sym behind)

-- so of the layers of the window of this serial
pub window_part : (s : ℕ) (cs : List ControlRecord) (ws : List WindowRecord) (w : WindowRecord) → All (λ v. AreLayersOf (items_of v.serial cs) v.layers) ws → record_with s ws ≡ Some w → (q : Point)
    → part_at w.layers q ≡ first_control (items_of s cs) q (part_at (behind_controls w.layers) q)
window_part s cs ws w joined found q =
    let its = at_serial (λ v. AreLayersOf (items_of v.serial cs) v.layers) s ws w found joined in
    of_controls (items_of s cs) w.layers (subst (λ k. AreLayersOf (items_of k cs) w.layers) its.1 its.0) q

-- and of those that it has then
pub laid_part : (s : ℕ) (afresh : Option Part) (before after : ControlDesk) (laid : AreControlsLaid s afresh before after) (w : WindowRecord) → record_with s before.desk.windows.desk.windows ≡ Some w → (q : Point)
    → part_at laid.layers q ≡ first_control (items_of s after.controls.controls) q (part_at (behind_controls w.layers) q)
laid_part s afresh before after laid w found q =
    of_controls (items_of s after.controls.controls) laid.layers laid.joined q
    ∙ ap (λ ks. first_control (items_of s after.controls.controls) q (part_at ks q)) (laid.others w found)

-- no control lies behind the controls
pub no_control_behind : (n : ℕ) (q : Point) (ks : List Layer) → layers.same_part (part_at (behind_controls ks) q) (part.Control n) ≡ false
no_control_behind n q [] = refl
no_control_behind n q (k ∷ ks) = by_kind (is_of Controls k.part) refl (no_control_behind n q ks)
  where
    other : (l : Part) → is_of Controls l ≡ false → layers.same_part l (part.Control n) ≡ false
    other part.Picture e = refl
    other (part.Control m) e = absurd (false≢true (sym e))
    other (part.List m) e = refl
    other (part.Text m) e = refl

    by_point : (h : Bool) → is_of Controls k.part ≡ false → layers.same_part (part_at (behind_controls ks) q) (part.Control n) ≡ false
        → layers.same_part (if h then k.part else part_at (behind_controls ks) q) (part.Control n) ≡ false
    by_point true e rest = other k.part e
    by_point false e rest = rest

    by_kind : (b : Bool) → is_of Controls k.part ≡ b → layers.same_part (part_at (behind_controls ks) q) (part.Control n) ≡ false
        → layers.same_part (part_at (if not b then k ∷ behind_controls ks else behind_controls ks) q) (part.Control n) ≡ false
    by_kind true e rest = rest
    by_kind false e rest = by_point (layer_has k q) e rest

-- ---- a layer more, and one less

-- one layer more behind the others: another part has what it had
pub last_part : (l : Layer) (its : Part) (q : Point) → l.part ≡ its → (ks : List Layer) → layers.same_part (part_at (with_last l ks) q) its ≡ false → part_at ks q ≡ part_at (with_last l ks) q
last_part l its q is [] other = by_point (layer_has l q) other
  where
    by_point : (h : Bool) → layers.same_part (if h then l.part else part.Picture) its ≡ false → part.Picture ≡ (if h then l.part else part.Picture)
    by_point true other = absurd (false≢true (sym other ∙ ap (λ p. layers.same_part p its) is ∙ same_part-self its))
    by_point false other = refl
last_part l its q is (k ∷ ks) other = by_point (layer_has k q) (last_part l its q is ks) other
  where
    by_point : (h : Bool) → (layers.same_part (part_at (with_last l ks) q) its ≡ false → part_at ks q ≡ part_at (with_last l ks) q)
        → layers.same_part (if h then k.part else part_at (with_last l ks) q) its ≡ false
        → (if h then k.part else part_at ks q) ≡ (if h then k.part else part_at (with_last l ks) q)
    by_point true rest other = refl
    by_point false rest other = rest other

-- where a layer is taken out, another part has what it had
part_removed : (its : Part) (q : Point) (i : ℕ) (ks : List Layer) (l : Layer) → slice_get ks i ≡ Some l → l.part ≡ its → layers.same_part (part_at ks q) its ≡ false → part_at ks q ≡ part_at (remove ks i) q
part_removed its q i [] l there is other = absurd (cc)
part_removed its q zero (k ∷ ks) l there is other = by_point (layer_has k q) other
  where
    same : k ≡ l
    same = cc

    by_point : (h : Bool) → layers.same_part (if h then k.part else part_at ks q) its ≡ false → (if h then k.part else part_at ks q) ≡ part_at ks q
    by_point true other = absurd (false≢true (sym other ∙ ap (λ p. layers.same_part p its) (ap (λ (x : Layer). x.part) same ∙ is) ∙ same_part-self its))
    by_point false other = refl
part_removed its q (suc i) (k ∷ ks) l there is other = by_point (layer_has k q) (part_removed its q i ks l there is) other
  where
    by_point : (h : Bool) → (layers.same_part (part_at ks q) its ≡ false → part_at ks q ≡ part_at (remove ks i) q)
        → layers.same_part (if h then k.part else part_at ks q) its ≡ false
        → (if h then k.part else part_at ks q) ≡ (if h then k.part else part_at (remove ks i) q)
    by_point true rest other = refl
    by_point false rest other = rest other

-- where the layer of a part is taken out, another part has what it had
pub gone_part : (its : Part) (q : Point) (ks : List Layer) → layers.same_part (part_at ks q) its ≡ false → part_at ks q ≡ part_at (without_part its ks) q
gone_part its q ks other = by_place (layer_index its ks) refl
  where
    by_place : (o : Option ℕ) → layer_index its ks ≡ o → part_at ks q ≡ part_at (option_map_or (λ i. remove ks i) o ks) q
    by_place None e = refl
    by_place (Some i) e =
        let l = there_is ks i (found_low its ks i e) in
        part_removed its q i ks l.item l.there (found_part its ks i e l.item (read_is ks i l.item l.there)) other

-- ---- owners that are related

-- `R` relates the owner of a pixel on one desk to that on another, and each that is no content to itself
module _ (R : Owner → Owner → Type 0) (itself : (o : Owner) → is_content o ≡ false → R o o) (look other : Look) (p : Point) where
  -- two windows have the pixel alike, but for the parts of their contents, which are related
  pub record IsAlike (w v : WindowRecord) : Type 0 where
    pub inside : layers.in_structure (layered_window look w) p ≡ layers.in_structure (layered_window other v) p
    pub content : w.definition.content w.size (minus p w.place) ≡ v.definition.content v.size (minus p v.place)
    pub serial : w.serial ≡ v.serial
    pub part : R (Content w.serial (part_at w.layers (minus p w.place))) (Content v.serial (part_at v.layers (minus p v.place)))

  first_related : (w v : WindowRecord) (b c : Bool) (o q : Owner) → w.serial ≡ v.serial → R (Content w.serial (part_at w.layers (minus p w.place))) (Content v.serial (part_at v.layers (minus p v.place))) → R o q
      → R (if b then (if c then Content w.serial (part_at w.layers (minus p w.place)) else Frame w.serial) else o) (if b then (if c then Content v.serial (part_at v.layers (minus p v.place)) else Frame v.serial) else q)
  first_related w v true true o q serial its rest = its
  first_related w v true false o q serial its rest = subst (λ n. R (Frame w.serial) (Frame n)) serial (itself (Frame w.serial) refl)
  first_related w v false c o q serial its rest = rest

  one_related : (w v : WindowRecord) (o q : Owner) → IsAlike w v → R o q
      → R (first_owner w p (layers.in_structure (layered_window look w) p) o) (first_owner v p (layers.in_structure (layered_window other v) p) q)
  one_related w v o q alike rest =
      subst (λ (x : Bool × Bool). R (first_owner w p (layers.in_structure (layered_window look w) p) o) (if x.0 then (if x.1 then Content v.serial (part_at v.layers (minus p v.place)) else Frame v.serial) else q))
      (λ i. (alike.inside i, alike.content i))
      (first_related w v (layers.in_structure (layered_window look w) p) (w.definition.content w.size (minus p w.place)) o q alike.serial alike.part rest)

  pub related_among : (ws vs : List WindowRecord) → AllZip IsAlike ws vs → R (owner_among (map (layered_window look) ws) p) (owner_among (map (layered_window other) vs) p)
  related_among [] [] alike = itself Desktop refl
  related_among [] (v ∷ vs) alike = absurd alike
  related_among (w ∷ ws) [] alike = absurd alike
  related_among (w ∷ ws) (v ∷ vs) alike =
      subst (λ (x : Owner × Owner). R x.0 x.1) (λ i. (sym (owner_first look w ws p) i, sym (owner_first other v vs p) i))
      (one_related w v (owner_among (map (layered_window look) ws) p) (owner_among (map (layered_window other) vs) p) alike.0 (related_among ws vs alike.1))

-- so on desks with menu bars as high
pub related_owners : (R : Owner → Owner → Type 0) (itself : (o : Owner) → is_content o ≡ false → R o o) (d e : FullDesk) (p : Point) → e.bar.rows ≡ d.bar.rows
    → AllZip (IsAlike R itself (look_of d) (look_of e) p) d.windows e.windows → R (owner (layered_desk d) p) (owner (layered_desk e) p)
related_owners R itself d e p rows alike =
    subst (λ bar. R (owner (layered_desk d) p) (if int_lt p.v bar then Bar else owner_among (map (layered_window (look_of e)) e.windows) p)) (sym rows)
    (by_bar (int_lt p.v d.bar.rows))
  where
    by_bar : (b : Bool) → R (if b then Bar else owner_among (map (layered_window (look_of d)) d.windows) p) (if b then Bar else owner_among (map (layered_window (look_of e)) e.windows) p)
    by_bar true = itself Bar refl
    by_bar false = related_among R itself (look_of d) (look_of e) p d.windows e.windows alike

-- ---- a desk of which one window has other layers

-- the windows of this serial have these layers, and nothing else of the desk changed but what layers show
abbrev pub IsLaid : ℕ → List Layer → FullDesk → FullDesk → Type 0
IsLaid s ls d e = e ≡ record d { windows = map (with_layers_of s ls) d.windows; shows = e.shows }

-- what holds of each window of this serial, where no window has it
of_none : (P : WindowRecord → Type 0) (look : Look) (s : ℕ) (ws : List WindowRecord) → layers.window_of s (map (layered_window look) ws) ≡ None → All (λ w. w.serial ≡ s → P w) ws
of_none P look s [] none = All-nil (λ (w : WindowRecord). w.serial ≡ s → P w)
of_none P look s (w ∷ ws) none = by_test (w.serial == s) refl none (of_none P look s ws)
  where
    by_test : (b : Bool) → (w.serial == s) ≡ b → cond b (Some (layered_window look w)) (layers.window_of s (map (layered_window look) ws)) ≡ None
        → (layers.window_of s (map (layered_window look) ws) ≡ None → All (λ (x : WindowRecord). x.serial ≡ s → P x) ws) → All (λ (x : WindowRecord). x.serial ≡ s → P x) (w ∷ ws)
    by_test true e none rest = absurd (cc)
    by_test false e none rest = All-cons (λ (x : WindowRecord). x.serial ≡ s → P x) w ws (λ is. absurd (false≢true (sym e ∙ ap (λ n. n == s) is ∙ same_number s))) (rest none)

-- what holds of the window of this serial holds of each window that has it
of_serial : (P : WindowRecord → Type 0) (look : Look) (s : ℕ) (ws : List WindowRecord) → layers.AreWindows (map (layered_window look) ws) → ((w : WindowRecord) → record_with s ws ≡ Some w → P w) → All (λ w. w.serial ≡ s → P w) ws
of_serial P look s [] apart h = All-nil (λ (w : WindowRecord). w.serial ≡ s → P w)
of_serial P look s (w ∷ ws) apart h = by_test (w.serial == s) refl h (of_serial P look s ws apart.1.1)
  where
    by_test : (b : Bool) → (w.serial == s) ≡ b → ((x : WindowRecord) → cond b (Some w) (record_with s ws) ≡ Some x → P x)
        → (((x : WindowRecord) → record_with s ws ≡ Some x → P x) → All (λ (x : WindowRecord). x.serial ≡ s → P x) ws) → All (λ (x : WindowRecord). x.serial ≡ s → P x) (w ∷ ws)
    by_test true e h rest =
        All-cons (λ (x : WindowRecord). x.serial ≡ s → P x) w ws (λ is. h w refl)
        (of_none P look s ws (ap (λ n. layers.window_of n (map (layered_window look) ws)) (sym (eqb-true w.serial s e)) ∙ apart.0))
    by_test false e h rest =
        All-cons (λ (x : WindowRecord). x.serial ≡ s → P x) w ws (λ is. absurd (false≢true (sym e ∙ ap (λ n. n == s) is ∙ same_number s))) (rest h)

-- the parts of the window are related to those of these layers
abbrev pub HasRelated : (Owner → Owner → Type 0) → ℕ → List Layer → WindowRecord → Type 0
HasRelated R s ls w = (q : Point) → R (Content s (part_at w.layers q)) (Content s (part_at ls q))

module _ (R : Owner → Owner → Type 0) (itself : (o : Owner) → R o o) (look other : Look) (p : Point) (s : ℕ) (ls : List Layer) where
  one_laid : (w : WindowRecord) (b : Bool) → (w.serial == s) ≡ b → (w.serial ≡ s → HasRelated R s ls w) → IsAlike R (λ o e. itself o) look other p w (cond b (record w { layers = ls }) w)
  one_laid w true e related = record {
    inside = refl;
    content = refl;
    serial = refl;
    part = let is = eqb-true w.serial s e in
        subst (λ n. R (Content n (part_at w.layers (minus p w.place))) (Content n (part_at ls (minus p w.place)))) (sym is) (related is (minus p w.place));
  }
  one_laid w false e related = record { inside = refl; content = refl; serial = refl; part = itself (Content w.serial (part_at w.layers (minus p w.place))) }

  alike_laid : (ws : List WindowRecord) → All (λ w. w.serial ≡ s → HasRelated R s ls w) ws → AllZip (IsAlike R (λ o e. itself o) look other p) ws (map (with_layers_of s ls) ws)
  alike_laid [] related = tt
  alike_laid (w ∷ ws) related = (
    one_laid w (w.serial == s) refl (All-head (λ (x : WindowRecord). x.serial ≡ s → HasRelated R s ls x) w ws related),
    alike_laid ws (All-tail (λ (x : WindowRecord). x.serial ≡ s → HasRelated R s ls x) w ws related),
  )

-- a relation of owners, by how the parts of the window are related
pub owners_laid : (R : Owner → Owner → Type 0) → ((o : Owner) → R o o) → (s : ℕ) (ls : List Layer) (d e : FullDesk) → layers.IsDesk (layered_desk d) → IsLaid s ls d e
    → ((w : WindowRecord) → record_with s d.windows ≡ Some w → HasRelated R s ls w) → (p : Point) → R (owner (layered_desk d) p) (owner (layered_desk e) p)
owners_laid R itself s ls d e apart laid related p =
    related_owners R (λ o f. itself o) d e p (ap (λ (x : FullDesk). x.bar.rows) laid)
    (subst (AllZip (IsAlike R (λ o f. itself o) (look_of d) (look_of e) p) d.windows) (sym (ap (λ (x : FullDesk). x.windows) laid))
    (alike_laid R itself (look_of d) (look_of e) p s ls d.windows (of_serial (HasRelated R s ls) (look_of d) s d.windows apart related)))

pub same_screen : (s : ℕ) (ls : List Layer) (d e : FullDesk) → IsLaid s ls d e → (p : Point) → on_screen (layered_desk d) p ≡ on_screen (layered_desk e) p
same_screen s ls d e laid p = sym (ap (λ (x : FullDesk). on_screen (layered_desk x) p) laid)

-- ---- what holds of each owner

-- the parts of the window are such owners
abbrev pub HasSuch : (Owner → Type 0) → WindowRecord → Type 0
HasSuch P w = (q : Point) → P (Content w.serial (part_at w.layers q))

-- each owner of a pixel is such a one, where the parts of each window are
pub owners_are : (P : Owner → Type 0) → ((o : Owner) → is_content o ≡ false → P o) → (d : FullDesk) → All (HasSuch P) d.windows → (p : Point) → P (owner (layered_desk d) p)
owners_are P plain d such p = related_owners (λ o q. P q) plain d d p refl (alike d.windows such)
  where
    alike : (ws : List WindowRecord) → All (HasSuch P) ws → AllZip (IsAlike (λ o q. P q) plain (look_of d) (look_of d) p) ws ws
    alike [] such = tt
    alike (w ∷ ws) such = (
      record { inside = refl; content = refl; serial = refl; part = All-head (HasSuch P) w ws such (minus p w.place) },
      alike ws (All-tail (HasSuch P) w ws such),
    )

-- none that is no content is a part of a window
pub plain_part : (window : ℕ) (its : Part) (o : Owner) → is_content o ≡ false → is_part window its o ≡ false
plain_part window its Desktop e = refl
plain_part window its Bar e = refl
plain_part window its (Frame s) e = refl
plain_part window its (Content s q) e = absurd (false≢true (sym e))
