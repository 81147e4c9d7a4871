-- Where pixels of content came from: which of them are stale, erased and copied.
use Rattle.std.proofs.Common.{◌≡◌, ℕ, ◌==◌, Bool, true, false, not, ◌&&◌, if◌then◌else◌, Option, None, Some, refl, sym, ap, ◌∙◌}
use Rattle.std.specs.Prelude.{is_some}
use Rattle.std.proofs.lemmas.Bool.{and_parts, eqb-true, false≢true}
use Rattle.tb_geom.specs.declared.point.Point.{Point}
use Rattle.tb_geom.specs.Points.{minus}
use Rattle.desk_layers.specs.Desk as layers
use Rattle.desk_layers.specs.Desk.{LayeredDesk}
use Rattle.desk_layers.specs.declared.part.Part.{Part}
use Rattle.desk_layers.specs.Owner.{Owner, owner, same_owner}
use Rattle.desk_layers.specs.Owner.Owner.{Desktop, Bar, Frame, Content}
use Rattle.desk_layers.specs.Change.{State, had, stale_by}
use Rattle.vis_update.specs.declared.plan.Touch.{Touch}
use Rattle.vis_update.specs.Areas.{is_content_of}
use Rattle.vis_update.specs.Touches.{change_of, way_of, came_from, moves, moved_from, KeepsLayers}
use Rattle.vis_update.proofs.Others.{content_of_one, same_layer}

-- v: the pixel is the window's content; h: it was before; t: and in the update set
pub kept_or_stale : (v h t : Bool) → (v && not (h && not (h && t))) ≡ (v && (if h then t else true))
kept_or_stale true true true = refl
kept_or_stale true true false = refl
kept_or_stale true false t = refl
kept_or_stale false h t = refl

-- where a layer of a window's content came from
part_source : (t : Touch) (n : ℕ) (part : Part) (p : Point) → moved_from t.window t.by (Content n part) p ≡ came_from (way_of t n) p
part_source t n part p = by_way t.by
  where
    by_test : (by : Point) (b : Bool) → (if b then minus p by else p) ≡ came_from (if b then Some by else None) p
    by_test by true = refl
    by_test by false = refl

    none : (b : Bool) → p ≡ came_from (if b then None else None) p
    none true = refl
    none false = refl

    by_way : (by : Option Point) → moved_from t.window by (Content n part) p ≡ came_from (if n == t.window then by else None) p
    by_way None = none (n == t.window)
    by_way (Some by) = by_test by (n == t.window)

-- and so an owner that is one
source_is : (t : Touch) (n : ℕ) (o : Owner) (p : Point) → is_content_of n o ≡ true → moved_from t.window t.by o p ≡ came_from (way_of t n) p
source_is t n Desktop p e = absurd (false≢true e)
source_is t n Bar p e = absurd (false≢true e)
source_is t n (Frame s) p e = absurd (false≢true e)
source_is t n (Content s part) p e = part_source t s part p ∙ ap (λ k. came_from (way_of t k) p) (eqb-true s n e)

-- what a window's content had before, wherever it moved from, each of its layers had
had_is : (t : Touch) (n : ℕ) (before after : LayeredDesk) (p : Point) → KeepsLayers t before after → is_content_of n (owner after p) ≡ true → let q = came_from (way_of t n) p in
    (layers.on_screen before q && is_content_of n (owner before q)) ≡ had (change_of t) before (owner after p) p
had_is t n before after p keeps its =
    ap (λ b. layers.on_screen before (came_from (way_of t n) p) && b) (same_layer n (owner before (came_from (way_of t n) p)) (owner after p) its (keeps n p its))
    ∙ ap (λ q. layers.on_screen before q && same_owner (owner before q) (owner after p)) (sym (source_is t n (owner after p) p its))

-- a pixel of the window's content is stale as the change has it
pub stale_is : (t : Touch) (n : ℕ) (before : State) (after : LayeredDesk) (p : Point) (v : Bool) → KeepsLayers t before.desk after → v ≡ (layers.on_screen after p && is_content_of n (owner after p)) → let q = came_from (way_of t n) p in
    (v && (if layers.on_screen before.desk q && is_content_of n (owner before.desk q) then before.stale q else true)) ≡ (v && stale_by (change_of t) before (owner after p) p)
stale_is t n before after p false keeps e = refl
stale_is t n before after p true keeps e =
    let its = (and_parts (layers.on_screen after p) _ (sym e)).1 in
    (λ i. if had_is t n before.desk after p keeps its i then before.stale (sym (source_is t n (owner after p) p its) i) else true)
    ∙ sym (ap (λ c. if not c then false else (if had (change_of t) before.desk (owner after p) p then before.stale (moved_from t.window t.by (owner after p) p) else true)) (content_of_one n (owner after p) its))

-- what of it is erased
pub erase_is : (t : Touch) (n : ℕ) (before after : LayeredDesk) (p : Point) (v : Bool) → KeepsLayers t before after → v ≡ (layers.on_screen after p && is_content_of n (owner after p)) → let q = came_from (way_of t n) p in
    (v && not (layers.on_screen before q && is_content_of n (owner before q))) ≡ (v && not (had (change_of t) before (owner after p) p))
erase_is t n before after p false keeps e = refl
erase_is t n before after p true keeps e = ap not (had_is t n before after p keeps (and_parts (layers.on_screen after p) _ (sym e)).1)

-- what of it is copied: on: the pixel is on the screen, c: it is the window's content, m: the window moves, h: it had it before
pub copied_is : (t : Touch) (n : ℕ) (o : Owner) (on h : Bool) → (is_some (way_of t n) && ((on && is_content_of n o) && not ((on && is_content_of n o) && not h))) ≡ (is_content_of n o && (on && (moves t o && h)))
copied_is t n Desktop on h = none (is_some (way_of t n)) on
  where
    none : (m on : Bool) → (m && ((on && false) && not ((on && false) && not h))) ≡ false
    none true true = refl
    none true false = refl
    none false on = refl
copied_is t n Bar on h = none (is_some (way_of t n)) on
  where
    none : (m on : Bool) → (m && ((on && false) && not ((on && false) && not h))) ≡ false
    none true true = refl
    none true false = refl
    none false on = refl
copied_is t n (Frame s) on h = none (is_some (way_of t n)) on
  where
    none : (m on : Bool) → (m && ((on && false) && not ((on && false) && not h))) ≡ false
    none true true = refl
    none true false = refl
    none false on = refl
copied_is t n (Content s part) on h = by_test (s == n) refl
  where
    table : (m on h : Bool) → (m && ((on && true) && not ((on && true) && not h))) ≡ (on && (m && h))
    table true true true = refl
    table true true false = refl
    table true false h = refl
    table false true h = refl
    table false false h = refl

    none : (m on : Bool) → (m && ((on && false) && not ((on && false) && not h))) ≡ false
    none true true = refl
    none true false = refl
    none false on = refl

    some : (b : Bool) (by : Option Point) → is_some (if b then by else None) ≡ (b && is_some by)
    some true by = refl
    some false by = refl

    by_test : (b : Bool) → (s == n) ≡ b → (is_some (way_of t n) && ((on && b) && not ((on && b) && not h))) ≡ (b && (on && ((s == t.window && is_some t.by) && h)))
    by_test true e = table (is_some (way_of t n)) on h ∙ ap (λ m. on && (m && h)) (some (n == t.window) t.by ∙ ap (λ k. k == t.window && is_some t.by) (sym (eqb-true s n e)))
    by_test false e = none (is_some (way_of t n)) on
