-- The update regions after a call are what it makes stale.
use Rattle.std.proofs.Common.{◌≡◌, ℕ, ◌==◌, Bool, true, false, not, ◌&&◌, ◌||◌, if◌then◌else◌, List, [], ◌∷◌, map, refl, sym, ap, ◌∙◌, subst}
use Rattle.std.specs.List.{list_any}
use Rattle.std.proofs.lemmas.Bool.{and_parts}
use Rattle.tb_geom.specs.declared.point.Point.{Point}
use Rattle.tb_geom.specs.Points.{PixelSet, minus}
use Rattle.tb_geom.specs.Pixels.{holds}
use Rattle.desk_layers.specs.Desk as layers
use Rattle.desk_layers.specs.Desk.{LayeredDesk}
use Rattle.desk_layers.specs.Owner.{Owner, owner, owner_among, is_content}
use Rattle.desk_layers.specs.Owner.Owner.{Desktop, Bar, Frame, Content}
use Rattle.desk_layers.specs.Change.{Change, State, stale_by}
use Rattle.desk_layers.proofs.Owning.{same_number}
use Rattle.vis_update.specs.declared.area.Area.{Area}
use Rattle.window_list.specs.Holders.{part_at}
use Rattle.vis_update.specs.Records.{WindowRecord, Look, layered_window}
use Rattle.vis_update.specs.Areas.{stale_in}
use Rattle.vis_update.specs.Areas.{AreAreas, is_content_of}
use Rattle.vis_update.specs.Plans.{AreAreasAfter}
use Rattle.vis_update.proofs.LayerOwners.{owner_first}

-- the owner is content of one of these windows
abbrev pub is_content_among : List WindowRecord → Owner → Bool
is_content_among ws o = list_any (λ w. is_content_of w.serial o) ws

no_content_among : (ws : List WindowRecord) (o : Owner) → is_content o ≡ false → is_content_among ws o ≡ false
no_content_among [] o e = refl
no_content_among (w ∷ ws) o e = λ i. not_its o e i || no_content_among ws o e i
  where
    not_its : (q : Owner) → is_content q ≡ false → is_content_of w.serial q ≡ false
    not_its Desktop f = refl
    not_its Bar f = refl
    not_its (Frame s) f = refl
    not_its (Content s part) f = absurd (cc)

-- content that owns a pixel is that of one of the windows
content_among : (look : Look) (ws : List WindowRecord) (p : Point) → is_content_among ws (owner_among (map (layered_window look) ws) p) ≡ is_content (owner_among (map (layered_window look) ws) p)
content_among look [] p = refl
content_among look (w ∷ ws) p =
    ap (is_content_among (w ∷ ws)) (owner_first look w ws p)
    ∙ by_structure (content_among look ws p) (layers.in_structure (layered_window look w) p) (w.definition.content w.size (minus p w.place))
    ∙ sym (ap is_content (owner_first look w ws p))
  where
    first_or : (n : ℕ) (u : Owner) (b : Bool) → b ≡ is_content u → (is_content_of n u || b) ≡ is_content u
    first_or n Desktop b e = e
    first_or n Bar b e = e
    first_or n (Frame s) b e = e
    first_or n (Content s part) b e = ap (λ c. (s == n) || c) e ∙ or_true (s == n)
      where
        or_true : (c : Bool) → (c || true) ≡ true
        or_true true = refl
        or_true false = refl

    by_structure : is_content_among ws (owner_among (map (layered_window look) ws) p) ≡ is_content (owner_among (map (layered_window look) ws) p) → (b c : Bool) → is_content_among (w ∷ ws) (if b then (if c then Content w.serial (part_at w.layers (minus p w.place)) else Frame w.serial) else owner_among (map (layered_window look) ws) p) ≡ is_content (if b then (if c then Content w.serial (part_at w.layers (minus p w.place)) else Frame w.serial) else owner_among (map (layered_window look) ws) p)
    by_structure rest true true = ap (λ b. b || is_content_among ws (Content w.serial (part_at w.layers (minus p w.place)))) (same_number w.serial)
    by_structure rest true false = no_content_among ws (Frame w.serial) refl
    by_structure rest false c = first_or w.serial (owner_among (map (layered_window look) ws) p) _ rest

-- content that owns a pixel of a desk is that of one of its windows
pub content_is_among : (look : Look) (after : LayeredDesk) (ws : List WindowRecord) (p : Point) → after.windows ≡ map (layered_window look) ws → is_content_among ws (owner after p) ≡ is_content (owner after p)
content_is_among look after ws p windows = among (layers.in_bar after p)
  where
    among : (b : Bool) → is_content_among ws (if b then Bar else owner_among after.windows p) ≡ is_content (if b then Bar else owner_among after.windows p)
    among true = no_content_among ws Bar refl
    among false = subst (λ vs. is_content_among ws (owner_among vs p) ≡ is_content (owner_among vs p)) (sym windows) (content_among look ws p)

stale_among : (c : Change) (before : State) (after : LayeredDesk) (ws : List WindowRecord) (areas : List Area) (p : Point) → AreAreasAfter c before after ws areas → layers.on_screen after p ≡ true → stale_in areas p ≡ (is_content_among ws (owner after p) && stale_by c before (owner after p) p)
stale_among c before after [] [] p its on = refl
stale_among c before after (w ∷ ws) (a ∷ areas) p its on =
    (λ i. (its.0.update p ∙ ap (λ b. b && stale_by c before (owner after p) p) (its.0.visible p ∙ ap (λ b. b && is_content_of w.serial (owner after p)) on)) i || stale_among c before after ws areas p its.1 on i)
    ∙ shared (is_content_of w.serial (owner after p)) (is_content_among ws (owner after p)) (stale_by c before (owner after p) p)
  where
    shared : (x y t : Bool) → ((x && t) || (y && t)) ≡ ((x || y) && t)
    shared true true true = refl
    shared true false true = refl
    shared true true false = refl
    shared true false false = refl
    shared false y t = refl
stale_among c before after [] (a ∷ areas) p its on = absurd its
stale_among c before after (w ∷ ws) [] p its on = absurd its

-- the update regions are what a change makes stale
pub updated_is_stale : (look : Look) (c : Change) (before : State) (after : LayeredDesk) (ws : List WindowRecord) (areas : List Area) (p : Point) → after.windows ≡ map (layered_window look) ws → AreAreasAfter c before after ws areas → layers.on_screen after p ≡ true → stale_in areas p ≡ stale_by c before (owner after p) p
updated_is_stale look c before after ws areas p windows its on =
    stale_among c before after ws areas p its on
    ∙ ap (λ b. b && stale_by c before (owner after p) p) (content_is_among look after ws p windows)
    ∙ content_only (is_content (owner after p)) _
  where
    content_only : (c t : Bool) → (c && (if not c then false else t)) ≡ (if not c then false else t)
    content_only true t = refl
    content_only false t = refl

-- each window's area is right of what is in the update regions
areas_right : (c : Change) (before : State) (after : LayeredDesk) (stale : PixelSet) (ws : List WindowRecord) (areas : List Area) → ((p : Point) → layers.on_screen after p ≡ true → stale p ≡ stale_by c before (owner after p) p) → AreAreasAfter c before after ws areas → AreAreas after stale ws areas
areas_right c before after stale [] [] same its = tt
areas_right c before after stale (w ∷ ws) (a ∷ areas) same its = (
  record {
    visible = its.0.visible;
    update = λ p. its.0.update p ∙ by_visible p (holds a.visible p) refl;
    frame = its.0.frame;
  },
  areas_right c before after stale ws areas same its.1,
)
  where
    by_visible : (p : Point) (b : Bool) → holds a.visible p ≡ b → (b && stale_by c before (owner after p) p) ≡ (b && stale p)
    by_visible p true e = sym (same p (and_parts (layers.on_screen after p) (is_content_of w.serial (owner after p)) (sym (its.0.visible p) ∙ e)).0)
    by_visible p false e = refl
areas_right c before after stale [] (a ∷ areas) same its = absurd its
areas_right c before after stale (w ∷ ws) [] same its = absurd its

pub areas_are : (look : Look) (c : Change) (before : State) (after : LayeredDesk) (ws : List WindowRecord) (areas : List Area) → after.windows ≡ map (layered_window look) ws → AreAreasAfter c before after ws areas → AreAreas after (stale_in areas) ws areas
areas_are look c before after ws areas windows its = areas_right c before after (stale_in areas) ws areas (λ p on. updated_is_stale look c before after ws areas p windows its on) its
