-- How each call arranges the windows: it puts one of them anew among the others.
use Rattle.std.proofs.Common.{◌≡◌, ℕ, suc, ◌==◌, Bool, true, false, if◌then◌else◌, List, [], ◌∷◌, map, Option, None, Some, refl, sym, ap, ◌∙◌, subst}
use Rattle.std.specs.Prelude.{is_none}
use Rattle.tb_geom.specs.declared.point.Point.{Point}
use Rattle.tb_geom.specs.declared.refusal.Refusal.{Refusal}
use Rattle.tb_geom.specs.declared.refusal.Refusal.TheVariants.{NoSuchWindow}
use Rattle.tb_geom.specs.Points.{minus}
use Rattle.desk_layers.specs.declared.part.Part.{Part}
use Rattle.desk_layers.specs.Desk as layers
use Rattle.desk_layers.specs.Owner.{content_bit, layer_bit}
use Rattle.desk_layers.specs.Owner.Owner.{Content}
use Rattle.desk_layers.proofs.Owning.{same_number}
use Rattle.window_list.specs.Classes.{front_place, back_place}
use Rattle.vis_update.specs.Records.{WindowRecord, Look, layered_window, is_floating}
use Rattle.vis_update.specs.Touches.{moved_from, came_from}
use Rattle.desk_call.specs.declared.window.WindowCall.{WindowCall}
use Rattle.desk_call.specs.declared.window.WindowCall.TheVariants.{Show, Hide, ShowHide, Select, BringToFront, SendBehind, Move, Size, Zoom, Scroll}
use Rattle.desk_call.specs.declared.window.MoveWindow.{MoveWindow}
use Rattle.desk_call.specs.declared.window.SendBehind as sending
use Rattle.def_iface.specs.WindowMeaning.{WindowDefinition}
use Rattle.window_mgr.specs.FullDesk.{FullDesk, FullState, layered_desk, look_of}
use Rattle.window_mgr.specs.Finding.{record_with}
use Rattle.window_mgr.specs.Arrange.{Arrangement, put_next, put_behind, behind_this, in_front, without, brought, changed, at_place, with_shown, with_placement, way_between, way_to, moved, placed}
use Rattle.desk_call.specs.declared.window.Zoom as directions
use Rattle.desk_call.specs.Parts.{zoom_of}
use Rattle.window_mgr.specs.Placings.{Placing, sized, zoomed_by, gone, zoom_target}
use Rattle.window_mgr.specs.Effects.{Effect, effect_of, places}
use Rattle.window_mgr.specs.Effects.Effect.{Makes, Disposes, Draws, Pictures, Scrolls, Arranges, Places, Tells, Describes}
use Rattle.window_mgr.specs.Refused.{IsRefusal}
use Rattle.window_mgr.proofs.LayerParts.{shown_alike}
use Rattle.window_mgr.proofs.PutIn.{put_in, put_is_insert, IsFree, IsPut, is_put, IsTakenOut, out_of, distinct_out}
use Rattle.window_mgr.proofs.Rearranged.{IsEdit}
use Rattle.window_mgr.proofs.Ways.{on_its_way, same_way}

-- ---- the words of the order, of a window that stands among others

module _ (look : Look) (s i : ℕ) (w : WindowRecord) (rest : List WindowRecord) (its : w.serial ≡ s) (free : IsFree look s rest) where
  put : IsPut look s i w rest
  put = is_put look s i w rest its free

  pub found_is : record_with s (put_in i w rest) ≡ Some w
  found_is = put.found

  pub brought_is : brought s (put_in i w rest) ≡ put_in (front_place is_floating w.floating rest) w rest
  brought_is = (λ k. in_front (put.found k) (put.others k)) ∙ sym (put_is_insert (front_place is_floating w.floating rest) w rest)

  pub changed_is : (f : WindowRecord → WindowRecord) → changed s f (put_in i w rest) ≡ put_in i (f w) rest
  changed_is f = put.changed_is f

  pub behind_is : (x : Option ℕ) → behind_this x (record_with s (put_in i w rest)) (without s (put_in i w rest)) ≡ put_behind x w rest
  behind_is x = λ k. behind_this x (put.found k) (put.others k)

-- the place behind a window of this serial, or behind all where there is none
abbrev pub place_next : ℕ → List WindowRecord → ℕ
place_next x [] = 0
place_next x (v ∷ vs) = if v.serial == x then 1 else suc (place_next x vs)

put_next_is : (x : ℕ) (w : WindowRecord) (rest : List WindowRecord) → put_next x w rest ≡ put_in (place_next x rest) w rest
put_next_is x w [] = refl
put_next_is x w (v ∷ vs) = by_test (v.serial == x) (put_next_is x w vs)
  where
    by_test : (b : Bool) → put_next x w vs ≡ put_in (place_next x vs) w vs → (if b then v ∷ w ∷ vs else v ∷ put_next x w vs) ≡ put_in (if b then 1 else suc (place_next x vs)) w (v ∷ vs)
    by_test true e = front w v vs
      where
        front : (a b : WindowRecord) (cs : List WindowRecord) → b ∷ a ∷ cs ≡ put_in 1 a (b ∷ cs)
        front a b [] = refl
        front a b (c ∷ cs) = refl
    by_test false e = ap (λ zs. v ∷ zs) e

-- the place behind a window of this serial, or at the back of the class
abbrev pub place_after : Option ℕ → Bool → List WindowRecord → ℕ
place_after None floating ws = back_place is_floating floating ws
place_after (Some x) floating ws = place_next x ws

pub put_behind_is : (x : Option ℕ) (w : WindowRecord) (rest : List WindowRecord) → put_behind x w rest ≡ put_in (place_after x w.floating rest) w rest
put_behind_is None w rest = sym (put_is_insert (back_place is_floating w.floating rest) w rest)
put_behind_is (Some x) w rest = put_next_is x w rest

-- ---- a sound arrangement

-- one window was put anew among the others, and its content moves as it does
pub record IsSoundArrangement (a : Arrangement) (desk : FullDesk) : Type 0 where
  pub old : WindowRecord
  pub new : WindowRecord
  pub place : ℕ
  pub to : ℕ
  pub rest : List WindowRecord
  pub edit : IsEdit desk a.window place to old new rest
  pub windows : a.windows ≡ put_in to new rest
  pub moves : (part : Part) (p : Point) → content_bit (Some (layered_window (look_of desk) old)) part (moved_from a.window a.by (Content a.window part) p) ≡ content_bit (Some (layered_window (look_of desk) new)) part p

-- the content of a window that is put elsewhere moves as it does
abbrev IsWay : Placing → WindowRecord → Type 0
IsWay p w = (q : Point) → minus (came_from p.by q) w.place ≡ minus q p.to.place

-- what an effect says of itself is enough, but of an arrangement, and of a window that is scrolled or put elsewhere: it is
-- there
abbrev pub IsSoundEffect : Effect → FullDesk → Type 0
IsSoundEffect (Arranges a) desk = IsSoundArrangement a desk
IsSoundEffect (Makes floating w) desk = Unit {0}
IsSoundEffect (Disposes s) desk = Unit {0}
IsSoundEffect (Draws d) desk = Unit {0}
IsSoundEffect (Pictures n) desk = Unit {0}
IsSoundEffect (Scrolls m) desk = (w : WindowRecord) × (record_with m.window desk.windows ≡ Some w)
IsSoundEffect (Places p) desk = (w : WindowRecord) × (record_with p.window desk.windows ≡ Some w) × IsWay p w
IsSoundEffect (Tells r) desk = Unit {0}
IsSoundEffect (Describes region) desk = Unit {0}

-- what is not missing is there
there_of : (b : Bool) (o : Option WindowRecord) (r : Option Refusal) → (if is_none o then Some NoSuchWindow else r) ≡ None → (w : WindowRecord) × (o ≡ Some w)
there_of b None r e = absurd (cc)
there_of b (Some w) r e = (w, refl)

module _ (desk : FullDesk) (distinct : layers.IsDesk (layered_desk desk)) (s : ℕ) (w : WindowRecord) (found : record_with s desk.windows ≡ Some w) where
  out : IsTakenOut s desk.windows w
  out = out_of s desk.windows w found

  free : IsFree (look_of desk) s out.rest
  free = subst (λ n. IsFree (look_of desk) n out.rest) out.serial (distinct_out (look_of desk) out.place w out.rest (subst (λ ws. layers.AreWindows (map (layered_window (look_of desk)) ws)) out.is distinct)).0

  edit : (j : ℕ) (v : WindowRecord) → v.serial ≡ w.serial → v.layers ≡ w.layers → IsEdit desk s out.place j w v out.rest
  edit j v same alike = record { windows = out.is; serial = out.serial; same_serial = same; same_layers = alike }

  -- a window that keeps its content where it is
  stays : (a : Arrangement) (j : ℕ) (v : WindowRecord) → a.window ≡ s → a.by ≡ None → v.serial ≡ w.serial → v.layers ≡ w.layers → a.windows ≡ put_in j v out.rest
      → ((part : Part) (p : Point) → content_bit (Some (layered_window (look_of desk) w)) part p ≡ content_bit (Some (layered_window (look_of desk) v)) part p) → IsSoundArrangement a desk
  stays a j v its still same alike windows content = record {
    old = w;
    new = v;
    place = out.place;
    to = j;
    rest = out.rest;
    edit = subst (λ n. IsEdit desk n out.place j w v out.rest) (sym its) (edit j v same alike);
    windows = windows;
    moves = λ part p. ap (λ by. content_bit (Some (layered_window (look_of desk) w)) part (moved_from a.window by (Content a.window part) p)) still ∙ content part p;
  }

  pub brought_sound : (a : Arrangement) → a.window ≡ s → a.by ≡ None → a.windows ≡ brought s desk.windows → IsSoundArrangement a desk
  brought_sound a its still windows = stays a (front_place is_floating w.floating out.rest) w its still refl refl (windows ∙ ap (brought s) out.is ∙ brought_is (look_of desk) s out.place w out.rest out.serial free) (λ part p. refl)

  pub shown_sound : (a : Arrangement) (shown : Bool) → a.window ≡ s → a.by ≡ None → a.windows ≡ changed s (with_shown shown) desk.windows → IsSoundArrangement a desk
  shown_sound a shown its still windows = stays a out.place (with_shown shown w) its still refl refl (windows ∙ ap (changed s (with_shown shown)) out.is ∙ changed_is (look_of desk) s out.place w out.rest out.serial free (with_shown shown)) (λ part p. refl)

  -- wherever it lies and whatever its size, the window's content has the same picture
  pub placed_sound : (p : Placing) (d : WindowDefinition) → p.window ≡ s → IsWay p w → IsSoundArrangement (placed p d desk.windows) desk
  placed_sound p d named way = record {
    old = w;
    new = with_placement p.to d w;
    place = out.place;
    to = out.place;
    rest = out.rest;
    edit = subst (λ n. IsEdit desk n out.place out.place w (with_placement p.to d w) out.rest) (sym named) (edit out.place (with_placement p.to d w) refl refl);
    windows = ap (λ n. changed n (with_placement p.to d) desk.windows) named ∙ ap (changed s (with_placement p.to d)) out.is ∙ changed_is (look_of desk) s out.place w out.rest out.serial free (with_placement p.to d);
    moves = came;
  }
    where
      from : (by : Option Point) (part : Part) (q : Point) → moved_from p.window by (Content p.window part) q ≡ came_from by q
      from None part q = refl
      from (Some by) part q = ap (λ b. if b then minus q by else q) (same_number p.window)

      came : (part : Part) (q : Point) → content_bit (Some (layered_window (look_of desk) w)) part (moved_from p.window p.by (Content p.window part) q) ≡ content_bit (Some (layered_window (look_of desk) (with_placement p.to d w))) part q
      came part q =
          ap (content_bit (Some (layered_window (look_of desk) w)) part) (from p.by part q)
          ∙ ap (λ local. layer_bit (layers.layer_of part (layered_window (look_of desk) w).layers) local) (way q)
          ∙ shown_alike (look_of desk) w (with_placement p.to d w) part (minus q p.to.place) (minus q p.to.place) refl (λ other. refl) (λ e. refl)

  pub sent_sound : (a : Arrangement) (b : sending.SendBehind) → b.window ≡ s → a.window ≡ s → a.by ≡ None → a.windows ≡ behind_this b.behind (record_with s desk.windows) (without s desk.windows) → IsSoundArrangement a desk
  sent_sound a b named its still windows = stays a (place_after b.behind w.floating out.rest) w its still refl refl
      (windows ∙ ap (λ ws. behind_this b.behind (record_with s ws) (without s ws)) out.is ∙ behind_is (look_of desk) s out.place w out.rest out.serial free b.behind ∙ put_behind_is b.behind w out.rest)
      (λ part p. refl)

  pub moved_sound : (m : MoveWindow) → m.window ≡ s → IsSoundArrangement (moved m desk.windows) desk
  moved_sound m named = by_select m.select refl
    where
      there : List WindowRecord
      there = changed m.window (at_place m.place) desk.windows

      there_is : there ≡ put_in out.place (at_place m.place w) out.rest
      there_is = ap (λ n. changed n (at_place m.place) desk.windows) named ∙ ap (changed s (at_place m.place)) out.is ∙ changed_is (look_of desk) s out.place w out.rest out.serial free (at_place m.place)

      way : (moved m desk.windows).by ≡ way_between w.place m.place
      way = ap (λ n. way_to m.place (record_with n desk.windows)) named ∙ ap (way_to m.place) found

      from : (by : Option Point) (part : Part) (p : Point) → moved_from m.window by (Content m.window part) p ≡ came_from by p
      from None part p = refl
      from (Some by) part p = ap (λ b. if b then minus p by else p) (same_number m.window)

      came : (part : Part) (p : Point) → content_bit (Some (layered_window (look_of desk) w)) part (moved_from m.window (moved m desk.windows).by (Content m.window part) p) ≡ content_bit (Some (layered_window (look_of desk) (at_place m.place w))) part p
      came part p =
          ap (content_bit (Some (layered_window (look_of desk) w)) part) (from (moved m desk.windows).by part p ∙ ap (λ by. came_from by p) way)
          ∙ ap (λ local. layer_bit (layers.layer_of part (layered_window (look_of desk) w).layers) local) (on_its_way w.place m.place p)

      windows_are : (b : Bool) → m.select ≡ b → (j : ℕ) × ((moved m desk.windows).windows ≡ put_in j (at_place m.place w) out.rest)
      windows_are true e = (front_place is_floating w.floating out.rest, ap (λ c. if c then brought m.window there else there) e ∙ (λ k. brought (named k) (there_is k)) ∙ brought_is (look_of desk) s out.place (at_place m.place w) out.rest out.serial free)
      windows_are false e = (out.place, ap (λ c. if c then brought m.window there else there) e ∙ there_is)

      by_select : (b : Bool) → m.select ≡ b → IsSoundArrangement (moved m desk.windows) desk
      by_select b e = record {
        old = w;
        new = at_place m.place w;
        place = out.place;
        to = (windows_are b e).0;
        rest = out.rest;
        edit = subst (λ n. IsEdit desk n out.place (windows_are b e).0 w (at_place m.place w) out.rest) (sym named) (edit (windows_are b e).0 (at_place m.place w) refl refl);
        windows = (windows_are b e).1;
        moves = came;
      }

-- a window that is sized stays where it is, and one that is zoomed moves as its content does
module _ (desk : FullDesk) (s : ℕ) (w : WindowRecord) (found : record_with s desk.windows ≡ Some w) where
  gone_sound : (o : _) → IsSoundEffect (places (gone s w o)) desk
  gone_sound None = tt
  gone_sound (Some to) = (w, found, λ q k. record { h = same_way q.h to.place.h w.place.h k; v = same_way q.v to.place.v w.place.v k })

  zoomed_sound : (o : Option directions.Zoom) → IsSoundEffect (places (zoomed_by o s (Some w) desk)) desk
  zoomed_sound None = tt
  zoomed_sound (Some zoom) = gone_sound (zoom_target zoom w.user_state desk w)

-- every call that nothing refuses has a sound effect
pub effect_is_sound : (call : WindowCall) (state : FullState) → layers.IsDesk (layered_desk state.desk) → IsRefusal call state None → IsSoundEffect (effect_of call state.desk) state.desk
effect_is_sound (Scroll m) state distinct e = there_of true (record_with m.window state.desk.windows) _ e
effect_is_sound (Size z) state distinct e =
    let w = there_of true (record_with z.window state.desk.windows) _ e in
    subst (λ o. IsSoundEffect (places (sized z o)) state.desk) (sym w.1) (w.0, w.1, λ q. refl)
effect_is_sound (Zoom z) state distinct e =
    let w = there_of true (record_with z.window state.desk.windows) _ e in
    subst (λ o. IsSoundEffect (places (zoomed_by (zoom_of z.part) z.window o state.desk)) state.desk) (sym w.1) (zoomed_sound state.desk z.window w.0 w.1 (zoom_of z.part))
effect_is_sound (Select s) state distinct e = let w = there_of true (record_with s state.desk.windows) None e in brought_sound state.desk distinct s w.0 w.1 _ refl refl refl
effect_is_sound (BringToFront s) state distinct e = let w = there_of true (record_with s state.desk.windows) None e in brought_sound state.desk distinct s w.0 w.1 _ refl refl refl
effect_is_sound (Show s) state distinct e = let w = there_of true (record_with s state.desk.windows) None e in shown_sound state.desk distinct s w.0 w.1 _ true refl refl refl
effect_is_sound (Hide s) state distinct e = let w = there_of true (record_with s state.desk.windows) None e in shown_sound state.desk distinct s w.0 w.1 _ false refl refl refl
effect_is_sound (ShowHide c) state distinct e = let w = there_of true (record_with c.window state.desk.windows) None e in shown_sound state.desk distinct c.window w.0 w.1 _ c.shown refl refl refl
effect_is_sound (SendBehind b) state distinct e = let w = there_of true (record_with b.window state.desk.windows) _ e in sent_sound state.desk distinct b.window w.0 w.1 _ b refl refl refl refl
effect_is_sound (Move m) state distinct e = let w = there_of true (record_with m.window state.desk.windows) _ e in moved_sound state.desk distinct m.window w.0 w.1 m refl
effect_is_sound _ state distinct e = tt
