-- Windows whose layers lie where they do.
use Rattle.std.proofs.Common.{ℕ, ◌<◌, ◌==◌, Bool, true, false, if◌then◌else◌, List, length, map, Option, None, Some, subst}
use Rattle.std.specs.Prelude.{All}
use Rattle.std.specs.List.{remove}
use Rattle.std.proofs.lemmas.List.Elements.{All-map, All-weaker, All-tail}
use Rattle.window_list.specs.declared.window.Window.{Window}
use Rattle.window_list.specs.Lists.{relit, lit, dimmed}
use Rattle.window_mgr.specs.declared.arrange.Activation.{Activation}
use Rattle.window_mgr.specs.declared.arrange.Activation.TheVariants.{Stays, Becomes}
use Rattle.window_mgr.specs.Edits.{IsWindowAt, relit_all}
use Rattle.window_mgr.specs.Whole.{LieThere}
use Rattle.window_mgr.proofs.PutIn.{put_in, taken_out, All-out, All-put}

module _ {V : Type 0} {H : V → Type 0} where
  dimmed_lies : (s : Option ℕ) (w : Window V H) → LieThere w → LieThere (dimmed s w)
  dimmed_lies None w its = its
  dimmed_lies (Some s) w its = by_test (w.serial == s)
    where
      by_test : (b : Bool) → LieThere (if b then record w { highlighted = false } else w)
      by_test true = its
      by_test false = its

  lit_lies : (s : Option ℕ) (w : Window V H) → LieThere w → LieThere (lit s w)
  lit_lies None w its = its
  lit_lies (Some s) w its = by_test (w.serial == s)
    where
      by_test : (b : Bool) → LieThere (if b then record w { highlighted = true } else w)
      by_test true = its
      by_test false = its

  relit_lies : (former s : Option ℕ) (w : Window V H) → LieThere w → LieThere (relit former s w)
  relit_lies former s w its = lit_lies s (dimmed former w) (dimmed_lies former w its)

  -- windows of which one may have become active
  pub relit_lie : (a : Activation) (former : Option ℕ) (ws : List (Window V H)) → All LieThere ws → All LieThere (relit_all a former ws)
  relit_lie Stays former ws all = all
  relit_lie (Becomes s) former ws all = All-map LieThere (relit former s) ws (All-weaker LieThere (λ w. LieThere (relit former s w)) (relit_lies former s) ws all)

  -- windows of which one may have lost its highlighting
  pub dimmed_lie : (active : Option ℕ) (b : Bool) (ws : List (Window V H)) → All LieThere ws → All LieThere (if b then map (dimmed active) ws else ws)
  dimmed_lie active false ws all = all
  dimmed_lie active true ws all = All-map LieThere (dimmed active) ws (All-weaker LieThere (λ w. LieThere (dimmed active w)) (dimmed_lies active) ws all)

  -- the windows but one
  pub rest_lie : (ws : List (Window V H)) (at : ℕ) (w : Window V H) → at < length ws → IsWindowAt ws at w → All LieThere ws → All LieThere (remove ws at)
  rest_lie ws at w low w_is all = All-tail LieThere w (remove ws at) (All-out LieThere at w (remove ws at) (subst (All LieThere) (taken_out ws at w low w_is) all))

  -- the windows, and another one in the place of that, at any place of the list
  pub put_lie : (ws : List (Window V H)) (at to : ℕ) (w v : Window V H) → at < length ws → IsWindowAt ws at w → All LieThere ws → LieThere v → All LieThere (put_in to v (remove ws at))
  put_lie ws at to w v low w_is all its = All-put LieThere to v (remove ws at) its (rest_lie ws at w low w_is all)
