-- The menu that is pulled down is there, and definitions go by which item is highlighted; so too where none is pulled down.
use Rattle.std.proofs.Common.{◌≡◌, List, sym, subst}
use Rattle.std.specs.Prelude.{All}
use Rattle.desk_call.specs.declared.activity.Activity.{Activity}
use Rattle.desk_call.specs.declared.activity.Activity.TheVariants.{Idle, Updating, Tracking, Pulling, TrackingControl, Dragging, Growing, Selecting}
use Rattle.menu_mgr.specs.MenuDesks.{MenuRecord, MenusState}
use Rattle.desk_toolbox.specs.Reached.{IsLit, IsPulledThere}
use Rattle.desk_toolbox.proofs.MenusBeside.{CoversNone}

-- what is open pulls no menu down
abbrev pub PullsNone : Activity → Type 0
PullsNone (Pulling m) = ⊥
PullsNone _ = Unit {0}

-- what of the menus goes by what is open
pub record IsPullRight (activity : Activity) (menus : MenusState) : Type 0 where
  pub pulled : IsPulledThere activity menus
  pub lit : All (IsLit activity) menus.menus

pulls_none : (a : Activity) → CoversNone a → PullsNone a
pulls_none (Pulling m) none = absurd none
pulls_none Idle none = tt
pulls_none (Updating s) none = tt
pulls_none (Tracking s) none = tt
pulls_none (TrackingControl c) none = tt
pulls_none (Selecting k) none = tt
pulls_none (Dragging d) none = absurd none
pulls_none (Growing g) none = absurd none

no_pull : (a : Activity) (menus : MenusState) → PullsNone a → All (IsLit Idle) menus.menus → IsPullRight a menus
no_pull (Pulling m) menus none lit = absurd none
no_pull Idle menus none lit = record { pulled = tt; lit = lit }
no_pull (Updating s) menus none lit = record { pulled = tt; lit = lit }
no_pull (Tracking s) menus none lit = record { pulled = tt; lit = lit }
no_pull (TrackingControl c) menus none lit = record { pulled = tt; lit = lit }
no_pull (Selecting k) menus none lit = record { pulled = tt; lit = lit }
no_pull (Dragging d) menus none lit = record { pulled = tt; lit = lit }
no_pull (Growing g) menus none lit = record { pulled = tt; lit = lit }

none_is_lit : (a : Activity) (ls : List MenuRecord) → PullsNone a → All (IsLit a) ls → All (IsLit Idle) ls
none_is_lit (Pulling m) ls none lit = absurd none
none_is_lit Idle ls none lit = lit
none_is_lit (Updating s) ls none lit = lit
none_is_lit (Tracking s) ls none lit = lit
none_is_lit (TrackingControl c) ls none lit = lit
none_is_lit (Selecting k) ls none lit = lit
none_is_lit (Dragging d) ls none lit = lit
none_is_lit (Growing g) ls none lit = lit

-- no menu is pulled down before and after
pub still_without : (a b : Activity) (menus : MenusState) → PullsNone a → PullsNone b → IsPullRight a menus → IsPullRight b menus
still_without a b menus before after was = no_pull b menus after (none_is_lit a menus.menus before was.lit)

-- so too where nothing lies in front
pub still_unpulled : (a b : Activity) (menus : MenusState) → CoversNone a → CoversNone b → IsPullRight a menus → IsPullRight b menus
still_unpulled a b menus before after was = still_without a b menus (pulls_none a before) (pulls_none b after) was

-- nothing is open
pub right_when_idle : (a : Activity) (menus : MenusState) → a ≡ Idle → All (IsLit Idle) menus.menus → IsPullRight a menus
right_when_idle a menus idle lit = subst (λ b. IsPullRight b menus) (sym idle) (no_pull Idle menus tt lit)

pub same_pull : (a b : Activity) (old new : MenusState) → b ≡ a → new ≡ old → IsPullRight a old → IsPullRight b new
same_pull a b old new activity menus was = subst (IsPullRight b) (sym menus) (subst (λ c. IsPullRight c old) (sym activity) was)
