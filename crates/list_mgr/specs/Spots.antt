-- Where a list stands, as the code keeps it.
use Rattle.std.specs.Prelude.{◌≡◌, ◌<◌, false, [], length, Some}
use Rattle.def_iface.specs.Slots.{TakenBox}
use Rattle.def_iface.specs.ListMeaning.{ListLoan}
use Rattle.def_iface.specs.WindowMeaning.{WindowLoan}
use Rattle.desk_call.specs.declared.list.ListOf.{ListOf}
use Rattle.window_mgr.specs.declared.manager.WindowManager.{WindowManager}
use Rattle.window_mgr.specs.Edits.{StandsAt}
use Rattle.window_mgr.specs.Records.{desk_of}
use Rattle.window_mgr.specs.Refused.{is_missing}
use Rattle.list_mgr.specs.declared.lists.Lists.{Lists}
use Rattle.list_mgr.specs.declared.spots.ListAt.{ListAt}
use Rattle.list_mgr.specs.ListDesks.{index_of}
use Rattle.list_mgr.specs.WholeLists.{records_of}

module _ {V : Type 0} {H : V → Type 0} (loan : TakenBox V H → WindowLoan) {X : Type 0} {L : X → Type 0} (list_loan : TakenBox X L → ListLoan) where
  -- the list stands here, and its window
  pub record IsSpotOf (l : ListOf) (t : WindowManager V H) (m : Lists (TakenBox X L)) (s : ListAt) : Type 0 where
    pub window : StandsAt t.windows.records.items l.window s.window
    pub there : is_missing l.window (desk_of loan t []).windows ≡ false
    pub list : index_of l (records_of list_loan m) ≡ Some s.list
    pub low : s.list < length m.list.items.items

  -- some list stands here, and its window
  pub record IsSpot (t : WindowManager V H) (m : Lists (TakenBox X L)) (s : ListAt) : Type 0 where
    pub of : ListOf
    pub is : IsSpotOf of t m s
