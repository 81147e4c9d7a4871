-- Where an item of a window, as a control or a list of it, stands.
use Rattle.std.specs.Prelude.{◌≡◌, ◌<◌, ℕ, Bool, false, List, [], ◌∷◌, Some, is_none, length}
use Rattle.tb_geom.specs.declared.refusal.Refusal.{Refusal}
use Rattle.tb_geom.specs.declared.refusal.Refusal.TheVariants.{NoSuchWindow}
use Rattle.window_items.specs.declared.item.Item.{Item}
use Rattle.window_items.specs.Items.{item_index}
use Rattle.def_iface.specs.Slots.{TakenBox}
use Rattle.def_iface.specs.WindowMeaning.{WindowLoan}
use Rattle.window_mgr.specs.declared.manager.WindowManager.{WindowManager}
use Rattle.window_mgr.specs.Edits.{StandsAt}
use Rattle.window_mgr.specs.FullDesk.{FullDesk}
use Rattle.window_mgr.specs.Records.{desk_of}
use Rattle.window_mgr.specs.Refused.{is_missing}
use Rattle.control_mgr.specs.declared.spots.ItemAt.{ItemAt}

-- why there is no such item, where this is why its window has none
abbrev pub item_refusals : {T : Type 0} → ℕ → ℕ → Refusal → FullDesk → List (Item T) → List (Bool × Refusal)
item_refusals window serial missing desk items = (is_missing window desk.windows, NoSuchWindow) ∷ (is_none (item_index window serial items), missing) ∷ []

-- the item stands here, and its window
pub record IsItemAt {V : Type 0} {H : V → Type 0} (loan : TakenBox V H → WindowLoan) {T : Type 0} (of serial : ℕ) (t : WindowManager V H) (items : List (Item T)) (s : ItemAt) : Type 0 where
  pub window : StandsAt t.windows.records.items of s.window
  pub there : is_missing of (desk_of loan t []).windows ≡ false
  pub item : item_index of serial items ≡ Some s.item
  pub low : s.item < length items
