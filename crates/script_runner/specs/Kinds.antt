-- What the slots of a whole stock are for.
use Rattle.std.specs.Prelude.{ℕ, List, map}
use Rattle.def_iface.specs.Stocks.{AllSlots}

-- the names of kinds of windows, of menus, of controls and of lists, one for each slot
pub record AllKinds : Type 0 where
  pub windows : List (List ℕ)
  pub menus : List (List ℕ)
  pub controls : List (List ℕ)
  pub lists : List (List ℕ)

-- the kinds that the slots are for
abbrev pub kinds_of : AllSlots → AllKinds
kinds_of stocks = record {
  windows = map (λ s. s.kind) stocks.windows;
  menus = map (λ s. s.kind) stocks.menus;
  controls = map (λ s. s.kind) stocks.controls;
  lists = map (λ s. s.kind) stocks.lists;
}
