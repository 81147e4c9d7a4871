-- Desks with a screen of the same sides.
use Rattle.std.proofs.Common.{◌≡◌, ap}
use Rattle.window_mgr.specs.FullDesk.{FullDesk}

-- the screen of a desk is as wide and high as that of another
pub record SameSides (before after : FullDesk) : Type 0 where
  pub width : after.width ≡ before.width
  pub height : after.height ≡ before.height

pub equal_sides : (before after : FullDesk) → after ≡ before → SameSides before after
equal_sides before after same = record { width = ap (λ (d : FullDesk). d.width) same; height = ap (λ (d : FullDesk). d.height) same }
