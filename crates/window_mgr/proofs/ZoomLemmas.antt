-- The numbers of a screen's sides, and of what is left of them.
use Rattle.std.proofs.Common.{◌≡◌, true, ℤ, pos, ◌+ℤ◌, ◌-ℤ◌, ◌≤ℤ◌, SFits, w32, arith}
use Rattle.std.proofs.lemmas.Bool.{and_parts}
use Rattle.std.proofs.lemmas.Int.{ints}
use Rattle.desk_ground.specs.Screens.{is_screen, is_screen_side, is_bar}
use Rattle.scan_region.proofs.InPlace.{coordinate_fits}

-- the sides of a screen are few pixels long
side_low : (n : ℤ) → is_screen_side n ≡ true → pos 8 ≤ℤ n
side_low n e = grind (arith, ints)

side_high : (n : ℤ) → is_screen_side n ≡ true → n ≤ℤ pos 1024
side_high n e = grind (arith, ints)

bar_low : (n : ℤ) → is_bar n ≡ true → pos 0 ≤ℤ n
bar_low n e = grind (arith, ints)

bar_high : (n : ℤ) → is_bar n ≡ true → n ≤ℤ pos 20
bar_high n e = grind (arith, ints)

-- what the sides of a screen come to, less its margins, are numbers of 32 bits
pub record FitScreen (w h b : ℤ) : Type 0 where
  pub width : SFits w32 w
  pub height : SFits w32 h
  pub bar : SFits w32 b
  pub top : SFits w32 (b +ℤ pos 19)
  pub inside : SFits w32 (w -ℤ pos 2)
  pub below : SFits w32 (h -ℤ b)
  pub room : SFits w32 ((h -ℤ b) -ℤ pos 20)

near : (w h b : ℤ) → pos 8 ≤ℤ w → w ≤ℤ pos 1024 → pos 8 ≤ℤ h → h ≤ℤ pos 1024 → pos 0 ≤ℤ b → b ≤ℤ pos 20 → FitScreen w h b
near w h b wl wh hl hh bl bh = record {
  width = coordinate_fits w (omega (arith, ints)) (omega (arith, ints));
  height = coordinate_fits h (omega (arith, ints)) (omega (arith, ints));
  bar = coordinate_fits b (omega (arith, ints)) (omega (arith, ints));
  top = coordinate_fits (b +ℤ pos 19) (omega (arith, ints)) (omega (arith, ints));
  inside = coordinate_fits (w -ℤ pos 2) (omega (arith, ints)) (omega (arith, ints));
  below = coordinate_fits (h -ℤ b) (omega (arith, ints)) (omega (arith, ints));
  room = coordinate_fits ((h -ℤ b) -ℤ pos 20) (omega (arith, ints)) (omega (arith, ints));
}

pub screen_fits : (w h b : ℤ) → is_screen w h b ≡ true → FitScreen w h b
screen_fits w h b e =
    let one = and_parts (is_screen_side w) _ e in
    let two = and_parts (is_screen_side h) _ one.1 in
    let three = and_parts (is_bar b) _ two.1 in
    near w h b (side_low w one.0) (side_high w one.0) (side_low h two.0) (side_high h two.0) (bar_low b three.0) (bar_high b three.0)
