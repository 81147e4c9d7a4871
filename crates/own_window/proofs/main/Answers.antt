use Rattle.std.proofs.Common.{◌≡◌, true, ℕ, pos, ◌≤◌, ◌&&◌, int_le, arith}
use Rattle.std.proofs.lemmas.Bool.{and_parts}
use Rattle.std.proofs.lemmas.Int.{ints}
use Rattle.desk_toolbox.proofs.Drawable.{drawable}
use Rattle.own_window.proofs.main.Goals as goal

-- a new desk is whole with a stock whose slots are full
pub run-requires : goal.run-requires
run-requires c =
    let none = c.new-stock.ensures.all_full in
    c.in-Ok-new.ensures.whole _ (record { windows = c.in-Ok-add.ensures.full (c.in-Ok.ensures.full none.windows); menus = none.menus; controls = none.controls; lists = none.lists })

-- and it can be painted after its calls
pub screen-requires : goal.screen-requires
screen-requires c = drawable _ _ _ _ _ _ c.run.ensures.whole.managers

-- a side of a screen is at most 1024 pixels long
at_most_1024 : (n : ℕ) → (int_le (pos 8) (pos n) && int_le (pos n) (pos 1024)) ≡ true → n ≤ 1024
at_most_1024 n side = grind (arith, ints)

-- and so is the screen of a desk that is whole
pub write_p1-shown-requires-clause-width : goal.write_p1-shown-requires-clause-width
write_p1-shown-requires-clause-width c =
    rw c.screen.ensures.width (at_most_1024 _ (and_parts _ _ c.run.ensures.whole.managers.windows.sound.screen).0)
