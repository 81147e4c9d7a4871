use Rattle.desk_toolbox.proofs.Drawable.{drawable}
use Rattle.painted_desk.proofs.main.Goals as goal

-- a desk begins with slots that are full
pub desk_after-requires : goal.desk_after-requires
desk_after-requires c =
    let none = c.new-stock.ensures.all_full in
    record { windows = c.in-Ok-add.ensures.full (c.in-Ok.ensures.full none.windows); menus = none.menus; controls = none.controls; lists = none.lists }

-- and it is whole with that stock after its calls
pub screen-requires : goal.screen-requires
screen-requires c = drawable _ _ _ _ _ _ c.in-Ok-desk_after.ensures.whole.managers

pub paint-painted-requires : goal.paint-painted-requires
paint-painted-requires c = drawable _ _ _ _ _ _ c.in-Ok-desk_after.ensures.whole.managers

pub pixels_right-covered-requires : goal.pixels_right-covered-requires
pixels_right-covered-requires c = record { stocks = _; whole = c.pixels_right-uncovered.ensures.whole _ c.in-Ok-desk_after.ensures.whole }

pub close-requires : goal.close-requires
close-requires c = c.pixels_right-covered.ensures.whole _ (c.pixels_right-uncovered.ensures.whole _ c.in-Ok-desk_after.ensures.whole)
