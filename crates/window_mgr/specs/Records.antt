-- What a window manager keeps, as plain data.
use Rattle.std.specs.Prelude.{ℕ, List, map, pos}
use Rattle.tb_geom.specs.Points.{PixelSet}
use Rattle.bit_map.specs.Bits.{bit}
use Rattle.desk_layers.specs.declared.part.Part.{Part}
use Rattle.def_iface.specs.Slots.{TakenBox}
use Rattle.def_iface.specs.WindowMeaning.{WindowLoan}
use Rattle.def_iface.specs.WindowSlots.{WindowSlot}
use Rattle.vis_update.specs.Records.{Look, record_of}
use Rattle.vis_update.specs.Areas.{stale_in}
use Rattle.window_mgr.specs.declared.manager.WindowManager.{WindowManager}
use Rattle.window_paint.specs.White.{all_white}
use Rattle.window_mgr.specs.FullDesk.{FullDesk, FullState}

-- the desk where controls and lists show this in its font
abbrev pub desk_showing : (List ℕ → Part → PixelSet) → FullDesk → FullDesk
desk_showing shows d = record d { shows = shows d.font }

-- the state of such a desk
abbrev pub state_showing : (List ℕ → Part → PixelSet) → FullState → FullState
state_showing shows s = record s { desk = desk_showing shows s.desk }

-- how a window manager sees its desk: what controls and lists show is not its to say, and it draws none of them, so to
-- it they are white
abbrev pub look_on : {V : Type 0} {H : V → Type 0} → WindowManager V H → Look
look_on t = record { font = t.font; shows = all_white }

-- `loan` says what a definition that was taken means
module _ {V : Type 0} {H : V → Type 0} (loan : TakenBox V H → WindowLoan) where
  -- the desk of a window manager, over the slots of a stock
  abbrev pub desk_of : WindowManager V H → List WindowSlot → FullDesk
  desk_of t slots = record {
    width = pos t.screen.width;
    height = pos t.screen.height;
    bar = t.bar;
    font = t.font;
    shows = all_white;
    windows = map (record_of loan) t.windows.records.items;
    active = t.windows.active;
    next = t.windows.next;
    stock = slots;
  }

  abbrev pub state_of : WindowManager V H → List WindowSlot → FullState
  state_of t slots = record { desk = desk_of t slots; stale = stale_in t.areas.items; image = bit t.screen }
