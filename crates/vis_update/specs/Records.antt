-- A window's record as plain data, and as layers.
use Rattle.std.specs.Prelude.{ℕ, Bool, ◌&&◌, List, [], ◌∷◌, ◌++◌, map, Option}
use Rattle.tb_geom.specs.declared.point.Point.{Point}
use Rattle.tb_geom.specs.Points.{PixelSet, minus}
use Rattle.draw_port.specs.declared.shapes.Op.{Op}
use Rattle.draw_port.specs.Ops.{picture_bit}
use Rattle.def_iface.specs.declared.size.Size.{Size}
use Rattle.def_iface.specs.Slots.{TakenBox}
use Rattle.def_iface.specs.WindowMeaning.{WindowDefinition, WindowLoan}
use Rattle.def_iface.specs.WindowNews.{AllWindowNews, no_news}
use Rattle.desk_layers.specs.Desk as layers
use Rattle.desk_layers.specs.declared.part.Part.{Part}
use Rattle.desk_layers.specs.declared.part.Part.TheVariants.{Picture}
use Rattle.window_list.specs.declared.layer.Layer.{Layer}
use Rattle.window_list.specs.Holders.{layer_has}
use Rattle.window_list.specs.declared.window.Heard.{Heard}
use Rattle.window_list.specs.declared.window.UserState.{UserState}
use Rattle.window_list.specs.declared.window.Window.{Window}

-- a window's record; place is where its own 0 0 lies on the screen
pub record WindowRecord : Type 0 where
  pub serial : ℕ
  pub place : Point
  pub size : Size
  -- the place and size that a zoomed window has when it is zoomed in again
  pub user_state : Option UserState
  pub shown : Bool
  -- it floats in front of those that do not
  pub floating : Bool
  pub highlighted : Bool
  pub title : List ℕ
  pub go_away : Bool
  -- what its definition was told last of how it stands
  pub heard : Heard
  -- the operations of its picture, the first drawn first
  pub picture : List Op
  -- where the picture's own 0 0 lies in the window
  pub origin : Point
  -- its controls and lists, from front to back, in its own coordinates
  pub layers : List Layer
  pub definition : WindowDefinition
  -- the slot of the stock that the definition came from
  pub slot : ℕ

abbrev pub is_floating : WindowRecord → Bool
is_floating w = w.floating

-- all that the window's definition was told last
abbrev pub news_of : WindowRecord → AllWindowNews
news_of w = record {
  size = w.size;
  title = w.title;
  highlighted = w.heard.highlighted;
  closable = w.go_away;
  zoomed = w.heard.zoomed;
  tracked = w.heard.tracked;
}

-- how a desk looks: the font of all texts, and what a control or list shows, in its window's own coordinates
pub record Look : Type 0 where
  pub font : List ℕ
  pub shows : Part → PixelSet

-- a control or list as a layer of its window's content, which it is cut to
abbrev pub content_layer : Look → PixelSet → Layer → layers.ContentLayer
content_layer look content l = record {
  part = l.part;
  extent = λ p. content p && layer_has l p;
  picture = look.shows l.part;
}

-- a window's picture, which lies in all of the content
abbrev pub picture_layer : Look → WindowRecord → layers.ContentLayer
picture_layer look w = record {
  part = Picture;
  extent = w.definition.content w.size;
  picture = λ p. picture_bit look.font w.picture (minus p w.origin);
}

-- a window as layers: its controls and lists, its picture behind them, and its frame
abbrev pub layered_window : Look → WindowRecord → layers.LayeredWindow
layered_window look w = record {
  serial = w.serial;
  place = w.place;
  shown = w.shown;
  structure = w.definition.structure w.size;
  frame = w.definition.picture no_news look.font;
  layers = map (content_layer look (w.definition.content w.size)) w.layers ++ picture_layer look w ∷ [];
}

-- `loan` says what a definition that was taken means
module _ {V : Type 0} {H : V → Type 0} (loan : TakenBox V H → WindowLoan) where
  abbrev pub record_of : Window V H → WindowRecord
  record_of w = record {
    serial = w.serial;
    place = w.place;
    size = w.size;
    user_state = w.user_state;
    shown = w.shown;
    floating = w.floating;
    highlighted = w.highlighted;
    title = w.title.items;
    go_away = w.go_away;
    heard = w.heard;
    picture = w.picture;
    origin = w.origin;
    layers = w.layers.layers;
    definition = (loan w.taken).definition;
    slot = (loan w.taken).slot;
  }
